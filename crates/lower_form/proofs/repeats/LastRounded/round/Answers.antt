use Rattle.std.proofs.Common.{◌≡◌, ℤ, pos, arith, refl, sym, subst}
use Rattle.std.proofs.lemmas.Int.{ints}
use Rattle.lower_form.specs.FirstRounding.{IsRounded}
use Rattle.lower_form.proofs.FirstRoundingLaws.{zero_rounds}
use Rattle.lower_form.proofs.repeats.LastRounded.round.Goals as goal

pub returns-then-entry-eq0-clause-value : goal.returns-then-entry-eq0-clause-value
returns-then-entry-eq0-clause-value c =
    let is_zero : c.args.entry ≡ pos 0 = let seen = c.if-entry-eq0.true in omega (arith, ints) in
    let rounded : IsRounded c.args.h (pos 0) (pos 0) = record { value = zero_rounds c.args.h; small = refl } in
    subst (λ (z : ℤ). IsRounded c.args.h z (pos 0)) (sym is_zero) rounded
