use Rattle.std.proofs.Common.{⊎_elim, ℕ, ◌<◌, ◌≤◌, None, Option, arith, sym, ap, ◌∙◌}
use Rattle.std.proofs.lemmas.Bool.{cases_lt}
use Rattle.std.proofs.lemmas.List.{get_or_past}
use Rattle.normal_sum.specs.Places.{place_from}
use Rattle.normal_sum.proofs.places.places_of.Goals as goal

pub returns : goal.returns
returns c = λ k. ⊎_elim (λ (h : k < c.loop-k.k). c.loop-k.invariant.done k h)
    (λ (g : c.loop-k.k ≤ k). get_or_past c.loop-k.places k None (omega (arith, c.loop-k.invariant.full, c.loop-k-test.false))
    ∙ sym (ap (λ (p : Option ℕ). place_from p c.args.phase) (get_or_past c.args.firsts.now k None (omega (arith, c.told-firsts, c.loop-k-test.false)))))
    (cases_lt k c.loop-k.k)
