use Rattle.std.proofs.Common.{◌≡◌, List, ℤ, arith, sym, ap, ◌∙◌}
use Rattle.std.proofs.lemmas.Int.{ints}
use Rattle.obs_rows.specs.Data.{number_at}
use Rattle.screening.specs.Amounts.{amount_in}
use Rattle.screening.proofs.AmountLaws.{at_signal, used_unless_zero}
use Rattle.screening.proofs.amounts.is_used.Goals as goal

pub returns-then-amount-ne0 : goal.returns-then-amount-ne0
returns-then-amount-ne0 c =
    let types = c.args.types.now in
    let sat = c.args.sat.now in
    let read : number_at c.args.amounts.now c.args.signal ≡ amount_in types sat c.args.signal =
    ap (λ (xs : List ℤ). number_at xs c.args.signal) c.requires.amounts ∙ at_signal (amount_in types sat) c.args.signal c.requires.signal in
    sym (used_unless_zero types sat c.args.signal (λ zero. c.if-amount-ne0.true (omega (arith, ints, read, zero))))
