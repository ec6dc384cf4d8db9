use Rattle.std.proofs.Common.{ℕ, ◌<◌}
use Rattle.elimination.specs.Quotients.{quotient_in, IsQuotientOf}
use Rattle.elimination.specs.declared.quotients.RowQuotients.{RowQuotients}
use Rattle.elimination.proofs.QuotientSteps.{one_of_three}
use Rattle.elimination.proofs.row_steps.quotients_of.Goals as goal

pub returns : goal.returns
returns c =
    let s : RowQuotients = record { first = c.quotient_at.result; second = c.quotient_at-2.result; third = c.quotient_at-3.result } in
    λ j h g. one_of_three (λ (k : ℕ). k < c.args.count → IsQuotientOf c.args.pivots.now.rows k c.args.r (quotient_in s k)) c.quotient_at.ensures c.quotient_at-2.ensures c.quotient_at-3.ensures j g h
