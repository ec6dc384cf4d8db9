use Rattle.std.proofs.Common.{ℕ, ◌<◌, List, ℤ}
use Rattle.elimination.specs.FrontSteps.{DifferInFactors}
use Rattle.elimination.specs.RowSteps.{HasFactors}
use Rattle.elimination.specs.Quotients.{AreQuotients}
use Rattle.elimination.proofs.row_steps.put_factors.Given as goal

abbrev pub invariant-loop-j : goal.invariant-loop-j
invariant-loop-j l = record {
  factors : (q : List (List ℤ)) → AreQuotients q l.fn.r l.fn.count l.quotients → (k : ℕ) → k < l.j → HasFactors q l.front.l k l.fn.r;
  others : DifferInFactors l.initial.front l.front l.fn.r;
}
