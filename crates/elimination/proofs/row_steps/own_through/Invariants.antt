use Rattle.std.proofs.Common.{ℕ, ◌^◌, ◌≤◌, List, ℤ, unsigned_abs}
use Rattle.elimination.specs.RowSteps.{IsLeft}
use Rattle.elimination.specs.Quotients.{AreQuotients}
use Rattle.elimination.proofs.row_steps.own_through.Given as goal

abbrev pub invariant-loop-j : goal.invariant-loop-j
invariant-loop-j l = record {
  left : (q : List (List ℤ)) (r : ℕ) → AreQuotients q r l.fn.count l.quotients → IsLeft q l.fn.columns r r l.j l.fn.own l.left;
  size : unsigned_abs l.left ≤ 2 ^ 52;
}
