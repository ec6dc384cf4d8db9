use Rattle.std.proofs.Common.{ℕ, ◌^◌, ◌<◌, ◌≤◌, unsigned_abs}
use Rattle.elimination.specs.RowSteps.{IsLeft}
use Rattle.elimination.specs.Quotients.{AreQuotients}
use Rattle.elimination.proofs.row_steps.left_by_steps.Given as goal

abbrev pub invariant-loop-j : goal.invariant-loop-j
invariant-loop-j l = record {
  left : (n r : ℕ) → r < l.fn.c → AreQuotients l.rows r l.fn.count l.quotients → IsLeft l.rows n r l.fn.c l.j l.fn.number l.left;
  size : unsigned_abs l.left ≤ 2 ^ 52;
}
