use Rattle.std.proofs.Common.{◌≡◌, ◌⊎◌, ℕ, ◌+◌, ◌<◌, ◌≤◌}
use Rattle.quadratic_form.specs.Tables.{entry}
use Rattle.decorrelate.specs.Turning.{IsRowTurned}
use Rattle.decorrelate.proofs.permutation.turn_later_rows.Given as goal

abbrev pub invariant-loop-i : goal.invariant-loop-i
invariant-loop-i l = record {
  turned : (k : ℕ) → k < l.i → l.fn.j + 1 < k → IsRowTurned l.fn.r l.fn.q l.fn.j (entry l.initial.l k) (entry l.l k);
  rest : (k m : ℕ) → (k ≤ l.fn.j + 1) ⊎ (l.i ≤ k) → entry l.l k m ≡ entry l.initial.l k m;
}
