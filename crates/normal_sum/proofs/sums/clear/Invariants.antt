use Rattle.std.proofs.Common.{◌≡◌, ◌⊎◌, ℕ, ◌<◌, ◌≤◌, pos}
use Rattle.quadratic_form.specs.Tables.{entry}
use Rattle.normal_sum.proofs.sums.clear.Given as goal

abbrev pub invariant-loop-row : goal.invariant-loop-row
invariant-loop-row l = record {
  cleared : (i j : ℕ) → i < l.row → (i ≤ j) ⊎ (l.mirrored ≤ i) → entry l.table i j ≡ pos 0;
  rest : (i j : ℕ) → l.row ≤ i → entry l.table i j ≡ entry l.initial.table i j;
}
