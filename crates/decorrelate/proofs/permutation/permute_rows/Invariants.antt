use Rattle.std.proofs.Common.{◌≡◌, ◌≢◌, ℕ, ◌+◌, ◌<◌, ◌≤◌}
use Rattle.quadratic_form.specs.Tables.{entry, item}
use Rattle.decorrelate.proofs.permutation.permute_rows.Given as goal

abbrev pub invariant-loop-m : goal.invariant-loop-m
invariant-loop-m l = record {
  first : (k : ℕ) → k < l.m → entry l.l l.fn.j k ≡ item l.left k;
  second : (k : ℕ) → k < l.m → entry l.l (l.fn.j + 1) k ≡ entry l.initial.l l.fn.j k;
  rest : (i k : ℕ) → l.m ≤ k → entry l.l i k ≡ entry l.initial.l i k;
  others : (i k : ℕ) → i ≢ l.fn.j → i ≢ l.fn.j + 1 → entry l.l i k ≡ entry l.initial.l i k;
}
