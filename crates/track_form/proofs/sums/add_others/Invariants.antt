use Rattle.std.proofs.Common.{◌≡◌, ◌≢◌, ℕ, ◌+◌, ◌-◌, ◌^◌, ◌<◌, ◌≤◌, ◌+ℤ◌, unsigned_abs}
use Rattle.quadratic_form.specs.Tables.{entry}
use Rattle.track_form.specs.Parts.{part_at}
use Rattle.track_form.proofs.sums.add_others.Given as goal

abbrev pub invariant-loop-c : goal.invariant-loop-c
invariant-loop-c l = record {
  row : (k : ℕ) → l.r < k → k < l.c → entry l.table (3 + l.r) (3 + k) ≡ entry l.initial.table (3 + l.r) (3 + k) +ℤ part_at (l.front.columns - 3) (2 ^ l.shift) (entry l.front.p) l.r k;
  sizes : (k : ℕ) → l.r < k → k < l.c → unsigned_abs (entry l.table (3 + l.r) (3 + k)) ≤ unsigned_abs (entry l.initial.table (3 + l.r) (3 + k)) + 2 ^ 64;
  rest : (k : ℕ) → l.c ≤ k → entry l.table (3 + l.r) (3 + k) ≡ entry l.initial.table (3 + l.r) (3 + k);
  own : entry l.table (3 + l.r) (3 + l.r) ≡ entry l.initial.table (3 + l.r) (3 + l.r);
  others : (i k : ℕ) → i ≢ 3 + l.r → entry l.table i k ≡ entry l.initial.table i k;
}
