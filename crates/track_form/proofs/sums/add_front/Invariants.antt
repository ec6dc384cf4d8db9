use Rattle.std.proofs.Common.{◌≡◌, ℕ, ◌+◌, ◌-◌, ◌^◌, ◌<◌, ◌≤◌, ◌+ℤ◌, unsigned_abs}
use Rattle.quadratic_form.specs.Tables.{entry}
use Rattle.track_form.specs.Parts.{part_at}
use Rattle.track_form.proofs.sums.add_front.Given as goal

abbrev pub invariant-loop-r : goal.invariant-loop-r
invariant-loop-r l = record {
  sums : (i k : ℕ) → i < l.r → i ≤ k → k < l.front.columns - 3 → entry l.table (3 + i) (3 + k) ≡ entry l.initial.table (3 + i) (3 + k) +ℤ part_at (l.front.columns - 3) (2 ^ l.shift)
      (entry l.front.p) i k;
  sizes : (i k : ℕ) → i < l.r → i ≤ k → k < l.front.columns - 3 → unsigned_abs (entry l.table (3 + i) (3 + k)) ≤ unsigned_abs (entry l.initial.table (3 + i) (3 + k)) + 2 ^ 64;
  rest : (i k : ℕ) → l.r ≤ i → entry l.table (3 + i) (3 + k) ≡ entry l.initial.table (3 + i) (3 + k);
}
