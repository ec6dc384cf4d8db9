use Rattle.std.proofs.Common.{◌≡◌, ℕ, ◌+◌, ◌^◌, ◌<◌, length, pos, ◌*ℤ◌}
use Rattle.quadratic_form.specs.declared.sizes.TheConstants.{MOST_FACTORS}
use Rattle.quadratic_form.specs.Tables.{item}
use Rattle.integer_form.proofs.float_point.integer_numbers.Given as goal

abbrev pub invariant-loop-i : goal.invariant-loop-i
invariant-loop-i l = record {
  full : length l.numbers ≡ MOST_FACTORS;
  same : (k : ℕ) → k < l.i → item l.numbers (3 + k) ≡ pos (2 ^ 16) *ℤ item l.z k;
}
