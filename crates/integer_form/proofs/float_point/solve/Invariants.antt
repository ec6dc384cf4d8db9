use Rattle.std.proofs.Common.{◌≡◌, ℕ, ◌-◌, ◌^◌, ◌<◌, ◌≤◌, List, ℤ, length, unsigned_abs}
use Rattle.quadratic_form.specs.Places.{list_from}
use Rattle.quadratic_form.specs.declared.sizes.TheConstants.{MOST_FACTORS}
use Rattle.integer_form.specs.Factors.{stored}
use Rattle.quadratic_form.specs.Tables.{item}
use Rattle.integer_form.specs.FloatPoint.{solved}
use Rattle.integer_form.proofs.float_point.solve.Given as goal

abbrev pub invariant-loop-k : goal.invariant-loop-k
invariant-loop-k g l = record {
  full : length l.numbers ≡ MOST_FACTORS;
  solved : (d : List ℤ) → list_from (item l.numbers) (l.count - l.k) (l.columns - 1 - (l.count - l.k)) ≡ solved (stored d l.l l.columns (l.count - l.k) l.k)
      (list_from (item l.initial.numbers) l.count (l.columns - 1 - l.count));
  narrow : (i : ℕ) → l.count - l.k ≤ i → i < l.columns - 1 → unsigned_abs (item l.numbers i) < 2 ^ 46;
  outside : (i : ℕ) → l.count ≤ i → item l.numbers i ≡ item l.initial.numbers i;
}
