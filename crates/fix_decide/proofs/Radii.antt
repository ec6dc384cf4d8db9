-- How far a residual may lie from its centre is not negative.
use Rattle.std.proofs.Common.{◌≡◌, ℕ, zero, suc, List, [], ◌∷◌, map, ℤ, pos, negsuc, ◌≤ℤ◌, arith, refl}
use Rattle.std.proofs.lemmas.Int.{ints}
use Rattle.whole_math.specs.Rounding.{ceil_div}
use Rattle.whole_math.proofs.Inequalities.{both_nn, prod_nn, pos_nn}
use Rattle.quadratic_form.specs.UpperSum.{size}
use Rattle.obs_rows.specs.Data.{number_at}
use Rattle.fix_decide.specs.UpperSums.{scalar_product}

-- the size of an entry
pub number-sizes : (m : List ℤ) (k : ℕ) → number_at (map size m) k ≡ size (number_at m k)
number-sizes [] k = refl
number-sizes (x ∷ m) zero = refl
number-sizes (x ∷ m) (suc k) = number-sizes m k

pub sizes_nonneg : (m : List ℤ) (k : ℕ) → pos 0 ≤ℤ number_at (map size m) k
sizes_nonneg m k = rw (number-sizes m k) (pos_nn _)

pub product_nonneg : (r m : List ℤ) → pos 0 ≤ℤ number_at r 0 → pos 0 ≤ℤ number_at r 1 → pos 0 ≤ℤ number_at r 2 → pos 0 ≤ℤ scalar_product r (map size m)
product_nonneg r m h g k = both_nn (prod_nn h (sizes_nonneg m 0)) (both_nn (prod_nn g (sizes_nonneg m 1)) (prod_nn k (sizes_nonneg m 2)))

pub ceil_nonneg : (z : ℤ) (m : ℕ) → pos 0 ≤ℤ z → pos 0 ≤ℤ ceil_div z m
ceil_nonneg (pos zero) m h = omega (arith, ints)
ceil_nonneg (pos (suc n)) m h = omega (arith, ints)
ceil_nonneg (negsuc n) m h = absurd (omega (arith, ints))
