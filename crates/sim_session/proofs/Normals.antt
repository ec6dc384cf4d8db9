-- Numbers with 13 digits, and their ranges.
use Rattle.std.proofs.Common.{◌≡◌, ℕ, suc, ◌+◌, ◌*◌, ◌^◌, ◌∷◌, [], ℤ, pos, negsuc, ◌*ℤ◌, arith, refl, ap, ◌∙◌}
use Rattle.std.proofs.lemmas.Nat.{pow-add}
use Rattle.whole_math.proofs.Ring.{◌⊗◌}
use Rattle.whole_math.proofs.Inequalities.{same_by}
use Rattle.whole_math.specs.Rational.{◌≈◌, ◌≤ʳ◌}
use Rattle.whole_math.proofs.RationalLaws.{≤ʳ_trans, ≤ʳ_from_same, ≈_sym}
use Rattle.decimal_text.specs.declared.exponent.Dec.{Dec}
use Rattle.eph_store.specs.Decimals.{decimal, with_exponent, value_of, IsFromTo}

power : (p m : ℕ) → 10 ^ suc (p + m) ≡ 10 ^ p * 10 ^ suc m
power p m = let same : suc (p + m) ≡ p + suc m = omega arith in ap (λ (i : ℕ). 10 ^ i) same ∙ pow-add 10 p (suc m)

-- n / 10^p with m + 1 further digits
pub shifted : (mant exp n : ℤ) (p m : ℕ) → mant ≡ n *ℤ pos (10 ^ suc m) → exp ≡ negsuc (p + m) → with_exponent mant exp ≈ decimal n p
shifted mant exp n p m e f = rw (e, f) (moved n (10 ^ suc m) (10 ^ p) (10 ^ suc (p + m)) (power p m))
  where
    moved : (n : ℤ) (a b c : ℕ) → c ≡ b * a → (n *ℤ pos a) *ℤ pos b ≡ n *ℤ pos c
    moved n a b c e = rw e (same_by (n ∷ pos a ∷ pos b ∷ []) (λ n a b. ((n ⊗ a) ⊗ b, n ⊗ (b ⊗ a))) refl)

-- a number in a range by its value
pub from_to : (least most n : ℤ) (places p : ℕ) (d : Dec) → value_of d ≈ decimal n p → decimal least places ≤ʳ decimal n p → decimal n p ≤ʳ decimal most places → IsFromTo least most places d
from_to least most n places p d e l h = record {
  low = ≤ʳ_trans (decimal least places) (decimal n p) (value_of d) l (≤ʳ_from_same (decimal n p) (value_of d) (≈_sym (value_of d) (decimal n p) e));
  high = ≤ʳ_trans (value_of d) (decimal n p) (decimal most places) (≤ʳ_from_same (value_of d) (decimal n p) e) h;
}
