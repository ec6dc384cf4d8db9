-- The lesser and the greater of two whole numbers, and of four.
use Rattle.std.proofs.Common.{ℤ, ◌≤ℤ◌, true, false, cond, arith}
use Rattle.std.proofs.lemmas.Int.{clamps}
use lib.Signed.{lt_z}
use Rattle.std.specs.Int.{int_min, int_max}
use Rattle.whole_math.proofs.Order.{lins}

pub min_is : (a b : ℤ) → (int_min a b ≤ℤ a) × (int_min a b ≤ℤ b)
min_is a b = omega (arith, lins, clamps)

pub max_is : (a b : ℤ) → (a ≤ℤ int_max a b) × (b ≤ℤ int_max a b)
max_is a b = omega (arith, lins, clamps)

-- each of them is one of the numbers
pub min_case : (P : ℤ → Type 0) (x y : ℤ) → P x → P y → P (int_min x y)
min_case P x y p q = elim (lt_z y x) as (λ t. P (cond t y x)) [ true ↦ q | false ↦ p ]

pub max_case : (P : ℤ → Type 0) (x y : ℤ) → P x → P y → P (int_max x y)
max_case P x y p q = elim (lt_z y x) as (λ t. P (cond t x y)) [ true ↦ p | false ↦ q ]

pub least_case : (P : ℤ → Type 0) (a b c d : ℤ) → P a → P b → P c → P d → P (int_min (int_min a b) (int_min c d))
least_case P a b c d p q r s = min_case P (int_min a b) (int_min c d) (min_case P a b p q) (min_case P c d r s)

pub most_case : (P : ℤ → Type 0) (a b c d : ℤ) → P a → P b → P c → P d → P (int_max (int_max a b) (int_max c d))
most_case P a b c d p q r s = max_case P (int_max a b) (int_max c d) (max_case P a b p q) (max_case P c d r s)

pub least_le : (a b c d : ℤ) → let least : ℤ = int_min (int_min a b) (int_min c d) in (least ≤ℤ a) × (least ≤ℤ b) × (least ≤ℤ c) × (least ≤ℤ d)
least_le a b c d = omega (arith, lins, clamps)

pub le_most : (a b c d : ℤ) → let most : ℤ = int_max (int_max a b) (int_max c d) in (a ≤ℤ most) × (b ≤ℤ most) × (c ≤ℤ most) × (d ≤ℤ most)
le_most a b c d = omega (arith, lins, clamps)
