-- Texts after texts, and sums in words.
use Rattle.std.proofs.Common.{◌≡◌, ◌++◌, ◌<◌, ◌≤◌, ◌^◌, ℕ, ℤ, ◌+ℤ◌, ◌-ℤ◌, unsigned_abs, to_z, of_z, List, ap, ◌∙◌, append_assoc, arith}
use Rattle.std.specs.Int.{w64}
use Rattle.std.proofs.lemmas.Int.{ints}
use Rattle.whole_math.proofs.Words.{as_w64}
use Rattle.obs_rows.specs.Ranges.{IsBelow, IsWithin}
use Rattle.obs_rows.specs.declared.limits.TheConstants.{MOST_COORDINATE}
use Rattle.report_text.specs.Baselines.{in_tenths, from_base}

-- a text that was written after another
pub then_more : (o a b x y : List ℕ) → a ≡ o ++ x → b ≡ a ++ y → b ≡ o ++ (x ++ y)
then_more o a b x y first second = second ∙ ap (λ (l : List ℕ). l ++ y) first ∙ append_assoc o x y

-- a sum of small numbers is computed in words as it is
pub sum_in_words : (a b : ℤ) → unsigned_abs a ≤ 140_000_000_000 → unsigned_abs b < 2 ^ 44 → to_z w64 (of_z w64 (to_z w64 (of_z w64 a) +ℤ to_z w64 (of_z w64 b))) ≡ a +ℤ b
sum_in_words a b small less = rw (as_w64 a (omega (arith, small)), as_w64 b (omega (arith, less))) (as_w64 (a +ℤ b) (omega (arith, ints, small, less)))

-- how far a coordinate lies from the base's, of numbers in words
pub from_base_in_words : (p b m a t : ℤ) → IsWithin MOST_COORDINATE p → IsWithin MOST_COORDINATE b → IsBelow (2 ^ 46) m
    → a ≡ to_z w64 (of_z w64 p) -ℤ to_z w64 (of_z w64 b) → t ≡ in_tenths (to_z w64 (of_z w64 m))
    → unsigned_abs a ≤ 140_000_000_000 → unsigned_abs t < 2 ^ 44 → to_z w64 (of_z w64 (to_z w64 (of_z w64 a) +ℤ to_z w64 (of_z w64 t))) ≡ from_base p b m
from_base_in_words p b m a t p_in b_in m_in ea et small less =
    let plain : a ≡ p -ℤ b = rw (as_w64 p (omega (arith, p_in)), as_w64 b (omega (arith, b_in))) at ea in
    let tenths : t ≡ in_tenths m = rw (as_w64 m (omega (arith, m_in))) at et in
    sum_in_words a t small less ∙ ap (λ (x : ℤ). x +ℤ t) plain ∙ ap (λ (x : ℤ). (p -ℤ b) +ℤ x) tenths
