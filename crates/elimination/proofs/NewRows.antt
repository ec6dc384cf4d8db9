-- What a step writes into a row: its own entry, and an entry after it.
use Rattle.std.proofs.Common.{◌≡◌, ◌≢◌, ◌⊎◌, inl, inr, ℕ, ◌<◌, ◌≤◌, ◌^◌, List, ℤ, pos, ◌-ℤ◌, ◌*ℤ◌, unsigned_abs, arith, to_z, of_z, sym, ap, ap₂, ◌∙◌, subst}
use Rattle.std.specs.Int.{w64, w128}
use Rattle.whole_math.specs.Rounding.{nearest_div}
use Rattle.whole_math.proofs.Words.{as_w64, as_w128}
use Rattle.quadratic_form.specs.Tables.{entry}
use Rattle.elimination.specs.StepEntries.{other_entry, new_entry}
use Rattle.elimination.specs.RowSteps.{left_own, left_other}
use Rattle.elimination.proofs.NewEntries.{new_own, new_other, other_same}

abbrev pub word : ℤ → ℤ
word x = to_z w128 (of_z w128 x)

-- the entry that is read, as a word
pub read : (x y : ℤ) → x ≡ y → unsigned_abs y ≤ 2 ^ 52 → word x ≡ y
read x y e h = as_w128 x (omega (arith, subst (λ (z : ℤ). unsigned_abs z ≤ 2 ^ 52) (sym e) h)) ∙ e

-- the same in half the bits: n is the word of x
pub narrowed : (x n y : ℤ) → n ≡ word x → unsigned_abs n ≤ 2 ^ 52 → word x ≡ y → to_z w64 (of_z w64 n) ≡ y
narrowed x n y e h is = as_w64 n (omega (arith, h)) ∙ e ∙ is

-- the new entry in row r and column k, after its own, of entries e and q and of one p in the pivot's row
pub other_is : (t : List (List ℤ)) (j r k a : ℕ) (e p q : ℤ) → e ≡ entry t r k → p ≡ entry t j r → q ≡ entry t j k → left_other a p q e ≡ other_entry t j a r k
other_is t j r k a e p q is_e is_p is_q = ap (λ z. z -ℤ nearest_div (p *ℤ q) a) is_e ∙ ap₂ (λ x y. entry t r k -ℤ nearest_div (x *ℤ y) a) is_p is_q

-- the new own entry of row r, of the pivot b and the entries p and e
pub own_is : (t : List (List ℤ)) (j r m : ℕ) (a b p e : ℤ) → b ≡ a → p ≡ entry t j r → e ≡ entry t r r → left_own (unsigned_abs b) m p e ≡ new_entry t j (unsigned_abs a) (pos m) r r
own_is t j r m a b p e is_b is_p is_e = ap (λ z. left_own (unsigned_abs z) m p e) is_b ∙ ap₂ (λ x y. left_own (unsigned_abs a) m x y) is_p is_e ∙ sym (new_own t j (unsigned_abs a) (pos m) r)

-- those after it by the table u, which is t but for that entry
pub others_are : (t u : List (List ℤ)) (j r m : ℕ) (a b : ℤ) → j < r → b ≡ a → ((i k : ℕ) → (i ≢ r) ⊎ (k ≢ r) → entry u i k ≡ entry t i k) → (k : ℕ) → r < k →
    other_entry u j (unsigned_abs b) r k ≡ new_entry t j (unsigned_abs a) (pos m) r k
others_are t u j r m a b later is_b same k h = ap (λ z. other_entry u j (unsigned_abs z) r k) is_b
    ∙ other_same t u j (unsigned_abs a) r k (same r k (inr (omega arith))) (same j r (inl apart)) (same j k (inl apart)) ∙ sym (new_other t j (unsigned_abs a) (pos m) r k h)
  where
    apart : j ≢ r
    apart = omega (arith, later)
