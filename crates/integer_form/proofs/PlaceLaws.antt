-- Lists and sums of products by places.
use Rattle.std.proofs.Common.{◌≡◌, ℕ, zero, suc, ◌+◌, ◌<◌, List, [], ◌∷◌, ◌++◌, length, ℤ, pos, ◌+ℤ◌, ◌*ℤ◌, arith, sym, ap, ap₂, ◌∙◌, refl, add-zero}
use Rattle.whole_math.proofs.Ring.{◌⊕◌, ◌⊗◌}
use Rattle.whole_math.proofs.Inequalities.{same_by, nat}
use Rattle.whole_math.specs.Vectors.{dot}
use Rattle.quadratic_form.specs.Places.{list_from}
use Rattle.quadratic_form.proofs.Places.{later}
use Rattle.quadratic_form.specs.Tables.{item}

-- one more at the end
pub list_last : (f : ℕ → ℤ) (j k : ℕ) → list_from f j (suc k) ≡ list_from f j k ++ (f (j + k) ∷ [])
list_last f j zero = ap (λ (m : ℕ). f m ∷ []) (sym (add-zero j))
list_last f j (suc k) = ap (λ s. f j ∷ s) (list_last f (suc j) k ∙ ap (λ (m : ℕ). list_from f (suc j) k ++ (f m ∷ [])) (later j k))

pub dot_more : (a b : ℕ → ℤ) (j k : ℕ) → dot (list_from a j (suc k)) (list_from b j (suc k)) ≡ dot (list_from a j k) (list_from b j k) +ℤ a (j + k) *ℤ b (j + k)
dot_more a b j zero = one (a j) (b j) ∙ ap (λ (m : ℕ). pos 0 +ℤ a m *ℤ b m) (sym (add-zero j))
  where
    one : (x y : ℤ) → x *ℤ y +ℤ pos 0 ≡ pos 0 +ℤ x *ℤ y
    one x y = same_by (x ∷ y ∷ []) (λ x y. (x ⊗ y ⊕ nat 0, nat 0 ⊕ x ⊗ y)) refl
dot_more a b j (suc k) = ap (λ z. a j *ℤ b j +ℤ z) (dot_more a b (suc j) k ∙ ap (λ (m : ℕ). dot (list_from a (suc j) k) (list_from b (suc j) k) +ℤ a m *ℤ b m) (later j k))
    ∙ move (a j *ℤ b j) (dot (list_from a (suc j) k) (list_from b (suc j) k)) (a (j + suc k) *ℤ b (j + suc k))
  where
    move : (x y z : ℤ) → x +ℤ (y +ℤ z) ≡ x +ℤ y +ℤ z
    move x y z = same_by (x ∷ y ∷ z ∷ []) (λ x y z. (x ⊕ (y ⊕ z), x ⊕ y ⊕ z)) refl

-- a list, and one entry after it
pub list_whole : (f : ℕ → ℤ) (z : List ℤ) (j : ℕ) → ((i : ℕ) → i < length z → f (j + i) ≡ item z i) → list_from f j (length z) ≡ z
list_whole f [] j h = refl
list_whole f (x ∷ z) j h = ap₂ (λ (y : ℤ) (s : List ℤ). y ∷ s) (ap f (sym (add-zero j)) ∙ h 0 (omega arith)) (list_whole f z (suc j) (λ i l. ap f (later j i) ∙ h (suc i) (omega arith)))
