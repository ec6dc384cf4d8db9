-- A row of the normal matrix at a move and integers, part by part.
use Rattle.std.proofs.Common.{◌≡◌, ℕ, zero, suc, ◌+◌, ◌^◌, List, [], ◌∷◌, ◌++◌, length, ℤ, pos, ◌+ℤ◌, ◌*ℤ◌, arith, sym, ap, ◌∙◌, refl}
use Rattle.whole_math.specs.Vectors.{dot, scaled}
use Rattle.whole_math.proofs.Ring.{◌⊕◌, ◌⊗◌}
use Rattle.whole_math.proofs.Inequalities.{same_by, nat}
use Rattle.whole_math.proofs.Vectors.{len_is}
use Rattle.quadratic_form.specs.Places.{list_from}
use Rattle.quadratic_form.specs.Rows.{columns_at}
use Rattle.quadratic_form.proofs.Places.{len_list}
use Rattle.quadratic_form.specs.Tables.{entry}
use Rattle.obs_rows.specs.Data.{number_at}
use Rattle.obs_rows.specs.SignalGroups.{whole_move}
use Rattle.normal_sum.specs.declared.normal.Normal.{Normal}
use Rattle.vector_bound.specs.VectorBounds.{slope}
use Rattle.quadratic_form.proofs.NormalForm.{dot_tail}

list_last : (f : ℕ → ℤ) (j k : ℕ) → list_from f j (suc k) ≡ list_from f j k ++ (f (j + k) ∷ [])
list_last f j zero = ap (λ (n : ℕ). f n ∷ []) (none j)
  where
    none : (j : ℕ) → j ≡ j + 0
    none j = omega arith
list_last f j (suc k) = ap (λ (l : List ℤ). f j ∷ l) (list_last f (suc j) k ∙ ap (λ (n : ℕ). list_from f (suc j) k ++ (f n ∷ [])) (later j k))
  where
    later : (j k : ℕ) → suc j + k ≡ j + suc k
    later j k = omega arith

tail_is : (f : ℕ → ℤ) (u : ℤ) (z : List ℤ) → dot (list_from f 3 (suc (length z))) (scaled u z ++ (u ∷ [])) ≡ u *ℤ dot (list_from f 3 (length z)) z +ℤ f (3 + length z) *ℤ u
tail_is f u z = ap (λ (l : List ℤ). dot l (scaled u z ++ (u ∷ []))) (list_last f 3 (length z)) ∙ dot_tail u (f (3 + length z)) (list_from f 3 (length z)) z (len_list f 3 (length z) ∙ sym (len_is z))

four_more : (n k : ℕ) → n ≡ 4 + k → n ≡ suc (suc (suc (suc k)))
four_more n k e = omega arith

-- the parts in the order in which they are added
pub slope_is : (n : Normal) (z m : List ℤ) (j : ℕ) (b c d e : ℤ) → n.columns ≡ 4 + length z →
    b ≡ (dot (list_from (entry n.c j) 3 (length z)) z +ℤ entry n.c j (3 + length z) *ℤ pos 1) *ℤ pos (2 ^ 16) →
    c ≡ b +ℤ entry n.c j 2 *ℤ number_at m 2 → d ≡ c +ℤ entry n.c j 1 *ℤ number_at m 1 → e ≡ d +ℤ entry n.c j 0 *ℤ number_at m 0 → e ≡ slope n z m j
slope_is n z m j b c d e columns e₂ e₃ e₄ e₅ = e₅ ∙ ap (λ x. x +ℤ f 0 *ℤ number_at m 0) (e₄ ∙ ap (λ x. x +ℤ f 1 *ℤ number_at m 1) (e₃ ∙ ap (λ x. x +ℤ f 2 *ℤ number_at m 2) e₂))
    ∙ order (dot (list_from f 3 (length z)) z) (f (3 + length z)) (f 0) (f 1) (f 2) (number_at m 0) (number_at m 1) (number_at m 2)
    ∙ ap (λ x. f 0 *ℤ number_at m 0 +ℤ (f 1 *ℤ number_at m 1 +ℤ (f 2 *ℤ number_at m 2 +ℤ x))) (sym (tail_is f (pos (2 ^ 16)) z))
    ∙ ap (λ (k : ℕ). dot (list_from f 0 k) (columns_at (pos (2 ^ 16)) z (whole_move m))) (sym (four_more n.columns (length z) columns))
  where
    f : ℕ → ℤ
    f = entry n.c j

    order : (s l p q r x y w : ℤ) → (s +ℤ l *ℤ pos 1) *ℤ pos (2 ^ 16) +ℤ r *ℤ w +ℤ q *ℤ y +ℤ p *ℤ x ≡ p *ℤ x +ℤ (q *ℤ y +ℤ (r *ℤ w +ℤ (pos (2 ^ 16) *ℤ s +ℤ l *ℤ pos (2 ^ 16))))
    order s l p q r x y w = same_by (s ∷ l ∷ p ∷ q ∷ r ∷ x ∷ y ∷ w ∷ []) (λ s l p q r x y w. (
      (s ⊕ l ⊗ nat 1) ⊗ nat (2 ^ 16) ⊕ r ⊗ w ⊕ q ⊗ y ⊕ p ⊗ x,
      p ⊗ x ⊕ (q ⊗ y ⊕ (r ⊗ w ⊕ (nat (2 ^ 16) ⊗ s ⊕ l ⊗ nat (2 ^ 16)))),
    )) refl
