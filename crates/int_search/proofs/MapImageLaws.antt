-- Images under a map in a table, and the value of the form at them.
use Rattle.std.proofs.Common.{ℕ, zero, suc, ◌≡◌, ◌+◌, ◌<◌, ◌≤◌, List, [], ◌∷◌, length, take, get_or, ℤ, pos, ◌+ℤ◌, ◌*ℤ◌, arith, sym, ap, ap₂, ◌∙◌, refl, add-zero, zero-add}
use Rattle.whole_math.proofs.Inequalities.{same_by, nat}
use Rattle.whole_math.proofs.Ring.{◌⊕◌, ◌⊗◌}
use Rattle.whole_math.specs.Vectors.{dot}
use Rattle.quadratic_form.specs.Rows.{value}
use Rattle.quadratic_form.specs.Maps.{apply}
use Rattle.quadratic_form.specs.Places.{list_from, form_from}
use Rattle.quadratic_form.proofs.MatrixEntries.{list_items}
use Rattle.quadratic_form.proofs.Places.{later}
use Rattle.quadratic_form.proofs.LowerSums.{dot_nil}
use Rattle.quadratic_form.specs.Tables.{entry}
use Rattle.quadratic_form.specs.Matrices.{IsSymmetric}
use Rattle.decorrelate.specs.Inverses.{rows_from, block}
use Rattle.int_search.specs.Sums.{total}
use Rattle.int_search.specs.Transformed.{transformed_form}
use Rattle.int_search.proofs.TotalLaws.{dot_total}
use Rattle.int_search.proofs.TransformedLaws.{transformed_value}

dot_row : (r v : List ℤ) (f : ℕ → ℤ) (b n : ℕ) → length v ≡ n → ((j : ℕ) → get_or r j (pos 0) ≡ f (b + j)) → dot r v ≡ dot (list_from f b n) v
dot_row r [] f b zero e h = dot_nil r
dot_row r [] f b (suc n) e h = absurd (omega arith)
dot_row r (y ∷ v) f b zero e h = absurd (omega arith)
dot_row [] (y ∷ v) f b (suc n) e h = sym (ap₂ (λ p q. (p *ℤ y) +ℤ q) (sym (h 0 ∙ ap f (add-zero b))) (sym (dot_row [] v f (suc b) n (omega arith) (λ j. h (suc j) ∙ ap f (sym (later b j)))))
    ∙ same_by (y ∷ []) (λ y. (nat 0 ⊗ y ⊕ nat 0, nat 0)) refl)
dot_row (x ∷ r) (y ∷ v) f b (suc n) e h = ap₂ (λ p q. (p *ℤ y) +ℤ q) (h 0 ∙ ap f (add-zero b)) (dot_row r v f (suc b) n (omega arith) (λ j. h (suc j) ∙ ap f (sym (later b j))))

image_rows : (rows : List (List ℤ)) (e : ℕ → ℕ → ℤ) (a k n : ℕ) (v : List ℤ) → k ≤ length rows → length v ≡ n → ((i j : ℕ) → get_or (get_or rows i []) j (pos 0) ≡ e (a + i) j) →
    apply (take k rows) v ≡ apply (rows_from e n a k) v
image_rows rows e a zero n v h g s = ap (λ t. apply t v) (none rows)
  where
    none : (rows : List (List ℤ)) → take 0 rows ≡ []
    none [] = refl
    none (r ∷ rows) = refl
image_rows [] e a (suc k) n v h g s = absurd (omega arith)
image_rows (r ∷ rows) e a (suc k) n v h g s = ap₂ (λ x t. x ∷ t) (dot_row r v (e a) 0 n g (λ j. s 0 j ∙ ap₂ (λ i k. e i k) (add-zero a) (none j)))
    (image_rows rows e (suc a) k n v (omega arith) g (λ i j. s (suc i) j ∙ ap (λ i. e i j) (sym (later a i))))
  where
    none : (j : ℕ) → j ≡ 0 + j
    none j = omega arith

-- the first n rows of the table give what its first n rows and columns give
pub image_block : (map : List (List ℤ)) (n : ℕ) (v : List ℤ) → n ≤ length map → length v ≡ n → apply (take n map) v ≡ apply (block n map) v
image_block map n v h e = image_rows map (entry map) 0 n n v h e (λ i j. ap (λ (k : ℕ). entry map k j) (sym (zero-add i)))

pub block_length : (e : ℕ → ℕ → ℤ) (n a k : ℕ) (z : List ℤ) → length (apply (rows_from e n a k) z) ≡ k
block_length e n a zero z = refl
block_length e n a (suc k) z = ap suc (block_length e n (suc a) k z)

image_item : (e : ℕ → ℕ → ℤ) (n a k b : ℕ) (z : List ℤ) → b < k → get_or (apply (rows_from e n a k) z) b (pos 0) ≡ dot (list_from (e (a + b)) 0 n) z
image_item e n a zero b z h = absurd (omega arith)
image_item e n a (suc k) zero z h = ap (λ i. dot (list_from (e i) 0 n) z) (sym (add-zero a))
image_item e n a (suc k) (suc b) z h = image_item e n (suc a) k b z (omega arith) ∙ ap (λ i. dot (list_from (e i) 0 n) z) (later a b)

pub reduced_value : (n : ℕ) (map p : List (List ℤ)) (z : List ℤ) → IsSymmetric p → length z ≡ n → value (transformed_form n map p) z ≡ value (form_from (entry p) 0 (n + 1)) (apply (block n map) z)
reduced_value n map p z s e = transformed_value n map p z (apply (block n map) z) s e (block_length (entry map) n 0 n z)
    (λ b h. image_item (entry map) n 0 n b z h ∙ ap (dot (list_from (entry map (0 + b)) 0 n)) (sym (list_items z) ∙ ap (list_from (λ j. get_or z j (pos 0)) 0) e)
    ∙ dot_total (entry map (0 + b)) (λ j. get_or z j (pos 0)) 0 n ∙ ap (λ (i : ℕ). total (λ j. entry map i j *ℤ get_or z j (pos 0)) 0 n) (zero-add b))
