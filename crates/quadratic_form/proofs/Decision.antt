-- The decision holds for all data in the boxes.
use Rattle.std.proofs.Common.{◌≡◌, ⊎_elim, ℕ, ◌^◌, ◌<◌, List, [], ◌∷◌, length, ℤ, pos, ◌*ℤ◌, ◌≤ℤ◌, ◌<ℤ◌, Ok, arith, sym, ap, ◌∙◌, refl, subst, pow_pos}
use Rattle.std.proofs.lemmas.Int.{by_lt_z}
use Rattle.whole_math.proofs.Ring.{◌⊕◌, ◌⊖◌, ◌⊗◌}
use Rattle.whole_math.proofs.Order.{lins, square_nn, mul_lt_cancel}
use Rattle.whole_math.proofs.Inequalities.{le_by, both_nn, prod_nn, less_nn, pos_nn, pos_one, one_nn, later, strict, nat, weak, le_eq}
use Rattle.quadratic_form.proofs.Bound.{bound}
use Rattle.quadratic_form.proofs.UpperSum.{upper, share_nonneg}
use Rattle.quadratic_form.specs.Forms.{Column}
use Rattle.quadratic_form.specs.Elimination.{Factor, steps}
use Rattle.quadratic_form.specs.Rows.{SignalRow, WholeData, WholeBaseline, SignalGroup, WholeFitsAll, whole_sum_of_squares, GroupsOf, first_rounding, value}
use Rattle.quadratic_form.specs.UpperSum.{gap, gaps_from, gaps, upper_sum, top}
use Rattle.quadratic_form.specs.TwoLeast.{Less, Before, TwoLeast}
use Rattle.whole_math.proofs.Rounding.{ceil_close}
use Rattle.whole_math.proofs.Vectors.{len_is}
use Rattle.whole_math.specs.Vectors.{len}

pub less_value : (p : List Column) (v w : List ℤ) → Less p v w → value p v ≤ℤ value p w
less_value p v w h = ⊎_elim (λ (l : value p v <ℤ value p w). weak l) (λ (q : (value p v ≡ value p w) × Before v w). le_eq q.0) h

-- every vector but the first has at least the value of the second
pub second_value : (p : List Column) (n : ℤ) (z1 z2 v : List ℤ) → TwoLeast p n z1 z2 → len v ≡ n → (v ≡ z1 → ⊥) → value p z2 ≤ℤ value p v
second_value p n z1 z2 v t e d = by_lt_z (value p v) (value p z2)
    (λ (h : value p v <ℤ value p z2). less_value p z2 v (t.rest v e d (λ (i : v ≡ z2). distances_from (value p v) (value p z2) h (ap (value p) i))))
    (λ h. h)
  where
    distances_from : (a b : ℤ) → a <ℤ b → a ≡ b → ⊥
    distances_from a b h e = omega (arith, lins)

gaps_from_nonneg : (z : List ℤ) (m : WholeBaseline) (r : SignalRow) (rs : List SignalRow) → pos 0 ≤ℤ gaps_from z m r rs
gaps_from_nonneg z m r [] = omega (arith, lins)
gaps_from_nonneg z m r (s ∷ rs) = both_nn (square_nn (gap z m r s)) (gaps_from_nonneg z m r rs)

gaps_nonneg : (z : List ℤ) (m : WholeBaseline) (rs : List SignalRow) → pos 0 ≤ℤ gaps z m rs
gaps_nonneg z m [] = omega (arith, lins)
gaps_nonneg z m (r ∷ rs) = both_nn (gaps_from_nonneg z m r rs) (gaps_nonneg z m rs)

upper_sum_nonneg : (n : ℤ) (z : List ℤ) (m : WholeBaseline) (gs : List SignalGroup) → GroupsOf n gs → pos 0 ≤ℤ upper_sum z m gs
upper_sum_nonneg n z m [] h = omega (arith, lins)
upper_sum_nonneg n z m (g ∷ gs) h = both_nn (prod_nn (share_nonneg g h.2) (gaps_nonneg z m g.rows)) (upper_sum_nonneg n z m gs h.4)

top_nonneg : (n : ℤ) (h : ℕ) (z : List ℤ) (m : WholeBaseline) (gs : List SignalGroup) → GroupsOf n gs → pos 0 ≤ℤ (pos (2 ^ h) *ℤ top h z m gs)
top_nonneg n h z m gs g = go (upper_sum z m gs) (pos (2 ^ h) *ℤ top h z m gs) (upper_sum_nonneg n z m gs g) (ceil_close (upper_sum z m gs) (2 ^ h) (pow_pos h))
  where
    go : (u t : ℤ) → pos 0 ≤ℤ u → u ≤ℤ t → pos 0 ≤ℤ t
    go u t h k = omega (arith, lins)

-- for all data in the boxes, over d: every other vector z', with every baseline, over e, has a greater sum of squares than z1 with m
pub decided : (d e h : ℕ) (ratio : ℤ) (z1 z2 z' : List ℤ) (m b : WholeBaseline) (gs : List SignalGroup) (ts : List (List WholeData)) (p : List Factor × List Column) →
    0 < d → 0 < e → GroupsOf (len z1) gs → WholeFitsAll (pos d) gs ts → steps 0 3 (first_rounding h (length z1) gs) ≡ Ok p → TwoLeast p.1 (len z1) z1 z2 →
    pos 1000 ≤ℤ ratio → (pos 64 *ℤ (ratio *ℤ top h z1 m gs)) <ℤ (pos 1000 *ℤ value p.1 z2) → len z' ≡ len z1 → (z' ≡ z1 → ⊥) →
    (whole_sum_of_squares (pos d) (pos (2 ^ 16)) z1 m gs ts *ℤ (pos e *ℤ pos e)) <ℤ (whole_sum_of_squares (pos d) (pos e) z' b gs ts *ℤ (pos (2 ^ 16) *ℤ pos (2 ^ 16)))
decided d e h ratio z1 z2 z' m b gs ts p i j g f s t r c k o =
    step (pos d) (pos e) (pos (2 ^ h)) (top h z1 m gs) ratio (value p.1 z2) (value p.1 z') (whole_sum_of_squares (pos d) (pos (2 ^ 16)) z1 m gs ts) (whole_sum_of_squares (pos d) (pos e) z' b gs ts)
    (pos_one d i) (pos_one e j) (pos_one (2 ^ h) (pow_pos h)) r c (top_nonneg (len z1) h z1 m gs g)
    (second_value p.1 (len z1) z1 z2 z' t k o) (upper (len z1) (pos d) h z1 m gs ts (pos_nn d) g f)
    (bound (pos d) (pos e) h z' b gs ts p (subst (λ (n : ℤ). GroupsOf n gs) (sym k) g) f (subst (λ (n : ℕ). steps 0 3 (first_rounding h n gs) ≡ Ok p) (sym l) s))
  where
    same : (a b : ℕ) → pos a ≡ pos b → a ≡ b
    same a b e = omega (arith, lins)

    l : length z' ≡ length z1
    l = same (length z') (length z1) (sym (len_is z') ∙ k ∙ len_is z1)

    ones : (a b : ℤ) → pos 1 ≤ℤ a → pos 1 ≤ℤ b → pos 1 ≤ℤ (a *ℤ b)
    ones a b h k = le_by (a ∷ b ∷ []) (λ a b. (nat 1, a ⊗ b, (a ⊖ nat 1) ⊗ (b ⊖ nat 1) ⊕ (a ⊖ nat 1 ⊕ (b ⊖ nat 1)))) refl (both_nn (prod_nn (less_nn h) (less_nn k)) (both_nn (less_nn h) (less_nn k)))

    -- 64 H T < H P(z2)
    room : (h t r q : ℤ) → pos 1 ≤ℤ h → pos 1000 ≤ℤ r → (pos 64 *ℤ (r *ℤ t)) <ℤ (pos 1000 *ℤ q) → pos 0 ≤ℤ (h *ℤ t) → (pos 64 *ℤ (h *ℤ t)) <ℤ (h *ℤ q)
    room h t r q h₀ h₁ h₂ h₃ = mul_lt_cancel (pos 64 *ℤ (h *ℤ t)) (h *ℤ q) 1000 (omega arith)
        (strict h₀ (le_by (h ∷ t ∷ q ∷ r ∷ []) (λ h t q r.
        (nat 64 ⊗ (h ⊗ t) ⊗ nat 1000 ⊕ h, h ⊗ q ⊗ nat 1000, h ⊗ (nat 1000 ⊗ q ⊖ (nat 64 ⊗ (r ⊗ t) ⊕ nat 1)) ⊕ nat 64 ⊗ ((r ⊖ nat 1000) ⊗ (h ⊗ t)))) refl
        (both_nn (prod_nn (one_nn h₀) (less_nn (later h₂))) (prod_nn (pos_nn 64) (prod_nn (less_nn h₁) h₃)))))

    step : (d e h t r q v a b : ℤ) → pos 1 ≤ℤ d → pos 1 ≤ℤ e → pos 1 ≤ℤ h → pos 1000 ≤ℤ r → (pos 64 *ℤ (r *ℤ t)) <ℤ (pos 1000 *ℤ q) → pos 0 ≤ℤ (h *ℤ t) → q ≤ℤ v →
        a ≤ℤ (d *ℤ pos (2 ^ 16) *ℤ (d *ℤ pos (2 ^ 16)) *ℤ (h *ℤ t)) → (d *ℤ e *ℤ (d *ℤ e) *ℤ (h *ℤ v)) ≤ℤ (pos 64 *ℤ b) → (a *ℤ (e *ℤ e)) <ℤ (b *ℤ (pos (2 ^ 16) *ℤ pos (2 ^ 16)))
    step d e h t r q v a b h₁ h₂ h₃ h₄ h₅ h₆ h₇ h₈ h₉ = mul_lt_cancel (a *ℤ (e *ℤ e)) (b *ℤ (pos (2 ^ 16) *ℤ pos (2 ^ 16))) 64 (omega arith)
        (strict (ones (d *ℤ e *ℤ (d *ℤ e)) (pos (2 ^ 32)) (ones _ _ (ones d e h₁ h₂) (ones d e h₁ h₂)) (pos_one (2 ^ 32) (pow_pos 32)))
        (le_by (a ∷ e ∷ d ∷ b ∷ h ∷ v ∷ q ∷ t ∷ [])
        (λ a e d b h v q t. (
          a ⊗ (e ⊗ e) ⊗ nat 64 ⊕ d ⊗ e ⊗ (d ⊗ e) ⊗ nat (2 ^ 32),
          b ⊗ (nat (2 ^ 16) ⊗ nat (2 ^ 16)) ⊗ nat 64,
          nat (2 ^ 32) ⊗ (nat 64 ⊗ b ⊖ d ⊗ e ⊗ (d ⊗ e) ⊗ (h ⊗ v)) ⊕ d ⊗ e ⊗ (d ⊗ e) ⊗ nat (2 ^ 32) ⊗ (h ⊗ (v ⊖ q)) ⊕ (d ⊗ e ⊗ (d ⊗ e) ⊗ nat
              (2 ^ 32) ⊗ (h ⊗ q ⊖ (nat 64 ⊗ (h ⊗ t) ⊕ nat 1)) ⊕ nat 64 ⊗ (e ⊗ e ⊗ (d ⊗ nat (2 ^ 16) ⊗ (d ⊗ nat (2 ^ 16)) ⊗ (h ⊗ t) ⊖ a))),
        )) refl (both_nn
        (both_nn (prod_nn (pos_nn (2 ^ 32)) (less_nn h₉)) (prod_nn (prod_nn (square_nn (d *ℤ e)) (pos_nn (2 ^ 32))) (prod_nn (one_nn h₃) (less_nn h₇))))
        (both_nn (prod_nn (prod_nn (square_nn (d *ℤ e)) (pos_nn (2 ^ 32))) (less_nn (later (room h t r q h₃ h₄ h₅ h₆))))
        (prod_nn (pos_nn 64) (prod_nn (square_nn e) (less_nn h₈)))))))
