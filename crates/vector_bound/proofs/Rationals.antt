-- The law over rational data and baselines.
use Rattle.std.proofs.Common.{◌≡◌, ℕ, ◌*◌, ◌^◌, ◌<◌, List, [], ◌∷◌, ℤ, pos, ◌-ℤ◌, ◌*ℤ◌, neg_ℤ, ◌≤ℤ◌, mul-pos, pow_pos, sym, refl, subst}
use Rattle.whole_math.specs.Vectors.{len}
use Rattle.whole_math.specs.Bounds.{Within}
use Rattle.whole_math.proofs.Ring.{◌⊕◌, ◌⊖◌, ◌⊗◌, ng}
use Rattle.whole_math.proofs.Inequalities.{le_by, both_nn, prod_nn, less_nn, pos_nn, pos_one, le_eq, nat}
use Rattle.whole_math.specs.Rational.{Rational, ◌≤ʳ◌, AreWithin, of_whole, ◌-ʳ◌}
use Rattle.whole_math.proofs.Over.{Over, over_whole, over_sub, over_wide, over_le}
use Rattle.quadratic_form.specs.Rows.{WholeBaseline, SignalGroup, whole_sum_of_squares, GroupsOf}
use Rattle.quadratic_form.specs.RationalData.{RowData, FitsAll, sum_of_squares, moved}
use Rattle.whole_math.specs.Spread.{Baseline}
use Rattle.quadratic_form.proofs.RationalData.{OverBase, F_over}
use Rattle.quadratic_form.proofs.RationalData.{CommonAll, CommonBase, common, common_base, swap, fits_all_over}
use Rattle.vector_bound.proofs.Curvatures.{cancel_one}
use Rattle.vector_bound.proofs.Wholes.{IsWholeBound, times_base, near_whole}
use Rattle.vector_bound.specs.VectorBounds.{move_units, AreNear}

-- the order of two rationals is that of their numerators over one denominator
numerators : (k n m : ℤ) (p q : Rational) → pos 0 ≤ℤ k → Over k n p → Over k m q → p ≤ʳ q → n ≤ℤ m
numerators k n m p q h e f o = step k n m p.num (pos p.den) q.num (pos q.den) (pos_one (p.den * q.den) (mul-pos p.positive q.positive)) (pos_nn p.den) (pos_nn q.den) h e f o
  where
    step : (k n m a b c d : ℤ) → pos 1 ≤ℤ (b *ℤ d) → pos 0 ≤ℤ b → pos 0 ≤ℤ d → pos 0 ≤ℤ k → a *ℤ k ≡ n *ℤ b → c *ℤ k ≡ m *ℤ d → (a *ℤ d) ≤ℤ (c *ℤ b) → n ≤ℤ m
    step k n m a b c d h₀ h₁ h₂ h₃ e f o = cancel_one (b *ℤ d) n m h₀ (le_by (k ∷ n ∷ m ∷ a ∷ b ∷ c ∷ d ∷ []) (λ k n m a b c d. (
      b ⊗ d ⊗ n,
      b ⊗ d ⊗ m,
      b ⊗ (m ⊗ d ⊖ c ⊗ k) ⊕ (k ⊗ (c ⊗ b ⊖ a ⊗ d) ⊕ d ⊗ (a ⊗ k ⊖ n ⊗ b)),
    )) refl (both_nn (prod_nn h₁ (less_nn (le_eq f))) (both_nn (prod_nn h₃ (less_nn o)) (prod_nn h₂ (less_nn (le_eq (sym e)))))))

-- one coordinate
coordinate : (e : ℕ) (x b m : ℤ) (p q : Rational) → 0 < e → Over (pos (2 ^ 16) *ℤ pos e) b p → Over (pos (2 ^ 16) *ℤ pos e) (m *ℤ pos e) q → Within (pos e *ℤ x) (b -ℤ m *ℤ pos e) → AreWithin (move_units x) p q
coordinate e x b m p q h f g w = (
  over_le (2 ^ 16 * e) (2 ^ 16) (b -ℤ m *ℤ pos e) x (p -ʳ q) (move_units x) (mul-pos (pow_pos 16) h) (pow_pos 16) (over_sub (pos (2 ^ 16) *ℤ pos e) b (m *ℤ pos e) p q f g) refl (above b m x (pos e) w.1),
  over_le (2 ^ 16 * e) (2 ^ 16) (m *ℤ pos e -ℤ b) x (q -ʳ p) (move_units x) (mul-pos (pow_pos 16) h) (pow_pos 16) (over_sub (pos (2 ^ 16) *ℤ pos e) (m *ℤ pos e) b q p g f) refl (below b m x (pos e) w.0),
)
  where
    above : (b m x e : ℤ) → (b -ℤ m *ℤ e) ≤ℤ (e *ℤ x) → ((b -ℤ m *ℤ e) *ℤ pos (2 ^ 16)) ≤ℤ (x *ℤ (pos (2 ^ 16) *ℤ e))
    above b m x e h = le_by (b ∷ m ∷ x ∷ e ∷ []) (λ b m x e. ((b ⊖ m ⊗ e) ⊗ nat (2 ^ 16), x ⊗ (nat (2 ^ 16) ⊗ e), (e ⊗ x ⊖ (b ⊖ m ⊗ e)) ⊗ nat (2 ^ 16))) refl (prod_nn (less_nn h) (pos_nn (2 ^ 16)))

    below : (b m x e : ℤ) → neg_ℤ (e *ℤ x) ≤ℤ (b -ℤ m *ℤ e) → ((m *ℤ e -ℤ b) *ℤ pos (2 ^ 16)) ≤ℤ (x *ℤ (pos (2 ^ 16) *ℤ e))
    below b m x e h = le_by (b ∷ m ∷ x ∷ e ∷ []) (λ b m x e. ((m ⊗ e ⊖ b) ⊗ nat (2 ^ 16), x ⊗ (nat (2 ^ 16) ⊗ e), (b ⊖ m ⊗ e ⊖ ng (e ⊗ x)) ⊗ nat (2 ^ 16))) refl (prod_nn (less_nn h) (pos_nn (2 ^ 16)))

pub near_over_rationals : (k h : ℕ) (gs : List SignalGroup) (z : List ℤ) (m : WholeBaseline) (u x : ℤ) (qs : List (List RowData)) (b : Baseline) → 0 < k → IsWholeBound k h gs z m u x →
    GroupsOf (len z) gs → FitsAll gs qs → sum_of_squares z (moved m) gs qs ≤ʳ of_whole u → sum_of_squares z b gs qs ≤ʳ sum_of_squares z (moved m) gs qs → AreNear (move_units x) b (moved m)
near_over_rationals k h gs z m u x qs b k_from bound groups fits upper better = record {
  b1 = coordinate c.d x whole.b1 m.b1 b.b1 (moved m).b1 c.positive whole_is.b1 move_is.b1 near.0;
  b2 = coordinate c.d x whole.b2 m.b2 b.b2 (moved m).b2 c.positive whole_is.b2 move_is.b2 near.1.0;
  b3 = coordinate c.d x whole.b3 m.b3 b.b3 (moved m).b3 c.positive whole_is.b3 move_is.b3 near.1.1;
}
  where
    t : CommonAll qs
    t = common qs

    c : CommonBase b
    c = common_base b

    big : ℤ
    big = pos (2 ^ 16) *ℤ pos c.d

    whole : WholeBaseline
    whole = times_base (pos (2 ^ 16)) c.over

    base : WholeBaseline
    base = times_base (pos c.d) m

    whole_is : OverBase big whole b
    whole_is = subst (λ (e : ℤ). OverBase e whole b) (swap c.d (2 ^ 16)) (record {
      b1 = over_wide (pos c.d) (pos (2 ^ 16)) c.over.b1 b.b1 c.is.b1;
      b2 = over_wide (pos c.d) (pos (2 ^ 16)) c.over.b2 b.b2 c.is.b2;
      b3 = over_wide (pos c.d) (pos (2 ^ 16)) c.over.b3 b.b3 c.is.b3;
    })

    move_is : OverBase big base (moved m)
    move_is = record {
      b1 = over_wide (pos (2 ^ 16)) (pos c.d) m.b1 (moved m).b1 refl;
      b2 = over_wide (pos (2 ^ 16)) (pos c.d) m.b2 (moved m).b2 refl;
      b3 = over_wide (pos (2 ^ 16)) (pos c.d) m.b3 (moved m).b3 refl;
    }

    k_nn : pos 0 ≤ℤ (pos t.d *ℤ big *ℤ (pos t.d *ℤ big))
    k_nn = pos_nn ((t.d * (2 ^ 16 * c.d)) * (t.d * (2 ^ 16 * c.d)))

    near : Within (pos c.d *ℤ x) (whole.b1 -ℤ m.b1 *ℤ pos c.d) × (Within (pos c.d *ℤ x) (whole.b2 -ℤ m.b2 *ℤ pos c.d) × Within (pos c.d *ℤ x) (whole.b3 -ℤ m.b3 *ℤ pos c.d))
    near = near_whole k h t.d c.d gs z m whole u x t.over k_from t.positive c.positive bound groups (fits_all_over (pos t.d) gs t.over qs (pos_nn t.d) t.is fits)
        (numerators (pos t.d *ℤ big *ℤ (pos t.d *ℤ big)) (whole_sum_of_squares (pos t.d) big z base gs t.over) (pos t.d *ℤ big *ℤ (pos t.d *ℤ big) *ℤ u) (sum_of_squares z (moved m) gs qs) (of_whole u) k_nn
        (F_over (pos t.d) big z base (moved m) gs t.over qs t.is move_is) (over_whole (pos t.d *ℤ big *ℤ (pos t.d *ℤ big)) u) upper)
        (numerators (pos t.d *ℤ big *ℤ (pos t.d *ℤ big)) (whole_sum_of_squares (pos t.d) big z whole gs t.over) (whole_sum_of_squares (pos t.d) big z base gs t.over) (sum_of_squares z b gs qs)
        (sum_of_squares z (moved m) gs qs) k_nn (F_over (pos t.d) big z whole b gs t.over qs t.is whole_is) (F_over (pos t.d) big z base (moved m) gs t.over qs t.is move_is) better)
