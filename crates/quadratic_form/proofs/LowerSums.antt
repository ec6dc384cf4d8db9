-- Lower sums: they grow, they stay below the form, and the second best is small.
use Rattle.std.proofs.Common.{◌≡◌, ℕ, zero, suc, ◌^◌, ◌-◌, ◌<◌, ◌≤◌, List, [], ◌∷◌, ◌++◌, drop, length, ℤ, pos, ◌+ℤ◌, ◌-ℤ◌, ◌*ℤ◌, ◌≤ℤ◌, ◌<ℤ◌, Ok, arith, sym, ap, ap₂, ◌∙◌, refl, subst}
use Rattle.std.proofs.lemmas.Int.{by_lt_z, ints}
use Rattle.whole_math.proofs.Ring.{◌⊕◌, ◌⊖◌, ◌⊗◌}
use Rattle.whole_math.proofs.Order.{lins, mul_le_cancel}
use Rattle.whole_math.specs.Rounding.{ceil_div}
use Rattle.whole_math.proofs.Inequalities.{le_by, both_nn, prod_nn, less_nn, pos_nn, pos_one, later, strict, le_eq, same_by, nat}
use Rattle.quadratic_form.proofs.StepsBelow.{steps_below}
use Rattle.quadratic_form.proofs.Decision.{second_value}
use Rattle.quadratic_form.specs.Forms.{Column, Shaped, quad}
use Rattle.quadratic_form.specs.Elimination.{kept, Factor, squares, steps}
use Rattle.quadratic_form.specs.Rows.{value}
use Rattle.quadratic_form.specs.TwoLeast.{TwoLeast}
use Rattle.quadratic_form.specs.LowerSums.{offset, lower_sum, Small, SmallList, SmallForm}
use Rattle.whole_math.proofs.Rounding.{ceil_near, ceil_close}
use Rattle.whole_math.proofs.Vectors.{len_nonneg, len_tail, len_apart}
use Rattle.whole_math.specs.Vectors.{len, dot, zeros}

low_is : (g : ℤ) (fs : List Factor) (z : List ℤ) → len fs ≡ len z → lower_sum g fs z ≡ squares fs (z ++ (pos 1 ∷ [])) +ℤ pos (2 ^ 60) *ℤ g
low_is g [] [] e = same_by (g ∷ []) (λ g. (nat (2 ^ 60) ⊗ g, nat 0 ⊕ nat (2 ^ 60) ⊗ g)) refl
low_is g [] (x ∷ z) e = absurd (len_apart (len z) (len_nonneg z) e)
low_is g (f ∷ fs) [] e = absurd (len_apart (len fs) (len_nonneg fs) (sym e))
low_is g (f ∷ fs) (x ∷ z) e = ap (λ t. t +ℤ f.d *ℤ (offset f x z *ℤ offset f x z)) (low_is g fs z (len_tail (len fs) (len z) e))
    ∙ step (squares fs (z ++ (pos 1 ∷ []))) (pos (2 ^ 60) *ℤ g) (f.d *ℤ (offset f x z *ℤ offset f x z))
  where
    step : (s g c : ℤ) → s +ℤ g +ℤ c ≡ c +ℤ s +ℤ g
    step s g c = same_by (s ∷ g ∷ c ∷ []) (λ s g c. (s ⊕ g ⊕ c, c ⊕ s ⊕ g)) refl

drop_all : (z : List ℤ) → drop (length z) (z ++ (pos 1 ∷ [])) ≡ pos 1 ∷ []
drop_all [] = refl
drop_all (x ∷ z) = drop_all z

-- where the steps end at the one entry g, the lower sum stays below 2^60 P
pub lower_sum_below : (p : List Column) (z : List ℤ) (fs : List Factor) (g : ℤ) → Shaped p → len p ≡ len (z ++ (pos 1 ∷ [])) → len fs ≡ len z →
    steps 0 (length z) p ≡ Ok (fs, record { own = g; others = [] } ∷ []) → lower_sum g fs z ≤ℤ (pos (2 ^ 60) *ℤ value p z)
lower_sum_below p z fs g s e f h = rw (low_is g fs z f) (step (squares fs x) (quad (record { own = g; others = [] } ∷ []) (drop (length z) x)) g
    (value p z) last (steps_below 0 (length z) p x (fs, record { own = g; others = [] } ∷ []) h s e).1)
  where
    x : List ℤ
    x = z ++ (pos 1 ∷ [])

    end : (g : ℤ) → g *ℤ (pos 1 *ℤ pos 1) +ℤ pos 2 *ℤ (pos 1 *ℤ pos 0) +ℤ pos 0 ≡ g
    end g = same_by (g ∷ []) (λ g. (g ⊗ (nat 1 ⊗ nat 1) ⊕ nat 2 ⊗ (nat 1 ⊗ nat 0) ⊕ nat 0, g)) refl

    last : quad (record { own = g; others = [] } ∷ []) (drop (length z) x) ≡ g
    last = ap (λ t. quad (record { own = g; others = [] } ∷ []) t) (drop_all z) ∙ end g

    step : (s q g v : ℤ) → q ≡ g → (s +ℤ pos (2 ^ 60) *ℤ q) ≤ℤ (pos (2 ^ 60) *ℤ v) → (s +ℤ pos (2 ^ 60) *ℤ g) ≤ℤ (pos (2 ^ 60) *ℤ v)
    step s q g v e h = subst (λ (t : ℤ). (s +ℤ pos (2 ^ 60) *ℤ t) ≤ℤ (pos (2 ^ 60) *ℤ v)) e h

-- no value is below g
pub large_first : (p : List Column) (z : List ℤ) (fs : List Factor) (g : ℤ) → Shaped p → len p ≡ len (z ++ (pos 1 ∷ [])) →
    steps 0 (length z) p ≡ Ok (fs, record { own = g; others = [] } ∷ []) → g ≤ℤ value p z
large_first p z fs g s e h = step (squares fs x) (quad (record { own = g; others = [] } ∷ []) (drop (length z) x)) g (value p z) last b.0 b.1
  where
    x : List ℤ
    x = z ++ (pos 1 ∷ [])

    b : (pos 0 ≤ℤ squares fs x) × ((squares fs x +ℤ pos (2 ^ 60) *ℤ quad (record { own = g; others = [] } ∷ []) (drop (length z) x)) ≤ℤ (pos (2 ^ 60) *ℤ value p z))
    b = steps_below 0 (length z) p x (fs, record { own = g; others = [] } ∷ []) h s e

    end : (g : ℤ) → g *ℤ (pos 1 *ℤ pos 1) +ℤ pos 2 *ℤ (pos 1 *ℤ pos 0) +ℤ pos 0 ≡ g
    end g = same_by (g ∷ []) (λ g. (g ⊗ (nat 1 ⊗ nat 1) ⊕ nat 2 ⊗ (nat 1 ⊗ nat 0) ⊕ nat 0, g)) refl

    last : quad (record { own = g; others = [] } ∷ []) (drop (length z) x) ≡ g
    last = ap (λ t. quad (record { own = g; others = [] } ∷ []) t) (drop_all z) ∙ end g

    step : (s q g v : ℤ) → q ≡ g → pos 0 ≤ℤ s → (s +ℤ pos (2 ^ 60) *ℤ q) ≤ℤ (pos (2 ^ 60) *ℤ v) → g ≤ℤ v
    step s q g v e h k = mul_le_cancel g v (2 ^ 60) (omega arith)
        (le_by (g ∷ v ∷ s ∷ q ∷ []) (λ g v s q. (g ⊗ nat (2 ^ 60), v ⊗ nat (2 ^ 60), nat (2 ^ 60) ⊗ v ⊖ (s ⊕ nat (2 ^ 60) ⊗ q) ⊕ (s ⊕ nat (2 ^ 60) ⊗ (q ⊖ g))))
        refl (both_nn (less_nn k) (both_nn h (prod_nn (pos_nn (2 ^ 60)) (less_nn (le_eq (sym e)))))))

-- what is kept of an own entry that a step takes
pub d_range : (a : ℕ) → 2 ^ 20 ≤ a → a < 2 ^ 52 → (pos (2 ^ 20 - 1) ≤ℤ kept a) × (kept a <ℤ pos (2 ^ 52))
d_range a h k = (low_end a (ceil_div (pos a) (2 ^ 20)) h (ceil_near (pos a) (2 ^ 20) (omega arith)), high_end a (ceil_div (pos a) (2 ^ 20)) k (ceil_close (pos a) (2 ^ 20) (omega arith)))
  where
    low_end : (a : ℕ) (c : ℤ) → 2 ^ 20 ≤ a → (pos (2 ^ 20) *ℤ c) <ℤ (pos a +ℤ pos (2 ^ 20)) → pos (2 ^ 20 - 1) ≤ℤ (pos a -ℤ c)
    low_end a c h k = omega (arith, ints)

    high_end : (a : ℕ) (c : ℤ) → a < 2 ^ 52 → pos a ≤ℤ (pos (2 ^ 20) *ℤ c) → (pos a -ℤ c) <ℤ pos (2 ^ 52)
    high_end a c h k = omega (arith, ints)

-- ---- the second best is small
pub dot_nil : (r : List ℤ) → dot r [] ≡ pos 0
dot_nil [] = refl
dot_nil (x ∷ r) = refl

unit_at : (n : ℕ) (r : List ℤ) → len r ≡ len (zeros n ++ (pos 1 ∷ [])) → SmallList r → Small (dot r (zeros n ++ (pos 1 ∷ [])))
unit_at zero [] e s = (omega (arith, lins), omega (arith, lins))
unit_at zero (x ∷ r) e s = go x (dot r []) (dot_nil r) s.0
  where
    go : (x t : ℤ) → t ≡ pos 0 → Small x → Small (x *ℤ pos 1 +ℤ t)
    go x t e s = subst (λ (z : ℤ). Small z) (same_by (x ∷ []) (λ x. (x, x ⊗ nat 1 ⊕ nat 0)) refl ∙ ap (λ z. (x *ℤ pos 1) +ℤ z) (sym e)) s
unit_at (suc n) [] e s = (omega (arith, lins), omega (arith, lins))
unit_at (suc n) (x ∷ r) e s = subst (λ (z : ℤ). Small z) (go x (dot r (zeros n ++ (pos 1 ∷ [])))) (unit_at n r (len_tail (len r) (len (zeros n ++ (pos 1 ∷ []))) e) s.1)
  where
    go : (x t : ℤ) → t ≡ x *ℤ pos 0 +ℤ t
    go x t = same_by (t ∷ x ∷ []) (λ t x. (t, x ⊗ nat 0 ⊕ t)) refl

-- the value at 0, .., 0, 1
zero_value : (n : ℕ) (p : List Column) → SmallForm p → len p ≡ len (zeros n ++ (pos 1 ∷ [])) → quad p (zeros n ++ (pos 1 ∷ [])) <ℤ pos (2 ^ 52)
zero_value n [] s e = omega (arith, lins)
zero_value zero (c ∷ p) s e = go c.own (dot c.others []) (quad p []) (dot_nil c.others) (last p) s.0
  where
    last : (p : List Column) → quad p [] ≡ pos 0
    last [] = refl
    last (c ∷ p) = refl

    go : (o r q : ℤ) → r ≡ pos 0 → q ≡ pos 0 → Small o → (o *ℤ (pos 1 *ℤ pos 1) +ℤ pos 2 *ℤ (pos 1 *ℤ r) +ℤ q) <ℤ pos (2 ^ 52)
    go o r q e f s = subst (λ (z : ℤ). z <ℤ pos (2 ^ 52)) (same_by (o ∷ []) (λ o. (o, o ⊗ (nat 1 ⊗ nat 1) ⊕ nat 2 ⊗ (nat 1 ⊗ nat 0) ⊕ nat 0)) refl
        ∙ ap₂ (λ r q. o *ℤ (pos 1 *ℤ pos 1) +ℤ pos 2 *ℤ (pos 1 *ℤ r) +ℤ q) (sym e) (sym f)) s.1
zero_value (suc n) (c ∷ p) s e = subst (λ (z : ℤ). z <ℤ pos (2 ^ 52)) (go c.own (dot c.others v) (quad p v)) (zero_value n p s.2 (len_tail (len p) (len v) e))
  where
    v : List ℤ
    v = zeros n ++ (pos 1 ∷ [])

    go : (o r q : ℤ) → q ≡ o *ℤ (pos 0 *ℤ pos 0) +ℤ pos 2 *ℤ (pos 0 *ℤ r) +ℤ q
    go o r q = same_by (q ∷ o ∷ r ∷ []) (λ q o r. (q, o ⊗ (nat 0 ⊗ nat 0) ⊕ nat 2 ⊗ (nat 0 ⊗ r) ⊕ q)) refl

-- of n + 1 integers
pub small_second : (n : ℕ) (p : List Column) (z1 z2 : List ℤ) → SmallForm p → Shaped p → len p ≡ len (zeros (suc n) ++ (pos 1 ∷ []))
    → TwoLeast p (len (zeros (suc n))) z1 z2 → value p z2 <ℤ pos (2 ^ 54)
small_second n [] z1 z2 s f e t = absurd (len_apart (len (zeros n ++ (pos 1 ∷ []))) (len_nonneg (zeros n ++ (pos 1 ∷ []))) e)
small_second n (c ∷ p) [] z2 s f e t = absurd (len_apart (len (zeros n)) (len_nonneg (zeros n)) t.first)
small_second n (c ∷ p) (x ∷ z) z2 s f e t = by_lt_z x (pos 1)
    (λ (h : x <ℤ pos 1). under (value (c ∷ p) z2) (value (c ∷ p) (pos 1 ∷ zeros n))
    (second_value (c ∷ p) (len (zeros (suc n))) (x ∷ z) z2 (pos 1 ∷ zeros n) t refl (λ (i : (pos 1 ∷ zeros n) ≡ x ∷ z). one_not x h (head (pos 1) x (zeros n) z i))) one)
    (λ (h : pos 1 ≤ℤ x). under (value (c ∷ p) z2) (value (c ∷ p) (zeros (suc n)))
    (second_value (c ∷ p) (len (zeros (suc n))) (x ∷ z) z2 (zeros (suc n)) t refl
    (λ (i : (pos 0 ∷ zeros n) ≡ x ∷ z). zero_not x h (head (pos 0) x (zeros n) z i))) (wide (zero_value (suc n) (c ∷ p) s e)))
  where
    v : List ℤ
    v = zeros n ++ (pos 1 ∷ [])

    g : len p ≡ len v
    g = len_tail (len p) (len v) e

    head : (x y : ℤ) (s t : List ℤ) → (x ∷ s) ≡ y ∷ t → x ≡ y
    head x y s t e = cc

    one_not : (x : ℤ) → x <ℤ pos 1 → pos 1 ≡ x → ⊥
    one_not x h e = omega (arith, lins)

    zero_not : (x : ℤ) → pos 1 ≤ℤ x → pos 0 ≡ x → ⊥
    zero_not x h e = omega (arith, lins)

    under : (a b : ℤ) → a ≤ℤ b → b <ℤ pos (2 ^ 54) → a <ℤ pos (2 ^ 54)
    under a b h k = omega (arith, lins)

    wide : {a : ℤ} → a <ℤ pos (2 ^ 52) → a <ℤ pos (2 ^ 54)
    wide h = omega (arith, lins)

    sum3 : (o r q : ℤ) → o <ℤ pos (2 ^ 52) → r <ℤ pos (2 ^ 52) → q <ℤ pos (2 ^ 52) → (o *ℤ (pos 1 *ℤ pos 1) +ℤ pos 2 *ℤ (pos 1 *ℤ r) +ℤ q) <ℤ pos (2 ^ 54)
    sum3 o r q h₁ h₂ h₃ = strict {b = pos 1} (pos_one 1 (omega arith)) (le_by (o ∷ r ∷ q ∷ []) (λ o r q. (
      o ⊗ (nat 1 ⊗ nat 1) ⊕ nat 2 ⊗ (nat 1 ⊗ r) ⊕ q ⊕ nat 1,
      nat (2 ^ 54),
      nat (2 ^ 52) ⊖ (o ⊕ nat 1) ⊕ (nat 2 ⊗ (nat (2 ^ 52) ⊖ (r ⊕ nat 1)) ⊕ (nat (2 ^ 52) ⊖ (q ⊕ nat 1)) ⊕ nat 3),
    )) refl
        (both_nn (less_nn (later h₁)) (both_nn (both_nn (prod_nn (pos_nn 2) (less_nn (later h₂))) (less_nn (later h₃))) (pos_nn 3))))

    one : value (c ∷ p) (pos 1 ∷ zeros n) <ℤ pos (2 ^ 54)
    one = sum3 c.own (dot c.others v) (quad p v) s.0.1 (unit_at n c.others (f.0 ∙ g) s.1).1 (zero_value n p s.2 g)
