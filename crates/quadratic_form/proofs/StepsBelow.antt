-- What the steps together give up.
use Rattle.std.proofs.Common.{◌≡◌, ℕ, zero, suc, ◌^◌, ◌<◌, Bool, true, false, int_lt, List, [], ◌∷◌, drop, ℤ, pos, ◌+ℤ◌, ◌*ℤ◌, ◌≤ℤ◌, Ok, Err, unsigned_abs, arith, sym, ap, ◌∙◌, refl, subst}
use Rattle.std.proofs.lemmas.Int.{ints}
use Rattle.whole_math.proofs.Ring.{◌⊕◌, ◌⊖◌, ◌⊗◌}
use Rattle.whole_math.proofs.Order.{lins, square_nn, mul_le_cancel}
use Rattle.whole_math.proofs.Inequalities.{le_by, both_nn, prod_nn, less_nn, nat}
use Rattle.quadratic_form.proofs.EliminationStep.{step_below, kept_nonneg, next_len, next_shaped}
use Rattle.quadratic_form.specs.Forms.{Column, Shaped, quad}
use Rattle.quadratic_form.specs.Elimination.{factors, kept, next, Factor, squares, all_small, form_small, step, with_factor, steps, weak, wide_factor, wide_entry, StepAnswer, StepsAnswer}
use Rattle.whole_math.proofs.Vectors.{len_nonneg, len_tail, len_apart}
use Rattle.whole_math.specs.Vectors.{len, dot}

-- what a step answers where it answers
pub record Taken (c : Column) (m : List Column) (p : Factor × List Column) : Type 0 where
  pub pivot : pos (2 ^ 20) ≤ℤ c.own
  pub positive : 0 < unsigned_abs c.own
  pub own : c.own ≡ pos (unsigned_abs c.own)
  pub d : p.0.d ≡ kept (unsigned_abs c.own)
  pub l : p.0.l ≡ factors (unsigned_abs c.own) c.others
  pub left : p.1 ≡ next (unsigned_abs c.own) (len c.others) c.others m
  pub small_factors : all_small p.0.l ≡ true
  pub small_left : form_small p.1 ≡ true

pub step_taken : (j : ℕ) (c : Column) (m : List Column) (p : Factor × List Column) → step j c m ≡ Ok p → Taken c m p
step_taken j c m p e = first (int_lt c.own (pos (2 ^ 20))) refl e
  where
    a : ℕ
    a = unsigned_abs c.own

    l : List ℤ
    l = factors a c.others

    rest : List Column
    rest = next a (len c.others) c.others m

    large : (x : ℤ) → int_lt x (pos (2 ^ 20)) ≡ false → (pos (2 ^ 20) ≤ℤ x) × (0 < unsigned_abs x) × (x ≡ pos (unsigned_abs x))
    large x e = (omega (arith, ints), omega (arith, ints), omega (arith, ints))

    last : int_lt c.own (pos (2 ^ 20)) ≡ false → all_small l ≡ true → (t : Bool) → form_small rest ≡ t →
        elim t as (λ b. StepAnswer) [ false ↦ Err wide_entry | true ↦ Ok (record { d = kept a; l = l }, rest) ] ≡ Ok p → Taken c m p
    last o s false n e = absurd cc
    last o s true n e =
        let outcome : (Factor × List Column) = (record { d = kept a; l = l }, rest) in
        let same_outcome : outcome ≡ p = cc in
        let pivot_is_large : (pos (2 ^ 20) ≤ℤ c.own) × (0 < unsigned_abs c.own) × (c.own ≡ pos (unsigned_abs c.own)) = large c.own o in
        subst (λ (z : Factor × List Column). Taken c m z) same_outcome (record { pivot = pivot_is_large.0; positive = pivot_is_large.1; own = pivot_is_large.2; d = refl; l = refl; left = refl; small_factors = s; small_left = n })

    second : int_lt c.own (pos (2 ^ 20)) ≡ false → (t : Bool) → all_small l ≡ t →
        elim t as (λ b. StepAnswer) [
          | false ↦ Err wide_factor
          | true ↦ elim (form_small rest) [ false ↦ Err wide_entry | true ↦ Ok (record { d = kept a; l = l }, rest) ]
        ] ≡ Ok p → Taken c m p
    second o false s e = absurd cc
    second o true s e = last o s (form_small rest) refl e

    first : (t : Bool) → int_lt c.own (pos (2 ^ 20)) ≡ t →
        elim t as (λ b. StepAnswer) [
          | true ↦ Err (weak j c.own)
          | false ↦ elim (all_small l)
              [ false ↦ Err wide_factor | true ↦ elim (form_small rest) [ false ↦ Err wide_entry | true ↦ Ok (record { d = kept a; l = l }, rest) ] ]
        ] ≡ Ok p → Taken c m p
    first true o e = absurd cc
    first false o e = second o (all_small l) refl e

taken_below : (c : Column) (m : List Column) (p : Factor × List Column) (x : ℤ) (v : List ℤ) → Taken c m p → Shaped (c ∷ m) → len m ≡ len v →
    (p.0.d *ℤ ((pos (2 ^ 30) *ℤ x +ℤ dot p.0.l v) *ℤ (pos (2 ^ 30) *ℤ x +ℤ dot p.0.l v)) +ℤ pos (2 ^ 60) *ℤ quad p.1 v) ≤ℤ (pos (2 ^ 60) *ℤ quad (c ∷ m) (x ∷ v))
taken_below c m p x v t s e = rw (t.d, t.l, t.left, t.own) (step_below (unsigned_abs c.own) c.others m x v t.positive s.0 s.1 e)

taken_shaped : (c : Column) (m : List Column) (p : Factor × List Column) → Taken c m p → Shaped (c ∷ m) → Shaped p.1
taken_shaped c m p t s = subst (λ (z : List Column). Shaped z) (sym t.left) (next_shaped (unsigned_abs c.own) (len c.others) c.others m s.0 s.1)

taken_len : (c : Column) (m : List Column) (p : Factor × List Column) → Taken c m p → Shaped (c ∷ m) → len p.1 ≡ len m
taken_len c m p t s = ap (λ z. len z) t.left ∙ next_len (unsigned_abs c.own) (len c.others) c.others m s.0

-- the squares that k steps took, and the form that they left, stay below the form
abbrev pub Covered : List Column → ℕ → List ℤ → List Factor × List Column → Type 0
Covered a k x p = (pos 0 ≤ℤ squares p.0 x) × ((squares p.0 x +ℤ pos (2 ^ 60) *ℤ quad p.1 (drop k x)) ≤ℤ (pos (2 ^ 60) *ℤ quad a x))

pub steps_below : (j k : ℕ) (a : List Column) (x : List ℤ) (p : List Factor × List Column) → steps j k a ≡ Ok p → Shaped a → len a ≡ len x → Covered a k x p
steps_below j zero a x p e s f =
    let outcome : (List Factor × List Column) = ([], a) in
    let same_outcome : outcome ≡ p = cc in
    subst (λ (z : List Factor × List Column). Covered a 0 x z) same_outcome (omega (arith, lins), none (quad a x))
  where
    none : (q : ℤ) → (pos 0 +ℤ pos (2 ^ 60) *ℤ q) ≤ℤ (pos (2 ^ 60) *ℤ q)
    none q = le_by (q ∷ []) (λ q. (nat 0 ⊕ nat (2 ^ 60) ⊗ q, nat (2 ^ 60) ⊗ q, nat 0 ⊗ nat 0)) refl (square_nn (pos 0))
steps_below j (suc k) [] [] p e s f =
    let outcome : (List Factor × List Column) = ([], []) in
    let same_outcome : outcome ≡ p = cc in
    subst (λ (z : List Factor × List Column). Covered [] (suc k) [] z) same_outcome (omega (arith, lins), omega (arith, lins))
steps_below j (suc k) [] (x ∷ v) p e s f = absurd (len_apart (len v) (len_nonneg v) f)
steps_below j (suc k) (c ∷ m) [] p e s f = absurd (len_apart (len m) (len_nonneg m) (sym f))
steps_below j (suc k) (c ∷ m) (x ∷ v) p e s f =
    first (step j c m) refl (λ b q. steps_below (suc j) k b v q) e
  where
    g : len m ≡ len v
    g = len_tail (len m) (len v) f

    both : (d y w z t b : ℤ) → (d *ℤ (y *ℤ y) +ℤ pos (2 ^ 60) *ℤ w) ≤ℤ b → pos 0 ≤ℤ d → pos 0 ≤ℤ t → (t +ℤ pos (2 ^ 60) *ℤ z) ≤ℤ (pos (2 ^ 60) *ℤ w)
        → (pos 0 ≤ℤ (d *ℤ (y *ℤ y) +ℤ t)) × ((d *ℤ (y *ℤ y) +ℤ t +ℤ pos (2 ^ 60) *ℤ z) ≤ℤ b)
    both d y w z t b h₀ h₁ h₂ h₃ = (
      both_nn (prod_nn h₁ (square_nn y)) h₂,
      le_by (d ∷ y ∷ t ∷ z ∷ b ∷ w ∷ [])
          (λ d y t z b w. (d ⊗ (y ⊗ y) ⊕ t ⊕ nat (2 ^ 60) ⊗ z, b, b ⊖ (d ⊗ (y ⊗ y) ⊕ nat (2 ^ 60) ⊗ w) ⊕ (nat (2 ^ 60) ⊗ w ⊖ (t ⊕ nat (2 ^ 60) ⊗ z)))) refl
          (both_nn (less_nn h₀) (less_nn h₃)),
    )

    done : (u : Factor × List Column) (q : List Factor × List Column) → Taken c m u → Covered u.1 k v q → Covered (c ∷ m) (suc k) (x ∷ v) (u.0 ∷ q.0, q.1)
    done u q t ih = both u.0.d (pos (2 ^ 30) *ℤ x +ℤ dot u.0.l v) (quad u.1 v) (quad q.1 (drop k v)) (squares q.0 v) (pos (2 ^ 60) *ℤ quad (c ∷ m) (x ∷ v))
        (taken_below c m u x v t s g) (subst (λ (z : ℤ). pos 0 ≤ℤ z) (sym t.d) (kept_nonneg (unsigned_abs c.own))) ih.0 ih.1

    second : (u : Factor × List Column) → Taken c m u → (r : StepsAnswer) →
        ((q : List Factor × List Column) → r ≡ Ok q → Covered u.1 k v q) → with_factor u.0 r ≡ Ok p → Covered (c ∷ m) (suc k) (x ∷ v) p
    second u t (Err i) ih e = absurd cc
    second u t (Ok q) ih e =
        let longer_outcome : (List Factor × List Column) = (u.0 ∷ q.0, q.1) in
        let same_outcome : longer_outcome ≡ p = cc in
        subst (λ (z : List Factor × List Column). Covered (c ∷ m) (suc k) (x ∷ v) z) same_outcome (done u q t (ih q refl))

    first : (r : StepAnswer) → step j c m ≡ r →
        ((b : List Column) (q : List Factor × List Column) → steps (suc j) k b ≡ Ok q → Shaped b → len b ≡ len v → Covered b k v q) →
        elim r as (λ t. StepsAnswer) [ Ok u ↦ with_factor u.0 (steps (suc j) k u.1) | Err i ↦ Err i ] ≡ Ok p → Covered (c ∷ m) (suc k) (x ∷ v) p
    first (Err i) o ih e = absurd cc
    first (Ok u) o ih e =
        let is_taken : Taken c m u = step_taken j c m u o in
        second u is_taken (steps (suc j) k u.1) (λ q i. ih u.1 q i (taken_shaped c m u is_taken s) (taken_len c m u is_taken s ∙ g)) e

-- the form that is left after k steps bounds the form from below
pub front_below : (j k : ℕ) (a : List Column) (x : List ℤ) (p : List Factor × List Column) → steps j k a ≡ Ok p → Shaped a → len a ≡ len x → quad p.1 (drop k x) ≤ℤ quad a x
front_below j k a x p e s f = go (squares p.0 x) (quad p.1 (drop k x)) (quad a x) (steps_below j k a x p e s f).0 (steps_below j k a x p e s f).1
  where
    go : (t z w : ℤ) → pos 0 ≤ℤ t → (t +ℤ pos (2 ^ 60) *ℤ z) ≤ℤ (pos (2 ^ 60) *ℤ w) → z ≤ℤ w
    go t z w h k = mul_le_cancel z w (2 ^ 60) (omega arith)
        (le_by (z ∷ w ∷ t ∷ []) (λ z w t. (z ⊗ nat (2 ^ 60), w ⊗ nat (2 ^ 60), nat (2 ^ 60) ⊗ w ⊖ (t ⊕ nat (2 ^ 60) ⊗ z) ⊕ t)) refl (both_nn (less_nn k) h))
