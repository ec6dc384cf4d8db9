-- A form of three columns is at least a multiple of the square of each entry.
use Rattle.std.proofs.Common.{◌≡◌, zero, suc, [], ◌∷◌, ℤ, pos, negsuc, ◌+ℤ◌, ◌-ℤ◌, ◌*ℤ◌, ◌≤ℤ◌, ◌<ℤ◌, unsigned_abs, arith, refl, sym, subst}
use Rattle.std.specs.Int.{int_max}
use Rattle.whole_math.proofs.Absolute.{pos_abs, abs_pos}
use Rattle.whole_math.proofs.Extremes.{max_is}
use Rattle.whole_math.proofs.Rounding.{floor_le}
use Rattle.whole_math.proofs.Ring.{◌⊕◌, ◌⊖◌, ◌⊗◌}
use Rattle.whole_math.proofs.Order.{lins, square_nn, mul_le_cancel}
use Rattle.whole_math.proofs.Inequalities.{le_by, both_nn, prod_nn, less_nn, one_nn, le_trans_ℤ, same_by, nat}
use Rattle.vector_bound.specs.Curvatures.{three_columns, determinant, minor, curvature_of, IsCurvatureOf}

pub cancel_one : (a x y : ℤ) → pos 1 ≤ℤ a → (a *ℤ x) ≤ℤ (a *ℤ y) → x ≤ℤ y
cancel_one (negsuc a) x y h k = absurd (omega (arith, lins))
cancel_one (pos a) x y h k = mul_le_cancel x y a (omega (arith, lins)) (le_by (x ∷ pos a ∷ y ∷ []) (λ x a y. (x ⊗ a, y ⊗ a, a ⊗ y ⊖ a ⊗ x)) refl (less_nn k))

-- the third entry, by two squares
third : (a b c f g h x y z : ℤ) → pos 1 ≤ℤ a → pos 0 ≤ℤ minor a b f → (determinant a b c f g h *ℤ (z *ℤ z)) ≤ℤ (minor a b f *ℤ three_columns a b c f g h x y z)
third a b c f g h x y z i j = cancel_one a (determinant a b c f g h *ℤ (z *ℤ z)) (minor a b f *ℤ three_columns a b c f g h x y z) i
    (le_by (a ∷ b ∷ c ∷ f ∷ g ∷ h ∷ x ∷ y ∷ z ∷ []) (λ a b c f g h x y z. (
      a ⊗ ((a ⊗ (b ⊗ c ⊖ h ⊗ h) ⊖ f ⊗ (f ⊗ c ⊖ h ⊗ g) ⊕ g ⊗ (f ⊗ h ⊖ b ⊗ g)) ⊗ (z ⊗ z)),
      a ⊗ ((a ⊗ b ⊖ f ⊗ f) ⊗ (a ⊗ (x ⊗ x) ⊕ nat 2 ⊗ (x ⊗ (f ⊗ y ⊕ g ⊗ z)) ⊕ (b ⊗ (y ⊗ y) ⊕ nat 2 ⊗ (y ⊗ (h ⊗ z)) ⊕ c ⊗ (z ⊗ z)))),
      (a ⊗ b ⊖ f ⊗ f) ⊗ ((a ⊗ x ⊕ f ⊗ y ⊕ g ⊗ z) ⊗ (a ⊗ x ⊕ f ⊗ y ⊕ g ⊗ z))
          ⊕ ((a ⊗ b ⊖ f ⊗ f) ⊗ y ⊕ (a ⊗ h ⊖ f ⊗ g) ⊗ z) ⊗ ((a ⊗ b ⊖ f ⊗ f) ⊗ y ⊕ (a ⊗ h ⊖ f ⊗ g) ⊗ z),
    )) refl (both_nn (prod_nn j (square_nn (a *ℤ x +ℤ f *ℤ y +ℤ g *ℤ z))) (square_nn ((a *ℤ b -ℤ f *ℤ f) *ℤ y +ℤ (a *ℤ h -ℤ f *ℤ g) *ℤ z))))

second : (a b c f g h x y z : ℤ) → pos 1 ≤ℤ a → pos 0 ≤ℤ minor a c g → (determinant a b c f g h *ℤ (y *ℤ y)) ≤ℤ (minor a c g *ℤ three_columns a b c f g h x y z)
second a b c f g h x y z i j = le_by (a ∷ b ∷ c ∷ f ∷ g ∷ h ∷ x ∷ y ∷ z ∷ []) (λ a b c f g h x y z. (
  (a ⊗ (b ⊗ c ⊖ h ⊗ h) ⊖ f ⊗ (f ⊗ c ⊖ h ⊗ g) ⊕ g ⊗ (f ⊗ h ⊖ b ⊗ g)) ⊗ (y ⊗ y),
  (a ⊗ c ⊖ g ⊗ g) ⊗ (a ⊗ (x ⊗ x) ⊕ nat 2 ⊗ (x ⊗ (f ⊗ y ⊕ g ⊗ z)) ⊕ (b ⊗ (y ⊗ y) ⊕ nat 2 ⊗ (y ⊗ (h ⊗ z)) ⊕ c ⊗ (z ⊗ z))),
  (a ⊗ c ⊖ g ⊗ g) ⊗ (a ⊗ (x ⊗ x) ⊕ nat 2 ⊗ (x ⊗ (g ⊗ z ⊕ f ⊗ y)) ⊕ (c ⊗ (z ⊗ z) ⊕ nat 2 ⊗ (z ⊗ (h ⊗ y)) ⊕ b ⊗ (y ⊗ y)))
      ⊖ (a ⊗ (c ⊗ b ⊖ h ⊗ h) ⊖ g ⊗ (g ⊗ b ⊖ h ⊗ f) ⊕ f ⊗ (g ⊗ h ⊖ c ⊗ f)) ⊗ (y ⊗ y),
)) refl (less_nn (third a c b g f h x z y i j))

first : (a b c f g h x y z : ℤ) → pos 1 ≤ℤ b → pos 0 ≤ℤ minor b c h → (determinant a b c f g h *ℤ (x *ℤ x)) ≤ℤ (minor b c h *ℤ three_columns a b c f g h x y z)
first a b c f g h x y z i j = le_by (a ∷ b ∷ c ∷ f ∷ g ∷ h ∷ x ∷ y ∷ z ∷ []) (λ a b c f g h x y z. (
  (a ⊗ (b ⊗ c ⊖ h ⊗ h) ⊖ f ⊗ (f ⊗ c ⊖ h ⊗ g) ⊕ g ⊗ (f ⊗ h ⊖ b ⊗ g)) ⊗ (x ⊗ x),
  (b ⊗ c ⊖ h ⊗ h) ⊗ (a ⊗ (x ⊗ x) ⊕ nat 2 ⊗ (x ⊗ (f ⊗ y ⊕ g ⊗ z)) ⊕ (b ⊗ (y ⊗ y) ⊕ nat 2 ⊗ (y ⊗ (h ⊗ z)) ⊕ c ⊗ (z ⊗ z))),
  (b ⊗ c ⊖ h ⊗ h) ⊗ (b ⊗ (y ⊗ y) ⊕ nat 2 ⊗ (y ⊗ (h ⊗ z ⊕ f ⊗ x)) ⊕ (c ⊗ (z ⊗ z) ⊕ nat 2 ⊗ (z ⊗ (g ⊗ x)) ⊕ a ⊗ (x ⊗ x)))
      ⊖ (b ⊗ (c ⊗ a ⊖ g ⊗ g) ⊖ h ⊗ (h ⊗ a ⊖ g ⊗ f) ⊕ f ⊗ (h ⊗ g ⊖ c ⊗ f)) ⊗ (x ⊗ x),
)) refl (less_nn (third b c a h f g y z x i j))

-- mu times the square of each entry
pub record AtLeastSquares (mu q x y z : ℤ) : Type 0 where
  pub x_square : (mu *ℤ (x *ℤ x)) ≤ℤ q
  pub y_square : (mu *ℤ (y *ℤ y)) ≤ℤ q
  pub z_square : (mu *ℤ (z *ℤ z)) ≤ℤ q

pub least_squares : (a b c f g h m mu x y z : ℤ) → pos 1 ≤ℤ a → pos 1 ≤ℤ b → pos 1 ≤ℤ minor a b f → pos 1 ≤ℤ minor a c g → pos 1 ≤ℤ minor b c h →
    minor a b f ≤ℤ m → minor a c g ≤ℤ m → minor b c h ≤ℤ m → pos 0 ≤ℤ mu → (mu *ℤ m) ≤ℤ determinant a b c f g h → AtLeastSquares mu (three_columns a b c f g h x y z) x y z
least_squares a b c f g h m mu x y z i j k₀ k₁ k₂ l₀ l₁ l₂ n o = record {
  x_square = by_minor mu m d (minor b c h) q (x *ℤ x) m_one (square_nn x) o q_nn l₂ (first a b c f g h x y z j (one_nn k₂));
  y_square = by_minor mu m d (minor a c g) q (y *ℤ y) m_one (square_nn y) o q_nn l₁ (second a b c f g h x y z i (one_nn k₁));
  z_square = by_minor mu m d (minor a b f) q (z *ℤ z) m_one (square_nn z) o q_nn l₀ (third a b c f g h x y z i (one_nn k₀));
}
  where
    d : ℤ
    d = determinant a b c f g h

    q : ℤ
    q = three_columns a b c f g h x y z

    m_one : pos 1 ≤ℤ m
    m_one = le_trans_ℤ k₀ l₀

    d_nn : pos 0 ≤ℤ d
    d_nn = le_trans_ℤ (prod_nn n (one_nn m_one)) o

    zero : (t : ℤ) → t *ℤ pos 0 ≡ pos 0
    zero t = same_by (t ∷ []) (λ t. (t ⊗ nat 0, nat 0)) refl

    q_nn : pos 0 ≤ℤ q
    q_nn = cancel_one (minor a b f) (pos 0) q k₀ (rw (zero (minor a b f)) (le_trans_ℤ (prod_nn d_nn (square_nn z)) (third a b c f g h x y z i (one_nn k₀))))

    by_minor : (mu m d k q s : ℤ) → pos 1 ≤ℤ m → pos 0 ≤ℤ s → (mu *ℤ m) ≤ℤ d → pos 0 ≤ℤ q → k ≤ℤ m → (d *ℤ s) ≤ℤ (k *ℤ q) → (mu *ℤ s) ≤ℤ q
    by_minor mu m d k q s h₀ h₁ h₂ h₃ h₄ h₅ = cancel_one m (mu *ℤ s) q h₀ (le_by (mu ∷ m ∷ d ∷ k ∷ q ∷ s ∷ []) (λ mu m d k q s. (
      m ⊗ (mu ⊗ s),
      m ⊗ q,
      (d ⊖ mu ⊗ m) ⊗ s ⊕ (k ⊗ q ⊖ d ⊗ s) ⊕ (m ⊖ k) ⊗ q,
    )) refl (both_nn (both_nn (prod_nn (less_nn h₂) h₁) (less_nn h₅)) (prod_nn (less_nn h₄) h₃)))

-- the same of the determinant over the greatest minor
pub curved_squares : (a b c f g h mu x y z : ℤ) → pos 1 ≤ℤ a → pos 1 ≤ℤ b → pos 1 ≤ℤ mu → IsCurvatureOf a b c f g h mu → AtLeastSquares mu (three_columns a b c f g h x y z) x y z
curved_squares a b c f g h mu x y z i j k is = least_squares a b c f g h greatest mu x y z i j is.first is.second is.third (le_trans_ℤ two.0 all.0) (le_trans_ℤ two.1 all.0) all.1 (one_nn k) quotient
  where
    pair : ℤ
    pair = int_max (minor a b f) (minor a c g)

    greatest : ℤ
    greatest = int_max pair (minor b c h)

    two : (minor a b f ≤ℤ pair) × (minor a c g ≤ℤ pair)
    two = max_is (minor a b f) (minor a c g)

    all : (pair ≤ℤ greatest) × (minor b c h ≤ℤ greatest)
    all = max_is pair (minor b c h)

    greatest_one : pos 1 ≤ℤ greatest
    greatest_one = le_trans_ℤ is.third all.1

    positive : (a : ℤ) → pos 1 ≤ℤ a → pos 0 <ℤ a
    positive a h = omega (arith, lins)

    quotient : (mu *ℤ greatest) ≤ℤ determinant a b c f g h
    quotient = subst (λ (m : ℤ). (m *ℤ greatest) ≤ℤ determinant a b c f g h) (sym is.value)
        (subst (λ (p : ℤ). (curvature_of a b c f g h *ℤ p) ≤ℤ determinant a b c f g h) (pos_abs greatest (one_nn greatest_one))
        (floor_le (determinant a b c f g h) (unsigned_abs greatest) (abs_pos greatest (positive greatest greatest_one))))

-- at the first entry alone
pub below_first : (a b c f g h mu : ℤ) → (mu *ℤ (pos 1 *ℤ pos 1)) ≤ℤ three_columns a b c f g h (pos 1) (pos 0) (pos 0) → mu ≤ℤ a
below_first a b c f g h mu s = le_by (mu ∷ a ∷ b ∷ c ∷ f ∷ g ∷ h ∷ []) (λ mu a b c f g h. (
  mu,
  a,
  a ⊗ (nat 1 ⊗ nat 1) ⊕ nat 2 ⊗ (nat 1 ⊗ (f ⊗ nat 0 ⊕ g ⊗ nat 0)) ⊕ (b ⊗ (nat 0 ⊗ nat 0) ⊕ nat 2 ⊗ (nat 0 ⊗ (h ⊗ nat 0)) ⊕ c ⊗ (nat 0 ⊗ nat 0)) ⊖ mu ⊗ (nat 1 ⊗ nat 1),
)) refl (less_nn s)

-- an own entry beside a positive one, where their minor is positive
pub other_own : (a c g : ℤ) → pos 1 ≤ℤ a → pos 1 ≤ℤ minor a c g → pos 1 ≤ℤ c
other_own a c g h k = above c (λ n. none n)
  where
    above : (c : ℤ) → (c ≤ℤ pos 0 → ⊥) → pos 1 ≤ℤ c
    above (negsuc n) none = absurd (none (omega (arith, lins)))
    above (pos zero) none = absurd (none (omega (arith, lins)))
    above (pos (suc n)) none = omega (arith, lins)

    against : (m : ℤ) → pos 1 ≤ℤ m → m ≤ℤ pos 0 → ⊥
    against m h k = omega (arith, lins)

    none : c ≤ℤ pos 0 → ⊥
    none n = against (minor a c g) k (le_by (a ∷ c ∷ g ∷ []) (λ a c g. (a ⊗ c ⊖ g ⊗ g, nat 0, a ⊗ (nat 0 ⊖ c) ⊕ g ⊗ g)) refl (both_nn (prod_nn (one_nn h) (less_nn n)) (square_nn g)))
