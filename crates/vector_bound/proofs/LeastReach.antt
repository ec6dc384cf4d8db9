-- The least number that is enough.
use Rattle.std.proofs.Common.{◌≡◌, ◌⊎◌, inl, inr, ◌^◌, [], ◌∷◌, ℤ, pos, ◌+ℤ◌, ◌-ℤ◌, ◌*ℤ◌, ◌≤ℤ◌, ◌<ℤ◌, ◌≤◌, unsigned_abs, to_z, of_z, FitsSigned, arith, refl, sym, ap, ap₂, ◌∙◌, subst}
use Rattle.std.specs.Int.{w64}
use Rattle.whole_math.proofs.Words.{as_w64}
use Rattle.std.proofs.lemmas.Int.{ints}
use Rattle.whole_math.proofs.Ring.{◌⊕◌, ◌⊖◌, ◌⊗◌}
use Rattle.whole_math.proofs.Order.{square_nn}
use Rattle.whole_math.proofs.Inequalities.{le_by, both_nn, prod_nn, less_nn, one_nn}
use Rattle.vector_bound.specs.declared.reaches.Range.{Range}
use Rattle.vector_bound.specs.Reaches.{IsFarEnough, IsRange, IsLeastReach}
use Rattle.vector_bound.proofs.Curvatures.{cancel_one}

-- what is enough stays so
pub enough_later : (mu l k y x : ℤ) → pos 0 ≤ℤ mu → pos 0 ≤ℤ k → pos 1 ≤ℤ y → y ≤ℤ x → IsFarEnough mu l k y → IsFarEnough mu l k x
enough_later mu l k y x i j h g e = le_by (mu ∷ l ∷ k ∷ y ∷ x ∷ []) (λ mu l k y x. (
  k ⊕ l ⊗ x,
  mu ⊗ (x ⊗ x),
  mu ⊗ (y ⊗ y) ⊖ (k ⊕ l ⊗ y) ⊕ ((x ⊖ y) ⊗ (mu ⊗ y ⊖ l) ⊕ (mu ⊗ y ⊗ (x ⊖ y) ⊕ mu ⊗ ((x ⊖ y) ⊗ (x ⊖ y)))),
)) refl (both_nn (less_nn e) (both_nn (prod_nn (less_nn g) (less_nn steep)) (both_nn (prod_nn (prod_nn i (one_nn h)) (less_nn g)) (prod_nn i (square_nn (x -ℤ y))))))
  where
    steep : l ≤ℤ (mu *ℤ y)
    steep = cancel_one y l (mu *ℤ y) h (le_by (mu ∷ l ∷ k ∷ y ∷ []) (λ mu l k y. (y ⊗ l, y ⊗ (mu ⊗ y), mu ⊗ (y ⊗ y) ⊖ (k ⊕ l ⊗ y) ⊕ k)) refl (both_nn (less_nn e) j))

-- a margin that is not negative is enough, and a negative one is not
pub enough_by : (mu l k x s w : ℤ) → w ≡ s → s ≡ mu *ℤ (x *ℤ x) -ℤ (k +ℤ l *ℤ x) → pos 0 ≤ℤ w → IsFarEnough mu l k x
enough_by mu l k x s w d e h = from (k +ℤ l *ℤ x) (mu *ℤ (x *ℤ x)) s w d e h
  where
    from : (a b s w : ℤ) → w ≡ s → s ≡ b -ℤ a → pos 0 ≤ℤ w → a ≤ℤ b
    from a b s w d e h = omega (arith, ints, d, e, h)

pub not_enough : (mu l k x s w : ℤ) → w ≡ s → s ≡ mu *ℤ (x *ℤ x) -ℤ (k +ℤ l *ℤ x) → w <ℤ pos 0 → IsFarEnough mu l k x → ⊥
not_enough mu l k x s w d e h g = from (k +ℤ l *ℤ x) (mu *ℤ (x *ℤ x)) s w d e h g
  where
    from : (a b s w : ℤ) → w ≡ s → s ≡ b -ℤ a → w <ℤ pos 0 → a ≤ℤ b → ⊥
    from a b s w d e h g = omega (arith, ints, d, e, h, g)

pub range_same : (mu l k mu' l' k' : ℤ) (r : Range) → mu ≡ mu' → l ≡ l' → k ≡ k' → IsRange mu l k r → IsRange mu' l' k' r
range_same mu l k mu' l' k' r d e f is = subst (λ (x : ℤ). IsRange x l' k' r) d (subst (λ (x : ℤ). IsRange mu x k' r) e (subst (λ (x : ℤ). IsRange mu l x r) f is))

pub least_of : (mu l k : ℤ) (r : Range) → pos 0 ≤ℤ mu → pos 0 ≤ℤ k → IsRange mu l k r → r.high ≤ℤ (r.low +ℤ pos 1) → IsLeastReach mu l k r.high
least_of mu l k r i j is one = record {
  some = some r.low r.high is.from is.order;
  to = is.to;
  enough = is.enough;
  least = λ y h g e. by_low y h (below y r.low r.high one g) e is.before;
}
  where
    some : (a b : ℤ) → pos 0 ≤ℤ a → a <ℤ b → pos 1 ≤ℤ b
    some a b h g = omega (arith, ints)

    below : (y a b : ℤ) → b ≤ℤ (a +ℤ pos 1) → y <ℤ b → y ≤ℤ a
    below y a b h g = omega (arith, ints)

    nothing : (y a : ℤ) → pos 1 ≤ℤ y → y ≤ℤ a → a ≡ pos 0 → ⊥
    nothing y a h g e = omega (arith, ints, h, g, e)

    by_low : (y : ℤ) → pos 1 ≤ℤ y → y ≤ℤ r.low → IsFarEnough mu l k y → (r.low ≡ pos 0) ⊎ (IsFarEnough mu l k r.low → ⊥) → ⊥
    by_low y h g e (inl z) = nothing y r.low h g z
    by_low y h g e (inr n) = n (enough_later mu l k y r.low i j h g e)

-- ---- words of 64 bits
abbrev pub short : ℤ → ℤ
short x = to_z w64 (of_z w64 x)

pub short_word : (x : ℤ) → pos 0 ≤ℤ x → x ≤ℤ pos (2 ^ 30) → short x ≡ x
short_word x h k = as_w64 x (within x h k)
  where
    within : (x : ℤ) → pos 0 ≤ℤ x → x ≤ℤ pos (2 ^ 30) → unsigned_abs x ≤ 2 ^ 62
    within x h k = omega (arith, ints, h, k)

pub between : (a b : ℤ) → a <ℤ b → b ≤ℤ pos (2 ^ 30) → a ≤ℤ pos (2 ^ 30)
between a b h k = omega (arith, ints, h, k)

pub after : (a b : ℤ) → pos 0 ≤ℤ a → a <ℤ b → pos 0 ≤ℤ b
after a b h k = omega (arith, ints, h, k)

pub over_same : (mu l k x mu' l' k' x' : ℤ) → mu' ≡ mu → l' ≡ l → k' ≡ k → x' ≡ x → mu' *ℤ (x' *ℤ x') -ℤ (k' +ℤ l' *ℤ x') ≡ mu *ℤ (x *ℤ x) -ℤ (k +ℤ l *ℤ x)
over_same mu l k x mu' l' k' x' d e f g = ap₂ (λ a b. a -ℤ b) (ap₂ (λ a b. a *ℤ (b *ℤ b)) d g) (ap₂ (λ a b. a +ℤ b) f (ap₂ (λ a b. a *ℤ b) e g))

pub in_words : (mu l k a b a' b' : ℤ) → a' ≡ a → b' ≡ b → IsRange mu l k (record { low = a; high = b }) → IsRange mu l k (record { low = a'; high = b' })
in_words mu l k a b a' b' d e is = record {
  from = subst (λ (x : ℤ). pos 0 ≤ℤ x) (sym d) is.from;
  order = ordered a b a' b' d e is.order;
  to = subst (λ (x : ℤ). x ≤ℤ pos (2 ^ 30)) (sym e) is.to;
  enough = subst (λ (x : ℤ). IsFarEnough mu l k x) (sym e) is.enough;
  before = subst (λ (x : ℤ). (x ≡ pos 0) ⊎ (IsFarEnough mu l k x → ⊥)) (sym d) is.before;
}
  where
    ordered : (a b a' b' : ℤ) → a' ≡ a → b' ≡ b → a <ℤ b → a' <ℤ b'
    ordered a b a' b' d e h = omega (arith, ints, d, e, h)

pub apart_word : (a b : ℤ) → pos 0 ≤ℤ a → a <ℤ b → b ≤ℤ pos (2 ^ 30) → short b -ℤ short a ≡ b -ℤ a
apart_word a b h g k = ap₂ (λ x y. x -ℤ y) (short_word b (after a b h g) k) (short_word a h (between a b g k))

pub apart_fits : (a b : ℤ) → pos 0 ≤ℤ a → a <ℤ b → b ≤ℤ pos (2 ^ 30) → FitsSigned w64 (short b -ℤ short a)
apart_fits a b h g k = subst (λ (x : ℤ). FitsSigned w64 x) (sym (apart_word a b h g k)) (fits a b h g k)
  where
    fits : (a b : ℤ) → pos 0 ≤ℤ a → a <ℤ b → b ≤ℤ pos (2 ^ 30) → FitsSigned w64 (b -ℤ a)
    fits a b h g k = omega (arith, ints, h, g, k)

pub apart_short : (a b : ℤ) → pos 0 ≤ℤ a → a <ℤ b → b ≤ℤ pos (2 ^ 30) → short (short b -ℤ short a) ≡ b -ℤ a
apart_short a b h g k = ap (λ x. short x) (apart_word a b h g k) ∙ as_w64 (b -ℤ a) (within a b h g k)
  where
    within : (a b : ℤ) → pos 0 ≤ℤ a → a <ℤ b → b ≤ℤ pos (2 ^ 30) → unsigned_abs (b -ℤ a) ≤ 2 ^ 62
    within a b h g k = omega (arith, ints, h, g, k)
