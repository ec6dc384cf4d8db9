-- Orders over ℤ by certificates: the greater side less the lesser is a sum of products of what is not negative.
use Rattle.std.proofs.Common.{◌≡◌, ℕ, zero, suc, List, [], ◌∷◌, ℤ, pos, ◌+ℤ◌, ◌-ℤ◌, ◌*ℤ◌, ◌≤ℤ◌, ◌<ℤ◌, arith, refl}
use Rattle.std.proofs.lemmas.Int.{by_lt_z}
use Rattle.whole_math.proofs.Ring.{ring, Ex, va, ko, ◌⊕◌, ◌⊖◌, ◌⊗◌, ev, norm}
use Rattle.whole_math.proofs.Order.{lins, mul_nn, add_nn, square_nn, diff_nn, mul_le_left}
use Rattle.whole_math.proofs.Inequalities.{pos_nn}

-- a hypothesis
infix 5 ◌≼◌
pub data Hy : Type 0 where
  ◌≼◌ : Ex → Ex → Hy

abbrev pub Given : List ℤ → List Hy → Type 0
Given r [] = Unit {0}
Given r ((a ≼ b) ∷ hs) = (ev r a ≤ℤ ev r b) × Given r hs

-- a certificate: hypotheses, whole numbers, squares, sums, products
infixl 6 ◌⊞◌
infixl 7 ◌⊠◌
pub data Ce : Type 0 where
  hy : ℕ → Ce
  nm : ℕ → Ce
  sq : Ex → Ce
  ◌⊞◌ : Ce → Ce → Ce
  ◌⊠◌ : Ce → Ce → Ce

-- past the end of the list a hypothesis is 0
abbrev pub gap_of : List Hy → ℕ → Ex
gap_of [] i = ko (pos 0)
gap_of ((a ≼ b) ∷ hs) zero = b ⊖ a
gap_of ((a ≼ b) ∷ hs) (suc i) = gap_of hs i

abbrev pub as_ex : List Hy → Ce → Ex
as_ex hs (hy i) = gap_of hs i
as_ex hs (nm n) = ko (pos n)
as_ex hs (sq e) = e ⊗ e
as_ex hs (a ⊞ b) = as_ex hs a ⊕ as_ex hs b
as_ex hs (a ⊠ b) = as_ex hs a ⊗ as_ex hs b

gap_nn : (r : List ℤ) (hs : List Hy) (i : ℕ) → Given r hs → pos 0 ≤ℤ ev r (gap_of hs i)
gap_nn r [] i g = pos_nn 0
gap_nn r ((a ≼ b) ∷ hs) zero g = diff_nn (ev r a) (ev r b) g.0
gap_nn r ((a ≼ b) ∷ hs) (suc i) g = gap_nn r hs i g.1

cert_nn : (r : List ℤ) (hs : List Hy) (d : Ce) → Given r hs → pos 0 ≤ℤ ev r (as_ex hs d)
cert_nn r hs (hy i) g = gap_nn r hs i g
cert_nn r hs (nm n) g = pos_nn n
cert_nn r hs (sq e) g = square_nn (ev r e)
cert_nn r hs (a ⊞ b) g = add_nn (ev r (as_ex hs a)) (ev r (as_ex hs b)) (cert_nn r hs a g) (cert_nn r hs b g)
cert_nn r hs (a ⊠ b) g = mul_nn (ev r (as_ex hs a)) (ev r (as_ex hs b)) (cert_nn r hs a g) (cert_nn r hs b g)

-- l ≤ u, where u - l is the certificate's value
pub cert : (r : List ℤ) (hs : List Hy) (l u : Ex) (d : Ce) → norm (u ⊖ l) ≡ norm (as_ex hs d) → Given r hs → ev r l ≤ℤ ev r u
cert r hs l u d e g = go (ev r l) (ev r u) (ev r (as_ex hs d)) (cert_nn r hs d g) (ring r (u ⊖ l) (as_ex hs d) e)
  where
    go : (a b c : ℤ) → pos 0 ≤ℤ c → b -ℤ a ≡ c → a ≤ℤ b
    go a b c h k = omega (arith, lins)

-- ---- a positive factor cancels
pub cancel : (c a b : ℤ) → pos 0 <ℤ c → (c *ℤ a) ≤ℤ (c *ℤ b) → a ≤ℤ b
cancel c a b h k = by_lt_z b a
    (λ l.
    let gap_positive : pos 1 ≤ℤ (a -ℤ b) = omega (arith, lins) in
    let factor_nonnegative : pos 0 ≤ℤ c = omega (arith, lins) in
    let factor_at_most : (c *ℤ pos 1) ≤ℤ (c *ℤ (a -ℤ b)) = mul_le_left c (pos 1) (a -ℤ b) factor_nonnegative gap_positive in
    let product_spread_out : c *ℤ (a -ℤ b) ≡ (c *ℤ a) -ℤ (c *ℤ b) = ring (c ∷ a ∷ b ∷ []) (va 0 ⊗ (va 1 ⊖ va 2)) ((va 0 ⊗ va 1) ⊖ (va 0 ⊗ va 2)) refl in
    let factor_times_one : c *ℤ pos 1 ≡ c = ring (c ∷ []) (va 0 ⊗ ko (pos 1)) (va 0) refl in
    absurd (omega (arith, lins)))
    (λ l. l)

pub weak : (a b : ℤ) → a <ℤ b → a ≤ℤ b
weak a b h = omega (arith, lins)

pub mul_positive : (a b : ℤ) → pos 0 <ℤ a → pos 0 <ℤ b → pos 0 <ℤ (a *ℤ b)
mul_positive a b h k = go (a *ℤ b) (mul_nn (a -ℤ pos 1) (b -ℤ pos 1) (omega (arith, lins)) (omega (arith, lins)))
    (ring (a ∷ b ∷ []) ((va 0 ⊖ ko (pos 1)) ⊗ (va 1 ⊖ ko (pos 1))) ((((va 0 ⊗ va 1) ⊖ va 0) ⊖ va 1) ⊕ ko (pos 1)) refl)
  where
    go : (z : ℤ) → pos 0 ≤ℤ ((a -ℤ pos 1) *ℤ (b -ℤ pos 1)) → (a -ℤ pos 1) *ℤ (b -ℤ pos 1) ≡ ((z -ℤ a) -ℤ b) +ℤ pos 1 → pos 0 <ℤ z
    go z p e = omega (arith, lins)

-- ---- squares
pub square_mono : (a b : ℤ) → pos 0 ≤ℤ (b +ℤ a) → a ≤ℤ b → (a *ℤ a) ≤ℤ (b *ℤ b)
square_mono a b h k = cert (a ∷ b ∷ []) ((ko (pos 0) ≼ (va 1 ⊕ va 0)) ∷ (va 0 ≼ va 1) ∷ []) (va 0 ⊗ va 0) (va 1 ⊗ va 1) (hy 0 ⊠ hy 1) refl (h, (k, tt))

pub square_root : (a b : ℤ) → pos 0 ≤ℤ b → (a *ℤ a) ≤ℤ (b *ℤ b) → a ≤ℤ b
square_root a b h k = by_lt_z b a
    (λ l.
    let next_at_most : (b +ℤ pos 1) ≤ℤ a = omega (arith, lins) in
    let square_above : ((b *ℤ b) +ℤ pos 1) ≤ℤ (a *ℤ a) =
    cert (a ∷ b ∷ []) ((va 1 ⊕ ko (pos 1) ≼ va 0) ∷ (ko (pos 0) ≼ va 1) ∷ []) ((va 1 ⊗ va 1) ⊕ ko (pos 1)) (va 0 ⊗ va 0)
    (hy 0 ⊠ hy 0 ⊞ nm 2 ⊠ hy 0 ⊠ hy 1 ⊞ nm 2 ⊠ hy 0 ⊞ nm 2 ⊠ hy 1) refl (next_at_most, (h, tt)) in
    absurd (omega (arith, lins)))
    (λ l. l)
