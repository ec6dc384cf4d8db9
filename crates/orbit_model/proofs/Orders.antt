-- Orders between rationals by certificates, and of roots.
use Rattle.std.proofs.Common.{◌≡◌, List, [], ℤ, pos, ◌*ℤ◌, ◌≤ℤ◌, ◌∷◌, arith, refl}
use Rattle.std.proofs.lemmas.Int.{ints}
use Rattle.whole_math.proofs.Ring.{Ex, ◌⊕◌, ◌⊖◌, ◌⊗◌, norm}
use Rattle.whole_math.proofs.Order.{mul_nn}
use Rattle.whole_math.proofs.Inequalities.{le_by, less_nn, pos_nn}
use Rattle.whole_math.proofs.Certificates.{Hy, Ce, as_ex, square_root}
use Rattle.whole_math.specs.Rational.{Rational, ◌≤ʳ◌, of_whole, ◌*ʳ◌}
use Rattle.whole_math.proofs.RationalIdentities.{ev_r, balanced}
use Rattle.whole_math.proofs.RationalOrders.{AreGiven, combined, order_r}
pub use Rattle.whole_math.proofs.RationalOrders.{cancel_r}

-- without equations
pub cert_r : (r : List Rational) (hs : List Hy) (l u : Ex) (d : Ce) → norm (balanced r (u ⊖ l) (as_ex hs d ⊕ combined [] [])) ≡ norm (balanced r (as_ex hs d ⊕ combined [] []) (u ⊖ l)) →
    AreGiven r hs → ev_r r l ≤ʳ ev_r r u
cert_r r hs l u d e g = order_r r hs [] l u d [] e g tt

-- of squares
pub root_r : (p q : Rational) → of_whole (pos 0) ≤ʳ q → p *ʳ p ≤ʳ q *ʳ q → p ≤ʳ q
root_r p q h g = square_root (p.num *ℤ pos q.den) (q.num *ℤ pos p.den) (mul_nn q.num (pos p.den) (least q.num (pos q.den) h) (pos_nn p.den))
    (le_by (p.num ∷ pos p.den ∷ q.num ∷ pos q.den ∷ []) (λ p d q e. (p ⊗ e ⊗ (p ⊗ e), q ⊗ d ⊗ (q ⊗ d), q ⊗ q ⊗ (d ⊗ d) ⊖ p ⊗ p ⊗ (e ⊗ e))) refl (less_nn g))
  where
    least : (n d : ℤ) → (pos 0 *ℤ d) ≤ℤ (n *ℤ pos 1) → pos 0 ≤ℤ n
    least n d h = omega (arith, ints)
