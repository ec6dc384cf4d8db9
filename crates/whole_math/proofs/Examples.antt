-- How an identity or an inequality over ℤ is proved, each way once.
use Rattle.std.proofs.Common.{◌≡◌, List, [], ◌∷◌, ℤ, pos, ◌+ℤ◌, ◌-ℤ◌, ◌*ℤ◌, ◌≤ℤ◌, arith, refl}
use Rattle.whole_math.proofs.Ring.{ring, norm_is, va, ko, ◌⊕◌, ◌⊖◌, ◌⊗◌}
use Rattle.whole_math.proofs.Order.{polys, square_nn}
use Rattle.whole_math.proofs.Certificates.{cert, ◌≼◌, hy, sq, ◌⊞◌, ◌⊠◌}
use Rattle.whole_math.proofs.Inequalities.{same_by, le_by, prod_nn, less_nn, nat}

-- An identity of polynomials: the solver brings both sides to one normal form. The list has what `va 0`, `va 1` .. stand for.
pub difference_of_squares : (a b : ℤ) → (a +ℤ b) *ℤ (a -ℤ b) ≡ (a *ℤ a) -ℤ (b *ℤ b)
difference_of_squares a b = ring (a ∷ b ∷ []) ((va 0 ⊕ va 1) ⊗ (va 0 ⊖ va 1)) ((va 0 ⊗ va 0) ⊖ (va 1 ⊗ va 1)) refl

-- The same with names for the variables: a pair of both sides.
pub square_of_sum : (a b : ℤ) → (a +ℤ b) *ℤ (a +ℤ b) ≡ ((a *ℤ a) +ℤ (pos 2 *ℤ (a *ℤ b))) +ℤ (b *ℤ b)
square_of_sum a b = same_by (a ∷ b ∷ []) (λ a b. ((a ⊕ b) ⊗ (a ⊕ b), a ⊗ a ⊕ nat 2 ⊗ (a ⊗ b) ⊕ b ⊗ b)) refl

-- An inequality, where the right side less the left is a third term that is not negative: here (a - b)².
pub twice_product : (a b : ℤ) → (pos 2 *ℤ (a *ℤ b)) ≤ℤ ((a *ℤ a) +ℤ (b *ℤ b))
twice_product a b = le_by (a ∷ b ∷ []) (λ a b. (nat 2 ⊗ (a ⊗ b), a ⊗ a ⊕ b ⊗ b, (a ⊖ b) ⊗ (a ⊖ b))) refl (square_nn (a -ℤ b))

-- The same from hypotheses: (b - a)(d - c) ≥ 0.
pub ordered_products : (a b c d : ℤ) → a ≤ℤ b → c ≤ℤ d → ((a *ℤ d) +ℤ (b *ℤ c)) ≤ℤ ((a *ℤ c) +ℤ (b *ℤ d))
ordered_products a b c d h g = le_by (a ∷ b ∷ c ∷ d ∷ []) (λ a b c d. (a ⊗ d ⊕ b ⊗ c, a ⊗ c ⊕ b ⊗ d, (b ⊖ a) ⊗ (d ⊖ c))) refl (prod_nn (less_nn h) (less_nn g))

-- The same by a certificate: hypothesis 0 times hypothesis 1, and a square.
pub by_certificate : (a b c d : ℤ) → a ≤ℤ b → c ≤ℤ d → ((a *ℤ d) +ℤ (b *ℤ c)) ≤ℤ (((a *ℤ c) +ℤ (b *ℤ d)) +ℤ (a *ℤ a))
by_certificate a b c d h g = cert (a ∷ b ∷ c ∷ d ∷ []) ((va 0 ≼ va 1) ∷ (va 2 ≼ va 3) ∷ []) ((va 0 ⊗ va 3) ⊕ (va 1 ⊗ va 2)) (((va 0 ⊗ va 2) ⊕ (va 1 ⊗ va 3)) ⊕ (va 0 ⊗ va 0))
    ((hy 0 ⊠ hy 1) ⊞ sq (va 0)) refl (h, (g, tt))

-- A linear consequence of facts about products: `omega` over monomials, with `norm_is` of each polynomial.
pub three_squares : (a b c : ℤ) → (((a +ℤ b) +ℤ c) *ℤ ((a +ℤ b) +ℤ c)) ≤ℤ (pos 3 *ℤ (((a *ℤ a) +ℤ (b *ℤ b)) +ℤ (c *ℤ c)))
three_squares a b c =
    let values : List ℤ = a ∷ b ∷ c ∷ [] in
    let first_nonnegative = square_nn (a -ℤ b) in let second_nonnegative = square_nn (a -ℤ c) in let third_nonnegative = square_nn (b -ℤ c) in
    omega (
      arith,
      polys,
      norm_is values (((va 0 ⊕ va 1) ⊕ va 2) ⊗ ((va 0 ⊕ va 1) ⊕ va 2)),
      norm_is values ((ko (pos 3)) ⊗ (((va 0 ⊗ va 0) ⊕ (va 1 ⊗ va 1)) ⊕ (va 2 ⊗ va 2))),
      norm_is values ((va 0 ⊖ va 1) ⊗ (va 0 ⊖ va 1)),
      norm_is values ((va 0 ⊖ va 2) ⊗ (va 0 ⊖ va 2)),
      norm_is values ((va 1 ⊖ va 2) ⊗ (va 1 ⊖ va 2)),
    )
