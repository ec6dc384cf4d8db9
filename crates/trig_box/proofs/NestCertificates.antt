-- Inequalities of nests, each by a certificate.
-- The terms are made: tools/inequality_certificate.py writes a lemma from its claim and the products of its hypotheses,
-- h0, h1, .. in the order in which they stand: they are over each lemma, after `by`. Who changes a claim writes its term anew there;
-- the check proves what is written.
use Rattle.std.proofs.Common.{[], ◌∷◌, ℤ, pos, ◌-ℤ◌, ◌*ℤ◌, ◌≤ℤ◌, refl}
use Rattle.whole_math.proofs.Ring.{va, ko, ◌⊖◌, ◌⊗◌}
use Rattle.whole_math.proofs.Certificates.{cert, ◌≼◌, hy, nm, ◌⊞◌, ◌⊠◌}

-- by h0*(h2 + 4*h1)*(h3 + h4) + 2*(h3 + h4)*h2 + 7*h1*(h3 + h4) + h1*h4
pub range_low : (d a b n w : ℤ) → (pos 2) ≤ℤ d → (pos 0) ≤ℤ a → (pos 4 *ℤ a) ≤ℤ b → (pos 0) ≤ℤ n → n ≤ℤ w → (pos 0) ≤ℤ (((d *ℤ b) *ℤ w) -ℤ (a *ℤ n))
range_low d a b n w h0 h1 h2 h3 h4 =
    cert (d ∷ a ∷ b ∷ n ∷ w ∷ []) ((ko (pos 2) ≼ va 0) ∷ (ko (pos 0) ≼ va 1) ∷ ((ko (pos 4) ⊗ va 1) ≼ va 2) ∷ (ko (pos 0) ≼ va 3) ∷ (va 3 ≼ va 4) ∷ [])
    (ko (pos 0)) (((va 0 ⊗ va 2) ⊗ va 4) ⊖ (va 1 ⊗ va 3))
    (((((hy 0 ⊠ (hy 2 ⊞ (nm 4 ⊠ hy 1))) ⊠ (hy 3 ⊞ hy 4)) ⊞ ((nm 2 ⊠ (hy 3 ⊞ hy 4)) ⊠ hy 2)) ⊞ ((nm 7 ⊠ hy 1) ⊠ (hy 3 ⊞ hy 4))) ⊞ (hy 1 ⊠ hy 4))
    refl (h0, (h1, (h2, (h3, (h4, tt)))))

-- by h0*h1
pub range_high : (d a b n w : ℤ) → (pos 0) ≤ℤ a → (pos 0) ≤ℤ n → (((d *ℤ b) *ℤ w) -ℤ (a *ℤ n)) ≤ℤ ((d *ℤ b) *ℤ w)
range_high d a b n w h0 h1 =
    cert (d ∷ a ∷ b ∷ n ∷ w ∷ []) ((ko (pos 0) ≼ va 1) ∷ (ko (pos 0) ≼ va 3) ∷ []) (((va 0 ⊗ va 2) ⊗ va 4) ⊖ (va 1 ⊗ va 3)) ((va 0 ⊗ va 2) ⊗ va 4) (hy 0 ⊠ hy 1) refl (h0, (h1, tt))

-- nests of one z that differ by at most t/u differ by at most t/(4du) after a step of divisor d
-- by h3*h3*(h2 + 4*h1)*(4*h1*h4 + h0*h5*h6*h2)
pub depth_step : (d a b n w m x t u : ℤ) → (pos 0) ≤ℤ t → (pos 0) ≤ℤ a → (pos 4 *ℤ a) ≤ℤ b → (pos 0) ≤ℤ d
    → (((m *ℤ w) -ℤ (n *ℤ x)) *ℤ u) ≤ℤ (t *ℤ (w *ℤ x)) → (pos 0) ≤ℤ w → (pos 0) ≤ℤ x
    → ((((((d *ℤ b) *ℤ w) -ℤ (a *ℤ n)) *ℤ ((d *ℤ b) *ℤ x)) -ℤ ((((d *ℤ b) *ℤ x) -ℤ (a *ℤ m)) *ℤ ((d *ℤ b) *ℤ w))) *ℤ ((pos 4 *ℤ d) *ℤ u))
    ≤ℤ (t *ℤ (((d *ℤ b) *ℤ w) *ℤ ((d *ℤ b) *ℤ x)))
depth_step d a b n w m x t u h0 h1 h2 h3 h4 h5 h6 =
    cert (d ∷ a ∷ b ∷ n ∷ w ∷ m ∷ x ∷ t ∷ u ∷ []) ((ko (pos 0) ≼ va 7) ∷ (ko (pos 0) ≼ va 1) ∷ ((ko (pos 4) ⊗ va 1) ≼ va 2) ∷ (ko (pos 0) ≼ va 0)
    ∷ ((((va 5 ⊗ va 4) ⊖ (va 3 ⊗ va 6)) ⊗ va 8) ≼ (va 7 ⊗ (va 4 ⊗ va 6))) ∷ (ko (pos 0) ≼ va 4) ∷ (ko (pos 0) ≼ va 6) ∷ [])
    ((((((va 0 ⊗ va 2) ⊗ va 4) ⊖ (va 1 ⊗ va 3)) ⊗ ((va 0 ⊗ va 2) ⊗ va 6)) ⊖ ((((va 0 ⊗ va 2) ⊗ va 6) ⊖ (va 1 ⊗ va 5)) ⊗ ((va 0 ⊗ va 2) ⊗ va 4)))
    ⊗ ((ko (pos 4) ⊗ va 0) ⊗ va 8)) (va 7 ⊗ (((va 0 ⊗ va 2) ⊗ va 4) ⊗ ((va 0 ⊗ va 2) ⊗ va 6))) (((hy 3 ⊠ hy 3) ⊠ (hy 2 ⊞ (nm 4 ⊠ hy 1)))
    ⊠ (((nm 4 ⊠ hy 1) ⊠ hy 4) ⊞ (((hy 0 ⊠ hy 5) ⊠ hy 6) ⊠ hy 2))) refl (h0, (h1, (h2, (h3, (h4, (h5, (h6, tt)))))))

-- by h0*h1
pub depth_base_low : (e a b : ℤ) → (pos 0) ≤ℤ e → (pos 4 *ℤ a) ≤ℤ b → (pos 0) ≤ℤ a
    → (((pos 1 *ℤ ((e *ℤ b) *ℤ pos 1)) -ℤ ((((e *ℤ b) *ℤ pos 1) -ℤ (a *ℤ pos 1)) *ℤ pos 1)) *ℤ (pos 4 *ℤ e)) ≤ℤ (pos 1 *ℤ (pos 1 *ℤ ((e *ℤ b) *ℤ pos 1)))
depth_base_low e a b h0 h1 h2 =
    cert (e ∷ a ∷ b ∷ []) ((ko (pos 0) ≼ va 0) ∷ ((ko (pos 4) ⊗ va 1) ≼ va 2) ∷ (ko (pos 0) ≼ va 1) ∷ [])
    (((ko (pos 1) ⊗ ((va 0 ⊗ va 2) ⊗ ko (pos 1))) ⊖ ((((va 0 ⊗ va 2) ⊗ ko (pos 1)) ⊖ (va 1 ⊗ ko (pos 1))) ⊗ ko (pos 1))) ⊗ (ko (pos 4) ⊗ va 0))
    (ko (pos 1) ⊗ (ko (pos 1) ⊗ ((va 0 ⊗ va 2) ⊗ ko (pos 1)))) (hy 0 ⊠ hy 1) refl (h0, (h1, (h2, tt)))

-- by h0*(h1 + 8*h2)
pub depth_base_high : (e a b : ℤ) → (pos 0) ≤ℤ e → (pos 4 *ℤ a) ≤ℤ b → (pos 0) ≤ℤ a
    → ((((((e *ℤ b) *ℤ pos 1) -ℤ (a *ℤ pos 1)) *ℤ pos 1) -ℤ (pos 1 *ℤ ((e *ℤ b) *ℤ pos 1))) *ℤ (pos 4 *ℤ e)) ≤ℤ (pos 1 *ℤ (pos 1 *ℤ ((e *ℤ b) *ℤ pos 1)))
depth_base_high e a b h0 h1 h2 =
    cert (e ∷ a ∷ b ∷ []) ((ko (pos 0) ≼ va 0) ∷ ((ko (pos 4) ⊗ va 1) ≼ va 2) ∷ (ko (pos 0) ≼ va 1) ∷ [])
    ((((((va 0 ⊗ va 2) ⊗ ko (pos 1)) ⊖ (va 1 ⊗ ko (pos 1))) ⊗ ko (pos 1)) ⊖ (ko (pos 1) ⊗ ((va 0 ⊗ va 2) ⊗ ko (pos 1)))) ⊗ (ko (pos 4) ⊗ va 0))
    (ko (pos 1) ⊗ (ko (pos 1) ⊗ ((va 0 ⊗ va 2) ⊗ ko (pos 1)))) (hy 0 ⊠ (hy 1 ⊞ (nm 8 ⊠ hy 2))) refl (h0, (h1, (h2, tt)))

-- z and z' and two nests at them differ by at most t/u: so do the nests after one step
-- by (h5 + 2)*(h0*h5*(h2 + 4*h1)*(h4 + 4*h3)*(h8 + h9)*(h10 + h11) + h10*(h8 + h9)*h6 + h1*(h4 + 4*h3)*h7 + h0*(h2 + 4*h1)*(h4 + 4*h3)*(h8
--    + h9)*h11 + h0*(h4 + 4*h3)*(h8 + h9)*(h10 + h11)*h2 + 3*h0*h1*(h4 + 4*h3)*(h8 + h9)*(h10 + h11))
pub near_step : (a b c e n w m x t u d : ℤ) → (pos 0) ≤ℤ t → (pos 0) ≤ℤ a → (pos 4 *ℤ a) ≤ℤ b → (pos 0) ≤ℤ c → (pos 4 *ℤ c) ≤ℤ e → (pos 2) ≤ℤ d
    → (((c *ℤ b) -ℤ (a *ℤ e)) *ℤ u) ≤ℤ (t *ℤ (b *ℤ e)) → (((m *ℤ w) -ℤ (n *ℤ x)) *ℤ u) ≤ℤ (t *ℤ (w *ℤ x)) → (pos 0) ≤ℤ n → n ≤ℤ w → (pos 0) ≤ℤ m
    → m ≤ℤ x → ((((((d *ℤ b) *ℤ w) -ℤ (a *ℤ n)) *ℤ ((d *ℤ e) *ℤ x)) -ℤ ((((d *ℤ e) *ℤ x) -ℤ (c *ℤ m)) *ℤ ((d *ℤ b) *ℤ w))) *ℤ u)
    ≤ℤ (t *ℤ (((d *ℤ b) *ℤ w) *ℤ ((d *ℤ e) *ℤ x)))
near_step a b c e n w m x t u d h0 h1 h2 h3 h4 h5 h6 h7 h8 h9 h10 h11 =
    cert (a ∷ b ∷ c ∷ e ∷ n ∷ w ∷ m ∷ x ∷ t ∷ u ∷ d ∷ [])
    ((ko (pos 0) ≼ va 8) ∷ (ko (pos 0) ≼ va 0) ∷ ((ko (pos 4) ⊗ va 0) ≼ va 1) ∷ (ko (pos 0) ≼ va 2) ∷ ((ko (pos 4) ⊗ va 2) ≼ va 3) ∷ (ko (pos 2) ≼ va 10)
    ∷ ((((va 2 ⊗ va 1) ⊖ (va 0 ⊗ va 3)) ⊗ va 9) ≼ (va 8 ⊗ (va 1 ⊗ va 3))) ∷ ((((va 6 ⊗ va 5) ⊖ (va 4 ⊗ va 7)) ⊗ va 9) ≼ (va 8 ⊗ (va 5 ⊗ va 7)))
    ∷ (ko (pos 0) ≼ va 4) ∷ (va 4 ≼ va 5) ∷ (ko (pos 0) ≼ va 6) ∷ (va 6 ≼ va 7) ∷ [])
    ((((((va 10 ⊗ va 1) ⊗ va 5) ⊖ (va 0 ⊗ va 4)) ⊗ ((va 10 ⊗ va 3) ⊗ va 7)) ⊖ ((((va 10 ⊗ va 3) ⊗ va 7) ⊖ (va 2 ⊗ va 6)) ⊗ ((va 10 ⊗ va 1) ⊗ va 5))) ⊗ va 9)
    (va 8 ⊗ (((va 10 ⊗ va 1) ⊗ va 5) ⊗ ((va 10 ⊗ va 3) ⊗ va 7))) ((hy 5 ⊞ nm 2)
    ⊠ ((((((((((hy 0 ⊠ hy 5) ⊠ (hy 2 ⊞ (nm 4 ⊠ hy 1))) ⊠ (hy 4 ⊞ (nm 4 ⊠ hy 3))) ⊠ (hy 8 ⊞ hy 9)) ⊠ (hy 10 ⊞ hy 11)) ⊞ ((hy 10 ⊠ (hy 8 ⊞ hy 9)) ⊠ hy 6))
    ⊞ ((hy 1 ⊠ (hy 4 ⊞ (nm 4 ⊠ hy 3))) ⊠ hy 7)) ⊞ ((((hy 0 ⊠ (hy 2 ⊞ (nm 4 ⊠ hy 1))) ⊠ (hy 4 ⊞ (nm 4 ⊠ hy 3))) ⊠ (hy 8 ⊞ hy 9)) ⊠ hy 11))
    ⊞ ((((hy 0 ⊠ (hy 4 ⊞ (nm 4 ⊠ hy 3))) ⊠ (hy 8 ⊞ hy 9)) ⊠ (hy 10 ⊞ hy 11)) ⊠ hy 2))
    ⊞ (((((nm 3 ⊠ hy 0) ⊠ hy 1) ⊠ (hy 4 ⊞ (nm 4 ⊠ hy 3))) ⊠ (hy 8 ⊞ hy 9)) ⊠ (hy 10 ⊞ hy 11)))) refl
    (h0, (h1, (h2, (h3, (h4, (h5, (h6, (h7, (h8, (h9, (h10, (h11, tt))))))))))))

-- the last step: at most 5t/(4du)
-- by (h5 + 2)*(h5 + 2)*(4*h10*(h8 + h9)*h6 + 4*h1*(h4 + 4*h3)*h7 + 4*h0*(h2 + 4*h1)*(h4 + 4*h3)*(h8 + h9)*h11 + h0*(h4 + 4*h3)*(h8
--    + h9)*(h10 + h11)*h2)
pub near_last : (a b c e n w m x t u d : ℤ) → (pos 0) ≤ℤ t → (pos 0) ≤ℤ a → (pos 4 *ℤ a) ≤ℤ b → (pos 0) ≤ℤ c → (pos 4 *ℤ c) ≤ℤ e → (pos 2) ≤ℤ d
    → (((c *ℤ b) -ℤ (a *ℤ e)) *ℤ u) ≤ℤ (t *ℤ (b *ℤ e)) → (((m *ℤ w) -ℤ (n *ℤ x)) *ℤ u) ≤ℤ (t *ℤ (w *ℤ x)) → (pos 0) ≤ℤ n → n ≤ℤ w → (pos 0) ≤ℤ m
    → m ≤ℤ x → ((pos 4 *ℤ d) *ℤ ((((((d *ℤ b) *ℤ w) -ℤ (a *ℤ n)) *ℤ ((d *ℤ e) *ℤ x)) -ℤ ((((d *ℤ e) *ℤ x) -ℤ (c *ℤ m)) *ℤ ((d *ℤ b) *ℤ w))) *ℤ u))
    ≤ℤ (pos 5 *ℤ (t *ℤ (((d *ℤ b) *ℤ w) *ℤ ((d *ℤ e) *ℤ x))))
near_last a b c e n w m x t u d h0 h1 h2 h3 h4 h5 h6 h7 h8 h9 h10 h11 =
    cert (a ∷ b ∷ c ∷ e ∷ n ∷ w ∷ m ∷ x ∷ t ∷ u ∷ d ∷ [])
    ((ko (pos 0) ≼ va 8) ∷ (ko (pos 0) ≼ va 0) ∷ ((ko (pos 4) ⊗ va 0) ≼ va 1) ∷ (ko (pos 0) ≼ va 2) ∷ ((ko (pos 4) ⊗ va 2) ≼ va 3) ∷ (ko (pos 2) ≼ va 10)
    ∷ ((((va 2 ⊗ va 1) ⊖ (va 0 ⊗ va 3)) ⊗ va 9) ≼ (va 8 ⊗ (va 1 ⊗ va 3))) ∷ ((((va 6 ⊗ va 5) ⊖ (va 4 ⊗ va 7)) ⊗ va 9) ≼ (va 8 ⊗ (va 5 ⊗ va 7)))
    ∷ (ko (pos 0) ≼ va 4) ∷ (va 4 ≼ va 5) ∷ (ko (pos 0) ≼ va 6) ∷ (va 6 ≼ va 7) ∷ []) ((ko (pos 4) ⊗ va 10)
    ⊗ ((((((va 10 ⊗ va 1) ⊗ va 5) ⊖ (va 0 ⊗ va 4)) ⊗ ((va 10 ⊗ va 3) ⊗ va 7)) ⊖ ((((va 10 ⊗ va 3) ⊗ va 7) ⊖ (va 2 ⊗ va 6)) ⊗ ((va 10 ⊗ va 1) ⊗ va 5)))
    ⊗ va 9)) (ko (pos 5) ⊗ (va 8 ⊗ (((va 10 ⊗ va 1) ⊗ va 5) ⊗ ((va 10 ⊗ va 3) ⊗ va 7))))
    (((hy 5 ⊞ nm 2) ⊠ (hy 5 ⊞ nm 2)) ⊠ ((((((nm 4 ⊠ hy 10) ⊠ (hy 8 ⊞ hy 9)) ⊠ hy 6) ⊞ (((nm 4 ⊠ hy 1) ⊠ (hy 4 ⊞ (nm 4 ⊠ hy 3))) ⊠ hy 7))
    ⊞ (((((nm 4 ⊠ hy 0) ⊠ (hy 2 ⊞ (nm 4 ⊠ hy 1))) ⊠ (hy 4 ⊞ (nm 4 ⊠ hy 3))) ⊠ (hy 8 ⊞ hy 9)) ⊠ hy 11))
    ⊞ ((((hy 0 ⊠ (hy 4 ⊞ (nm 4 ⊠ hy 3))) ⊠ (hy 8 ⊞ hy 9)) ⊠ (hy 10 ⊞ hy 11)) ⊠ hy 2))) refl
    (h0, (h1, (h2, (h3, (h4, (h5, (h6, (h7, (h8, (h9, (h10, (h11, tt))))))))))))
