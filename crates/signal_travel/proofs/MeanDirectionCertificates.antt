-- Inequalities of a sum of two ranges, a move less twice a vector, and spreads, each by a certificate.
-- The terms are made: tools/inequality_certificate.py writes a lemma from its claim and the products of its hypotheses,
-- h0, h1, .. in the order in which they stand: they are over each lemma, after `by`. Who changes a claim writes its term anew there;
-- the check proves what is written.
use Rattle.std.proofs.Common.{[], ◌∷◌, ℤ, pos, ◌+ℤ◌, ◌-ℤ◌, ◌*ℤ◌, neg_ℤ, ◌≤ℤ◌, refl, ◌^◌}
use Rattle.whole_math.proofs.Ring.{va, ko, ◌⊕◌, ◌⊖◌, ◌⊗◌, ng}
use Rattle.whole_math.proofs.Certificates.{cert, ◌≼◌, hy, nm, ◌⊞◌, ◌⊠◌}
use Rattle.obs_rows.specs.declared.units.TheConstants.{DIRECTION_EXPONENT}

-- ---- r + s, for r in a box and s within 33/2 of it, over numerators and denominators
-- by h0*h1 + 17179869184*h2
pub sum_low : (l r d s e : ℤ) → pos 0 ≤ℤ e → (l *ℤ d) ≤ℤ (r *ℤ pos 68719476736) →
    ((((pos 2 *ℤ r) *ℤ pos 1) -ℤ (pos 33 *ℤ (pos 1 *ℤ d))) *ℤ (pos 1 *ℤ e)) ≤ℤ ((pos 2 *ℤ s) *ℤ ((pos 1 *ℤ d) *ℤ pos 1)) →
    ((l -ℤ pos 566935683072) *ℤ (d *ℤ e)) ≤ℤ (((r *ℤ e) +ℤ (s *ℤ d)) *ℤ pos 34359738368)
sum_low l r d s e h0 h1 h2 =
    cert (l ∷ r ∷ d ∷ s ∷ e ∷ [])
    ((ko (pos 0) ≼ va 4) ∷ ((va 0 ⊗ va 2) ≼ (va 1 ⊗ ko (pos 68719476736))) ∷ (((((ko (pos 2) ⊗ va 1) ⊗ ko (pos 1)) ⊖ (ko (pos 33) ⊗ (ko (pos 1) ⊗ va 2)))
    ⊗ (ko (pos 1) ⊗ va 4)) ≼ ((ko (pos 2) ⊗ va 3) ⊗ ((ko (pos 1) ⊗ va 2) ⊗ ko (pos 1)))) ∷ [])
    ((va 0 ⊖ ko (pos 566935683072)) ⊗ (va 2 ⊗ va 4)) (((va 1 ⊗ va 4) ⊕ (va 3 ⊗ va 2)) ⊗ ko (pos 34359738368))
    (((hy 0) ⊠ (hy 1)) ⊞ ((nm 17179869184) ⊠ (hy 2))) refl (h0, (h1, (h2, tt)))

-- by h0*h1 + 17179869184*h2
pub sum_high : (h r d s e : ℤ) → pos 0 ≤ℤ e → (r *ℤ pos 68719476736) ≤ℤ (h *ℤ d) →
    ((pos 2 *ℤ s) *ℤ ((pos 1 *ℤ d) *ℤ pos 1)) ≤ℤ ((((pos 2 *ℤ r) *ℤ pos 1) +ℤ (pos 33 *ℤ (pos 1 *ℤ d))) *ℤ (pos 1 *ℤ e)) →
    (((r *ℤ e) +ℤ (s *ℤ d)) *ℤ pos 34359738368) ≤ℤ ((h +ℤ pos 566935683072) *ℤ (d *ℤ e))
sum_high h r d s e h0 h1 h2 =
    cert (h ∷ r ∷ d ∷ s ∷ e ∷ [])
    ((ko (pos 0) ≼ va 4) ∷ ((va 1 ⊗ ko (pos 68719476736)) ≼ (va 0 ⊗ va 2)) ∷ (((ko (pos 2) ⊗ va 3) ⊗ ((ko (pos 1) ⊗ va 2) ⊗ ko (pos 1)))
    ≼ ((((ko (pos 2) ⊗ va 1) ⊗ ko (pos 1)) ⊕ (ko (pos 33) ⊗ (ko (pos 1) ⊗ va 2))) ⊗ (ko (pos 1) ⊗ va 4))) ∷ [])
    (((va 1 ⊗ va 4) ⊕ (va 3 ⊗ va 2)) ⊗ ko (pos 34359738368)) ((va 0 ⊕ ko (pos 566935683072)) ⊗ (va 2 ⊗ va 4))
    (((hy 0) ⊠ (hy 1)) ⊞ ((nm 17179869184) ⊠ (hy 2))) refl (h0, (h1, (h2, tt)))

-- ---- m − 2 q, for q in a box and m of at most 16 in size
-- by h1*h2 + 34359738368*h0*h3
pub move_low : (h q d m e : ℤ) → pos 0 ≤ℤ d → pos 0 ≤ℤ e → (q *ℤ pos 68719476736) ≤ℤ (h *ℤ d) → (neg_ℤ m *ℤ pos 1) ≤ℤ (pos 16 *ℤ e) →
    ((neg_ℤ h -ℤ pos 549755813888) *ℤ (e *ℤ (pos 1 *ℤ d))) ≤ℤ (((m *ℤ (pos 1 *ℤ d)) -ℤ ((pos 2 *ℤ q) *ℤ e)) *ℤ pos 34359738368)
move_low h q d m e h0 h1 h2 h3 =
    cert (h ∷ q ∷ d ∷ m ∷ e ∷ [])
    ((ko (pos 0) ≼ va 2) ∷ (ko (pos 0) ≼ va 4) ∷ ((va 1 ⊗ ko (pos 68719476736)) ≼ (va 0 ⊗ va 2)) ∷ ((ng (va 3) ⊗ ko (pos 1)) ≼ (ko (pos 16) ⊗ va 4)) ∷ [])
    ((ng (va 0) ⊖ ko (pos 549755813888)) ⊗ (va 4 ⊗ (ko (pos 1) ⊗ va 2))) (((va 3 ⊗ (ko (pos 1) ⊗ va 2)) ⊖ ((ko (pos 2) ⊗ va 1) ⊗ va 4)) ⊗ ko (pos 34359738368))
    (((hy 1) ⊠ (hy 2)) ⊞ (((nm 34359738368) ⊠ (hy 0)) ⊠ (hy 3))) refl (h0, (h1, (h2, (h3, tt))))

-- by h1*h2 + 34359738368*h0*h3
pub move_high : (l q d m e : ℤ) → pos 0 ≤ℤ d → pos 0 ≤ℤ e → (l *ℤ d) ≤ℤ (q *ℤ pos 68719476736) → (m *ℤ pos 1) ≤ℤ (pos 16 *ℤ e) →
    (((m *ℤ (pos 1 *ℤ d)) -ℤ ((pos 2 *ℤ q) *ℤ e)) *ℤ pos 34359738368) ≤ℤ ((pos 549755813888 -ℤ l) *ℤ (e *ℤ (pos 1 *ℤ d)))
move_high l q d m e h0 h1 h2 h3 =
    cert (l ∷ q ∷ d ∷ m ∷ e ∷ [])
    ((ko (pos 0) ≼ va 2) ∷ (ko (pos 0) ≼ va 4) ∷ ((va 0 ⊗ va 2) ≼ (va 1 ⊗ ko (pos 68719476736))) ∷ ((va 3 ⊗ ko (pos 1)) ≼ (ko (pos 16) ⊗ va 4)) ∷ [])
    (((va 3 ⊗ (ko (pos 1) ⊗ va 2)) ⊖ ((ko (pos 2) ⊗ va 1) ⊗ va 4)) ⊗ ko (pos 34359738368)) ((ko (pos 549755813888) ⊖ va 0) ⊗ (va 4 ⊗ (ko (pos 1) ⊗ va 2)))
    (((hy 1) ⊠ (hy 2)) ⊞ (((nm 34359738368) ⊠ (hy 0)) ⊠ (hy 3))) refl (h0, (h1, (h2, (h3, tt))))

-- ---- the bounds of a number, from those of its box
-- by h0*h1 + h2
pub in_spread_low : (l v n d : ℤ) → v ≤ℤ l → pos 0 ≤ℤ d → (l *ℤ d) ≤ℤ (n *ℤ pos (2 ^ DIRECTION_EXPONENT)) → (v *ℤ (pos 1 *ℤ d)) ≤ℤ ((pos (2 ^ DIRECTION_EXPONENT) *ℤ n) *ℤ pos 1)
in_spread_low l v n d h0 h1 h2 =
    cert (l ∷ v ∷ n ∷ d ∷ []) ((va 1 ≼ va 0) ∷ (ko (pos 0) ≼ va 3) ∷ ((va 0 ⊗ va 3) ≼ (va 2 ⊗ ko (pos (2 ^ DIRECTION_EXPONENT)))) ∷ []) (va 1 ⊗ (ko (pos 1) ⊗ va 3))
    ((ko (pos (2 ^ DIRECTION_EXPONENT)) ⊗ va 2) ⊗ ko (pos 1)) (((hy 0) ⊠ (hy 1)) ⊞ (hy 2)) refl (h0, (h1, (h2, tt)))

-- by h0*h1 + h2
pub in_spread_high : (h v n d : ℤ) → h ≤ℤ v → pos 0 ≤ℤ d → (n *ℤ pos (2 ^ DIRECTION_EXPONENT)) ≤ℤ (h *ℤ d) → ((pos (2 ^ DIRECTION_EXPONENT) *ℤ n) *ℤ pos 1) ≤ℤ (v *ℤ (pos 1 *ℤ d))
in_spread_high h v n d h0 h1 h2 =
    cert (h ∷ v ∷ n ∷ d ∷ []) ((va 0 ≼ va 1) ∷ (ko (pos 0) ≼ va 3) ∷ ((va 2 ⊗ ko (pos (2 ^ DIRECTION_EXPONENT))) ≼ (va 0 ⊗ va 3)) ∷ [])
    ((ko (pos (2 ^ DIRECTION_EXPONENT)) ⊗ va 2) ⊗ ko (pos 1)) (va 1 ⊗ (ko (pos 1) ⊗ va 3)) (((hy 0) ⊠ (hy 1)) ⊞ (hy 2)) refl (h0, (h1, (h2, tt)))
