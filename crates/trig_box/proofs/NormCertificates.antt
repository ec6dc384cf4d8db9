-- Inequalities of the norm of a base and of its doublings, each by a certificate.
-- The terms are made: tools/inequality_certificate.py writes a lemma from its claim and the products of its hypotheses,
-- h0, h1, .. in the order in which they stand: they are over each lemma, after `by`. Who changes a claim writes its term anew there;
-- the check proves what is written.
use Rattle.std.proofs.Common.{[], ◌∷◌, ℤ, pos, ◌+ℤ◌, ◌-ℤ◌, ◌*ℤ◌, ◌≤ℤ◌, ◌<ℤ◌, arith, refl}
use Rattle.std.proofs.lemmas.Int.{ints}
use Rattle.whole_math.proofs.Ring.{va, ko, ◌⊕◌, ◌⊖◌, ◌⊗◌}
use Rattle.whole_math.proofs.Certificates.{cert, cancel, weak, ◌≼◌, hy, nm, sq, ◌⊞◌, ◌⊠◌}

-- by 40320*(h2*h2*h2*h2)*(h1*h1*h1*h1)*h0
pub cos_short_low : (a b n w : ℤ) → (pos 0) ≤ℤ n → (pos 0) ≤ℤ b → (pos 0) ≤ℤ a
    → (((pos 56 *ℤ b) *ℤ ((((pos 720 *ℤ ((b *ℤ b) *ℤ b)) -ℤ ((pos 360 *ℤ a) *ℤ (b *ℤ b))) +ℤ ((pos 30 *ℤ (a *ℤ a)) *ℤ b)) -ℤ ((a *ℤ a) *ℤ a)))
    *ℤ ((pos 2 *ℤ b) *ℤ ((pos 12 *ℤ b) *ℤ ((pos 30 *ℤ b) *ℤ ((pos 56 *ℤ b) *ℤ w)))))
    ≤ℤ ((((pos 2 *ℤ b) *ℤ ((pos 12 *ℤ b) *ℤ ((pos 30 *ℤ b) *ℤ ((pos 56 *ℤ b) *ℤ w)))) -ℤ (a *ℤ (((pos 12 *ℤ b) *ℤ ((pos 30 *ℤ b) *ℤ ((pos 56 *ℤ b) *ℤ w)))
    -ℤ (a *ℤ (((pos 30 *ℤ b) *ℤ ((pos 56 *ℤ b) *ℤ w)) -ℤ (a *ℤ (((pos 56 *ℤ b) *ℤ w) -ℤ (a *ℤ n)))))))) *ℤ (pos 40320 *ℤ (((b *ℤ b) *ℤ b) *ℤ b)))
cos_short_low a b n w h0 h1 h2 =
    cert (a ∷ b ∷ n ∷ w ∷ []) ((ko (pos 0) ≼ va 2) ∷ (ko (pos 0) ≼ va 1) ∷ (ko (pos 0) ≼ va 0) ∷ [])
    (((ko (pos 56) ⊗ va 1) ⊗ ((((ko (pos 720) ⊗ ((va 1 ⊗ va 1) ⊗ va 1)) ⊖ ((ko (pos 360) ⊗ va 0) ⊗ (va 1 ⊗ va 1))) ⊕ ((ko (pos 30) ⊗ (va 0 ⊗ va 0)) ⊗ va 1))
    ⊖ ((va 0 ⊗ va 0) ⊗ va 0))) ⊗ ((ko (pos 2) ⊗ va 1) ⊗ ((ko (pos 12) ⊗ va 1) ⊗ ((ko (pos 30) ⊗ va 1) ⊗ ((ko (pos 56) ⊗ va 1) ⊗ va 3)))))
    ((((ko (pos 2) ⊗ va 1) ⊗ ((ko (pos 12) ⊗ va 1) ⊗ ((ko (pos 30) ⊗ va 1) ⊗ ((ko (pos 56) ⊗ va 1) ⊗ va 3))))
    ⊖ (va 0 ⊗ (((ko (pos 12) ⊗ va 1) ⊗ ((ko (pos 30) ⊗ va 1) ⊗ ((ko (pos 56) ⊗ va 1) ⊗ va 3)))
    ⊖ (va 0 ⊗ (((ko (pos 30) ⊗ va 1) ⊗ ((ko (pos 56) ⊗ va 1) ⊗ va 3)) ⊖ (va 0 ⊗ (((ko (pos 56) ⊗ va 1) ⊗ va 3) ⊖ (va 0 ⊗ va 2))))))))
    ⊗ (ko (pos 40320) ⊗ (((va 1 ⊗ va 1) ⊗ va 1) ⊗ va 1)))
    (((nm 40320 ⊠ (((hy 2 ⊠ hy 2) ⊠ hy 2) ⊠ hy 2)) ⊠ (((hy 1 ⊠ hy 1) ⊠ hy 1) ⊠ hy 1)) ⊠ hy 0) refl (h0, (h1, (h2, tt)))

-- by 40320*(h2*h2*h2*h2)*(h1*h1*h1*h1)*h0
pub cos_short_high : (a b n w : ℤ) → n ≤ℤ w → (pos 0) ≤ℤ b → (pos 0) ≤ℤ a
    → ((((pos 2 *ℤ b) *ℤ ((pos 12 *ℤ b) *ℤ ((pos 30 *ℤ b) *ℤ ((pos 56 *ℤ b) *ℤ w)))) -ℤ (a *ℤ (((pos 12 *ℤ b) *ℤ ((pos 30 *ℤ b) *ℤ ((pos 56 *ℤ b) *ℤ w)))
    -ℤ (a *ℤ (((pos 30 *ℤ b) *ℤ ((pos 56 *ℤ b) *ℤ w)) -ℤ (a *ℤ (((pos 56 *ℤ b) *ℤ w) -ℤ (a *ℤ n)))))))) *ℤ (pos 40320 *ℤ (((b *ℤ b) *ℤ b) *ℤ b)))
    ≤ℤ ((((pos 56 *ℤ b) *ℤ ((((pos 720 *ℤ ((b *ℤ b) *ℤ b)) -ℤ ((pos 360 *ℤ a) *ℤ (b *ℤ b))) +ℤ ((pos 30 *ℤ (a *ℤ a)) *ℤ b)) -ℤ ((a *ℤ a) *ℤ a)))
    +ℤ (((a *ℤ a) *ℤ a) *ℤ a)) *ℤ ((pos 2 *ℤ b) *ℤ ((pos 12 *ℤ b) *ℤ ((pos 30 *ℤ b) *ℤ ((pos 56 *ℤ b) *ℤ w)))))
cos_short_high a b n w h0 h1 h2 =
    cert (a ∷ b ∷ n ∷ w ∷ []) ((va 2 ≼ va 3) ∷ (ko (pos 0) ≼ va 1) ∷ (ko (pos 0) ≼ va 0) ∷ [])
    ((((ko (pos 2) ⊗ va 1) ⊗ ((ko (pos 12) ⊗ va 1) ⊗ ((ko (pos 30) ⊗ va 1) ⊗ ((ko (pos 56) ⊗ va 1) ⊗ va 3))))
    ⊖ (va 0 ⊗ (((ko (pos 12) ⊗ va 1) ⊗ ((ko (pos 30) ⊗ va 1) ⊗ ((ko (pos 56) ⊗ va 1) ⊗ va 3)))
    ⊖ (va 0 ⊗ (((ko (pos 30) ⊗ va 1) ⊗ ((ko (pos 56) ⊗ va 1) ⊗ va 3)) ⊖ (va 0 ⊗ (((ko (pos 56) ⊗ va 1) ⊗ va 3) ⊖ (va 0 ⊗ va 2))))))))
    ⊗ (ko (pos 40320) ⊗ (((va 1 ⊗ va 1) ⊗ va 1) ⊗ va 1)))
    ((((ko (pos 56) ⊗ va 1) ⊗ ((((ko (pos 720) ⊗ ((va 1 ⊗ va 1) ⊗ va 1)) ⊖ ((ko (pos 360) ⊗ va 0) ⊗ (va 1 ⊗ va 1)))
    ⊕ ((ko (pos 30) ⊗ (va 0 ⊗ va 0)) ⊗ va 1)) ⊖ ((va 0 ⊗ va 0) ⊗ va 0))) ⊕ (((va 0 ⊗ va 0) ⊗ va 0) ⊗ va 0))
    ⊗ ((ko (pos 2) ⊗ va 1) ⊗ ((ko (pos 12) ⊗ va 1) ⊗ ((ko (pos 30) ⊗ va 1) ⊗ ((ko (pos 56) ⊗ va 1) ⊗ va 3)))))
    (((nm 40320 ⊠ (((hy 2 ⊠ hy 2) ⊠ hy 2) ⊠ hy 2)) ⊠ (((hy 1 ⊠ hy 1) ⊠ hy 1) ⊠ hy 1)) ⊠ hy 0) refl (h0, (h1, (h2, tt)))

-- by 362880*(h2*h2*h2*h2)*(h1*h1*h1*h1)*h0
pub sin_short_low : (a b n w : ℤ) → (pos 0) ≤ℤ n → (pos 0) ≤ℤ b → (pos 0) ≤ℤ a
    → (((pos 72 *ℤ b) *ℤ ((((pos 5040 *ℤ ((b *ℤ b) *ℤ b)) -ℤ ((pos 840 *ℤ a) *ℤ (b *ℤ b))) +ℤ ((pos 42 *ℤ (a *ℤ a)) *ℤ b)) -ℤ ((a *ℤ a) *ℤ a)))
    *ℤ ((pos 6 *ℤ b) *ℤ ((pos 20 *ℤ b) *ℤ ((pos 42 *ℤ b) *ℤ ((pos 72 *ℤ b) *ℤ w)))))
    ≤ℤ ((((pos 6 *ℤ b) *ℤ ((pos 20 *ℤ b) *ℤ ((pos 42 *ℤ b) *ℤ ((pos 72 *ℤ b) *ℤ w)))) -ℤ (a *ℤ (((pos 20 *ℤ b) *ℤ ((pos 42 *ℤ b) *ℤ ((pos 72 *ℤ b) *ℤ w)))
    -ℤ (a *ℤ (((pos 42 *ℤ b) *ℤ ((pos 72 *ℤ b) *ℤ w)) -ℤ (a *ℤ (((pos 72 *ℤ b) *ℤ w) -ℤ (a *ℤ n)))))))) *ℤ (pos 362880 *ℤ (((b *ℤ b) *ℤ b) *ℤ b)))
sin_short_low a b n w h0 h1 h2 =
    cert (a ∷ b ∷ n ∷ w ∷ []) ((ko (pos 0) ≼ va 2) ∷ (ko (pos 0) ≼ va 1) ∷ (ko (pos 0) ≼ va 0) ∷ []) (((ko (pos 72) ⊗ va 1)
    ⊗ ((((ko (pos 5040) ⊗ ((va 1 ⊗ va 1) ⊗ va 1)) ⊖ ((ko (pos 840) ⊗ va 0) ⊗ (va 1 ⊗ va 1))) ⊕ ((ko (pos 42) ⊗ (va 0 ⊗ va 0)) ⊗ va 1))
    ⊖ ((va 0 ⊗ va 0) ⊗ va 0))) ⊗ ((ko (pos 6) ⊗ va 1) ⊗ ((ko (pos 20) ⊗ va 1) ⊗ ((ko (pos 42) ⊗ va 1) ⊗ ((ko (pos 72) ⊗ va 1) ⊗ va 3)))))
    ((((ko (pos 6) ⊗ va 1) ⊗ ((ko (pos 20) ⊗ va 1) ⊗ ((ko (pos 42) ⊗ va 1) ⊗ ((ko (pos 72) ⊗ va 1) ⊗ va 3))))
    ⊖ (va 0 ⊗ (((ko (pos 20) ⊗ va 1) ⊗ ((ko (pos 42) ⊗ va 1) ⊗ ((ko (pos 72) ⊗ va 1) ⊗ va 3)))
    ⊖ (va 0 ⊗ (((ko (pos 42) ⊗ va 1) ⊗ ((ko (pos 72) ⊗ va 1) ⊗ va 3)) ⊖ (va 0 ⊗ (((ko (pos 72) ⊗ va 1) ⊗ va 3) ⊖ (va 0 ⊗ va 2))))))))
    ⊗ (ko (pos 362880) ⊗ (((va 1 ⊗ va 1) ⊗ va 1) ⊗ va 1)))
    (((nm 362880 ⊠ (((hy 2 ⊠ hy 2) ⊠ hy 2) ⊠ hy 2)) ⊠ (((hy 1 ⊠ hy 1) ⊠ hy 1) ⊠ hy 1)) ⊠ hy 0) refl (h0, (h1, (h2, tt)))

-- by 362880*(h2*h2*h2*h2)*(h1*h1*h1*h1)*h0
pub sin_short_high : (a b n w : ℤ) → n ≤ℤ w → (pos 0) ≤ℤ b → (pos 0) ≤ℤ a
    → ((((pos 6 *ℤ b) *ℤ ((pos 20 *ℤ b) *ℤ ((pos 42 *ℤ b) *ℤ ((pos 72 *ℤ b) *ℤ w)))) -ℤ (a *ℤ (((pos 20 *ℤ b) *ℤ ((pos 42 *ℤ b) *ℤ ((pos 72 *ℤ b) *ℤ w)))
    -ℤ (a *ℤ (((pos 42 *ℤ b) *ℤ ((pos 72 *ℤ b) *ℤ w)) -ℤ (a *ℤ (((pos 72 *ℤ b) *ℤ w) -ℤ (a *ℤ n)))))))) *ℤ (pos 362880 *ℤ (((b *ℤ b) *ℤ b) *ℤ b)))
    ≤ℤ ((((pos 72 *ℤ b) *ℤ ((((pos 5040 *ℤ ((b *ℤ b) *ℤ b)) -ℤ ((pos 840 *ℤ a) *ℤ (b *ℤ b))) +ℤ ((pos 42 *ℤ (a *ℤ a)) *ℤ b)) -ℤ ((a *ℤ a) *ℤ a)))
    +ℤ (((a *ℤ a) *ℤ a) *ℤ a)) *ℤ ((pos 6 *ℤ b) *ℤ ((pos 20 *ℤ b) *ℤ ((pos 42 *ℤ b) *ℤ ((pos 72 *ℤ b) *ℤ w)))))
sin_short_high a b n w h0 h1 h2 =
    cert (a ∷ b ∷ n ∷ w ∷ []) ((va 2 ≼ va 3) ∷ (ko (pos 0) ≼ va 1) ∷ (ko (pos 0) ≼ va 0) ∷ [])
    ((((ko (pos 6) ⊗ va 1) ⊗ ((ko (pos 20) ⊗ va 1) ⊗ ((ko (pos 42) ⊗ va 1) ⊗ ((ko (pos 72) ⊗ va 1) ⊗ va 3))))
    ⊖ (va 0 ⊗ (((ko (pos 20) ⊗ va 1) ⊗ ((ko (pos 42) ⊗ va 1) ⊗ ((ko (pos 72) ⊗ va 1) ⊗ va 3)))
    ⊖ (va 0 ⊗ (((ko (pos 42) ⊗ va 1) ⊗ ((ko (pos 72) ⊗ va 1) ⊗ va 3)) ⊖ (va 0 ⊗ (((ko (pos 72) ⊗ va 1) ⊗ va 3) ⊖ (va 0 ⊗ va 2))))))))
    ⊗ (ko (pos 362880) ⊗ (((va 1 ⊗ va 1) ⊗ va 1) ⊗ va 1)))
    ((((ko (pos 72) ⊗ va 1) ⊗ ((((ko (pos 5040) ⊗ ((va 1 ⊗ va 1) ⊗ va 1)) ⊖ ((ko (pos 840) ⊗ va 0) ⊗ (va 1 ⊗ va 1)))
    ⊕ ((ko (pos 42) ⊗ (va 0 ⊗ va 0)) ⊗ va 1)) ⊖ ((va 0 ⊗ va 0) ⊗ va 0))) ⊕ (((va 0 ⊗ va 0) ⊗ va 0) ⊗ va 0))
    ⊗ ((ko (pos 6) ⊗ va 1) ⊗ ((ko (pos 20) ⊗ va 1) ⊗ ((ko (pos 42) ⊗ va 1) ⊗ ((ko (pos 72) ⊗ va 1) ⊗ va 3)))))
    (((nm 362880 ⊠ (((hy 2 ⊠ hy 2) ⊠ hy 2) ⊠ hy 2)) ⊠ (((hy 1 ⊠ hy 1) ⊠ hy 1) ⊠ hy 1)) ⊠ hy 0) refl (h0, (h1, (h2, tt)))

-- by 9058336*(h0*h0*h0*h0) + 9367624*(h0*h0*h0)*h1 + 3630480*(h0*h0)*(h1*h1) + 624960*h0*(h1*h1*h1) + 40320*(h1*h1*h1*h1)
pub cos_low_nn : (a b : ℤ) → (pos 0) ≤ℤ a → (pos 4 *ℤ a) ≤ℤ b
    → (pos 0) ≤ℤ ((pos 56 *ℤ b) *ℤ ((((pos 720 *ℤ ((b *ℤ b) *ℤ b)) -ℤ ((pos 360 *ℤ a) *ℤ (b *ℤ b))) +ℤ ((pos 30 *ℤ (a *ℤ a)) *ℤ b)) -ℤ ((a *ℤ a) *ℤ a)))
cos_low_nn a b h0 h1 =
    cert (a ∷ b ∷ []) ((ko (pos 0) ≼ va 0) ∷ ((ko (pos 4) ⊗ va 0) ≼ va 1) ∷ []) (ko (pos 0))
    ((ko (pos 56) ⊗ va 1) ⊗ ((((ko (pos 720) ⊗ ((va 1 ⊗ va 1) ⊗ va 1)) ⊖ ((ko (pos 360) ⊗ va 0) ⊗ (va 1 ⊗ va 1))) ⊕ ((ko (pos 30) ⊗ (va 0 ⊗ va 0)) ⊗ va 1))
    ⊖ ((va 0 ⊗ va 0) ⊗ va 0)))
    (((((nm 9058336 ⊠ (((hy 0 ⊠ hy 0) ⊠ hy 0) ⊠ hy 0)) ⊞ ((nm 9367624 ⊠ ((hy 0 ⊠ hy 0) ⊠ hy 0)) ⊠ hy 1)) ⊞ ((nm 3630480 ⊠ (hy 0 ⊠ hy 0)) ⊠ (hy 1 ⊠ hy 1)))
    ⊞ ((nm 624960 ⊠ hy 0) ⊠ ((hy 1 ⊠ hy 1) ⊠ hy 1))) ⊞ (nm 40320 ⊠ (((hy 1 ⊠ hy 1) ⊠ hy 1) ⊠ hy 1))) refl (h0, (h1, tt))

-- by 89074656*(h0*h0*h0*h0) + 90018360*(h0*h0*h0)*h1 + 34113744*(h0*h0)*(h1*h1) + 5745600*h0*(h1*h1*h1) + 362880*(h1*h1*h1*h1)
pub sin_low_nn : (a b : ℤ) → (pos 0) ≤ℤ a → (pos 4 *ℤ a) ≤ℤ b
    → (pos 0) ≤ℤ ((pos 72 *ℤ b) *ℤ ((((pos 5040 *ℤ ((b *ℤ b) *ℤ b)) -ℤ ((pos 840 *ℤ a) *ℤ (b *ℤ b))) +ℤ ((pos 42 *ℤ (a *ℤ a)) *ℤ b)) -ℤ ((a *ℤ a) *ℤ a)))
sin_low_nn a b h0 h1 =
    cert (a ∷ b ∷ []) ((ko (pos 0) ≼ va 0) ∷ ((ko (pos 4) ⊗ va 0) ≼ va 1) ∷ []) (ko (pos 0))
    ((ko (pos 72) ⊗ va 1) ⊗ ((((ko (pos 5040) ⊗ ((va 1 ⊗ va 1) ⊗ va 1)) ⊖ ((ko (pos 840) ⊗ va 0) ⊗ (va 1 ⊗ va 1))) ⊕ ((ko (pos 42) ⊗ (va 0 ⊗ va 0)) ⊗ va 1))
    ⊖ ((va 0 ⊗ va 0) ⊗ va 0))) (((((nm 89074656 ⊠ (((hy 0 ⊠ hy 0) ⊠ hy 0) ⊠ hy 0)) ⊞ ((nm 90018360 ⊠ ((hy 0 ⊠ hy 0) ⊠ hy 0)) ⊠ hy 1))
    ⊞ ((nm 34113744 ⊠ (hy 0 ⊠ hy 0)) ⊠ (hy 1 ⊠ hy 1))) ⊞ ((nm 5745600 ⊠ hy 0) ⊠ ((hy 1 ⊠ hy 1) ⊠ hy 1))) ⊞ (nm 362880 ⊠ (((hy 1 ⊠ hy 1) ⊠ hy 1) ⊠ hy 1)))
    refl (h0, (h1, tt))

-- by h2*h0 + h3*h1
pub through : (n w c y l d : ℤ) → (n *ℤ y) ≤ℤ (c *ℤ w) → (l *ℤ w) ≤ℤ (n *ℤ d) → (pos 0) ≤ℤ d → (pos 0) ≤ℤ y → (pos 0) <ℤ w → (l *ℤ y) ≤ℤ (c *ℤ d)
through n w c y l d h0 h1 h2 h3 h4 =
    cancel w (l *ℤ y) (c *ℤ d) h4 (cert (n ∷ w ∷ c ∷ y ∷ l ∷ d ∷ [])
    (((va 0 ⊗ va 3) ≼ (va 2 ⊗ va 1)) ∷ ((va 4 ⊗ va 1) ≼ (va 0 ⊗ va 5)) ∷ (ko (pos 0) ≼ va 5) ∷ (ko (pos 0) ≼ va 3) ∷ (ko (pos 0) ≼ va 1) ∷ [])
    (va 1 ⊗ (va 4 ⊗ va 3)) (va 1 ⊗ (va 2 ⊗ va 5)) ((hy 2 ⊠ hy 0) ⊞ (hy 3 ⊠ hy 1)) refl (h0, (h1, (h2, (h3, (weak (pos 0) w h4, tt))))))

-- by h0*h1*h2
pub scale : (p q l w n d : ℤ) → (pos 0) ≤ℤ p → (pos 0) ≤ℤ q → (l *ℤ w) ≤ℤ (n *ℤ d) → ((p *ℤ l) *ℤ (q *ℤ w)) ≤ℤ ((p *ℤ n) *ℤ (q *ℤ d))
scale p q l w n d h0 h1 h2 =
    cert (p ∷ q ∷ l ∷ w ∷ n ∷ d ∷ []) ((ko (pos 0) ≼ va 0) ∷ (ko (pos 0) ≼ va 1) ∷ ((va 2 ⊗ va 3) ≼ (va 4 ⊗ va 5)) ∷ []) ((va 0 ⊗ va 2) ⊗ (va 1 ⊗ va 3))
    ((va 0 ⊗ va 4) ⊗ (va 1 ⊗ va 5)) ((hy 0 ⊠ hy 1) ⊠ hy 2) refl (h0, (h1, (h2, tt)))

-- by h0*h1*h2
pub scale_neg : (p q l w n d : ℤ) → p ≤ℤ pos 0 → (pos 0) ≤ℤ q → (l *ℤ w) ≤ℤ (n *ℤ d) → ((p *ℤ n) *ℤ (q *ℤ d)) ≤ℤ ((p *ℤ l) *ℤ (q *ℤ w))
scale_neg p q l w n d h0 h1 h2 =
    cert (p ∷ q ∷ l ∷ w ∷ n ∷ d ∷ []) ((va 0 ≼ ko (pos 0)) ∷ (ko (pos 0) ≼ va 1) ∷ ((va 2 ⊗ va 3) ≼ (va 4 ⊗ va 5)) ∷ []) ((va 0 ⊗ va 4) ⊗ (va 1 ⊗ va 5))
    ((va 0 ⊗ va 2) ⊗ (va 1 ⊗ va 3)) ((hy 0 ⊠ hy 1) ⊠ hy 2) refl (h0, (h1, (h2, tt)))

-- by h2*(h2 + 2*h1 + 2*h0)
pub square_up : (l s u : ℤ) → (pos 0) ≤ℤ l → l ≤ℤ s → s ≤ℤ u → (s *ℤ s) ≤ℤ (u *ℤ u)
square_up l s u h0 h1 h2 =
    cert (l ∷ s ∷ u ∷ []) ((ko (pos 0) ≼ va 0) ∷ (va 0 ≼ va 1) ∷ (va 1 ≼ va 2) ∷ []) (va 1 ⊗ va 1) (va 2 ⊗ va 2) (hy 2 ⊠ ((hy 2 ⊞ (nm 2 ⊠ hy 1)) ⊞ (nm 2 ⊠ hy 0))) refl (h0, (h1, (h2, tt)))

-- by h1*(h1 + 2*h0)
pub square_down : (l s : ℤ) → (pos 0) ≤ℤ l → l ≤ℤ s → (l *ℤ l) ≤ℤ (s *ℤ s)
square_down l s h0 h1 =
    cert (l ∷ s ∷ []) ((ko (pos 0) ≼ va 0) ∷ (va 0 ≼ va 1) ∷ []) (va 0 ⊗ va 0) (va 1 ⊗ va 1) (hy 1 ⊠ (hy 1 ⊞ (nm 2 ⊠ hy 0))) refl (h0, (h1, tt))

-- by h2*(h2 + 2*h1 + 2*h0)
pub square_up_neg : (l s u : ℤ) → l ≤ℤ pos 0 → s ≤ℤ l → u ≤ℤ s → (s *ℤ s) ≤ℤ (u *ℤ u)
square_up_neg l s u h0 h1 h2 =
    cert (l ∷ s ∷ u ∷ []) ((va 0 ≼ ko (pos 0)) ∷ (va 1 ≼ va 0) ∷ (va 2 ≼ va 1) ∷ []) (va 1 ⊗ va 1) (va 2 ⊗ va 2) (hy 2 ⊠ ((hy 2 ⊞ (nm 2 ⊠ hy 1)) ⊞ (nm 2 ⊠ hy 0))) refl (h0, (h1, (h2, tt)))

-- by h1*(h1 + 2*h0)
pub square_down_neg : (l s : ℤ) → l ≤ℤ pos 0 → s ≤ℤ l → (l *ℤ l) ≤ℤ (s *ℤ s)
square_down_neg l s h0 h1 =
    cert (l ∷ s ∷ []) ((va 0 ≼ ko (pos 0)) ∷ (va 1 ≼ va 0) ∷ []) (va 0 ⊗ va 0) (va 1 ⊗ va 1) (hy 1 ⊠ (hy 1 ⊞ (nm 2 ⊠ hy 0))) refl (h0, (h1, tt))

-- by h0*h1*h2
pub prod_nn3 : (p k y : ℤ) → (pos 0) ≤ℤ p → (pos 0) ≤ℤ k → (pos 0) ≤ℤ y → (pos 0) ≤ℤ ((p *ℤ k) *ℤ y)
prod_nn3 p k y h0 h1 h2 =
    cert (p ∷ k ∷ y ∷ []) ((ko (pos 0) ≼ va 0) ∷ (ko (pos 0) ≼ va 1) ∷ (ko (pos 0) ≼ va 2) ∷ []) (ko (pos 0)) ((va 0 ⊗ va 1) ⊗ va 2) ((hy 0 ⊠ hy 1) ⊠ hy 2) refl (h0, (h1, (h2, tt)))

-- by h0*h1*h2
pub prod_np3 : (p k y : ℤ) → p ≤ℤ pos 0 → (pos 0) ≤ℤ k → (pos 0) ≤ℤ y → ((p *ℤ k) *ℤ y) ≤ℤ pos 0
prod_np3 p k y h0 h1 h2 =
    cert (p ∷ k ∷ y ∷ []) ((va 0 ≼ ko (pos 0)) ∷ (ko (pos 0) ≼ va 1) ∷ (ko (pos 0) ≼ va 2) ∷ []) ((va 0 ⊗ va 1) ⊗ va 2) (ko (pos 0)) ((hy 0 ⊠ hy 1) ⊠ hy 2) refl (h0, (h1, (h2, tt)))

-- by sq(y)*(34449664224788480*(h0*h0*h0*h0*h0*h0*h0*h0*h0) + 77597229698777088*(h0*h0*h0*h0*h0*h0*h0*h0)*h1
--    + 77641431694442496*(h0*h0*h0*h0*h0*h0*h0)*(h1*h1) + 45302255657680896*(h0*h0*h0*h0*h0*h0)*(h1*h1*h1)
--    + 16989820337258496*(h0*h0*h0*h0*h0)*(h1*h1*h1*h1) + 4247531185766400*(h0*h0*h0*h0)*(h1*h1*h1*h1*h1)
--    + 707921864294400*(h0*h0*h0)*(h1*h1*h1*h1*h1*h1) + 75848771174400*(h0*h0)*(h1*h1*h1*h1*h1*h1*h1)
--    + 4740548198400*h0*(h1*h1*h1*h1*h1*h1*h1*h1) + 131681894400*(h1*h1*h1*h1*h1*h1*h1*h1*h1)) + 4194304*81*(h1 + 4*h0)*h2 + 4194304*h3
pub norm_from_high : (p q c s y : ℤ) → (pos 0) ≤ℤ (p *ℤ p) → (pos 4 *ℤ (p *ℤ p)) ≤ℤ (q *ℤ q)
    → ((c *ℤ (pos 40320 *ℤ ((((q *ℤ q) *ℤ (q *ℤ q)) *ℤ (q *ℤ q)) *ℤ (q *ℤ q)))) *ℤ (c *ℤ (pos 40320 *ℤ ((((q *ℤ q) *ℤ (q *ℤ q)) *ℤ (q *ℤ q)) *ℤ (q *ℤ q)))))
    ≤ℤ (((((pos 56 *ℤ (q *ℤ q)) *ℤ ((((pos 720 *ℤ (((q *ℤ q) *ℤ (q *ℤ q)) *ℤ (q *ℤ q))) -ℤ ((pos 360 *ℤ (p *ℤ p)) *ℤ ((q *ℤ q) *ℤ (q *ℤ q))))
    +ℤ ((pos 30 *ℤ ((p *ℤ p) *ℤ (p *ℤ p))) *ℤ (q *ℤ q))) -ℤ (((p *ℤ p) *ℤ (p *ℤ p)) *ℤ (p *ℤ p)))) +ℤ ((((p *ℤ p) *ℤ (p *ℤ p)) *ℤ (p *ℤ p)) *ℤ (p *ℤ p)))
    *ℤ y) *ℤ ((((pos 56 *ℤ (q *ℤ q)) *ℤ ((((pos 720 *ℤ (((q *ℤ q) *ℤ (q *ℤ q)) *ℤ (q *ℤ q))) -ℤ ((pos 360 *ℤ (p *ℤ p)) *ℤ ((q *ℤ q) *ℤ (q *ℤ q))))
    +ℤ ((pos 30 *ℤ ((p *ℤ p) *ℤ (p *ℤ p))) *ℤ (q *ℤ q))) -ℤ (((p *ℤ p) *ℤ (p *ℤ p)) *ℤ (p *ℤ p)))) +ℤ ((((p *ℤ p) *ℤ (p *ℤ p)) *ℤ (p *ℤ p)) *ℤ (p *ℤ p)))
    *ℤ y)) → ((s *ℤ (q *ℤ (pos 362880 *ℤ ((((q *ℤ q) *ℤ (q *ℤ q)) *ℤ (q *ℤ q)) *ℤ (q *ℤ q)))))
    *ℤ (s *ℤ (q *ℤ (pos 362880 *ℤ ((((q *ℤ q) *ℤ (q *ℤ q)) *ℤ (q *ℤ q)) *ℤ (q *ℤ q))))))
    ≤ℤ (((p *ℤ (((pos 72 *ℤ (q *ℤ q)) *ℤ ((((pos 5040 *ℤ (((q *ℤ q) *ℤ (q *ℤ q)) *ℤ (q *ℤ q))) -ℤ ((pos 840 *ℤ (p *ℤ p)) *ℤ ((q *ℤ q) *ℤ (q *ℤ q))))
    +ℤ ((pos 42 *ℤ ((p *ℤ p) *ℤ (p *ℤ p))) *ℤ (q *ℤ q))) -ℤ (((p *ℤ p) *ℤ (p *ℤ p)) *ℤ (p *ℤ p)))) +ℤ ((((p *ℤ p) *ℤ (p *ℤ p)) *ℤ (p *ℤ p)) *ℤ (p *ℤ p))))
    *ℤ y) *ℤ ((p *ℤ (((pos 72 *ℤ (q *ℤ q)) *ℤ ((((pos 5040 *ℤ (((q *ℤ q) *ℤ (q *ℤ q)) *ℤ (q *ℤ q))) -ℤ ((pos 840 *ℤ (p *ℤ p)) *ℤ ((q *ℤ q) *ℤ (q *ℤ q)))) +ℤ
    ((pos 42 *ℤ ((p *ℤ p) *ℤ (p *ℤ p))) *ℤ (q *ℤ q))) -ℤ (((p *ℤ p) *ℤ (p *ℤ p)) *ℤ (p *ℤ p)))) +ℤ ((((p *ℤ p) *ℤ (p *ℤ p)) *ℤ (p *ℤ p)) *ℤ (p *ℤ p))))
    *ℤ y)) → (pos 0) <ℤ (pos 81
    *ℤ ((q *ℤ q) *ℤ ((pos 40320 *ℤ ((((q *ℤ q) *ℤ (q *ℤ q)) *ℤ (q *ℤ q)) *ℤ (q *ℤ q))) *ℤ (pos 40320 *ℤ ((((q *ℤ q) *ℤ (q *ℤ q)) *ℤ (q *ℤ q)) *ℤ (q *ℤ q))))))
    → (pos 4194304 *ℤ (((c *ℤ c) +ℤ (s *ℤ s)) -ℤ (y *ℤ y))) ≤ℤ (pos 1 *ℤ (y *ℤ y))
norm_from_high p q c s y h0 h1 h2 h3 h4 =
    cancel (pos 81 *ℤ ((q *ℤ q)
    *ℤ ((pos 40320 *ℤ ((((q *ℤ q) *ℤ (q *ℤ q)) *ℤ (q *ℤ q)) *ℤ (q *ℤ q))) *ℤ (pos 40320 *ℤ ((((q *ℤ q) *ℤ (q *ℤ q)) *ℤ (q *ℤ q)) *ℤ (q *ℤ q))))))
    (pos 4194304 *ℤ (((c *ℤ c) +ℤ (s *ℤ s)) -ℤ (y *ℤ y))) (pos 1 *ℤ (y *ℤ y)) h4 (cert (p ∷ q ∷ c ∷ s ∷ y ∷ []) ((ko (pos 0) ≼ (va 0 ⊗ va 0))
    ∷ ((ko (pos 4) ⊗ (va 0 ⊗ va 0)) ≼ (va 1 ⊗ va 1)) ∷ (((va 2 ⊗ (ko (pos 40320) ⊗ ((((va 1 ⊗ va 1) ⊗ (va 1 ⊗ va 1)) ⊗ (va 1 ⊗ va 1)) ⊗ (va 1 ⊗ va 1))))
    ⊗ (va 2 ⊗ (ko (pos 40320) ⊗ ((((va 1 ⊗ va 1) ⊗ (va 1 ⊗ va 1)) ⊗ (va 1 ⊗ va 1)) ⊗ (va 1 ⊗ va 1)))))
    ≼ (((((ko (pos 56) ⊗ (va 1 ⊗ va 1)) ⊗ ((((ko (pos 720) ⊗ (((va 1 ⊗ va 1) ⊗ (va 1 ⊗ va 1)) ⊗ (va 1 ⊗ va 1)))
    ⊖ ((ko (pos 360) ⊗ (va 0 ⊗ va 0)) ⊗ ((va 1 ⊗ va 1) ⊗ (va 1 ⊗ va 1)))) ⊕ ((ko (pos 30) ⊗ ((va 0 ⊗ va 0) ⊗ (va 0 ⊗ va 0))) ⊗ (va 1 ⊗ va 1)))
    ⊖ (((va 0 ⊗ va 0) ⊗ (va 0 ⊗ va 0)) ⊗ (va 0 ⊗ va 0)))) ⊕ ((((va 0 ⊗ va 0) ⊗ (va 0 ⊗ va 0)) ⊗ (va 0 ⊗ va 0)) ⊗ (va 0 ⊗ va 0))) ⊗ va 4)
    ⊗ ((((ko (pos 56) ⊗ (va 1 ⊗ va 1)) ⊗ ((((ko (pos 720) ⊗ (((va 1 ⊗ va 1) ⊗ (va 1 ⊗ va 1)) ⊗ (va 1 ⊗ va 1)))
    ⊖ ((ko (pos 360) ⊗ (va 0 ⊗ va 0)) ⊗ ((va 1 ⊗ va 1) ⊗ (va 1 ⊗ va 1)))) ⊕ ((ko (pos 30) ⊗ ((va 0 ⊗ va 0) ⊗ (va 0 ⊗ va 0))) ⊗ (va 1 ⊗ va 1)))
    ⊖ (((va 0 ⊗ va 0) ⊗ (va 0 ⊗ va 0)) ⊗ (va 0 ⊗ va 0)))) ⊕ ((((va 0 ⊗ va 0) ⊗ (va 0 ⊗ va 0)) ⊗ (va 0 ⊗ va 0)) ⊗ (va 0 ⊗ va 0))) ⊗ va 4)))
    ∷ (((va 3 ⊗ (va 1 ⊗ (ko (pos 362880) ⊗ ((((va 1 ⊗ va 1) ⊗ (va 1 ⊗ va 1)) ⊗ (va 1 ⊗ va 1)) ⊗ (va 1 ⊗ va 1)))))
    ⊗ (va 3 ⊗ (va 1 ⊗ (ko (pos 362880) ⊗ ((((va 1 ⊗ va 1) ⊗ (va 1 ⊗ va 1)) ⊗ (va 1 ⊗ va 1)) ⊗ (va 1 ⊗ va 1))))))
    ≼ (((va 0 ⊗ (((ko (pos 72) ⊗ (va 1 ⊗ va 1)) ⊗ ((((ko (pos 5040) ⊗ (((va 1 ⊗ va 1) ⊗ (va 1 ⊗ va 1)) ⊗ (va 1 ⊗ va 1)))
    ⊖ ((ko (pos 840) ⊗ (va 0 ⊗ va 0)) ⊗ ((va 1 ⊗ va 1) ⊗ (va 1 ⊗ va 1)))) ⊕ ((ko (pos 42) ⊗ ((va 0 ⊗ va 0) ⊗ (va 0 ⊗ va 0))) ⊗ (va 1 ⊗ va 1)))
    ⊖ (((va 0 ⊗ va 0) ⊗ (va 0 ⊗ va 0)) ⊗ (va 0 ⊗ va 0)))) ⊕ ((((va 0 ⊗ va 0) ⊗ (va 0 ⊗ va 0)) ⊗ (va 0 ⊗ va 0)) ⊗ (va 0 ⊗ va 0)))) ⊗ va 4)
    ⊗ ((va 0 ⊗ (((ko (pos 72) ⊗ (va 1 ⊗ va 1)) ⊗ ((((ko (pos 5040) ⊗ (((va 1 ⊗ va 1) ⊗ (va 1 ⊗ va 1)) ⊗ (va 1 ⊗ va 1)))
    ⊖ ((ko (pos 840) ⊗ (va 0 ⊗ va 0)) ⊗ ((va 1 ⊗ va 1) ⊗ (va 1 ⊗ va 1)))) ⊕ ((ko (pos 42) ⊗ ((va 0 ⊗ va 0) ⊗ (va 0 ⊗ va 0))) ⊗ (va 1 ⊗ va 1)))
    ⊖ (((va 0 ⊗ va 0) ⊗ (va 0 ⊗ va 0)) ⊗ (va 0 ⊗ va 0)))) ⊕ ((((va 0 ⊗ va 0) ⊗ (va 0 ⊗ va 0)) ⊗ (va 0 ⊗ va 0)) ⊗ (va 0 ⊗ va 0)))) ⊗ va 4)))
    ∷ (ko (pos 0) ≼ (ko (pos 81) ⊗ ((va 1 ⊗ va 1) ⊗ ((ko (pos 40320) ⊗ ((((va 1 ⊗ va 1) ⊗ (va 1 ⊗ va 1)) ⊗ (va 1 ⊗ va 1)) ⊗ (va 1 ⊗ va 1)))
    ⊗ (ko (pos 40320) ⊗ ((((va 1 ⊗ va 1) ⊗ (va 1 ⊗ va 1)) ⊗ (va 1 ⊗ va 1)) ⊗ (va 1 ⊗ va 1))))))) ∷ [])
    ((ko (pos 81) ⊗ ((va 1 ⊗ va 1) ⊗ ((ko (pos 40320) ⊗ ((((va 1 ⊗ va 1) ⊗ (va 1 ⊗ va 1)) ⊗ (va 1 ⊗ va 1)) ⊗ (va 1 ⊗ va 1)))
    ⊗ (ko (pos 40320) ⊗ ((((va 1 ⊗ va 1) ⊗ (va 1 ⊗ va 1)) ⊗ (va 1 ⊗ va 1)) ⊗ (va 1 ⊗ va 1))))))
    ⊗ (ko (pos 4194304) ⊗ (((va 2 ⊗ va 2) ⊕ (va 3 ⊗ va 3)) ⊖ (va 4 ⊗ va 4))))
    ((ko (pos 81) ⊗ ((va 1 ⊗ va 1) ⊗ ((ko (pos 40320) ⊗ ((((va 1 ⊗ va 1) ⊗ (va 1 ⊗ va 1)) ⊗ (va 1 ⊗ va 1)) ⊗ (va 1 ⊗ va 1)))
    ⊗ (ko (pos 40320) ⊗ ((((va 1 ⊗ va 1) ⊗ (va 1 ⊗ va 1)) ⊗ (va 1 ⊗ va 1)) ⊗ (va 1 ⊗ va 1)))))) ⊗ (ko (pos 1) ⊗ (va 4 ⊗ va 4)))
    ((((sq (va 4)) ⊠ ((((((((((nm 34449664224788480 ⊠ ((((((((hy 0 ⊠ hy 0) ⊠ hy 0) ⊠ hy 0) ⊠ hy 0) ⊠ hy 0) ⊠ hy 0) ⊠ hy 0) ⊠ hy 0))
    ⊞ ((nm 77597229698777088 ⊠ (((((((hy 0 ⊠ hy 0) ⊠ hy 0) ⊠ hy 0) ⊠ hy 0) ⊠ hy 0) ⊠ hy 0) ⊠ hy 0)) ⊠ hy 1)) ⊞ ((nm 77641431694442496
    ⊠ ((((((hy 0 ⊠ hy 0) ⊠ hy 0) ⊠ hy 0) ⊠ hy 0) ⊠ hy 0) ⊠ hy 0)) ⊠ (hy 1 ⊠ hy 1))) ⊞ ((nm 45302255657680896 ⊠ (((((hy 0 ⊠ hy 0) ⊠ hy 0) ⊠ hy 0)
    ⊠ hy 0) ⊠ hy 0)) ⊠ ((hy 1 ⊠ hy 1) ⊠ hy 1))) ⊞ ((nm 16989820337258496 ⊠ ((((hy 0 ⊠ hy 0) ⊠ hy 0) ⊠ hy 0) ⊠ hy 0))
    ⊠ (((hy 1 ⊠ hy 1) ⊠ hy 1) ⊠ hy 1))) ⊞ ((nm 4247531185766400 ⊠ (((hy 0 ⊠ hy 0) ⊠ hy 0) ⊠ hy 0)) ⊠ ((((hy 1 ⊠ hy 1) ⊠ hy 1) ⊠ hy 1) ⊠ hy 1)))
    ⊞ ((nm 707921864294400 ⊠ ((hy 0 ⊠ hy 0) ⊠ hy 0)) ⊠ (((((hy 1 ⊠ hy 1) ⊠ hy 1) ⊠ hy 1) ⊠ hy 1) ⊠ hy 1)))
    ⊞ ((nm 75848771174400 ⊠ (hy 0 ⊠ hy 0)) ⊠ ((((((hy 1 ⊠ hy 1) ⊠ hy 1) ⊠ hy 1) ⊠ hy 1) ⊠ hy 1) ⊠ hy 1)))
    ⊞ ((nm 4740548198400 ⊠ hy 0) ⊠ (((((((hy 1 ⊠ hy 1) ⊠ hy 1) ⊠ hy 1) ⊠ hy 1) ⊠ hy 1) ⊠ hy 1) ⊠ hy 1))) ⊞ (nm 131681894400
    ⊠ ((((((((hy 1 ⊠ hy 1) ⊠ hy 1) ⊠ hy 1) ⊠ hy 1) ⊠ hy 1) ⊠ hy 1) ⊠ hy 1) ⊠ hy 1)))) ⊞ (((nm 4194304 ⊠ nm 81) ⊠ (hy 1 ⊞ (nm 4 ⊠ hy 0))) ⊠ hy 2))
    ⊞ (nm 4194304 ⊠ hy 3)) refl (
      h0,
      (
        h1,
        (
          h2,
          (
            h3,
            (
              weak (pos 0) (pos 81 *ℤ ((q *ℤ q) *ℤ ((pos 40320
                  *ℤ ((((q *ℤ q) *ℤ (q *ℤ q)) *ℤ (q *ℤ q)) *ℤ (q *ℤ q))) *ℤ (pos 40320 *ℤ ((((q *ℤ q) *ℤ (q *ℤ q)) *ℤ (q *ℤ q)) *ℤ (q *ℤ q)))))) h4,
              tt,
            ),
          ),
        ),
      ),
    ))

-- by sq(y)*(9222626224373760*(h0*h0*h0*h0*h0*h0*h0*h0*h0) + 45370641871798272*(h0*h0*h0*h0*h0*h0*h0*h0)*h1
--    + 61178283231805440*(h0*h0*h0*h0*h0*h0*h0)*(h1*h1) + 41098132422918144*(h0*h0*h0*h0*h0*h0)*(h1*h1*h1)
--    + 16453152899334144*(h0*h0*h0*h0*h0)*(h1*h1*h1*h1) + 4220134663127040*(h0*h0*h0*h0)*(h1*h1*h1*h1*h1)
--    + 707921864294400*(h0*h0*h0)*(h1*h1*h1*h1*h1*h1) + 75848771174400*(h0*h0)*(h1*h1*h1*h1*h1*h1*h1)
--    + 4740548198400*h0*(h1*h1*h1*h1*h1*h1*h1*h1) + 131681894400*(h1*h1*h1*h1*h1*h1*h1*h1*h1)) + 4194304*81*(h1 + 4*h0)*h2 + 4194304*h3
pub norm_from_low : (p q c s y : ℤ) → (pos 0) ≤ℤ (p *ℤ p) → (pos 4 *ℤ (p *ℤ p)) ≤ℤ (q *ℤ q)
    → ((((pos 56 *ℤ (q *ℤ q)) *ℤ ((((pos 720 *ℤ (((q *ℤ q) *ℤ (q *ℤ q)) *ℤ (q *ℤ q))) -ℤ ((pos 360 *ℤ (p *ℤ p)) *ℤ ((q *ℤ q) *ℤ (q *ℤ q))))
    +ℤ ((pos 30 *ℤ ((p *ℤ p) *ℤ (p *ℤ p))) *ℤ (q *ℤ q))) -ℤ (((p *ℤ p) *ℤ (p *ℤ p)) *ℤ (p *ℤ p)))) *ℤ y)
    *ℤ (((pos 56 *ℤ (q *ℤ q)) *ℤ ((((pos 720 *ℤ (((q *ℤ q) *ℤ (q *ℤ q)) *ℤ (q *ℤ q))) -ℤ ((pos 360 *ℤ (p *ℤ p)) *ℤ ((q *ℤ q) *ℤ (q *ℤ q))))
    +ℤ ((pos 30 *ℤ ((p *ℤ p) *ℤ (p *ℤ p))) *ℤ (q *ℤ q))) -ℤ (((p *ℤ p) *ℤ (p *ℤ p)) *ℤ (p *ℤ p)))) *ℤ y))
    ≤ℤ ((c *ℤ (pos 40320 *ℤ ((((q *ℤ q) *ℤ (q *ℤ q)) *ℤ (q *ℤ q)) *ℤ (q *ℤ q)))) *ℤ (c *ℤ (pos 40320 *ℤ ((((q *ℤ q) *ℤ (q *ℤ q)) *ℤ (q *ℤ q)) *ℤ (q *ℤ q)))))
    → (((p *ℤ ((pos 72 *ℤ (q *ℤ q)) *ℤ ((((pos 5040 *ℤ (((q *ℤ q) *ℤ (q *ℤ q)) *ℤ (q *ℤ q))) -ℤ ((pos 840 *ℤ (p *ℤ p)) *ℤ ((q *ℤ q) *ℤ (q *ℤ q))))
    +ℤ ((pos 42 *ℤ ((p *ℤ p) *ℤ (p *ℤ p))) *ℤ (q *ℤ q))) -ℤ (((p *ℤ p) *ℤ (p *ℤ p)) *ℤ (p *ℤ p))))) *ℤ y)
    *ℤ ((p *ℤ ((pos 72 *ℤ (q *ℤ q)) *ℤ ((((pos 5040 *ℤ (((q *ℤ q) *ℤ (q *ℤ q)) *ℤ (q *ℤ q))) -ℤ ((pos 840 *ℤ (p *ℤ p)) *ℤ ((q *ℤ q) *ℤ (q *ℤ q))))
    +ℤ ((pos 42 *ℤ ((p *ℤ p) *ℤ (p *ℤ p))) *ℤ (q *ℤ q))) -ℤ (((p *ℤ p) *ℤ (p *ℤ p)) *ℤ (p *ℤ p))))) *ℤ y))
    ≤ℤ ((s *ℤ (q *ℤ (pos 362880 *ℤ ((((q *ℤ q) *ℤ (q *ℤ q)) *ℤ (q *ℤ q)) *ℤ (q *ℤ q)))))
    *ℤ (s *ℤ (q *ℤ (pos 362880 *ℤ ((((q *ℤ q) *ℤ (q *ℤ q)) *ℤ (q *ℤ q)) *ℤ (q *ℤ q)))))) → (pos 0) <ℤ (pos 81
    *ℤ ((q *ℤ q) *ℤ ((pos 40320 *ℤ ((((q *ℤ q) *ℤ (q *ℤ q)) *ℤ (q *ℤ q)) *ℤ (q *ℤ q))) *ℤ (pos 40320 *ℤ ((((q *ℤ q) *ℤ (q *ℤ q)) *ℤ (q *ℤ q)) *ℤ (q *ℤ q))))))
    → (pos 4194304 *ℤ ((y *ℤ y) -ℤ ((c *ℤ c) +ℤ (s *ℤ s)))) ≤ℤ (pos 1 *ℤ (y *ℤ y))
norm_from_low p q c s y h0 h1 h2 h3 h4 =
    cancel (pos 81 *ℤ ((q *ℤ q)
    *ℤ ((pos 40320 *ℤ ((((q *ℤ q) *ℤ (q *ℤ q)) *ℤ (q *ℤ q)) *ℤ (q *ℤ q))) *ℤ (pos 40320 *ℤ ((((q *ℤ q) *ℤ (q *ℤ q)) *ℤ (q *ℤ q)) *ℤ (q *ℤ q))))))
    (pos 4194304 *ℤ ((y *ℤ y) -ℤ ((c *ℤ c) +ℤ (s *ℤ s)))) (pos 1 *ℤ (y *ℤ y)) h4
    (cert (p ∷ q ∷ c ∷ s ∷ y ∷ []) ((ko (pos 0) ≼ (va 0 ⊗ va 0)) ∷ ((ko (pos 4) ⊗ (va 0 ⊗ va 0)) ≼ (va 1 ⊗ va 1))
    ∷ (((((ko (pos 56) ⊗ (va 1 ⊗ va 1)) ⊗ ((((ko (pos 720) ⊗ (((va 1 ⊗ va 1) ⊗ (va 1 ⊗ va 1)) ⊗ (va 1 ⊗ va 1)))
    ⊖ ((ko (pos 360) ⊗ (va 0 ⊗ va 0)) ⊗ ((va 1 ⊗ va 1) ⊗ (va 1 ⊗ va 1)))) ⊕ ((ko (pos 30) ⊗ ((va 0 ⊗ va 0) ⊗ (va 0 ⊗ va 0))) ⊗ (va 1 ⊗ va 1)))
    ⊖ (((va 0 ⊗ va 0) ⊗ (va 0 ⊗ va 0)) ⊗ (va 0 ⊗ va 0)))) ⊗ va 4) ⊗ (((ko (pos 56) ⊗ (va 1 ⊗ va 1))
    ⊗ ((((ko (pos 720) ⊗ (((va 1 ⊗ va 1) ⊗ (va 1 ⊗ va 1)) ⊗ (va 1 ⊗ va 1))) ⊖ ((ko (pos 360) ⊗ (va 0 ⊗ va 0)) ⊗ ((va 1 ⊗ va 1) ⊗ (va 1 ⊗ va 1))))
    ⊕ ((ko (pos 30) ⊗ ((va 0 ⊗ va 0) ⊗ (va 0 ⊗ va 0))) ⊗ (va 1 ⊗ va 1))) ⊖ (((va 0 ⊗ va 0) ⊗ (va 0 ⊗ va 0)) ⊗ (va 0 ⊗ va 0)))) ⊗ va 4))
    ≼ ((va 2 ⊗ (ko (pos 40320) ⊗ ((((va 1 ⊗ va 1) ⊗ (va 1 ⊗ va 1)) ⊗ (va 1 ⊗ va 1)) ⊗ (va 1 ⊗ va 1))))
    ⊗ (va 2 ⊗ (ko (pos 40320) ⊗ ((((va 1 ⊗ va 1) ⊗ (va 1 ⊗ va 1)) ⊗ (va 1 ⊗ va 1)) ⊗ (va 1 ⊗ va 1))))))
    ∷ ((((va 0 ⊗ ((ko (pos 72) ⊗ (va 1 ⊗ va 1)) ⊗ ((((ko (pos 5040) ⊗ (((va 1 ⊗ va 1) ⊗ (va 1 ⊗ va 1)) ⊗ (va 1 ⊗ va 1)))
    ⊖ ((ko (pos 840) ⊗ (va 0 ⊗ va 0)) ⊗ ((va 1 ⊗ va 1) ⊗ (va 1 ⊗ va 1)))) ⊕ ((ko (pos 42) ⊗ ((va 0 ⊗ va 0) ⊗ (va 0 ⊗ va 0))) ⊗ (va 1 ⊗ va 1)))
    ⊖ (((va 0 ⊗ va 0) ⊗ (va 0 ⊗ va 0)) ⊗ (va 0 ⊗ va 0))))) ⊗ va 4) ⊗ ((va 0 ⊗ ((ko (pos 72) ⊗ (va 1 ⊗ va 1))
    ⊗ ((((ko (pos 5040) ⊗ (((va 1 ⊗ va 1) ⊗ (va 1 ⊗ va 1)) ⊗ (va 1 ⊗ va 1))) ⊖ ((ko (pos 840) ⊗ (va 0 ⊗ va 0)) ⊗ ((va 1 ⊗ va 1) ⊗ (va 1 ⊗ va 1))))
    ⊕ ((ko (pos 42) ⊗ ((va 0 ⊗ va 0) ⊗ (va 0 ⊗ va 0))) ⊗ (va 1 ⊗ va 1))) ⊖ (((va 0 ⊗ va 0) ⊗ (va 0 ⊗ va 0)) ⊗ (va 0 ⊗ va 0))))) ⊗ va 4))
    ≼ ((va 3 ⊗ (va 1 ⊗ (ko (pos 362880) ⊗ ((((va 1 ⊗ va 1) ⊗ (va 1 ⊗ va 1)) ⊗ (va 1 ⊗ va 1)) ⊗ (va 1 ⊗ va 1)))))
    ⊗ (va 3 ⊗ (va 1 ⊗ (ko (pos 362880) ⊗ ((((va 1 ⊗ va 1) ⊗ (va 1 ⊗ va 1)) ⊗ (va 1 ⊗ va 1)) ⊗ (va 1 ⊗ va 1)))))))
    ∷ (ko (pos 0) ≼ (ko (pos 81) ⊗ ((va 1 ⊗ va 1) ⊗ ((ko (pos 40320) ⊗ ((((va 1 ⊗ va 1) ⊗ (va 1 ⊗ va 1)) ⊗ (va 1 ⊗ va 1)) ⊗ (va 1 ⊗ va 1)))
    ⊗ (ko (pos 40320) ⊗ ((((va 1 ⊗ va 1) ⊗ (va 1 ⊗ va 1)) ⊗ (va 1 ⊗ va 1)) ⊗ (va 1 ⊗ va 1))))))) ∷ [])
    ((ko (pos 81) ⊗ ((va 1 ⊗ va 1) ⊗ ((ko (pos 40320) ⊗ ((((va 1 ⊗ va 1) ⊗ (va 1 ⊗ va 1)) ⊗ (va 1 ⊗ va 1)) ⊗ (va 1 ⊗ va 1)))
    ⊗ (ko (pos 40320) ⊗ ((((va 1 ⊗ va 1) ⊗ (va 1 ⊗ va 1)) ⊗ (va 1 ⊗ va 1)) ⊗ (va 1 ⊗ va 1))))))
    ⊗ (ko (pos 4194304) ⊗ ((va 4 ⊗ va 4) ⊖ ((va 2 ⊗ va 2) ⊕ (va 3 ⊗ va 3)))))
    ((ko (pos 81) ⊗ ((va 1 ⊗ va 1) ⊗ ((ko (pos 40320) ⊗ ((((va 1 ⊗ va 1) ⊗ (va 1 ⊗ va 1)) ⊗ (va 1 ⊗ va 1)) ⊗ (va 1 ⊗ va 1)))
    ⊗ (ko (pos 40320) ⊗ ((((va 1 ⊗ va 1) ⊗ (va 1 ⊗ va 1)) ⊗ (va 1 ⊗ va 1)) ⊗ (va 1 ⊗ va 1)))))) ⊗ (ko (pos 1) ⊗ (va 4 ⊗ va 4)))
    ((((sq (va 4)) ⊠ ((((((((((nm 9222626224373760 ⊠ ((((((((hy 0 ⊠ hy 0) ⊠ hy 0) ⊠ hy 0) ⊠ hy 0) ⊠ hy 0) ⊠ hy 0) ⊠ hy 0) ⊠ hy 0))
    ⊞ ((nm 45370641871798272 ⊠ (((((((hy 0 ⊠ hy 0) ⊠ hy 0) ⊠ hy 0) ⊠ hy 0) ⊠ hy 0) ⊠ hy 0) ⊠ hy 0)) ⊠ hy 1)) ⊞ ((nm 61178283231805440
    ⊠ ((((((hy 0 ⊠ hy 0) ⊠ hy 0) ⊠ hy 0) ⊠ hy 0) ⊠ hy 0) ⊠ hy 0)) ⊠ (hy 1 ⊠ hy 1))) ⊞ ((nm 41098132422918144 ⊠ (((((hy 0 ⊠ hy 0) ⊠ hy 0) ⊠ hy 0)
    ⊠ hy 0) ⊠ hy 0)) ⊠ ((hy 1 ⊠ hy 1) ⊠ hy 1))) ⊞ ((nm 16453152899334144 ⊠ ((((hy 0 ⊠ hy 0) ⊠ hy 0) ⊠ hy 0) ⊠ hy 0))
    ⊠ (((hy 1 ⊠ hy 1) ⊠ hy 1) ⊠ hy 1))) ⊞ ((nm 4220134663127040 ⊠ (((hy 0 ⊠ hy 0) ⊠ hy 0) ⊠ hy 0)) ⊠ ((((hy 1 ⊠ hy 1) ⊠ hy 1) ⊠ hy 1) ⊠ hy 1)))
    ⊞ ((nm 707921864294400 ⊠ ((hy 0 ⊠ hy 0) ⊠ hy 0)) ⊠ (((((hy 1 ⊠ hy 1) ⊠ hy 1) ⊠ hy 1) ⊠ hy 1) ⊠ hy 1)))
    ⊞ ((nm 75848771174400 ⊠ (hy 0 ⊠ hy 0)) ⊠ ((((((hy 1 ⊠ hy 1) ⊠ hy 1) ⊠ hy 1) ⊠ hy 1) ⊠ hy 1) ⊠ hy 1)))
    ⊞ ((nm 4740548198400 ⊠ hy 0) ⊠ (((((((hy 1 ⊠ hy 1) ⊠ hy 1) ⊠ hy 1) ⊠ hy 1) ⊠ hy 1) ⊠ hy 1) ⊠ hy 1))) ⊞ (nm 131681894400
    ⊠ ((((((((hy 1 ⊠ hy 1) ⊠ hy 1) ⊠ hy 1) ⊠ hy 1) ⊠ hy 1) ⊠ hy 1) ⊠ hy 1) ⊠ hy 1)))) ⊞ (((nm 4194304 ⊠ nm 81) ⊠ (hy 1 ⊞ (nm 4 ⊠ hy 0))) ⊠ hy 2))
    ⊞ (nm 4194304 ⊠ hy 3)) refl (
      h0,
      (
        h1,
        (
          h2,
          (
            h3,
            (
              weak (pos 0) (pos 81 *ℤ ((q *ℤ q) *ℤ ((pos 40320
                  *ℤ ((((q *ℤ q) *ℤ (q *ℤ q)) *ℤ (q *ℤ q)) *ℤ (q *ℤ q))) *ℤ (pos 40320 *ℤ ((((q *ℤ q) *ℤ (q *ℤ q)) *ℤ (q *ℤ q)) *ℤ (q *ℤ q)))))) h4,
              tt,
            ),
          ),
        ),
      ),
    ))

-- by 2*4194304*sq(q)*h0 + sq(q)*sq(q)*(h3*(h2 + 2048)) + h0*h1
pub normed_high : (c s q m : ℤ) → (pos 4194304 *ℤ (((c *ℤ c) +ℤ (s *ℤ s)) -ℤ (q *ℤ q))) ≤ℤ (m *ℤ (q *ℤ q))
    → (pos 4194304 *ℤ ((q *ℤ q) -ℤ ((c *ℤ c) +ℤ (s *ℤ s)))) ≤ℤ (m *ℤ (q *ℤ q)) → (pos 0) ≤ℤ m → m ≤ℤ pos 2048
    → (pos 4194304 *ℤ (((((c *ℤ c) -ℤ (s *ℤ s)) *ℤ ((c *ℤ c) -ℤ (s *ℤ s))) +ℤ ((pos 2 *ℤ (c *ℤ s)) *ℤ (pos 2 *ℤ (c *ℤ s)))) -ℤ ((q *ℤ q) *ℤ (q *ℤ q))))
    ≤ℤ (((pos 2 *ℤ m) +ℤ pos 1) *ℤ ((q *ℤ q) *ℤ (q *ℤ q)))
normed_high c s q m h0 h1 h2 h3 =
    cancel (pos 4194304)
    (pos 4194304 *ℤ (((((c *ℤ c) -ℤ (s *ℤ s)) *ℤ ((c *ℤ c) -ℤ (s *ℤ s))) +ℤ ((pos 2 *ℤ (c *ℤ s)) *ℤ (pos 2 *ℤ (c *ℤ s)))) -ℤ ((q *ℤ q) *ℤ (q *ℤ q))))
    (((pos 2 *ℤ m) +ℤ pos 1) *ℤ ((q *ℤ q) *ℤ (q *ℤ q))) (omega (arith, ints))
    (cert (c ∷ s ∷ q ∷ m ∷ []) (((ko (pos 4194304) ⊗ (((va 0 ⊗ va 0) ⊕ (va 1 ⊗ va 1)) ⊖ (va 2 ⊗ va 2))) ≼ (va 3 ⊗ (va 2 ⊗ va 2)))
    ∷ ((ko (pos 4194304) ⊗ ((va 2 ⊗ va 2) ⊖ ((va 0 ⊗ va 0) ⊕ (va 1 ⊗ va 1)))) ≼ (va 3 ⊗ (va 2 ⊗ va 2))) ∷ (ko (pos 0) ≼ va 3) ∷ (va 3 ≼ ko (pos 2048))
    ∷ []) (ko (pos 4194304) ⊗ (ko (pos 4194304) ⊗ (((((va 0 ⊗ va 0) ⊖ (va 1 ⊗ va 1)) ⊗ ((va 0 ⊗ va 0) ⊖ (va 1 ⊗ va 1)))
    ⊕ ((ko (pos 2) ⊗ (va 0 ⊗ va 1)) ⊗ (ko (pos 2) ⊗ (va 0 ⊗ va 1)))) ⊖ ((va 2 ⊗ va 2) ⊗ (va 2 ⊗ va 2)))))
    (ko (pos 4194304) ⊗ (((ko (pos 2) ⊗ va 3) ⊕ ko (pos 1)) ⊗ ((va 2 ⊗ va 2) ⊗ (va 2 ⊗ va 2)))) (((((nm 2 ⊠ nm 4194304) ⊠ (sq (va 2))) ⊠ hy 0)
    ⊞ (((sq (va 2)) ⊠ (sq (va 2))) ⊠ (hy 3 ⊠ (hy 2 ⊞ nm 2048)))) ⊞ (hy 0 ⊠ hy 1)) refl (h0, (h1, (h2, (h3, tt)))))

-- by 2*sq(q)*h0 + sq(q)*sq(q) + 4194304*sq(c*c + s*s - q*q)
pub normed_low : (c s q m : ℤ) → (pos 4194304 *ℤ ((q *ℤ q) -ℤ ((c *ℤ c) +ℤ (s *ℤ s)))) ≤ℤ (m *ℤ (q *ℤ q))
    → (pos 4194304 *ℤ (((q *ℤ q) *ℤ (q *ℤ q)) -ℤ ((((c *ℤ c) -ℤ (s *ℤ s)) *ℤ ((c *ℤ c) -ℤ (s *ℤ s))) +ℤ ((pos 2 *ℤ (c *ℤ s)) *ℤ (pos 2 *ℤ (c *ℤ s))))))
    ≤ℤ (((pos 2 *ℤ m) +ℤ pos 1) *ℤ ((q *ℤ q) *ℤ (q *ℤ q)))
normed_low c s q m h0 =
    cert (c ∷ s ∷ q ∷ m ∷ []) (((ko (pos 4194304) ⊗ ((va 2 ⊗ va 2) ⊖ ((va 0 ⊗ va 0) ⊕ (va 1 ⊗ va 1)))) ≼ (va 3 ⊗ (va 2 ⊗ va 2))) ∷ [])
    (ko (pos 4194304) ⊗ (((va 2 ⊗ va 2) ⊗ (va 2 ⊗ va 2))
    ⊖ ((((va 0 ⊗ va 0) ⊖ (va 1 ⊗ va 1)) ⊗ ((va 0 ⊗ va 0) ⊖ (va 1 ⊗ va 1))) ⊕ ((ko (pos 2) ⊗ (va 0 ⊗ va 1)) ⊗ (ko (pos 2) ⊗ (va 0 ⊗ va 1))))))
    (((ko (pos 2) ⊗ va 3) ⊕ ko (pos 1)) ⊗ ((va 2 ⊗ va 2) ⊗ (va 2 ⊗ va 2)))
    ((((nm 2 ⊠ (sq (va 2))) ⊠ hy 0) ⊞ ((sq (va 2)) ⊠ (sq (va 2)))) ⊞ (nm 4194304 ⊠ (sq (((va 0 ⊗ va 0) ⊕ (va 1 ⊗ va 1)) ⊖ (va 2 ⊗ va 2))))) refl (h0, tt)
