-- Inequalities of the laws of a pair, each by a certificate.
-- The terms are made: tools/inequality_certificate.py writes a lemma from its claim and the products of its hypotheses,
-- h0, h1, .. in the order in which they stand: they are over each lemma, after `by`. Who changes a claim writes its term anew there;
-- the check proves what is written.
use Rattle.std.proofs.Common.{[], ◌∷◌, ℤ, pos, ◌+ℤ◌, ◌-ℤ◌, ◌*ℤ◌, ◌≤ℤ◌, ◌<ℤ◌, arith, refl}
use Rattle.std.proofs.lemmas.Int.{ints}
use Rattle.whole_math.proofs.Ring.{va, ko, ◌⊕◌, ◌⊖◌, ◌⊗◌}
use Rattle.whole_math.proofs.Certificates.{cert, cancel, weak, ◌≼◌, hy, nm, sq, ◌⊞◌, ◌⊠◌}

-- by 36*h0*h1 + h2*h3 + sq(q*r)*(899*h4*h4 + 2496*h4*h5)
pub gap_start : (c s q e t r v u j i : ℤ) → (((c *ℤ r) -ℤ (e *ℤ q)) *ℤ ((pos 8 *ℤ u) *ℤ i)) ≤ℤ ((((pos 5 *ℤ v) *ℤ i) +ℤ (pos 16 *ℤ (u *ℤ j))) *ℤ (q *ℤ r))
    → (((e *ℤ q) -ℤ (c *ℤ r)) *ℤ ((pos 8 *ℤ u) *ℤ i)) ≤ℤ ((((pos 5 *ℤ v) *ℤ i) +ℤ (pos 16 *ℤ (u *ℤ j))) *ℤ (r *ℤ q))
    → (((s *ℤ r) -ℤ (t *ℤ q)) *ℤ ((pos 48 *ℤ u) *ℤ i)) ≤ℤ ((((pos 53 *ℤ v) *ℤ i) +ℤ (pos 96 *ℤ (u *ℤ j))) *ℤ (q *ℤ r))
    → (((t *ℤ q) -ℤ (s *ℤ r)) *ℤ ((pos 48 *ℤ u) *ℤ i)) ≤ℤ ((((pos 53 *ℤ v) *ℤ i) +ℤ (pos 96 *ℤ (u *ℤ j))) *ℤ (r *ℤ q)) → (pos 0) ≤ℤ (v *ℤ i)
    → (pos 0) ≤ℤ (u *ℤ j)
    → (pos 1 *ℤ (((u *ℤ i) *ℤ (u *ℤ i)) *ℤ ((((c *ℤ r) -ℤ (e *ℤ q)) *ℤ ((c *ℤ r) -ℤ (e *ℤ q))) +ℤ (((s *ℤ r) -ℤ (t *ℤ q)) *ℤ ((s *ℤ r) -ℤ (t *ℤ q))))))
    ≤ℤ (pos 1 *ℤ ((pos 2 *ℤ (((v *ℤ i) +ℤ (pos 2 *ℤ (u *ℤ j))) *ℤ ((v *ℤ i) +ℤ (pos 2 *ℤ (u *ℤ j))))) *ℤ ((q *ℤ r) *ℤ (q *ℤ r))))
gap_start c s q e t r v u j i h0 h1 h2 h3 h4 h5 =
    cancel (pos 2304)
    (pos 1 *ℤ (((u *ℤ i) *ℤ (u *ℤ i)) *ℤ ((((c *ℤ r) -ℤ (e *ℤ q)) *ℤ ((c *ℤ r) -ℤ (e *ℤ q))) +ℤ (((s *ℤ r) -ℤ (t *ℤ q)) *ℤ ((s *ℤ r) -ℤ (t *ℤ q))))))
    (pos 1 *ℤ ((pos 2 *ℤ (((v *ℤ i) +ℤ (pos 2 *ℤ (u *ℤ j))) *ℤ ((v *ℤ i) +ℤ (pos 2 *ℤ (u *ℤ j))))) *ℤ ((q *ℤ r) *ℤ (q *ℤ r)))) (omega (arith, ints))
    (cert (c ∷ s ∷ q ∷ e ∷ t ∷ r ∷ v ∷ u ∷ j ∷ i ∷ [])
    (((((va 0 ⊗ va 5) ⊖ (va 3 ⊗ va 2)) ⊗ ((ko (pos 8) ⊗ va 7) ⊗ va 9)) ≼ ((((ko (pos 5) ⊗ va 6) ⊗ va 9) ⊕ (ko (pos 16) ⊗ (va 7 ⊗ va 8))) ⊗ (va 2 ⊗ va 5)))
    ∷ ((((va 3 ⊗ va 2) ⊖ (va 0 ⊗ va 5)) ⊗ ((ko (pos 8) ⊗ va 7) ⊗ va 9)) ≼ ((((ko (pos 5) ⊗ va 6) ⊗ va 9) ⊕ (ko (pos 16) ⊗ (va 7 ⊗ va 8)))
    ⊗ (va 5 ⊗ va 2))) ∷ ((((va 1 ⊗ va 5) ⊖ (va 4 ⊗ va 2)) ⊗ ((ko (pos 48) ⊗ va 7) ⊗ va 9))
    ≼ ((((ko (pos 53) ⊗ va 6) ⊗ va 9) ⊕ (ko (pos 96) ⊗ (va 7 ⊗ va 8))) ⊗ (va 2 ⊗ va 5))) ∷ ((((va 4 ⊗ va 2) ⊖ (va 1 ⊗ va 5))
    ⊗ ((ko (pos 48) ⊗ va 7) ⊗ va 9)) ≼ ((((ko (pos 53) ⊗ va 6) ⊗ va 9) ⊕ (ko (pos 96) ⊗ (va 7 ⊗ va 8))) ⊗ (va 5 ⊗ va 2)))
    ∷ (ko (pos 0) ≼ (va 6 ⊗ va 9)) ∷ (ko (pos 0) ≼ (va 7 ⊗ va 8)) ∷ []) (ko (pos 2304) ⊗ (ko (pos 1) ⊗ (((va 7 ⊗ va 9) ⊗ (va 7 ⊗ va 9))
    ⊗ ((((va 0 ⊗ va 5) ⊖ (va 3 ⊗ va 2)) ⊗ ((va 0 ⊗ va 5) ⊖ (va 3 ⊗ va 2))) ⊕ (((va 1 ⊗ va 5) ⊖ (va 4 ⊗ va 2)) ⊗ ((va 1 ⊗ va 5) ⊖ (va 4 ⊗ va 2)))))))
    (ko (pos 2304) ⊗ (ko (pos 1) ⊗ ((ko (pos 2) ⊗ (((va 6 ⊗ va 9) ⊕ (ko (pos 2) ⊗ (va 7 ⊗ va 8))) ⊗ ((va 6 ⊗ va 9) ⊕ (ko (pos 2) ⊗ (va 7 ⊗ va 8)))))
    ⊗ ((va 2 ⊗ va 5) ⊗ (va 2 ⊗ va 5))))) ((((nm 36 ⊠ hy 0) ⊠ hy 1) ⊞ (hy 2 ⊠ hy 3))
    ⊞ ((sq (va 2 ⊗ va 5)) ⊠ (((nm 899 ⊠ hy 4) ⊠ hy 4) ⊞ ((nm 2496 ⊠ hy 4) ⊠ hy 5)))) refl (h0, (h1, (h2, (h3, (h4, (h5, tt)))))))

-- by h1*sq(a)*sq(q*r) + h0 + h2*sq(m)*sq(s*r - t*q)
pub part_square_cos : (c s q e t r m a g x y : ℤ)
    → (x *ℤ ((m *ℤ m) *ℤ ((((c *ℤ r) -ℤ (e *ℤ q)) *ℤ ((c *ℤ r) -ℤ (e *ℤ q))) +ℤ (((s *ℤ r) -ℤ (t *ℤ q)) *ℤ ((s *ℤ r) -ℤ (t *ℤ q))))))
    ≤ℤ (y *ℤ ((pos 2 *ℤ (a *ℤ a)) *ℤ ((q *ℤ r) *ℤ (q *ℤ r)))) → (y *ℤ pos 2) ≤ℤ (pos 4 *ℤ (x *ℤ (g *ℤ g))) → (pos 0) ≤ℤ x → (pos 0) <ℤ x
    → ((((c *ℤ r) -ℤ (e *ℤ q)) *ℤ m) *ℤ (((c *ℤ r) -ℤ (e *ℤ q)) *ℤ m)) ≤ℤ ((((pos 2 *ℤ g) *ℤ a) *ℤ (q *ℤ r)) *ℤ (((pos 2 *ℤ g) *ℤ a) *ℤ (q *ℤ r)))
part_square_cos c s q e t r m a g x y h0 h1 h2 h3 =
    cancel x ((((c *ℤ r) -ℤ (e *ℤ q)) *ℤ m) *ℤ (((c *ℤ r) -ℤ (e *ℤ q)) *ℤ m)) ((((pos 2 *ℤ g) *ℤ a) *ℤ (q *ℤ r)) *ℤ (((pos 2 *ℤ g) *ℤ a) *ℤ (q *ℤ r))) h3
    (cert (c ∷ s ∷ q ∷ e ∷ t ∷ r ∷ m ∷ a ∷ g ∷ x ∷ y ∷ []) (((va 9 ⊗ ((va 6 ⊗ va 6)
    ⊗ ((((va 0 ⊗ va 5) ⊖ (va 3 ⊗ va 2)) ⊗ ((va 0 ⊗ va 5) ⊖ (va 3 ⊗ va 2))) ⊕ (((va 1 ⊗ va 5) ⊖ (va 4 ⊗ va 2)) ⊗ ((va 1 ⊗ va 5) ⊖ (va 4 ⊗ va 2))))))
    ≼ (va 10 ⊗ ((ko (pos 2) ⊗ (va 7 ⊗ va 7)) ⊗ ((va 2 ⊗ va 5) ⊗ (va 2 ⊗ va 5))))) ∷ ((va 10 ⊗ ko (pos 2)) ≼ (ko (pos 4) ⊗ (va 9 ⊗ (va 8 ⊗ va 8))))
    ∷ (ko (pos 0) ≼ va 9) ∷ (ko (pos 0) ≼ va 9) ∷ []) (va 9 ⊗ ((((va 0 ⊗ va 5) ⊖ (va 3 ⊗ va 2)) ⊗ va 6) ⊗ (((va 0 ⊗ va 5) ⊖ (va 3 ⊗ va 2)) ⊗ va 6)))
    (va 9 ⊗ ((((ko (pos 2) ⊗ va 8) ⊗ va 7) ⊗ (va 2 ⊗ va 5)) ⊗ (((ko (pos 2) ⊗ va 8) ⊗ va 7) ⊗ (va 2 ⊗ va 5))))
    ((((hy 1 ⊠ (sq (va 7))) ⊠ (sq (va 2 ⊗ va 5))) ⊞ hy 0) ⊞ ((hy 2 ⊠ (sq (va 6))) ⊠ (sq ((va 1 ⊗ va 5) ⊖ (va 4 ⊗ va 2))))) refl
    (h0, (h1, (h2, (weak (pos 0) x h3, tt)))))

-- by h1*sq(a)*sq(q*r) + h0 + h2*sq(m)*sq(c*r - e*q)
pub part_square_sin : (c s q e t r m a g x y : ℤ)
    → (x *ℤ ((m *ℤ m) *ℤ ((((c *ℤ r) -ℤ (e *ℤ q)) *ℤ ((c *ℤ r) -ℤ (e *ℤ q))) +ℤ (((s *ℤ r) -ℤ (t *ℤ q)) *ℤ ((s *ℤ r) -ℤ (t *ℤ q))))))
    ≤ℤ (y *ℤ ((pos 2 *ℤ (a *ℤ a)) *ℤ ((q *ℤ r) *ℤ (q *ℤ r)))) → (y *ℤ pos 2) ≤ℤ (pos 4 *ℤ (x *ℤ (g *ℤ g))) → (pos 0) ≤ℤ x → (pos 0) <ℤ x
    → ((((s *ℤ r) -ℤ (t *ℤ q)) *ℤ m) *ℤ (((s *ℤ r) -ℤ (t *ℤ q)) *ℤ m)) ≤ℤ ((((pos 2 *ℤ g) *ℤ a) *ℤ (q *ℤ r)) *ℤ (((pos 2 *ℤ g) *ℤ a) *ℤ (q *ℤ r)))
part_square_sin c s q e t r m a g x y h0 h1 h2 h3 =
    cancel x ((((s *ℤ r) -ℤ (t *ℤ q)) *ℤ m) *ℤ (((s *ℤ r) -ℤ (t *ℤ q)) *ℤ m)) ((((pos 2 *ℤ g) *ℤ a) *ℤ (q *ℤ r)) *ℤ (((pos 2 *ℤ g) *ℤ a) *ℤ (q *ℤ r))) h3
    (cert (c ∷ s ∷ q ∷ e ∷ t ∷ r ∷ m ∷ a ∷ g ∷ x ∷ y ∷ []) (((va 9 ⊗ ((va 6 ⊗ va 6)
    ⊗ ((((va 0 ⊗ va 5) ⊖ (va 3 ⊗ va 2)) ⊗ ((va 0 ⊗ va 5) ⊖ (va 3 ⊗ va 2))) ⊕ (((va 1 ⊗ va 5) ⊖ (va 4 ⊗ va 2)) ⊗ ((va 1 ⊗ va 5) ⊖ (va 4 ⊗ va 2))))))
    ≼ (va 10 ⊗ ((ko (pos 2) ⊗ (va 7 ⊗ va 7)) ⊗ ((va 2 ⊗ va 5) ⊗ (va 2 ⊗ va 5))))) ∷ ((va 10 ⊗ ko (pos 2)) ≼ (ko (pos 4) ⊗ (va 9 ⊗ (va 8 ⊗ va 8))))
    ∷ (ko (pos 0) ≼ va 9) ∷ (ko (pos 0) ≼ va 9) ∷ []) (va 9 ⊗ ((((va 1 ⊗ va 5) ⊖ (va 4 ⊗ va 2)) ⊗ va 6) ⊗ (((va 1 ⊗ va 5) ⊖ (va 4 ⊗ va 2)) ⊗ va 6)))
    (va 9 ⊗ ((((ko (pos 2) ⊗ va 8) ⊗ va 7) ⊗ (va 2 ⊗ va 5)) ⊗ (((ko (pos 2) ⊗ va 8) ⊗ va 7) ⊗ (va 2 ⊗ va 5))))
    ((((hy 1 ⊠ (sq (va 7))) ⊠ (sq (va 2 ⊗ va 5))) ⊞ hy 0) ⊞ ((hy 2 ⊠ (sq (va 6))) ⊠ (sq ((va 0 ⊗ va 5) ⊖ (va 3 ⊗ va 2))))) refl
    (h0, (h1, (h2, (weak (pos 0) x h3, tt)))))

-- by 16*h0 + 16*h1*h2 + 4161536*h2
pub normed_sixteenth : (n w m : ℤ) → (pos 4194304 *ℤ (n -ℤ w)) ≤ℤ (m *ℤ w) → m ≤ℤ pos 2048 → (pos 0) ≤ℤ w → (pos 16 *ℤ n) ≤ℤ (pos 17 *ℤ w)
normed_sixteenth n w m h0 h1 h2 =
    cancel (pos 4194304) (pos 16 *ℤ n) (pos 17 *ℤ w) (omega (arith, ints)) (cert (n ∷ w ∷ m ∷ [])
    (((ko (pos 4194304) ⊗ (va 0 ⊖ va 1)) ≼ (va 2 ⊗ va 1)) ∷ (va 2 ≼ ko (pos 2048)) ∷ (ko (pos 0) ≼ va 1) ∷ []) (ko (pos 4194304) ⊗ (ko (pos 16) ⊗ va 0))
    (ko (pos 4194304) ⊗ (ko (pos 17) ⊗ va 1)) (((nm 16 ⊠ hy 0) ⊞ ((nm 16 ⊠ hy 1) ⊠ hy 2)) ⊞ (nm 4161536 ⊠ hy 2)) refl (h0, (h1, (h2, tt))))
