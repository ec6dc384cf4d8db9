-- Inequalities of the base of a pair, each by a certificate.
-- The terms are made: tools/inequality_certificate.py writes a lemma from its claim and the products of its hypotheses,
-- h0, h1, .. in the order in which they stand: they are over each lemma, after `by`. Who changes a claim writes its term anew there;
-- the check proves what is written.
use Rattle.std.proofs.Common.{[], ◌∷◌, ℤ, pos, ◌+ℤ◌, ◌-ℤ◌, ◌*ℤ◌, ◌≤ℤ◌, ◌<ℤ◌, arith, refl}
use Rattle.std.proofs.lemmas.Int.{ints}
use Rattle.whole_math.proofs.Ring.{va, ko, ◌⊕◌, ◌⊖◌, ◌⊗◌}
use Rattle.whole_math.proofs.Certificates.{cert, cancel, mul_positive, weak, ◌≼◌, hy, nm, ◌⊞◌, ◌⊠◌}

-- by h0*h1
pub quarter : (p q : ℤ) → (pos 2 *ℤ p) ≤ℤ q → (pos 0) ≤ℤ (q +ℤ (pos 2 *ℤ p)) → (pos 4 *ℤ (p *ℤ p)) ≤ℤ (q *ℤ q)
quarter p q h0 h1 =
    cert (p ∷ q ∷ []) (((ko (pos 2) ⊗ va 0) ≼ va 1) ∷ (ko (pos 0) ≼ (va 1 ⊕ (ko (pos 2) ⊗ va 0))) ∷ []) (ko (pos 4) ⊗ (va 0 ⊗ va 0)) (va 1 ⊗ va 1) (hy 0 ⊠ hy 1) refl (h0, (h1, tt))

-- the squares of v and v' differ by at most as much as v and v'
-- by h0*((h4 + h5)*h3 + (h2 + h3)*h5) + h1*((h4 + h5)*h2 + (h2 + h3)*h4)
pub z_near : (p q f r t u : ℤ) → (((p *ℤ r) -ℤ (f *ℤ q)) *ℤ u) ≤ℤ (t *ℤ (q *ℤ r)) → (((f *ℤ q) -ℤ (p *ℤ r)) *ℤ u) ≤ℤ (t *ℤ (r *ℤ q))
    → (pos 2 *ℤ p) ≤ℤ q → (pos 0) ≤ℤ (q +ℤ (pos 2 *ℤ p)) → (pos 2 *ℤ f) ≤ℤ r → (pos 0) ≤ℤ (r +ℤ (pos 2 *ℤ f))
    → ((((p *ℤ p) *ℤ (r *ℤ r)) -ℤ ((f *ℤ f) *ℤ (q *ℤ q))) *ℤ u) ≤ℤ (t *ℤ ((q *ℤ q) *ℤ (r *ℤ r)))
z_near p q f r t u h0 h1 h2 h3 h4 h5 =
    cancel (pos 8) ((((p *ℤ p) *ℤ (r *ℤ r)) -ℤ ((f *ℤ f) *ℤ (q *ℤ q))) *ℤ u) (t *ℤ ((q *ℤ q) *ℤ (r *ℤ r))) (omega (arith, ints))
    (cert (p ∷ q ∷ f ∷ r ∷ t ∷ u ∷ []) (((((va 0 ⊗ va 3) ⊖ (va 2 ⊗ va 1)) ⊗ va 5) ≼ (va 4 ⊗ (va 1 ⊗ va 3)))
    ∷ ((((va 2 ⊗ va 1) ⊖ (va 0 ⊗ va 3)) ⊗ va 5) ≼ (va 4 ⊗ (va 3 ⊗ va 1))) ∷ ((ko (pos 2) ⊗ va 0) ≼ va 1)
    ∷ (ko (pos 0) ≼ (va 1 ⊕ (ko (pos 2) ⊗ va 0))) ∷ ((ko (pos 2) ⊗ va 2) ≼ va 3) ∷ (ko (pos 0) ≼ (va 3 ⊕ (ko (pos 2) ⊗ va 2))) ∷ [])
    (ko (pos 8) ⊗ ((((va 0 ⊗ va 0) ⊗ (va 3 ⊗ va 3)) ⊖ ((va 2 ⊗ va 2) ⊗ (va 1 ⊗ va 1))) ⊗ va 5)) (ko (pos 8) ⊗ (va 4 ⊗ ((va 1 ⊗ va 1) ⊗ (va 3 ⊗ va 3))))
    ((hy 0 ⊠ (((hy 4 ⊞ hy 5) ⊠ hy 3) ⊞ ((hy 2 ⊞ hy 3) ⊠ hy 5))) ⊞ (hy 1 ⊠ (((hy 4 ⊞ hy 5) ⊠ hy 2) ⊞ ((hy 2 ⊞ hy 3) ⊠ hy 4)))) refl
    (h0, (h1, (h2, (h3, (h4, (h5, tt)))))))

-- v times a nest
-- by 96*h5*h9*h0 + 48*h7*h8*(h3 + h4)*h9*h6 + h8*(h3*h2 + h4*h1)
pub sine_near : (p q f r n w m x t u : ℤ) → (((p *ℤ r) -ℤ (f *ℤ q)) *ℤ u) ≤ℤ (t *ℤ (q *ℤ r))
    → (pos 24 *ℤ (((n *ℤ x) -ℤ (m *ℤ w)) *ℤ u)) ≤ℤ (pos 5 *ℤ (t *ℤ (w *ℤ x))) → (pos 24 *ℤ (((m *ℤ w) -ℤ (n *ℤ x)) *ℤ u)) ≤ℤ (pos 5 *ℤ (t *ℤ (x *ℤ w)))
    → (pos 2 *ℤ f) ≤ℤ r → (pos 0) ≤ℤ (r +ℤ (pos 2 *ℤ f)) → (pos 0) ≤ℤ n → n ≤ℤ w → (pos 0) ≤ℤ t → (pos 0) ≤ℤ q → (pos 0) ≤ℤ x
    → (pos 48 *ℤ ((((p *ℤ n) *ℤ (r *ℤ x)) -ℤ ((f *ℤ m) *ℤ (q *ℤ w))) *ℤ u)) ≤ℤ (pos 53 *ℤ (t *ℤ ((q *ℤ w) *ℤ (r *ℤ x))))
sine_near p q f r n w m x t u h0 h1 h2 h3 h4 h5 h6 h7 h8 h9 =
    cancel (pos 2) (pos 48 *ℤ ((((p *ℤ n) *ℤ (r *ℤ x)) -ℤ ((f *ℤ m) *ℤ (q *ℤ w))) *ℤ u)) (pos 53 *ℤ (t *ℤ ((q *ℤ w) *ℤ (r *ℤ x)))) (omega (arith, ints))
    (cert (p ∷ q ∷ f ∷ r ∷ n ∷ w ∷ m ∷ x ∷ t ∷ u ∷ []) (((((va 0 ⊗ va 3) ⊖ (va 2 ⊗ va 1)) ⊗ va 9) ≼ (va 8 ⊗ (va 1 ⊗ va 3)))
    ∷ ((ko (pos 24) ⊗ (((va 4 ⊗ va 7) ⊖ (va 6 ⊗ va 5)) ⊗ va 9)) ≼ (ko (pos 5) ⊗ (va 8 ⊗ (va 5 ⊗ va 7))))
    ∷ ((ko (pos 24) ⊗ (((va 6 ⊗ va 5) ⊖ (va 4 ⊗ va 7)) ⊗ va 9)) ≼ (ko (pos 5) ⊗ (va 8 ⊗ (va 7 ⊗ va 5)))) ∷ ((ko (pos 2) ⊗ va 2) ≼ va 3)
    ∷ (ko (pos 0) ≼ (va 3 ⊕ (ko (pos 2) ⊗ va 2))) ∷ (ko (pos 0) ≼ va 4) ∷ (va 4 ≼ va 5) ∷ (ko (pos 0) ≼ va 8) ∷ (ko (pos 0) ≼ va 1)
    ∷ (ko (pos 0) ≼ va 7) ∷ []) (ko (pos 2) ⊗ (ko (pos 48) ⊗ ((((va 0 ⊗ va 4) ⊗ (va 3 ⊗ va 7)) ⊖ ((va 2 ⊗ va 6) ⊗ (va 1 ⊗ va 5))) ⊗ va 9)))
    (ko (pos 2) ⊗ (ko (pos 53) ⊗ (va 8 ⊗ ((va 1 ⊗ va 5) ⊗ (va 3 ⊗ va 7)))))
    (((((nm 96 ⊠ hy 5) ⊠ hy 9) ⊠ hy 0) ⊞ (((((nm 48 ⊠ hy 7) ⊠ hy 8) ⊠ (hy 3 ⊞ hy 4)) ⊠ hy 9) ⊠ hy 6)) ⊞ (hy 8 ⊠ ((hy 3 ⊠ hy 2) ⊞ (hy 4 ⊠ hy 1)))) refl
    (h0, (h1, (h2, (h3, (h4, (h5, (h6, (h7, (h8, (h9, tt)))))))))))

-- by (h2 + h3)*((3*h2 + h3)*h1 + (h2 + 3*h3)*h0)
pub sine_depth : (p q n w m x k : ℤ) → (((n *ℤ x) -ℤ (m *ℤ w)) *ℤ k) ≤ℤ (pos 1 *ℤ (w *ℤ x)) → (((m *ℤ w) -ℤ (n *ℤ x)) *ℤ k) ≤ℤ (pos 1 *ℤ (x *ℤ w))
    → (pos 2 *ℤ p) ≤ℤ q → (pos 0) ≤ℤ (q +ℤ (pos 2 *ℤ p)) → ((((p *ℤ n) *ℤ (q *ℤ x)) -ℤ ((p *ℤ m) *ℤ (q *ℤ w))) *ℤ k) ≤ℤ (pos 1 *ℤ ((q *ℤ w) *ℤ (q *ℤ x)))
sine_depth p q n w m x k h0 h1 h2 h3 =
    cancel (pos 16) ((((p *ℤ n) *ℤ (q *ℤ x)) -ℤ ((p *ℤ m) *ℤ (q *ℤ w))) *ℤ k) (pos 1 *ℤ ((q *ℤ w) *ℤ (q *ℤ x))) (omega (arith, ints))
    (cert (p ∷ q ∷ n ∷ w ∷ m ∷ x ∷ k ∷ []) (((((va 2 ⊗ va 5) ⊖ (va 4 ⊗ va 3)) ⊗ va 6) ≼ (ko (pos 1) ⊗ (va 3 ⊗ va 5)))
    ∷ ((((va 4 ⊗ va 3) ⊖ (va 2 ⊗ va 5)) ⊗ va 6) ≼ (ko (pos 1) ⊗ (va 5 ⊗ va 3))) ∷ ((ko (pos 2) ⊗ va 0) ≼ va 1)
    ∷ (ko (pos 0) ≼ (va 1 ⊕ (ko (pos 2) ⊗ va 0))) ∷ []) (ko (pos 16) ⊗ ((((va 0 ⊗ va 2) ⊗ (va 1 ⊗ va 5)) ⊖ ((va 0 ⊗ va 4) ⊗ (va 1 ⊗ va 3))) ⊗ va 6))
    (ko (pos 16) ⊗ (ko (pos 1) ⊗ ((va 1 ⊗ va 3) ⊗ (va 1 ⊗ va 5))))
    ((hy 2 ⊞ hy 3) ⊠ ((((nm 3 ⊠ hy 2) ⊞ hy 3) ⊠ hy 1) ⊞ ((hy 2 ⊞ (nm 3 ⊠ hy 3)) ⊠ hy 0))) refl (h0, (h1, (h2, (h3, tt)))))

-- by h4*h1 + h2*h3*h0
pub between_up : (n w m x c y k : ℤ) → (c *ℤ x) ≤ℤ (m *ℤ y) → (((m *ℤ w) -ℤ (n *ℤ x)) *ℤ k) ≤ℤ (pos 1 *ℤ (x *ℤ w)) → (pos 0) ≤ℤ k → (pos 0) ≤ℤ w
    → (pos 0) ≤ℤ y → (pos 0) <ℤ x → (((c *ℤ w) -ℤ (n *ℤ y)) *ℤ k) ≤ℤ (pos 1 *ℤ (y *ℤ w))
between_up n w m x c y k h0 h1 h2 h3 h4 h5 =
    cancel x (((c *ℤ w) -ℤ (n *ℤ y)) *ℤ k) (pos 1 *ℤ (y *ℤ w)) h5
    (cert (n ∷ w ∷ m ∷ x ∷ c ∷ y ∷ k ∷ []) (((va 4 ⊗ va 3) ≼ (va 2 ⊗ va 5)) ∷ ((((va 2 ⊗ va 1) ⊖ (va 0 ⊗ va 3)) ⊗ va 6) ≼ (ko (pos 1) ⊗ (va 3 ⊗ va 1)))
    ∷ (ko (pos 0) ≼ va 6) ∷ (ko (pos 0) ≼ va 1) ∷ (ko (pos 0) ≼ va 5) ∷ (ko (pos 0) ≼ va 3) ∷ []) (va 3 ⊗ (((va 4 ⊗ va 1) ⊖ (va 0 ⊗ va 5)) ⊗ va 6))
    (va 3 ⊗ (ko (pos 1) ⊗ (va 5 ⊗ va 1))) ((hy 4 ⊠ hy 1) ⊞ ((hy 2 ⊠ hy 3) ⊠ hy 0)) refl (h0, (h1, (h2, (h3, (h4, (weak (pos 0) x h5, tt)))))))

-- by h4*h1 + h2*h3*h0
pub between_down : (n w m x c y k : ℤ) → (m *ℤ y) ≤ℤ (c *ℤ x) → (((n *ℤ x) -ℤ (m *ℤ w)) *ℤ k) ≤ℤ (pos 1 *ℤ (w *ℤ x)) → (pos 0) ≤ℤ k → (pos 0) ≤ℤ w
    → (pos 0) ≤ℤ y → (pos 0) <ℤ x → (((n *ℤ y) -ℤ (c *ℤ w)) *ℤ k) ≤ℤ (pos 1 *ℤ (w *ℤ y))
between_down n w m x c y k h0 h1 h2 h3 h4 h5 =
    cancel x (((n *ℤ y) -ℤ (c *ℤ w)) *ℤ k) (pos 1 *ℤ (w *ℤ y)) h5
    (cert (n ∷ w ∷ m ∷ x ∷ c ∷ y ∷ k ∷ []) (((va 2 ⊗ va 5) ≼ (va 4 ⊗ va 3)) ∷ ((((va 0 ⊗ va 3) ⊖ (va 2 ⊗ va 1)) ⊗ va 6) ≼ (ko (pos 1) ⊗ (va 1 ⊗ va 3)))
    ∷ (ko (pos 0) ≼ va 6) ∷ (ko (pos 0) ≼ va 1) ∷ (ko (pos 0) ≼ va 5) ∷ (ko (pos 0) ≼ va 3) ∷ []) (va 3 ⊗ (((va 0 ⊗ va 5) ⊖ (va 4 ⊗ va 1)) ⊗ va 6))
    (va 3 ⊗ (ko (pos 1) ⊗ (va 1 ⊗ va 5))) ((hy 4 ⊠ hy 1) ⊞ ((hy 2 ⊠ hy 3) ⊠ hy 0)) refl (h0, (h1, (h2, (h3, (h4, (weak (pos 0) x h5, tt)))))))

-- by h1*h0 + h2*h3
pub plain_down : (n w c y k : ℤ) → (n *ℤ y) ≤ℤ (c *ℤ w) → (pos 0) ≤ℤ k → (pos 0) ≤ℤ w → (pos 0) ≤ℤ y → (((n *ℤ y) -ℤ (c *ℤ w)) *ℤ k) ≤ℤ (pos 1 *ℤ (w *ℤ y))
plain_down n w c y k h0 h1 h2 h3 =
    cert (n ∷ w ∷ c ∷ y ∷ k ∷ []) (((va 0 ⊗ va 3) ≼ (va 2 ⊗ va 1)) ∷ (ko (pos 0) ≼ va 4) ∷ (ko (pos 0) ≼ va 1) ∷ (ko (pos 0) ≼ va 3) ∷ [])
    (((va 0 ⊗ va 3) ⊖ (va 2 ⊗ va 1)) ⊗ va 4) (ko (pos 1) ⊗ (va 1 ⊗ va 3)) ((hy 1 ⊠ hy 0) ⊞ (hy 2 ⊠ hy 3)) refl (h0, (h1, (h2, (h3, tt))))

-- by h3*h0 + h1*h2
pub closer : (g t k j : ℤ) → (g *ℤ k) ≤ℤ (pos 1 *ℤ t) → j ≤ℤ k → (pos 0) ≤ℤ t → (pos 0) ≤ℤ j → (pos 0) <ℤ k → (g *ℤ j) ≤ℤ (pos 1 *ℤ t)
closer g t k j h0 h1 h2 h3 h4 =
    cancel k (g *ℤ j) (pos 1 *ℤ t) h4
    (cert (g ∷ t ∷ k ∷ j ∷ []) (((va 0 ⊗ va 2) ≼ (ko (pos 1) ⊗ va 1)) ∷ (va 3 ≼ va 2) ∷ (ko (pos 0) ≼ va 1) ∷ (ko (pos 0) ≼ va 3) ∷ (ko (pos 0) ≼ va 2)
    ∷ []) (va 2 ⊗ (va 0 ⊗ va 3)) (va 2 ⊗ (ko (pos 1) ⊗ va 1)) ((hy 3 ⊠ hy 0) ⊞ (hy 1 ⊠ hy 2)) refl (h0, (h1, (h2, (h3, (weak (pos 0) k h4, tt))))))

-- from c/q to e/r over n/w and m/x
-- by h7*h8*h4*h6*h0 + h9*h3*h4*h1 + h7*h8*h3*h5*h2
pub three : (c q n w m x e r a b t u j k : ℤ) → (((c *ℤ w) -ℤ (n *ℤ q)) *ℤ k) ≤ℤ (j *ℤ (q *ℤ w))
    → (a *ℤ (((n *ℤ x) -ℤ (m *ℤ w)) *ℤ u)) ≤ℤ (b *ℤ (t *ℤ (w *ℤ x))) → (((m *ℤ r) -ℤ (e *ℤ x)) *ℤ k) ≤ℤ (j *ℤ (x *ℤ r)) → (pos 0) ≤ℤ q → (pos 0) ≤ℤ r
    → (pos 0) <ℤ w → (pos 0) <ℤ x → (pos 0) ≤ℤ a → (pos 0) ≤ℤ u → (pos 0) ≤ℤ k
    → (((c *ℤ r) -ℤ (e *ℤ q)) *ℤ ((a *ℤ u) *ℤ k)) ≤ℤ ((((b *ℤ t) *ℤ k) +ℤ ((pos 2 *ℤ a) *ℤ (u *ℤ j))) *ℤ (q *ℤ r))
three c q n w m x e r a b t u j k h0 h1 h2 h3 h4 h5 h6 h7 h8 h9 =
    cancel (w *ℤ x) (((c *ℤ r) -ℤ (e *ℤ q)) *ℤ ((a *ℤ u) *ℤ k)) ((((b *ℤ t) *ℤ k) +ℤ ((pos 2 *ℤ a) *ℤ (u *ℤ j))) *ℤ (q *ℤ r)) (mul_positive w x h5 h6)
    (cert (c ∷ q ∷ n ∷ w ∷ m ∷ x ∷ e ∷ r ∷ a ∷ b ∷ t ∷ u ∷ j ∷ k ∷ []) (((((va 0 ⊗ va 3) ⊖ (va 2 ⊗ va 1)) ⊗ va 13) ≼ (va 12 ⊗ (va 1 ⊗ va 3)))
    ∷ ((va 8 ⊗ (((va 2 ⊗ va 5) ⊖ (va 4 ⊗ va 3)) ⊗ va 11)) ≼ (va 9 ⊗ (va 10 ⊗ (va 3 ⊗ va 5)))) ∷ ((((va 4 ⊗ va 7) ⊖ (va 6 ⊗ va 5)) ⊗ va 13)
    ≼ (va 12 ⊗ (va 5 ⊗ va 7))) ∷ (ko (pos 0) ≼ va 1) ∷ (ko (pos 0) ≼ va 7) ∷ (ko (pos 0) ≼ va 3) ∷ (ko (pos 0) ≼ va 5) ∷ (ko (pos 0) ≼ va 8)
    ∷ (ko (pos 0) ≼ va 11) ∷ (ko (pos 0) ≼ va 13) ∷ []) ((va 3 ⊗ va 5) ⊗ (((va 0 ⊗ va 7) ⊖ (va 6 ⊗ va 1)) ⊗ ((va 8 ⊗ va 11) ⊗ va 13)))
    ((va 3 ⊗ va 5) ⊗ ((((va 9 ⊗ va 10) ⊗ va 13) ⊕ ((ko (pos 2) ⊗ va 8) ⊗ (va 11 ⊗ va 12))) ⊗ (va 1 ⊗ va 7)))
    ((((((hy 7 ⊠ hy 8) ⊠ hy 4) ⊠ hy 6) ⊠ hy 0) ⊞ (((hy 9 ⊠ hy 3) ⊠ hy 4) ⊠ hy 1)) ⊞ ((((hy 7 ⊠ hy 8) ⊠ hy 3) ⊠ hy 5) ⊠ hy 2)) refl
    (h0, (h1, (h2, (h3, (h4, (weak (pos 0) w h5, (weak (pos 0) x h6, (h7, (h8, (h9, tt)))))))))))
