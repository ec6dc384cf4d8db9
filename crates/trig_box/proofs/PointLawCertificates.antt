-- Inequalities of pairs that are points over one denominator, each by a certificate.
-- The terms are made: tools/inequality_certificate.py writes a lemma from its claim and the products of its hypotheses,
-- h0, h1, .. in the order in which they stand: they are over each lemma, after `by`. Who changes a claim writes its term anew there;
-- the check proves what is written.
use Rattle.std.proofs.Common.{[], ◌∷◌, ℤ, pos, ◌+ℤ◌, ◌-ℤ◌, ◌*ℤ◌, ◌≤ℤ◌, ◌<ℤ◌, arith, refl}
use Rattle.std.proofs.lemmas.Int.{ints}
use Rattle.whole_math.proofs.Ring.{va, ko, ◌⊕◌, ◌⊖◌, ◌⊗◌}
use Rattle.whole_math.proofs.Certificates.{cert, cancel, weak, ◌≼◌, hy, nm, sq, ◌⊞◌, ◌⊠◌}

-- by sq(g)*h0
pub v_near : (p a f b n d g : ℤ) → (((p *ℤ b) -ℤ (f *ℤ a)) *ℤ d) ≤ℤ (n *ℤ (a *ℤ b)) → (((p *ℤ (g *ℤ b)) -ℤ (f *ℤ (g *ℤ a))) *ℤ (d *ℤ g)) ≤ℤ (n *ℤ ((g *ℤ a) *ℤ (g *ℤ b)))
v_near p a f b n d g h0 =
    cert (p ∷ a ∷ f ∷ b ∷ n ∷ d ∷ g ∷ []) (((((va 0 ⊗ va 3) ⊖ (va 2 ⊗ va 1)) ⊗ va 5) ≼ (va 4 ⊗ (va 1 ⊗ va 3))) ∷ [])
    (((va 0 ⊗ (va 6 ⊗ va 3)) ⊖ (va 2 ⊗ (va 6 ⊗ va 1))) ⊗ (va 5 ⊗ va 6)) (va 4 ⊗ ((va 6 ⊗ va 1) ⊗ (va 6 ⊗ va 3))) ((sq (va 6)) ⊠ hy 0) refl (h0, tt)

-- by h0 + h1
pub bound_nn : (n d p a f b : ℤ) → (((p *ℤ b) -ℤ (f *ℤ a)) *ℤ d) ≤ℤ (n *ℤ (a *ℤ b)) → (((f *ℤ a) -ℤ (p *ℤ b)) *ℤ d) ≤ℤ (n *ℤ (b *ℤ a)) → (pos 0) <ℤ (pos 2 *ℤ (a *ℤ b)) → (pos 0) ≤ℤ n
bound_nn n d p a f b h0 h1 h2 =
    cancel (pos 2 *ℤ (a *ℤ b)) (pos 0) n h2 (cert (n ∷ d ∷ p ∷ a ∷ f ∷ b ∷ [])
    (((((va 2 ⊗ va 5) ⊖ (va 4 ⊗ va 3)) ⊗ va 1) ≼ (va 0 ⊗ (va 3 ⊗ va 5))) ∷ ((((va 4 ⊗ va 3) ⊖ (va 2 ⊗ va 5)) ⊗ va 1) ≼ (va 0 ⊗ (va 5 ⊗ va 3)))
    ∷ (ko (pos 0) ≼ (ko (pos 2) ⊗ (va 3 ⊗ va 5))) ∷ []) ((ko (pos 2) ⊗ (va 3 ⊗ va 5)) ⊗ ko (pos 0)) ((ko (pos 2) ⊗ (va 3 ⊗ va 5)) ⊗ va 0)
    (hy 0 ⊞ hy 1) refl (h0, (h1, (weak (pos 0) (pos 2 *ℤ (a *ℤ b)) h2, tt))))

-- by h0
pub only_size : (z d g i n j y : ℤ) → (z *ℤ ((d *ℤ g) *ℤ i)) ≤ℤ (((pos 2 *ℤ g) *ℤ ((n *ℤ i) +ℤ (pos 2 *ℤ ((d *ℤ g) *ℤ j)))) *ℤ y) → (pos 0) <ℤ g
    → (z *ℤ (d *ℤ i)) ≤ℤ ((pos 2 *ℤ ((n *ℤ i) +ℤ (pos 2 *ℤ ((d *ℤ g) *ℤ j)))) *ℤ y)
only_size z d g i n j y h0 h1 =
    cancel g (z *ℤ (d *ℤ i)) ((pos 2 *ℤ ((n *ℤ i) +ℤ (pos 2 *ℤ ((d *ℤ g) *ℤ j)))) *ℤ y) h1 (cert (z ∷ d ∷ g ∷ i ∷ n ∷ j ∷ y ∷ [])
    (((va 0 ⊗ ((va 1 ⊗ va 2) ⊗ va 3)) ≼ (((ko (pos 2) ⊗ va 2) ⊗ ((va 4 ⊗ va 3) ⊕ (ko (pos 2) ⊗ ((va 1 ⊗ va 2) ⊗ va 5)))) ⊗ va 6))
    ∷ (ko (pos 0) ≼ va 2) ∷ []) (va 2 ⊗ (va 0 ⊗ (va 1 ⊗ va 3)))
    (va 2 ⊗ ((ko (pos 2) ⊗ ((va 4 ⊗ va 3) ⊕ (ko (pos 2) ⊗ ((va 1 ⊗ va 2) ⊗ va 5)))) ⊗ va 6)) (hy 0) refl (h0, (weak (pos 0) g h1, tt)))

-- by h0
pub canonical_size : (z d n g y : ℤ) → (z *ℤ (d *ℤ pos 1)) ≤ℤ ((pos 2 *ℤ ((n *ℤ pos 1) +ℤ (pos 2 *ℤ ((d *ℤ g) *ℤ pos 0)))) *ℤ y) → (z *ℤ d) ≤ℤ ((pos 2 *ℤ n) *ℤ y)
canonical_size z d n g y h0 =
    cert (z ∷ d ∷ n ∷ g ∷ y ∷ []) (((va 0 ⊗ (va 1 ⊗ ko (pos 1))) ≼ ((ko (pos 2) ⊗ ((va 2 ⊗ ko (pos 1)) ⊕ (ko (pos 2) ⊗ ((va 1 ⊗ va 3) ⊗ ko (pos 0))))) ⊗ va 4))
    ∷ []) (va 0 ⊗ va 1) ((ko (pos 2) ⊗ va 2) ⊗ va 4) (hy 0) refl (h0, tt)

-- by h0 + h1*h2*h3
pub pair_size : (z d n g y e i : ℤ) → (z *ℤ (d *ℤ (pos 8192 *ℤ i))) ≤ℤ ((pos 2 *ℤ ((n *ℤ (pos 8192 *ℤ i)) +ℤ (pos 2 *ℤ ((d *ℤ g) *ℤ pos 1)))) *ℤ y)
    → (pos 4 *ℤ g) ≤ℤ pos 8192 → (pos 0) ≤ℤ d → (pos 0) ≤ℤ y → (z *ℤ (d *ℤ i)) ≤ℤ ((((pos 2 *ℤ n) *ℤ i) +ℤ (pos 1 *ℤ d)) *ℤ y)
pair_size z d n g y e i h0 h1 h2 h3 =
    cancel (pos 8192) (z *ℤ (d *ℤ i)) ((((pos 2 *ℤ n) *ℤ i) +ℤ (pos 1 *ℤ d)) *ℤ y) (omega (arith, ints)) (cert (z ∷ d ∷ n ∷ g ∷ y ∷ e ∷ i ∷ [])
    (((va 0 ⊗ (va 1 ⊗ (ko (pos 8192) ⊗ va 6))) ≼ ((ko (pos 2) ⊗ ((va 2 ⊗ (ko (pos 8192) ⊗ va 6)) ⊕ (ko (pos 2) ⊗ ((va 1 ⊗ va 3) ⊗ ko (pos 1))))) ⊗ va 4))
    ∷ ((ko (pos 4) ⊗ va 3) ≼ ko (pos 8192)) ∷ (ko (pos 0) ≼ va 1) ∷ (ko (pos 0) ≼ va 4) ∷ []) (ko (pos 8192) ⊗ (va 0 ⊗ (va 1 ⊗ va 6)))
    (ko (pos 8192) ⊗ ((((ko (pos 2) ⊗ va 2) ⊗ va 6) ⊕ (ko (pos 1) ⊗ va 1)) ⊗ va 4)) (hy 0 ⊞ ((hy 1 ⊠ hy 2) ⊠ hy 3)) refl (h0, (h1, (h2, (h3, tt)))))

-- by h0*h1
pub own_up : (n w m x y : ℤ) → (n *ℤ x) ≤ℤ (m *ℤ w) → (pos 0) ≤ℤ y → ((n *ℤ y) *ℤ x) ≤ℤ (m *ℤ (w *ℤ y))
own_up n w m x y h0 h1 =
    cert (n ∷ w ∷ m ∷ x ∷ y ∷ []) (((va 0 ⊗ va 3) ≼ (va 2 ⊗ va 1)) ∷ (ko (pos 0) ≼ va 4) ∷ []) ((va 0 ⊗ va 4) ⊗ va 3) (va 2 ⊗ (va 1 ⊗ va 4)) (hy 0 ⊠ hy 1) refl (h0, (h1, tt))

-- by h0*h1
pub own_down : (n w m x y : ℤ) → (m *ℤ w) ≤ℤ (n *ℤ x) → (pos 0) ≤ℤ y → (m *ℤ (w *ℤ y)) ≤ℤ ((n *ℤ y) *ℤ x)
own_down n w m x y h0 h1 =
    cert (n ∷ w ∷ m ∷ x ∷ y ∷ []) (((va 2 ⊗ va 1) ≼ (va 0 ⊗ va 3)) ∷ (ko (pos 0) ≼ va 4) ∷ []) (va 2 ⊗ (va 1 ⊗ va 4)) ((va 0 ⊗ va 4) ⊗ va 3) (hy 0 ⊠ hy 1) refl (h0, (h1, tt))

-- by 498460498419343452338927647605129216*h0*h1 + 147573389639722991616*h1*h1
pub weaker_five : (n d : ℤ) → (pos 0) ≤ℤ n → (pos 0) ≤ℤ d → ((((pos 2 *ℤ n) *ℤ pos 147573952589676412928) +ℤ (pos 1 *ℤ d)) *ℤ (d *ℤ pos 562949953421312))
    ≤ℤ ((((pos 8 *ℤ n) *ℤ pos 562949953421312) +ℤ (pos 1 *ℤ d)) *ℤ (d *ℤ pos 147573952589676412928))
weaker_five n d h0 h1 =
    cert (n ∷ d ∷ []) ((ko (pos 0) ≼ va 0) ∷ (ko (pos 0) ≼ va 1) ∷ [])
    ((((ko (pos 2) ⊗ va 0) ⊗ ko (pos 147573952589676412928)) ⊕ (ko (pos 1) ⊗ va 1)) ⊗ (va 1 ⊗ ko (pos 562949953421312)))
    ((((ko (pos 8) ⊗ va 0) ⊗ ko (pos 562949953421312)) ⊕ (ko (pos 1) ⊗ va 1)) ⊗ (va 1 ⊗ ko (pos 147573952589676412928)))
    (((nm 498460498419343452338927647605129216 ⊠ hy 0) ⊠ hy 1) ⊞ ((nm 147573389639722991616 ⊠ hy 1) ⊠ hy 1)) refl (h0, (h1, tt))

-- by 145384312038975173598853897218162688*h0*h1 + 147573882220932235264*h1*h1
pub weaker_seven : (n d : ℤ) → (pos 0) ≤ℤ n → (pos 0) ≤ℤ d → ((((pos 2 *ℤ n) *ℤ pos 147573952589676412928) +ℤ (pos 1 *ℤ d)) *ℤ (d *ℤ pos 70368744177664))
    ≤ℤ ((((pos 16 *ℤ n) *ℤ pos 70368744177664) +ℤ (pos 1 *ℤ d)) *ℤ (d *ℤ pos 147573952589676412928))
weaker_seven n d h0 h1 =
    cert (n ∷ d ∷ []) ((ko (pos 0) ≼ va 0) ∷ (ko (pos 0) ≼ va 1) ∷ [])
    ((((ko (pos 2) ⊗ va 0) ⊗ ko (pos 147573952589676412928)) ⊕ (ko (pos 1) ⊗ va 1)) ⊗ (va 1 ⊗ ko (pos 70368744177664)))
    ((((ko (pos 16) ⊗ va 0) ⊗ ko (pos 70368744177664)) ⊕ (ko (pos 1) ⊗ va 1)) ⊗ (va 1 ⊗ ko (pos 147573952589676412928)))
    (((nm 145384312038975173598853897218162688 ⊠ hy 0) ⊠ hy 1) ⊞ ((nm 147573882220932235264 ⊠ hy 1) ⊠ hy 1)) refl (h0, (h1, tt))

-- by h0*h2 + h1*h3
pub norm_scaled : (a b o m : ℤ) → (pos 4194304 *ℤ a) ≤ℤ (m *ℤ b) → (m *ℤ o) ≤ℤ pos 4194304 → (pos 0) ≤ℤ o → (pos 0) ≤ℤ b → (a *ℤ o) ≤ℤ (pos 1 *ℤ b)
norm_scaled a b o m h0 h1 h2 h3 =
    cancel (pos 4194304) (a *ℤ o) (pos 1 *ℤ b) (omega (arith, ints))
    (cert (a ∷ b ∷ o ∷ m ∷ []) (((ko (pos 4194304) ⊗ va 0) ≼ (va 3 ⊗ va 1)) ∷ ((va 3 ⊗ va 2) ≼ ko (pos 4194304)) ∷ (ko (pos 0) ≼ va 2) ∷ (ko (pos 0) ≼ va 1)
    ∷ []) (ko (pos 4194304) ⊗ (va 0 ⊗ va 2)) (ko (pos 4194304) ⊗ (ko (pos 1) ⊗ va 1)) ((hy 0 ⊠ hy 2) ⊞ (hy 1 ⊠ hy 3)) refl (h0, (h1, (h2, (h3, tt)))))

-- by sq(e)*sq(f)*h0
pub norm_high_product : (n x e f z o c s : ℤ) → ((((c *ℤ c) +ℤ (s *ℤ s)) -ℤ (z *ℤ z)) *ℤ o) ≤ℤ (pos 1 *ℤ (z *ℤ z))
    → (((e *ℤ e) *ℤ (f *ℤ f)) *ℤ ((((c *ℤ c) +ℤ (s *ℤ s)) -ℤ (z *ℤ z)) *ℤ o)) ≤ℤ ((z *ℤ z) *ℤ (pos 1 *ℤ (((e *ℤ e) *ℤ (f *ℤ f)) *ℤ pos 1)))
norm_high_product n x e f z o c s h0 =
    cert (n ∷ x ∷ e ∷ f ∷ z ∷ o ∷ c ∷ s ∷ []) ((((((va 6 ⊗ va 6) ⊕ (va 7 ⊗ va 7)) ⊖ (va 4 ⊗ va 4)) ⊗ va 5) ≼ (ko (pos 1) ⊗ (va 4 ⊗ va 4))) ∷ [])
    (((va 2 ⊗ va 2) ⊗ (va 3 ⊗ va 3)) ⊗ ((((va 6 ⊗ va 6) ⊕ (va 7 ⊗ va 7)) ⊖ (va 4 ⊗ va 4)) ⊗ va 5))
    ((va 4 ⊗ va 4) ⊗ (ko (pos 1) ⊗ (((va 2 ⊗ va 2) ⊗ (va 3 ⊗ va 3)) ⊗ ko (pos 1)))) (((sq (va 2)) ⊠ (sq (va 3))) ⊠ hy 0) refl (h0, tt)

-- by sq(e)*sq(f)*h0
pub norm_low_product : (n x e f z o c s : ℤ) → (((z *ℤ z) -ℤ ((c *ℤ c) +ℤ (s *ℤ s))) *ℤ o) ≤ℤ (pos 1 *ℤ (z *ℤ z))
    → (((e *ℤ e) *ℤ (f *ℤ f)) *ℤ (((z *ℤ z) -ℤ ((c *ℤ c) +ℤ (s *ℤ s))) *ℤ o)) ≤ℤ ((z *ℤ z) *ℤ (pos 1 *ℤ (pos 1 *ℤ ((e *ℤ e) *ℤ (f *ℤ f)))))
norm_low_product n x e f z o c s h0 =
    cert (n ∷ x ∷ e ∷ f ∷ z ∷ o ∷ c ∷ s ∷ []) (((((va 4 ⊗ va 4) ⊖ ((va 6 ⊗ va 6) ⊕ (va 7 ⊗ va 7))) ⊗ va 5) ≼ (ko (pos 1) ⊗ (va 4 ⊗ va 4))) ∷ [])
    (((va 2 ⊗ va 2) ⊗ (va 3 ⊗ va 3)) ⊗ (((va 4 ⊗ va 4) ⊖ ((va 6 ⊗ va 6) ⊕ (va 7 ⊗ va 7))) ⊗ va 5))
    ((va 4 ⊗ va 4) ⊗ (ko (pos 1) ⊗ (ko (pos 1) ⊗ ((va 2 ⊗ va 2) ⊗ (va 3 ⊗ va 3))))) (((sq (va 2)) ⊠ (sq (va 3))) ⊠ hy 0) refl (h0, tt)
