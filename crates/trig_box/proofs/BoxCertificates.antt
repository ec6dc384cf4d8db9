-- Inequalities of the boxes round a point pair, each by a certificate.
-- The terms are made: tools/inequality_certificate.py writes a lemma from its claim and the products of its hypotheses,
-- h0, h1, .. in the order in which they stand: they are over each lemma, after `by`. Who changes a claim writes its term anew there;
-- the check proves what is written.
use Rattle.std.proofs.Common.{[], ◌∷◌, ℤ, pos, ◌+ℤ◌, ◌-ℤ◌, ◌*ℤ◌, ◌≤ℤ◌, ◌<ℤ◌, arith, refl}
use Rattle.std.proofs.Common.{lit<}
use Rattle.std.proofs.lemmas.Int.{ints}
use Rattle.whole_math.proofs.Ring.{va, ko, ◌⊕◌, ◌⊖◌, ◌⊗◌}
use Rattle.whole_math.proofs.Certificates.{cert, cancel, mul_positive, weak, ◌≼◌, hy, nm, ◌⊞◌, ◌⊠◌}
use Rattle.whole_math.proofs.Order.{lt_pos}

-- by h2*h0 + 4611686018427387904*h1
pub star_high : (n m d x c e : ℤ) → ((pos 4611686018427387904 *ℤ x) -ℤ (c *ℤ d)) ≤ℤ (e *ℤ d) → (n *ℤ d) ≤ℤ (x *ℤ m) → (pos 0) ≤ℤ m → (pos 0) <ℤ d → (pos 4611686018427387904 *ℤ n) ≤ℤ ((c +ℤ e) *ℤ m)
star_high n m d x c e h0 h1 h2 h3 =
    cancel d (pos 4611686018427387904 *ℤ n) ((c +ℤ e) *ℤ m) h3
    (cert (n ∷ m ∷ d ∷ x ∷ c ∷ e ∷ []) ((((ko (pos 4611686018427387904) ⊗ va 3) ⊖ (va 4 ⊗ va 2)) ≼ (va 5 ⊗ va 2))
    ∷ ((va 0 ⊗ va 2) ≼ (va 3 ⊗ va 1)) ∷ (ko (pos 0) ≼ va 1) ∷ (ko (pos 0) ≼ va 2) ∷ []) (va 2 ⊗ (ko (pos 4611686018427387904) ⊗ va 0))
    (va 2 ⊗ ((va 4 ⊕ va 5) ⊗ va 1)) ((hy 2 ⊠ hy 0) ⊞ (nm 4611686018427387904 ⊠ hy 1)) refl (h0, (h1, (h2, (weak (pos 0) d h3, tt)))))

-- by h2*h0 + 4611686018427387904*h1
pub star_low : (n m d x c e : ℤ) → ((c *ℤ d) -ℤ (pos 4611686018427387904 *ℤ x)) ≤ℤ (e *ℤ d) → (x *ℤ m) ≤ℤ (n *ℤ d) → (pos 0) ≤ℤ m → (pos 0) <ℤ d → ((c -ℤ e) *ℤ m) ≤ℤ (pos 4611686018427387904 *ℤ n)
star_low n m d x c e h0 h1 h2 h3 =
    cancel d ((c -ℤ e) *ℤ m) (pos 4611686018427387904 *ℤ n) h3
    (cert (n ∷ m ∷ d ∷ x ∷ c ∷ e ∷ []) ((((va 4 ⊗ va 2) ⊖ (ko (pos 4611686018427387904) ⊗ va 3)) ≼ (va 5 ⊗ va 2)) ∷ ((va 3 ⊗ va 1) ≼ (va 0 ⊗ va 2))
    ∷ (ko (pos 0) ≼ va 1) ∷ (ko (pos 0) ≼ va 2) ∷ []) (va 2 ⊗ ((va 4 ⊖ va 5) ⊗ va 1)) (va 2 ⊗ (ko (pos 4611686018427387904) ⊗ va 0))
    ((hy 2 ⊠ hy 0) ⊞ (nm 4611686018427387904 ⊠ hy 1)) refl (h0, (h1, (h2, (weak (pos 0) d h3, tt)))))

-- by h0 + 2305843009213693952*h4*h1 + 2305843009213693952*h4*h5*h2 + h5*h4*(2305843009213693952*h3 + 9151314442816847872)
pub end_low : (n m v q r c e f k : ℤ) → (((n *ℤ q) -ℤ (v *ℤ m)) *ℤ pos 10633823966279326983230456482242756608)
    ≤ℤ ((((pos 2 *ℤ r) *ℤ pos 147573952589676412928) +ℤ (pos 1 *ℤ pos 72057594037927936)) *ℤ (m *ℤ q)) → ((c -ℤ e) *ℤ m) ≤ℤ (pos 4611686018427387904 *ℤ n)
    → (f *ℤ pos 4) ≤ℤ c → ((e +ℤ pos 4) +ℤ (pos 128 *ℤ r)) ≤ℤ (pos 4 *ℤ k) → (pos 0) ≤ℤ q → (pos 0) <ℤ m → ((f -ℤ k) *ℤ q) ≤ℤ (v *ℤ pos 1152921504606846976)
end_low n m v q r c e f k h0 h1 h2 h3 h4 h5 =
    cancel (pos 9223372036854775808 *ℤ m) ((f -ℤ k) *ℤ q) (v *ℤ pos 1152921504606846976)
    (mul_positive (pos 9223372036854775808) m (lt_pos 0 9223372036854775808 (lit< tt)) h5)
    (cert (n ∷ m ∷ v ∷ q ∷ r ∷ c ∷ e ∷ f ∷ k ∷ []) (((((va 0 ⊗ va 3) ⊖ (va 2 ⊗ va 1)) ⊗ ko (pos 10633823966279326983230456482242756608))
    ≼ ((((ko (pos 2) ⊗ va 4) ⊗ ko (pos 147573952589676412928)) ⊕ (ko (pos 1) ⊗ ko (pos 72057594037927936))) ⊗ (va 1 ⊗ va 3)))
    ∷ (((va 5 ⊖ va 6) ⊗ va 1) ≼ (ko (pos 4611686018427387904) ⊗ va 0)) ∷ ((va 7 ⊗ ko (pos 4)) ≼ va 5)
    ∷ (((va 6 ⊕ ko (pos 4)) ⊕ (ko (pos 128) ⊗ va 4)) ≼ (ko (pos 4) ⊗ va 8)) ∷ (ko (pos 0) ≼ va 3) ∷ (ko (pos 0) ≼ va 1) ∷ [])
    ((ko (pos 9223372036854775808) ⊗ va 1) ⊗ ((va 7 ⊖ va 8) ⊗ va 3)) ((ko (pos 9223372036854775808) ⊗ va 1) ⊗ (va 2 ⊗ ko (pos 1152921504606846976)))
    (((hy 0 ⊞ ((nm 2305843009213693952 ⊠ hy 4) ⊠ hy 1)) ⊞ (((nm 2305843009213693952 ⊠ hy 4) ⊠ hy 5) ⊠ hy 2))
    ⊞ ((hy 5 ⊠ hy 4) ⊠ ((nm 2305843009213693952 ⊠ hy 3) ⊞ nm 9151314442816847872))) refl (h0, (h1, (h2, (h3, (h4, (weak (pos 0) m h5, tt)))))))

-- by h0 + 2305843009213693952*h4*h1 + 2305843009213693952*h4*h5*h2 + h5*h4*(2305843009213693952*h3 + 9151314442816847872)
pub end_high : (n m v q r c e f k : ℤ) → (((v *ℤ m) -ℤ (n *ℤ q)) *ℤ pos 10633823966279326983230456482242756608)
    ≤ℤ ((((pos 2 *ℤ r) *ℤ pos 147573952589676412928) +ℤ (pos 1 *ℤ pos 72057594037927936)) *ℤ (q *ℤ m))
    → (pos 4611686018427387904 *ℤ n) ≤ℤ ((c +ℤ e) *ℤ m) → c ≤ℤ ((f *ℤ pos 4) +ℤ pos 4) → ((e +ℤ pos 4) +ℤ (pos 128 *ℤ r)) ≤ℤ (pos 4 *ℤ k)
    → (pos 0) ≤ℤ q → (pos 0) <ℤ m → (v *ℤ pos 1152921504606846976) ≤ℤ (((f +ℤ pos 1) +ℤ k) *ℤ q)
end_high n m v q r c e f k h0 h1 h2 h3 h4 h5 =
    cancel (pos 9223372036854775808 *ℤ m) (v *ℤ pos 1152921504606846976)
    (((f +ℤ pos 1) +ℤ k) *ℤ q) (mul_positive (pos 9223372036854775808) m (lt_pos 0 9223372036854775808 (lit< tt)) h5)
    (cert (n ∷ m ∷ v ∷ q ∷ r ∷ c ∷ e ∷ f ∷ k ∷ []) (((((va 2 ⊗ va 1) ⊖ (va 0 ⊗ va 3)) ⊗ ko (pos 10633823966279326983230456482242756608))
    ≼ ((((ko (pos 2) ⊗ va 4) ⊗ ko (pos 147573952589676412928)) ⊕ (ko (pos 1) ⊗ ko (pos 72057594037927936))) ⊗ (va 3 ⊗ va 1)))
    ∷ ((ko (pos 4611686018427387904) ⊗ va 0) ≼ ((va 5 ⊕ va 6) ⊗ va 1)) ∷ (va 5 ≼ ((va 7 ⊗ ko (pos 4)) ⊕ ko (pos 4)))
    ∷ (((va 6 ⊕ ko (pos 4)) ⊕ (ko (pos 128) ⊗ va 4)) ≼ (ko (pos 4) ⊗ va 8)) ∷ (ko (pos 0) ≼ va 3) ∷ (ko (pos 0) ≼ va 1) ∷ [])
    ((ko (pos 9223372036854775808) ⊗ va 1) ⊗ (va 2 ⊗ ko (pos 1152921504606846976))) ((ko (pos 9223372036854775808) ⊗ va 1)
    ⊗ (((va 7 ⊕ ko (pos 1)) ⊕ va 8) ⊗ va 3)) (((hy 0 ⊞ ((nm 2305843009213693952 ⊠ hy 4) ⊠ hy 1)) ⊞ (((nm 2305843009213693952 ⊠ hy 4) ⊠ hy 5) ⊠ hy 2))
    ⊞ ((hy 5 ⊠ hy 4) ⊠ ((nm 2305843009213693952 ⊠ hy 3) ⊞ nm 9151314442816847872))) refl (h0, (h1, (h2, (h3, (h4, (weak (pos 0) m h5, tt)))))))

-- by 72057594037927936*h0 + 72057594037927936*h2*h1
pub mid_high : (a d x r l h : ℤ) → (a *ℤ pos 72057594037927936) ≤ℤ (h *ℤ d) → (h -ℤ x) ≤ℤ r → (pos 0) ≤ℤ d
    → (((a *ℤ pos 72057594037927936) -ℤ (x *ℤ d)) *ℤ pos 72057594037927936) ≤ℤ (r *ℤ (d *ℤ pos 72057594037927936))
mid_high a d x r l h h0 h1 h2 =
    cert (a ∷ d ∷ x ∷ r ∷ l ∷ h ∷ []) (((va 0 ⊗ ko (pos 72057594037927936)) ≼ (va 5 ⊗ va 1)) ∷ ((va 5 ⊖ va 2) ≼ va 3) ∷ (ko (pos 0) ≼ va 1) ∷ [])
    (((va 0 ⊗ ko (pos 72057594037927936)) ⊖ (va 2 ⊗ va 1)) ⊗ ko (pos 72057594037927936)) (va 3 ⊗ (va 1 ⊗ ko (pos 72057594037927936)))
    ((nm 72057594037927936 ⊠ hy 0) ⊞ ((nm 72057594037927936 ⊠ hy 2) ⊠ hy 1)) refl (h0, (h1, (h2, tt)))

-- by 72057594037927936*h0 + 72057594037927936*h2*h1
pub mid_low : (a d x r l h : ℤ) → (l *ℤ d) ≤ℤ (a *ℤ pos 72057594037927936) → (x -ℤ l) ≤ℤ r → (pos 0) ≤ℤ d
    → (((x *ℤ d) -ℤ (a *ℤ pos 72057594037927936)) *ℤ pos 72057594037927936) ≤ℤ (r *ℤ (pos 72057594037927936 *ℤ d))
mid_low a d x r l h h0 h1 h2 =
    cert (a ∷ d ∷ x ∷ r ∷ l ∷ h ∷ []) (((va 4 ⊗ va 1) ≼ (va 0 ⊗ ko (pos 72057594037927936))) ∷ ((va 2 ⊖ va 4) ≼ va 3) ∷ (ko (pos 0) ≼ va 1) ∷ [])
    (((va 2 ⊗ va 1) ⊖ (va 0 ⊗ ko (pos 72057594037927936))) ⊗ ko (pos 72057594037927936)) (va 3 ⊗ (ko (pos 72057594037927936) ⊗ va 1))
    ((nm 72057594037927936 ⊠ hy 0) ⊞ ((nm 72057594037927936 ⊠ hy 2) ⊠ hy 1)) refl (h0, (h1, (h2, tt)))

-- by 288230376151711744*h0
pub z5_low : (z p : ℤ) → (z *ℤ pos 18446744073709551616) ≤ℤ ((p *ℤ pos 4) *ℤ (p *ℤ pos 4)) → (z *ℤ (pos 2305843009213693952 *ℤ pos 2305843009213693952)) ≤ℤ (pos 4611686018427387904 *ℤ (p *ℤ p))
z5_low z p h0 =
    cert (z ∷ p ∷ []) (((va 0 ⊗ ko (pos 18446744073709551616)) ≼ ((va 1 ⊗ ko (pos 4)) ⊗ (va 1 ⊗ ko (pos 4)))) ∷ [])
    (va 0 ⊗ (ko (pos 2305843009213693952) ⊗ ko (pos 2305843009213693952))) (ko (pos 4611686018427387904) ⊗ (va 1 ⊗ va 1))
    (nm 288230376151711744 ⊠ hy 0) refl (h0, tt)

-- by 288230376151711744*h0
pub z5_high : (z p : ℤ) → ((p *ℤ pos 4) *ℤ (p *ℤ pos 4)) ≤ℤ ((z *ℤ pos 18446744073709551616) +ℤ pos 18446744073709551616)
    → (pos 4611686018427387904 *ℤ (p *ℤ p))
    ≤ℤ ((z *ℤ (pos 2305843009213693952 *ℤ pos 2305843009213693952)) +ℤ (pos 2305843009213693952 *ℤ pos 2305843009213693952))
z5_high z p h0 =
    cert (z ∷ p ∷ []) ((((va 1 ⊗ ko (pos 4)) ⊗ (va 1 ⊗ ko (pos 4))) ≼ ((va 0 ⊗ ko (pos 18446744073709551616)) ⊕ ko (pos 18446744073709551616))) ∷ [])
    (ko (pos 4611686018427387904) ⊗ (va 1 ⊗ va 1)) ((va 0 ⊗ (ko (pos 2305843009213693952) ⊗ ko (pos 2305843009213693952)))
    ⊕ (ko (pos 2305843009213693952) ⊗ ko (pos 2305843009213693952))) (nm 288230376151711744 ⊠ hy 0) refl (h0, tt)

-- by 4611686018427387904*h0
pub z7_low : (z p : ℤ) → (z *ℤ pos 18446744073709551616) ≤ℤ (p *ℤ p) → (z *ℤ (pos 9223372036854775808 *ℤ pos 9223372036854775808)) ≤ℤ (pos 4611686018427387904 *ℤ (p *ℤ p))
z7_low z p h0 =
    cert (z ∷ p ∷ []) (((va 0 ⊗ ko (pos 18446744073709551616)) ≼ (va 1 ⊗ va 1)) ∷ []) (va 0 ⊗ (ko (pos 9223372036854775808) ⊗ ko (pos 9223372036854775808)))
    (ko (pos 4611686018427387904) ⊗ (va 1 ⊗ va 1)) (nm 4611686018427387904 ⊠ hy 0) refl (h0, tt)

-- by 4611686018427387904*h0
pub z7_high : (z p : ℤ) → (p *ℤ p) ≤ℤ ((z *ℤ pos 18446744073709551616) +ℤ pos 18446744073709551616) → (pos 4611686018427387904 *ℤ (p *ℤ p))
    ≤ℤ ((z *ℤ (pos 9223372036854775808 *ℤ pos 9223372036854775808)) +ℤ (pos 9223372036854775808 *ℤ pos 9223372036854775808))
z7_high z p h0 =
    cert (z ∷ p ∷ []) (((va 1 ⊗ va 1) ≼ ((va 0 ⊗ ko (pos 18446744073709551616)) ⊕ ko (pos 18446744073709551616))) ∷ [])
    (ko (pos 4611686018427387904) ⊗ (va 1 ⊗ va 1)) ((va 0 ⊗ (ko (pos 9223372036854775808) ⊗ ko (pos 9223372036854775808)))
    ⊕ (ko (pos 9223372036854775808) ⊗ ko (pos 9223372036854775808))) (nm 4611686018427387904 ⊠ hy 0) refl (h0, tt)

-- by h0
pub s5_low : (s p h : ℤ) → (s *ℤ pos 9223372036854775808) ≤ℤ ((p *ℤ pos 4) *ℤ h) → (s *ℤ pos 2305843009213693952) ≤ℤ (p *ℤ h)
s5_low s p h h0 =
    cancel (pos 4) (s *ℤ pos 2305843009213693952) (p *ℤ h) (omega (arith, ints))
    (cert (s ∷ p ∷ h ∷ []) (((va 0 ⊗ ko (pos 9223372036854775808)) ≼ ((va 1 ⊗ ko (pos 4)) ⊗ va 2)) ∷ [])
    (ko (pos 4) ⊗ (va 0 ⊗ ko (pos 2305843009213693952))) (ko (pos 4) ⊗ (va 1 ⊗ va 2)) (hy 0) refl (h0, tt))

-- by h0
pub s5_high : (s p h : ℤ) → ((p *ℤ pos 4) *ℤ h) ≤ℤ ((s *ℤ pos 9223372036854775808) +ℤ pos 9223372036854775808) → (p *ℤ h) ≤ℤ ((s *ℤ pos 2305843009213693952) +ℤ pos 2305843009213693952)
s5_high s p h h0 =
    cancel (pos 4) (p *ℤ h) ((s *ℤ pos 2305843009213693952) +ℤ pos 2305843009213693952) (omega (arith, ints))
    (cert (s ∷ p ∷ h ∷ []) ((((va 1 ⊗ ko (pos 4)) ⊗ va 2) ≼ ((va 0 ⊗ ko (pos 9223372036854775808)) ⊕ ko (pos 9223372036854775808))) ∷ [])
    (ko (pos 4) ⊗ (va 1 ⊗ va 2)) (ko (pos 4) ⊗ ((va 0 ⊗ ko (pos 2305843009213693952)) ⊕ ko (pos 2305843009213693952))) (hy 0) refl (h0, tt))
