-- Inequalities of what rounding does to nests and doublings, each by a certificate.
-- The terms are made: tools/inequality_certificate.py writes a lemma from its claim and the products of its hypotheses,
-- h0, h1, .. in the order in which they stand: they are over each lemma, after `by`. Who changes a claim writes its term anew there;
-- the check proves what is written.
use Rattle.std.proofs.Common.{[], ◌∷◌, ℤ, pos, ◌+ℤ◌, ◌-ℤ◌, ◌*ℤ◌, ◌≤ℤ◌, ◌<ℤ◌, arith, refl}
use Rattle.std.proofs.Common.{lit<}
use Rattle.std.proofs.lemmas.Int.{ints}
use Rattle.whole_math.proofs.Ring.{va, ko, ◌⊕◌, ◌⊖◌, ◌⊗◌}
use Rattle.whole_math.proofs.Certificates.{cert, cancel, mul_positive, weak, ◌≼◌, hy, nm, sq, ◌⊞◌, ◌⊠◌}
use Rattle.whole_math.proofs.Inequalities.{le_by, nat, both_nn, prod_nn, less_nn, pos_nn}
use Rattle.whole_math.proofs.Order.{lt_pos}

-- a sum's coefficient less z times the rest, where the rest is near a nest: p d g over the nest n / w of 2^62, and k over 2^62 / p
pub sum_round_high : (z g q k p d a b n w : ℤ) → (q *ℤ pos 4611686018427387904) ≤ℤ (z *ℤ g) → (z *ℤ b) ≤ℤ (pos 4611686018427387904 *ℤ a) → (((p *ℤ d) *ℤ g) *ℤ w -ℤ pos 4611686018427387904 *ℤ n) ≤ℤ ((pos 2 *ℤ (p *ℤ d)) *ℤ w)
    → pos 9223372036854775808 ≤ℤ ((pos 2 *ℤ k) *ℤ p +ℤ p) → pos 0 ≤ℤ n → pos 0 ≤ℤ b → pos 0 ≤ℤ w → pos 0 ≤ℤ p → pos 0 ≤ℤ d → pos 0 ≤ℤ z → z ≤ℤ pos 1152921504606846976
    → (pos 4611686018427387904 *ℤ ((d *ℤ b) *ℤ w -ℤ a *ℤ n) -ℤ (p *ℤ (k -ℤ q)) *ℤ ((d *ℤ b) *ℤ w)) ≤ℤ (p *ℤ ((d *ℤ b) *ℤ w))
sum_round_high z g q k p d a b n w h0 h1 h2 h3 n0 b0 w0 p0 d0 z0 z1 =
    let left_part_nonnegative : pos 0 ≤ℤ (b *ℤ w) = prod_nn b0 w0 in
    let right_part_nonnegative : pos 0 ≤ℤ (p *ℤ d) = prod_nn p0 d0 in
    let pdbw : pos 0 ≤ℤ ((p *ℤ d) *ℤ (b *ℤ w)) = prod_nn right_part_nonnegative left_part_nonnegative in
    cancel (pos 9223372036854775808) (pos 4611686018427387904 *ℤ ((d *ℤ b) *ℤ w -ℤ a *ℤ n) -ℤ (p *ℤ (k -ℤ q)) *ℤ ((d *ℤ b) *ℤ w)) (p *ℤ ((d *ℤ b) *ℤ w)) (lt_pos 0 9223372036854775808 (lit< tt))
    (le_by (z ∷ g ∷ q ∷ k ∷ p ∷ d ∷ a ∷ b ∷ n ∷ w ∷ []) (λ z g q k p d a b n w. (
      nat 9223372036854775808 ⊗ (nat 4611686018427387904 ⊗ ((d ⊗ b) ⊗ w ⊖ a ⊗ n) ⊖ (p ⊗ (k ⊖ q)) ⊗ ((d ⊗ b) ⊗ w)),
      nat 9223372036854775808 ⊗ (p ⊗ ((d ⊗ b) ⊗ w)),
      ((((nat 2 ⊗ k) ⊗ p ⊕ p) ⊖ nat 9223372036854775808) ⊗ ((d ⊗ (b ⊗ w)) ⊗ nat 4611686018427387904))
          ⊕ (z ⊗ g ⊖ q ⊗ nat 4611686018427387904) ⊗ (nat 2 ⊗ ((p ⊗ d) ⊗ (b ⊗ w)))
          ⊕ (((nat 2 ⊗ (p ⊗ d)) ⊗ w) ⊖ (((p ⊗ d) ⊗ g) ⊗ w ⊖ nat 4611686018427387904 ⊗ n)) ⊗ (nat 2 ⊗ (z ⊗ b))
          ⊕ (nat 1152921504606846976 ⊖ z) ⊗ (nat 4 ⊗ ((p ⊗ d) ⊗ (b ⊗ w)))
          ⊕ (nat 4611686018427387904 ⊗ a ⊖ z ⊗ b) ⊗ (nat 9223372036854775808 ⊗ n),
    )) refl
    (both_nn (both_nn (both_nn (both_nn (prod_nn (less_nn h3) (prod_nn (prod_nn d0 left_part_nonnegative) (pos_nn 4611686018427387904)))
    (prod_nn (less_nn h0) (prod_nn (pos_nn 2) pdbw)))
    (prod_nn (less_nn h2) (prod_nn (pos_nn 2) (prod_nn z0 b0))))
    (prod_nn (less_nn z1) (prod_nn (pos_nn 4) pdbw)))
    (prod_nn (less_nn h1) (prod_nn (pos_nn 9223372036854775808) n0))))

pub sum_round_low : (z g q k p d a b n w : ℤ) → (z *ℤ g) ≤ℤ (q *ℤ pos 4611686018427387904 +ℤ pos 4611686018427387904) → (pos 4611686018427387904 *ℤ a) ≤ℤ (z *ℤ b +ℤ b) → (pos 4611686018427387904 *ℤ n -ℤ ((p *ℤ d) *ℤ g) *ℤ w) ≤ℤ ((p *ℤ d) *ℤ w)
    → (pos 4 *ℤ (k *ℤ (p *ℤ d)) +ℤ pos 4) ≤ℤ (pos 3 *ℤ (p *ℤ d) +ℤ pos 4 *ℤ (pos 4611686018427387904 *ℤ d)) → pos 0 ≤ℤ n → n ≤ℤ w → pos 0 ≤ℤ b → pos 0 ≤ℤ w → pos 0 ≤ℤ p → pos 0 ≤ℤ d → pos 0 ≤ℤ z → z ≤ℤ pos 1152921504606846976
    → ((p *ℤ (k -ℤ q)) *ℤ ((d *ℤ b) *ℤ w) -ℤ pos 4611686018427387904 *ℤ ((d *ℤ b) *ℤ w -ℤ a *ℤ n)) ≤ℤ ((pos 2 *ℤ p) *ℤ ((d *ℤ b) *ℤ w))
sum_round_low z g q k p d a b n w h0 h1 h2 h3 n0 nw b0 w0 p0 d0 z0 z1 =
    let left_part_nonnegative : pos 0 ≤ℤ (b *ℤ w) = prod_nn b0 w0 in
    let right_part_nonnegative : pos 0 ≤ℤ (p *ℤ d) = prod_nn p0 d0 in
    let pdbw : pos 0 ≤ℤ ((p *ℤ d) *ℤ (b *ℤ w)) = prod_nn right_part_nonnegative left_part_nonnegative in
    cancel (pos 18446744073709551616) ((p *ℤ (k -ℤ q)) *ℤ ((d *ℤ b) *ℤ w) -ℤ pos 4611686018427387904 *ℤ ((d *ℤ b) *ℤ w -ℤ a *ℤ n)) ((pos 2 *ℤ p) *ℤ ((d *ℤ b) *ℤ w)) (lt_pos 0 18446744073709551616 (lit< tt))
    (le_by (z ∷ g ∷ q ∷ k ∷ p ∷ d ∷ a ∷ b ∷ n ∷ w ∷ []) (λ z g q k p d a b n w. (
      nat 18446744073709551616 ⊗ ((p ⊗ (k ⊖ q)) ⊗ ((d ⊗ b) ⊗ w) ⊖ nat 4611686018427387904 ⊗ ((d ⊗ b) ⊗ w ⊖ a ⊗ n)),
      nat 18446744073709551616 ⊗ ((nat 2 ⊗ p) ⊗ ((d ⊗ b) ⊗ w)),
      ((nat 3 ⊗ (p ⊗ d) ⊕ nat 4 ⊗ (nat 4611686018427387904 ⊗ d)) ⊖ (nat 4 ⊗ (k ⊗ (p ⊗ d)) ⊕ nat 4)) ⊗ ((b ⊗ w) ⊗ nat 4611686018427387904)
          ⊕ (q ⊗ nat 4611686018427387904 ⊕ nat 4611686018427387904 ⊖ z ⊗ g) ⊗ (nat 4 ⊗ ((p ⊗ d) ⊗ (b ⊗ w)))
          ⊕ (((p ⊗ d) ⊗ w) ⊖ (nat 4611686018427387904 ⊗ n ⊖ ((p ⊗ d) ⊗ g) ⊗ w)) ⊗ (nat 4 ⊗ (z ⊗ b))
          ⊕ (nat 1152921504606846976 ⊖ z) ⊗ (nat 4 ⊗ ((p ⊗ d) ⊗ (b ⊗ w)))
          ⊕ (z ⊗ b ⊕ b ⊖ nat 4611686018427387904 ⊗ a) ⊗ (nat 18446744073709551616 ⊗ n)
          ⊕ (w ⊖ n) ⊗ (nat 18446744073709551616 ⊗ b),
    )) refl
    (both_nn (both_nn (both_nn (both_nn (both_nn (prod_nn (less_nn h3) (prod_nn left_part_nonnegative (pos_nn 4611686018427387904)))
    (prod_nn (less_nn h0) (prod_nn (pos_nn 4) pdbw)))
    (prod_nn (less_nn h2) (prod_nn (pos_nn 4) (prod_nn z0 b0))))
    (prod_nn (less_nn z1) (prod_nn (pos_nn 4) pdbw)))
    (prod_nn (less_nn h1) (prod_nn (pos_nn 18446744073709551616) n0)))
    (prod_nn (less_nn nw) (prod_nn (pos_nn 18446744073709551616) b0))))

-- by h3*h0 + h2*h1 + 4*h5*h4
pub sine_round_high : (p q g s n w : ℤ) → ((pos 4611686018427387904 *ℤ n) -ℤ (g *ℤ w)) ≤ℤ (pos 2 *ℤ w)
    → ((g *ℤ w) -ℤ (pos 4611686018427387904 *ℤ n)) ≤ℤ (pos 2 *ℤ w) → (pos 2 *ℤ p) ≤ℤ q → (pos 0) ≤ℤ (q +ℤ (pos 2 *ℤ p)) → (p *ℤ g) ≤ℤ ((s *ℤ q) +ℤ q)
    → (pos 0) ≤ℤ w → ((pos 4611686018427387904 *ℤ (p *ℤ n)) -ℤ (s *ℤ (q *ℤ w))) ≤ℤ (pos 2 *ℤ (q *ℤ w))
sine_round_high p q g s n w h0 h1 h2 h3 h4 h5 =
    cancel (pos 4) ((pos 4611686018427387904 *ℤ (p *ℤ n)) -ℤ (s *ℤ (q *ℤ w))) (pos 2 *ℤ (q *ℤ w)) (omega (arith, ints))
    (cert (p ∷ q ∷ g ∷ s ∷ n ∷ w ∷ []) ((((ko (pos 4611686018427387904) ⊗ va 4) ⊖ (va 2 ⊗ va 5)) ≼ (ko (pos 2) ⊗ va 5))
    ∷ (((va 2 ⊗ va 5) ⊖ (ko (pos 4611686018427387904) ⊗ va 4)) ≼ (ko (pos 2) ⊗ va 5)) ∷ ((ko (pos 2) ⊗ va 0) ≼ va 1)
    ∷ (ko (pos 0) ≼ (va 1 ⊕ (ko (pos 2) ⊗ va 0))) ∷ ((va 0 ⊗ va 2) ≼ ((va 3 ⊗ va 1) ⊕ va 1)) ∷ (ko (pos 0) ≼ va 5) ∷ [])
    (ko (pos 4) ⊗ ((ko (pos 4611686018427387904) ⊗ (va 0 ⊗ va 4)) ⊖ (va 3 ⊗ (va 1 ⊗ va 5)))) (ko (pos 4) ⊗ (ko (pos 2) ⊗ (va 1 ⊗ va 5)))
    (((hy 3 ⊠ hy 0) ⊞ (hy 2 ⊠ hy 1)) ⊞ ((nm 4 ⊠ hy 5) ⊠ hy 4)) refl (h0, (h1, (h2, (h3, (h4, (h5, tt)))))))

-- by h2*h0 + h3*h1 + 4*h5*h4 + 4*h6*h5
pub sine_round_low : (p q g s n w : ℤ) → ((pos 4611686018427387904 *ℤ n) -ℤ (g *ℤ w)) ≤ℤ (pos 2 *ℤ w)
    → ((g *ℤ w) -ℤ (pos 4611686018427387904 *ℤ n)) ≤ℤ (pos 2 *ℤ w) → (pos 2 *ℤ p) ≤ℤ q → (pos 0) ≤ℤ (q +ℤ (pos 2 *ℤ p)) → (s *ℤ q) ≤ℤ (p *ℤ g)
    → (pos 0) ≤ℤ w → (pos 0) ≤ℤ q → ((s *ℤ (q *ℤ w)) -ℤ (pos 4611686018427387904 *ℤ (p *ℤ n))) ≤ℤ (pos 2 *ℤ (q *ℤ w))
sine_round_low p q g s n w h0 h1 h2 h3 h4 h5 h6 =
    cancel (pos 4) ((s *ℤ (q *ℤ w)) -ℤ (pos 4611686018427387904 *ℤ (p *ℤ n))) (pos 2 *ℤ (q *ℤ w)) (omega (arith, ints))
    (cert (p ∷ q ∷ g ∷ s ∷ n ∷ w ∷ []) ((((ko (pos 4611686018427387904) ⊗ va 4) ⊖ (va 2 ⊗ va 5)) ≼ (ko (pos 2) ⊗ va 5))
    ∷ (((va 2 ⊗ va 5) ⊖ (ko (pos 4611686018427387904) ⊗ va 4)) ≼ (ko (pos 2) ⊗ va 5)) ∷ ((ko (pos 2) ⊗ va 0) ≼ va 1)
    ∷ (ko (pos 0) ≼ (va 1 ⊕ (ko (pos 2) ⊗ va 0))) ∷ ((va 3 ⊗ va 1) ≼ (va 0 ⊗ va 2)) ∷ (ko (pos 0) ≼ va 5) ∷ (ko (pos 0) ≼ va 1) ∷ [])
    (ko (pos 4) ⊗ ((va 3 ⊗ (va 1 ⊗ va 5)) ⊖ (ko (pos 4611686018427387904) ⊗ (va 0 ⊗ va 4)))) (ko (pos 4) ⊗ (ko (pos 2) ⊗ (va 1 ⊗ va 5)))
    ((((hy 2 ⊠ hy 0) ⊞ (hy 3 ⊠ hy 1)) ⊞ ((nm 4 ⊠ hy 5) ⊠ hy 4)) ⊞ ((nm 4 ⊠ hy 6) ⊠ hy 5)) refl (h0, (h1, (h2, (h3, (h4, (h5, (h6, tt))))))))

-- by h0*h1
pub put_cos_high : (n c w y : ℤ) → ((pos 4611686018427387904 *ℤ n) -ℤ (c *ℤ w)) ≤ℤ (pos 2 *ℤ w) → (pos 0) ≤ℤ y → ((pos 4611686018427387904 *ℤ (n *ℤ y)) -ℤ (c *ℤ (w *ℤ y))) ≤ℤ (pos 2 *ℤ (w *ℤ y))
put_cos_high n c w y h0 h1 =
    cert (n ∷ c ∷ w ∷ y ∷ []) ((((ko (pos 4611686018427387904) ⊗ va 0) ⊖ (va 1 ⊗ va 2)) ≼ (ko (pos 2) ⊗ va 2)) ∷ (ko (pos 0) ≼ va 3) ∷ [])
    ((ko (pos 4611686018427387904) ⊗ (va 0 ⊗ va 3)) ⊖ (va 1 ⊗ (va 2 ⊗ va 3))) (ko (pos 2) ⊗ (va 2 ⊗ va 3)) (hy 0 ⊠ hy 1) refl (h0, (h1, tt))

-- by h0*h1
pub put_cos_low : (n c w y : ℤ) → ((c *ℤ w) -ℤ (pos 4611686018427387904 *ℤ n)) ≤ℤ (pos 2 *ℤ w) → (pos 0) ≤ℤ y → ((c *ℤ (w *ℤ y)) -ℤ (pos 4611686018427387904 *ℤ (n *ℤ y))) ≤ℤ (pos 2 *ℤ (w *ℤ y))
put_cos_low n c w y h0 h1 =
    cert (n ∷ c ∷ w ∷ y ∷ []) ((((va 1 ⊗ va 2) ⊖ (ko (pos 4611686018427387904) ⊗ va 0)) ≼ (ko (pos 2) ⊗ va 2)) ∷ (ko (pos 0) ≼ va 3) ∷ [])
    ((va 1 ⊗ (va 2 ⊗ va 3)) ⊖ (ko (pos 4611686018427387904) ⊗ (va 0 ⊗ va 3))) (ko (pos 2) ⊗ (va 2 ⊗ va 3)) (hy 0 ⊠ hy 1) refl (h0, (h1, tt))

-- by h0*h1
pub put_sin_high : (n c w y : ℤ) → ((pos 4611686018427387904 *ℤ n) -ℤ (c *ℤ w)) ≤ℤ (pos 2 *ℤ w) → (pos 0) ≤ℤ y → ((pos 4611686018427387904 *ℤ (n *ℤ y)) -ℤ (c *ℤ (y *ℤ w))) ≤ℤ (pos 2 *ℤ (y *ℤ w))
put_sin_high n c w y h0 h1 =
    cert (n ∷ c ∷ w ∷ y ∷ []) ((((ko (pos 4611686018427387904) ⊗ va 0) ⊖ (va 1 ⊗ va 2)) ≼ (ko (pos 2) ⊗ va 2)) ∷ (ko (pos 0) ≼ va 3) ∷ [])
    ((ko (pos 4611686018427387904) ⊗ (va 0 ⊗ va 3)) ⊖ (va 1 ⊗ (va 3 ⊗ va 2))) (ko (pos 2) ⊗ (va 3 ⊗ va 2)) (hy 0 ⊠ hy 1) refl (h0, (h1, tt))

-- by h0*h1
pub put_sin_low : (n c w y : ℤ) → ((c *ℤ w) -ℤ (pos 4611686018427387904 *ℤ n)) ≤ℤ (pos 2 *ℤ w) → (pos 0) ≤ℤ y → ((c *ℤ (y *ℤ w)) -ℤ (pos 4611686018427387904 *ℤ (n *ℤ y))) ≤ℤ (pos 2 *ℤ (y *ℤ w))
put_sin_low n c w y h0 h1 =
    cert (n ∷ c ∷ w ∷ y ∷ []) ((((va 1 ⊗ va 2) ⊖ (ko (pos 4611686018427387904) ⊗ va 0)) ≼ (ko (pos 2) ⊗ va 2)) ∷ (ko (pos 0) ≼ va 3) ∷ [])
    ((va 1 ⊗ (va 3 ⊗ va 2)) ⊖ (ko (pos 4611686018427387904) ⊗ (va 0 ⊗ va 3))) (ko (pos 2) ⊗ (va 3 ⊗ va 2)) (hy 0 ⊠ hy 1) refl (h0, (h1, tt))

-- a doubling makes the error e at most 3e + 2
-- by 4*(h11*h10)*(h10*h10*h9 + h10*h10*(h12 + h11*h11) + h0*h1 + sq(4611686018427387904*y - s*d)) + 2*h10*(h4*h1*h2 + h5*h1*h3 + h6*h0*h2
--    + h7*h0*h3)
pub double_cos_high : (x y d c s e g : ℤ) → ((pos 4611686018427387904 *ℤ x) -ℤ (c *ℤ d)) ≤ℤ (e *ℤ d) → ((c *ℤ d) -ℤ (pos 4611686018427387904 *ℤ x)) ≤ℤ (e *ℤ d)
    → ((pos 4611686018427387904 *ℤ y) -ℤ (s *ℤ d)) ≤ℤ (e *ℤ d) → ((s *ℤ d) -ℤ (pos 4611686018427387904 *ℤ y)) ≤ℤ (e *ℤ d) → (c +ℤ s) ≤ℤ pos 6917529027641081856
    → (c -ℤ s) ≤ℤ pos 6917529027641081856 → (s -ℤ c) ≤ℤ pos 6917529027641081856 → (pos 0) ≤ℤ (pos 6917529027641081856 +ℤ (c +ℤ s))
    → (g *ℤ pos 4611686018427387904) ≤ℤ ((c *ℤ c) -ℤ (s *ℤ s)) → ((c *ℤ c) -ℤ (s *ℤ s)) ≤ℤ ((g *ℤ pos 4611686018427387904) +ℤ pos 4611686018427387904)
    → (pos 0) ≤ℤ d → (pos 0) ≤ℤ e → (pos 2 *ℤ (e *ℤ e)) ≤ℤ pos 4611686018427387904 → (pos 0) <ℤ (e *ℤ d)
    → ((pos 4611686018427387904 *ℤ ((x *ℤ x) -ℤ (y *ℤ y))) -ℤ (g *ℤ (d *ℤ d))) ≤ℤ (((pos 3 *ℤ e) +ℤ pos 2) *ℤ (d *ℤ d))
double_cos_high x y d c s e g h0 h1 h2 h3 h4 h5 h6 h7 h8 h9 h10 h11 h12 h13 =
    cancel (pos 4611686018427387904 *ℤ (pos 4 *ℤ (e *ℤ d))) ((pos 4611686018427387904 *ℤ ((x *ℤ x) -ℤ (y *ℤ y))) -ℤ (g *ℤ (d *ℤ d)))
    (((pos 3 *ℤ e) +ℤ pos 2) *ℤ (d *ℤ d)) (mul_positive (pos 4611686018427387904) (pos 4 *ℤ (e *ℤ d)) (lt_pos 0 4611686018427387904 (lit< tt))
    (mul_positive (pos 4) (e *ℤ d) (lt_pos 0 4 (lit< tt)) h13)) (cert (x ∷ y ∷ d ∷ c ∷ s ∷ e ∷ g ∷ [])
    ((((ko (pos 4611686018427387904) ⊗ va 0) ⊖ (va 3 ⊗ va 2)) ≼ (va 5 ⊗ va 2)) ∷ (((va 3 ⊗ va 2) ⊖ (ko (pos 4611686018427387904) ⊗ va 0)) ≼ (va 5 ⊗ va 2))
    ∷ (((ko (pos 4611686018427387904) ⊗ va 1) ⊖ (va 4 ⊗ va 2)) ≼ (va 5 ⊗ va 2))
    ∷ (((va 4 ⊗ va 2) ⊖ (ko (pos 4611686018427387904) ⊗ va 1)) ≼ (va 5 ⊗ va 2)) ∷ ((va 3 ⊕ va 4) ≼ ko (pos 6917529027641081856))
    ∷ ((va 3 ⊖ va 4) ≼ ko (pos 6917529027641081856)) ∷ ((va 4 ⊖ va 3) ≼ ko (pos 6917529027641081856))
    ∷ (ko (pos 0) ≼ (ko (pos 6917529027641081856) ⊕ (va 3 ⊕ va 4))) ∷ ((va 6 ⊗ ko (pos 4611686018427387904)) ≼ ((va 3 ⊗ va 3) ⊖ (va 4 ⊗ va 4)))
    ∷ (((va 3 ⊗ va 3) ⊖ (va 4 ⊗ va 4)) ≼ ((va 6 ⊗ ko (pos 4611686018427387904)) ⊕ ko (pos 4611686018427387904))) ∷ (ko (pos 0) ≼ va 2)
    ∷ (ko (pos 0) ≼ va 5) ∷ ((ko (pos 2) ⊗ (va 5 ⊗ va 5)) ≼ ko (pos 4611686018427387904)) ∷ (ko (pos 0) ≼ (va 5 ⊗ va 2)) ∷ [])
    ((ko (pos 4611686018427387904) ⊗ (ko (pos 4) ⊗ (va 5 ⊗ va 2))) ⊗ ((ko (pos 4611686018427387904) ⊗ ((va 0 ⊗ va 0) ⊖ (va 1 ⊗ va 1)))
    ⊖ (va 6 ⊗ (va 2 ⊗ va 2)))) ((ko (pos 4611686018427387904) ⊗ (ko (pos 4) ⊗ (va 5 ⊗ va 2))) ⊗ (((ko (pos 3) ⊗ va 5) ⊕ ko (pos 2)) ⊗ (va 2 ⊗ va 2)))
    (((nm 4 ⊠ (hy 11 ⊠ hy 10)) ⊠ (((((hy 10 ⊠ hy 10) ⊠ hy 9) ⊞ ((hy 10 ⊠ hy 10) ⊠ (hy 12 ⊞ (hy 11 ⊠ hy 11)))) ⊞ (hy 0 ⊠ hy 1))
    ⊞ (sq ((ko (pos 4611686018427387904) ⊗ va 1) ⊖ (va 4 ⊗ va 2)))))
    ⊞ ((nm 2 ⊠ hy 10) ⊠ (((((hy 4 ⊠ hy 1) ⊠ hy 2) ⊞ ((hy 5 ⊠ hy 1) ⊠ hy 3)) ⊞ ((hy 6 ⊠ hy 0) ⊠ hy 2)) ⊞ ((hy 7 ⊠ hy 0) ⊠ hy 3)))) refl
    (h0, (h1, (h2, (h3, (h4, (h5, (h6, (h7, (h8, (h9, (h10, (h11, (h12, (weak (pos 0) (e *ℤ d) h13, tt)))))))))))))))

-- by 4*(h11*h10)*(h10*h10*h8 + h10*h10*(4611686018427387904 + h12 + h11*h11) + h2*h3 + sq(4611686018427387904*x - c*d)) + 2*h10*(h4*h0*h3
--    + h5*h0*h2 + h6*h1*h3 + h7*h1*h2)
pub double_cos_low : (x y d c s e g : ℤ) → ((pos 4611686018427387904 *ℤ x) -ℤ (c *ℤ d)) ≤ℤ (e *ℤ d) → ((c *ℤ d) -ℤ (pos 4611686018427387904 *ℤ x)) ≤ℤ (e *ℤ d)
    → ((pos 4611686018427387904 *ℤ y) -ℤ (s *ℤ d)) ≤ℤ (e *ℤ d) → ((s *ℤ d) -ℤ (pos 4611686018427387904 *ℤ y)) ≤ℤ (e *ℤ d) → (c +ℤ s) ≤ℤ pos 6917529027641081856
    → (c -ℤ s) ≤ℤ pos 6917529027641081856 → (s -ℤ c) ≤ℤ pos 6917529027641081856 → (pos 0) ≤ℤ (pos 6917529027641081856 +ℤ (c +ℤ s))
    → (g *ℤ pos 4611686018427387904) ≤ℤ ((c *ℤ c) -ℤ (s *ℤ s)) → ((c *ℤ c) -ℤ (s *ℤ s)) ≤ℤ ((g *ℤ pos 4611686018427387904) +ℤ pos 4611686018427387904)
    → (pos 0) ≤ℤ d → (pos 0) ≤ℤ e → (pos 2 *ℤ (e *ℤ e)) ≤ℤ pos 4611686018427387904 → (pos 0) <ℤ (e *ℤ d)
    → ((g *ℤ (d *ℤ d)) -ℤ (pos 4611686018427387904 *ℤ ((x *ℤ x) -ℤ (y *ℤ y)))) ≤ℤ (((pos 3 *ℤ e) +ℤ pos 2) *ℤ (d *ℤ d))
double_cos_low x y d c s e g h0 h1 h2 h3 h4 h5 h6 h7 h8 h9 h10 h11 h12 h13 =
    cancel (pos 4611686018427387904 *ℤ (pos 4 *ℤ (e *ℤ d))) ((g *ℤ (d *ℤ d)) -ℤ (pos 4611686018427387904 *ℤ ((x *ℤ x) -ℤ (y *ℤ y))))
    (((pos 3 *ℤ e) +ℤ pos 2) *ℤ (d *ℤ d)) (mul_positive (pos 4611686018427387904) (pos 4 *ℤ (e *ℤ d)) (lt_pos 0 4611686018427387904 (lit< tt))
    (mul_positive (pos 4) (e *ℤ d) (lt_pos 0 4 (lit< tt)) h13)) (cert (x ∷ y ∷ d ∷ c ∷ s ∷ e ∷ g ∷ [])
    ((((ko (pos 4611686018427387904) ⊗ va 0) ⊖ (va 3 ⊗ va 2)) ≼ (va 5 ⊗ va 2)) ∷ (((va 3 ⊗ va 2) ⊖ (ko (pos 4611686018427387904) ⊗ va 0)) ≼ (va 5 ⊗ va 2))
    ∷ (((ko (pos 4611686018427387904) ⊗ va 1) ⊖ (va 4 ⊗ va 2)) ≼ (va 5 ⊗ va 2))
    ∷ (((va 4 ⊗ va 2) ⊖ (ko (pos 4611686018427387904) ⊗ va 1)) ≼ (va 5 ⊗ va 2)) ∷ ((va 3 ⊕ va 4) ≼ ko (pos 6917529027641081856))
    ∷ ((va 3 ⊖ va 4) ≼ ko (pos 6917529027641081856)) ∷ ((va 4 ⊖ va 3) ≼ ko (pos 6917529027641081856))
    ∷ (ko (pos 0) ≼ (ko (pos 6917529027641081856) ⊕ (va 3 ⊕ va 4))) ∷ ((va 6 ⊗ ko (pos 4611686018427387904)) ≼ ((va 3 ⊗ va 3) ⊖ (va 4 ⊗ va 4)))
    ∷ (((va 3 ⊗ va 3) ⊖ (va 4 ⊗ va 4)) ≼ ((va 6 ⊗ ko (pos 4611686018427387904)) ⊕ ko (pos 4611686018427387904))) ∷ (ko (pos 0) ≼ va 2)
    ∷ (ko (pos 0) ≼ va 5) ∷ ((ko (pos 2) ⊗ (va 5 ⊗ va 5)) ≼ ko (pos 4611686018427387904)) ∷ (ko (pos 0) ≼ (va 5 ⊗ va 2)) ∷ [])
    ((ko (pos 4611686018427387904) ⊗ (ko (pos 4) ⊗ (va 5 ⊗ va 2)))
    ⊗ ((va 6 ⊗ (va 2 ⊗ va 2)) ⊖ (ko (pos 4611686018427387904) ⊗ ((va 0 ⊗ va 0) ⊖ (va 1 ⊗ va 1)))))
    ((ko (pos 4611686018427387904) ⊗ (ko (pos 4) ⊗ (va 5 ⊗ va 2))) ⊗ (((ko (pos 3) ⊗ va 5) ⊕ ko (pos 2)) ⊗ (va 2 ⊗ va 2)))
    (((nm 4 ⊠ (hy 11 ⊠ hy 10)) ⊠ (((((hy 10 ⊠ hy 10) ⊠ hy 8) ⊞ ((hy 10 ⊠ hy 10) ⊠ ((nm 4611686018427387904 ⊞ hy 12) ⊞ (hy 11 ⊠ hy 11)))) ⊞ (hy 2 ⊠ hy 3))
    ⊞ (sq ((ko (pos 4611686018427387904) ⊗ va 0) ⊖ (va 3 ⊗ va 2)))))
    ⊞ ((nm 2 ⊠ hy 10) ⊠ (((((hy 4 ⊠ hy 0) ⊠ hy 3) ⊞ ((hy 5 ⊠ hy 0) ⊠ hy 2)) ⊞ ((hy 6 ⊠ hy 1) ⊠ hy 3)) ⊞ ((hy 7 ⊠ hy 1) ⊠ hy 2)))) refl
    (h0, (h1, (h2, (h3, (h4, (h5, (h6, (h7, (h8, (h9, (h10, (h11, (h12, (weak (pos 0) (e *ℤ d) h13, tt)))))))))))))))

-- by 4*(h11*h10)*(h10*h10*h9 + h10*h10*h12 + h0*h3 + h1*h2) + 2*h10*(h4*h1*h3 + h6*h1*h2 + h5*h0*h3 + h7*h0*h2)
pub double_sin_high : (x y d c s e g : ℤ) → ((pos 4611686018427387904 *ℤ x) -ℤ (c *ℤ d)) ≤ℤ (e *ℤ d) → ((c *ℤ d) -ℤ (pos 4611686018427387904 *ℤ x)) ≤ℤ (e *ℤ d)
    → ((pos 4611686018427387904 *ℤ y) -ℤ (s *ℤ d)) ≤ℤ (e *ℤ d) → ((s *ℤ d) -ℤ (pos 4611686018427387904 *ℤ y)) ≤ℤ (e *ℤ d) → (c +ℤ s) ≤ℤ pos 6917529027641081856
    → (c -ℤ s) ≤ℤ pos 6917529027641081856 → (s -ℤ c) ≤ℤ pos 6917529027641081856 → (pos 0) ≤ℤ (pos 6917529027641081856 +ℤ (c +ℤ s))
    → (g *ℤ pos 4611686018427387904) ≤ℤ (pos 2 *ℤ (c *ℤ s)) → (pos 2 *ℤ (c *ℤ s)) ≤ℤ ((g *ℤ pos 4611686018427387904) +ℤ pos 4611686018427387904)
    → (pos 0) ≤ℤ d → (pos 0) ≤ℤ e → (pos 2 *ℤ (e *ℤ e)) ≤ℤ pos 4611686018427387904 → (pos 0) <ℤ (e *ℤ d)
    → ((pos 4611686018427387904 *ℤ (pos 2 *ℤ (x *ℤ y))) -ℤ (g *ℤ (d *ℤ d))) ≤ℤ (((pos 3 *ℤ e) +ℤ pos 2) *ℤ (d *ℤ d))
double_sin_high x y d c s e g h0 h1 h2 h3 h4 h5 h6 h7 h8 h9 h10 h11 h12 h13 =
    cancel (pos 4611686018427387904 *ℤ (pos 4 *ℤ (e *ℤ d))) ((pos 4611686018427387904 *ℤ (pos 2 *ℤ (x *ℤ y))) -ℤ (g *ℤ (d *ℤ d)))
    (((pos 3 *ℤ e) +ℤ pos 2) *ℤ (d *ℤ d)) (mul_positive (pos 4611686018427387904) (pos 4 *ℤ (e *ℤ d)) (lt_pos 0 4611686018427387904 (lit< tt))
    (mul_positive (pos 4) (e *ℤ d) (lt_pos 0 4 (lit< tt)) h13)) (cert (x ∷ y ∷ d ∷ c ∷ s ∷ e ∷ g ∷ [])
    ((((ko (pos 4611686018427387904) ⊗ va 0) ⊖ (va 3 ⊗ va 2)) ≼ (va 5 ⊗ va 2)) ∷ (((va 3 ⊗ va 2) ⊖ (ko (pos 4611686018427387904) ⊗ va 0)) ≼ (va 5 ⊗ va 2))
    ∷ (((ko (pos 4611686018427387904) ⊗ va 1) ⊖ (va 4 ⊗ va 2)) ≼ (va 5 ⊗ va 2))
    ∷ (((va 4 ⊗ va 2) ⊖ (ko (pos 4611686018427387904) ⊗ va 1)) ≼ (va 5 ⊗ va 2)) ∷ ((va 3 ⊕ va 4) ≼ ko (pos 6917529027641081856))
    ∷ ((va 3 ⊖ va 4) ≼ ko (pos 6917529027641081856)) ∷ ((va 4 ⊖ va 3) ≼ ko (pos 6917529027641081856))
    ∷ (ko (pos 0) ≼ (ko (pos 6917529027641081856) ⊕ (va 3 ⊕ va 4))) ∷ ((va 6 ⊗ ko (pos 4611686018427387904)) ≼ (ko (pos 2) ⊗ (va 3 ⊗ va 4)))
    ∷ ((ko (pos 2) ⊗ (va 3 ⊗ va 4)) ≼ ((va 6 ⊗ ko (pos 4611686018427387904)) ⊕ ko (pos 4611686018427387904))) ∷ (ko (pos 0) ≼ va 2)
    ∷ (ko (pos 0) ≼ va 5) ∷ ((ko (pos 2) ⊗ (va 5 ⊗ va 5)) ≼ ko (pos 4611686018427387904)) ∷ (ko (pos 0) ≼ (va 5 ⊗ va 2)) ∷ [])
    ((ko (pos 4611686018427387904) ⊗ (ko (pos 4) ⊗ (va 5 ⊗ va 2))) ⊗ ((ko (pos 4611686018427387904) ⊗ (ko (pos 2) ⊗ (va 0 ⊗ va 1)))
    ⊖ (va 6 ⊗ (va 2 ⊗ va 2)))) ((ko (pos 4611686018427387904) ⊗ (ko (pos 4) ⊗ (va 5 ⊗ va 2))) ⊗ (((ko (pos 3) ⊗ va 5) ⊕ ko (pos 2)) ⊗ (va 2 ⊗ va 2)))
    (((nm 4 ⊠ (hy 11 ⊠ hy 10)) ⊠ (((((hy 10 ⊠ hy 10) ⊠ hy 9) ⊞ ((hy 10 ⊠ hy 10) ⊠ hy 12)) ⊞ (hy 0 ⊠ hy 3)) ⊞ (hy 1 ⊠ hy 2)))
    ⊞ ((nm 2 ⊠ hy 10) ⊠ (((((hy 4 ⊠ hy 1) ⊠ hy 3) ⊞ ((hy 6 ⊠ hy 1) ⊠ hy 2)) ⊞ ((hy 5 ⊠ hy 0) ⊠ hy 3)) ⊞ ((hy 7 ⊠ hy 0) ⊠ hy 2)))) refl
    (h0, (h1, (h2, (h3, (h4, (h5, (h6, (h7, (h8, (h9, (h10, (h11, (h12, (weak (pos 0) (e *ℤ d) h13, tt)))))))))))))))

-- by 4*(h11*h10)*(h10*h10*h8 + h10*h10*(4611686018427387904 + h12) + h0*h2 + h1*h3) + 2*h10*(h4*h0*h2 + h6*h0*h3 + h5*h1*h2 + h7*h1*h3)
pub double_sin_low : (x y d c s e g : ℤ) → ((pos 4611686018427387904 *ℤ x) -ℤ (c *ℤ d)) ≤ℤ (e *ℤ d) → ((c *ℤ d) -ℤ (pos 4611686018427387904 *ℤ x)) ≤ℤ (e *ℤ d)
    → ((pos 4611686018427387904 *ℤ y) -ℤ (s *ℤ d)) ≤ℤ (e *ℤ d) → ((s *ℤ d) -ℤ (pos 4611686018427387904 *ℤ y)) ≤ℤ (e *ℤ d) → (c +ℤ s) ≤ℤ pos 6917529027641081856
    → (c -ℤ s) ≤ℤ pos 6917529027641081856 → (s -ℤ c) ≤ℤ pos 6917529027641081856 → (pos 0) ≤ℤ (pos 6917529027641081856 +ℤ (c +ℤ s))
    → (g *ℤ pos 4611686018427387904) ≤ℤ (pos 2 *ℤ (c *ℤ s)) → (pos 2 *ℤ (c *ℤ s)) ≤ℤ ((g *ℤ pos 4611686018427387904) +ℤ pos 4611686018427387904)
    → (pos 0) ≤ℤ d → (pos 0) ≤ℤ e → (pos 2 *ℤ (e *ℤ e)) ≤ℤ pos 4611686018427387904 → (pos 0) <ℤ (e *ℤ d)
    → ((g *ℤ (d *ℤ d)) -ℤ (pos 4611686018427387904 *ℤ (pos 2 *ℤ (x *ℤ y)))) ≤ℤ (((pos 3 *ℤ e) +ℤ pos 2) *ℤ (d *ℤ d))
double_sin_low x y d c s e g h0 h1 h2 h3 h4 h5 h6 h7 h8 h9 h10 h11 h12 h13 =
    cancel (pos 4611686018427387904 *ℤ (pos 4 *ℤ (e *ℤ d))) ((g *ℤ (d *ℤ d)) -ℤ (pos 4611686018427387904 *ℤ (pos 2 *ℤ (x *ℤ y))))
    (((pos 3 *ℤ e) +ℤ pos 2) *ℤ (d *ℤ d)) (mul_positive (pos 4611686018427387904) (pos 4 *ℤ (e *ℤ d)) (lt_pos 0 4611686018427387904 (lit< tt))
    (mul_positive (pos 4) (e *ℤ d) (lt_pos 0 4 (lit< tt)) h13)) (cert (x ∷ y ∷ d ∷ c ∷ s ∷ e ∷ g ∷ [])
    ((((ko (pos 4611686018427387904) ⊗ va 0) ⊖ (va 3 ⊗ va 2)) ≼ (va 5 ⊗ va 2)) ∷ (((va 3 ⊗ va 2) ⊖ (ko (pos 4611686018427387904) ⊗ va 0)) ≼ (va 5 ⊗ va 2))
    ∷ (((ko (pos 4611686018427387904) ⊗ va 1) ⊖ (va 4 ⊗ va 2)) ≼ (va 5 ⊗ va 2))
    ∷ (((va 4 ⊗ va 2) ⊖ (ko (pos 4611686018427387904) ⊗ va 1)) ≼ (va 5 ⊗ va 2)) ∷ ((va 3 ⊕ va 4) ≼ ko (pos 6917529027641081856))
    ∷ ((va 3 ⊖ va 4) ≼ ko (pos 6917529027641081856)) ∷ ((va 4 ⊖ va 3) ≼ ko (pos 6917529027641081856))
    ∷ (ko (pos 0) ≼ (ko (pos 6917529027641081856) ⊕ (va 3 ⊕ va 4))) ∷ ((va 6 ⊗ ko (pos 4611686018427387904)) ≼ (ko (pos 2) ⊗ (va 3 ⊗ va 4)))
    ∷ ((ko (pos 2) ⊗ (va 3 ⊗ va 4)) ≼ ((va 6 ⊗ ko (pos 4611686018427387904)) ⊕ ko (pos 4611686018427387904))) ∷ (ko (pos 0) ≼ va 2)
    ∷ (ko (pos 0) ≼ va 5) ∷ ((ko (pos 2) ⊗ (va 5 ⊗ va 5)) ≼ ko (pos 4611686018427387904)) ∷ (ko (pos 0) ≼ (va 5 ⊗ va 2)) ∷ [])
    ((ko (pos 4611686018427387904) ⊗ (ko (pos 4) ⊗ (va 5 ⊗ va 2)))
    ⊗ ((va 6 ⊗ (va 2 ⊗ va 2)) ⊖ (ko (pos 4611686018427387904) ⊗ (ko (pos 2) ⊗ (va 0 ⊗ va 1)))))
    ((ko (pos 4611686018427387904) ⊗ (ko (pos 4) ⊗ (va 5 ⊗ va 2))) ⊗ (((ko (pos 3) ⊗ va 5) ⊕ ko (pos 2)) ⊗ (va 2 ⊗ va 2)))
    (((nm 4 ⊠ (hy 11 ⊠ hy 10)) ⊠ (((((hy 10 ⊠ hy 10) ⊠ hy 8) ⊞ ((hy 10 ⊠ hy 10) ⊠ (nm 4611686018427387904 ⊞ hy 12))) ⊞ (hy 0 ⊠ hy 2)) ⊞ (hy 1 ⊠ hy 3)))
    ⊞ ((nm 2 ⊠ hy 10) ⊠ (((((hy 4 ⊠ hy 0) ⊠ hy 2) ⊞ ((hy 6 ⊠ hy 0) ⊠ hy 3)) ⊞ ((hy 5 ⊠ hy 1) ⊠ hy 2)) ⊞ ((hy 7 ⊠ hy 1) ⊠ hy 3)))) refl
    (h0, (h1, (h2, (h3, (h4, (h5, (h6, (h7, (h8, (h9, (h10, (h11, (h12, (weak (pos 0) (e *ℤ d) h13, tt)))))))))))))))

-- by 2*h0
pub twice_low : (g z : ℤ) → (g *ℤ pos 2305843009213693952) ≤ℤ z → (g *ℤ pos 4611686018427387904) ≤ℤ (pos 2 *ℤ z)
twice_low g z h0 =
    cert (g ∷ z ∷ []) (((va 0 ⊗ ko (pos 2305843009213693952)) ≼ va 1) ∷ []) (va 0 ⊗ ko (pos 4611686018427387904)) (ko (pos 2) ⊗ va 1) (nm 2 ⊠ hy 0) refl (h0, tt)

-- by 2*h0
pub twice_high : (g z : ℤ) → z ≤ℤ ((g *ℤ pos 2305843009213693952) +ℤ pos 2305843009213693952) → (pos 2 *ℤ z) ≤ℤ ((g *ℤ pos 4611686018427387904) +ℤ pos 4611686018427387904)
twice_high g z h0 =
    cert (g ∷ z ∷ []) ((va 1 ≼ ((va 0 ⊗ ko (pos 2305843009213693952)) ⊕ ko (pos 2305843009213693952))) ∷ []) (ko (pos 2) ⊗ va 1)
    ((va 0 ⊗ ko (pos 4611686018427387904)) ⊕ ko (pos 4611686018427387904)) (nm 2 ⊠ hy 0) refl (h0, tt)

-- by 288*h0 + sq(d)*(3604480 + 288*h1)
pub norm_289 : (x y d m : ℤ) → (pos 4194304 *ℤ (((x *ℤ x) +ℤ (y *ℤ y)) -ℤ (d *ℤ d))) ≤ℤ (m *ℤ (d *ℤ d)) → m ≤ℤ pos 2048 → (pos 288 *ℤ ((x *ℤ x) +ℤ (y *ℤ y))) ≤ℤ (pos 289 *ℤ (d *ℤ d))
norm_289 x y d m h0 h1 =
    cancel (pos 4194304) (pos 288 *ℤ ((x *ℤ x) +ℤ (y *ℤ y))) (pos 289 *ℤ (d *ℤ d)) (omega (arith, ints))
    (cert (x ∷ y ∷ d ∷ m ∷ []) (((ko (pos 4194304) ⊗ (((va 0 ⊗ va 0) ⊕ (va 1 ⊗ va 1)) ⊖ (va 2 ⊗ va 2))) ≼ (va 3 ⊗ (va 2 ⊗ va 2)))
    ∷ (va 3 ≼ ko (pos 2048)) ∷ []) (ko (pos 4194304) ⊗ (ko (pos 288) ⊗ ((va 0 ⊗ va 0) ⊕ (va 1 ⊗ va 1))))
    (ko (pos 4194304) ⊗ (ko (pos 289) ⊗ (va 2 ⊗ va 2))) ((nm 288 ⊠ hy 0) ⊞ ((sq (va 2)) ⊠ (nm 3604480 ⊞ (nm 288 ⊠ hy 1)))) refl (h0, (h1, tt)))

-- by h0 + 144*sq(x - y)
pub square_both : (x y d : ℤ) → (pos 288 *ℤ ((x *ℤ x) +ℤ (y *ℤ y))) ≤ℤ (pos 289 *ℤ (d *ℤ d)) → ((pos 12 *ℤ (x +ℤ y)) *ℤ (pos 12 *ℤ (x +ℤ y))) ≤ℤ ((pos 17 *ℤ d) *ℤ (pos 17 *ℤ d))
square_both x y d h0 =
    cert (x ∷ y ∷ d ∷ []) (((ko (pos 288) ⊗ ((va 0 ⊗ va 0) ⊕ (va 1 ⊗ va 1))) ≼ (ko (pos 289) ⊗ (va 2 ⊗ va 2))) ∷ []) ((ko (pos 12) ⊗ (va 0 ⊕ va 1))
    ⊗ (ko (pos 12) ⊗ (va 0 ⊕ va 1))) ((ko (pos 17) ⊗ va 2) ⊗ (ko (pos 17) ⊗ va 2)) (hy 0 ⊞ (nm 144 ⊠ (sq (va 0 ⊖ va 1)))) refl (h0, tt)

-- by h0 + 144*sq(x + y)
pub square_first : (x y d : ℤ) → (pos 288 *ℤ ((x *ℤ x) +ℤ (y *ℤ y))) ≤ℤ (pos 289 *ℤ (d *ℤ d)) → ((pos 12 *ℤ (x -ℤ y)) *ℤ (pos 12 *ℤ (x -ℤ y))) ≤ℤ ((pos 17 *ℤ d) *ℤ (pos 17 *ℤ d))
square_first x y d h0 =
    cert (x ∷ y ∷ d ∷ []) (((ko (pos 288) ⊗ ((va 0 ⊗ va 0) ⊕ (va 1 ⊗ va 1))) ≼ (ko (pos 289) ⊗ (va 2 ⊗ va 2))) ∷ []) ((ko (pos 12) ⊗ (va 0 ⊖ va 1))
    ⊗ (ko (pos 12) ⊗ (va 0 ⊖ va 1))) ((ko (pos 17) ⊗ va 2) ⊗ (ko (pos 17) ⊗ va 2)) (hy 0 ⊞ (nm 144 ⊠ (sq (va 0 ⊕ va 1)))) refl (h0, tt)

-- by h0 + 144*sq(x + y)
pub square_second : (x y d : ℤ) → (pos 288 *ℤ ((x *ℤ x) +ℤ (y *ℤ y))) ≤ℤ (pos 289 *ℤ (d *ℤ d)) → ((pos 12 *ℤ (y -ℤ x)) *ℤ (pos 12 *ℤ (y -ℤ x))) ≤ℤ ((pos 17 *ℤ d) *ℤ (pos 17 *ℤ d))
square_second x y d h0 =
    cert (x ∷ y ∷ d ∷ []) (((ko (pos 288) ⊗ ((va 0 ⊗ va 0) ⊕ (va 1 ⊗ va 1))) ≼ (ko (pos 289) ⊗ (va 2 ⊗ va 2))) ∷ []) ((ko (pos 12) ⊗ (va 1 ⊖ va 0))
    ⊗ (ko (pos 12) ⊗ (va 1 ⊖ va 0))) ((ko (pos 17) ⊗ va 2) ⊗ (ko (pos 17) ⊗ va 2)) (hy 0 ⊞ (nm 144 ⊠ (sq (va 0 ⊕ va 1)))) refl (h0, tt)

-- by h0 + 144*sq(x - y)
pub square_neither : (x y d : ℤ) → (pos 288 *ℤ ((x *ℤ x) +ℤ (y *ℤ y))) ≤ℤ (pos 289 *ℤ (d *ℤ d))
    → ((pos 12 *ℤ ((pos 0 -ℤ x) -ℤ y)) *ℤ (pos 12 *ℤ ((pos 0 -ℤ x) -ℤ y))) ≤ℤ ((pos 17 *ℤ d) *ℤ (pos 17 *ℤ d))
square_neither x y d h0 =
    cert (x ∷ y ∷ d ∷ []) (((ko (pos 288) ⊗ ((va 0 ⊗ va 0) ⊕ (va 1 ⊗ va 1))) ≼ (ko (pos 289) ⊗ (va 2 ⊗ va 2))) ∷ [])
    ((ko (pos 12) ⊗ ((ko (pos 0) ⊖ va 0) ⊖ va 1)) ⊗ (ko (pos 12) ⊗ ((ko (pos 0) ⊖ va 0) ⊖ va 1))) ((ko (pos 17) ⊗ va 2) ⊗ (ko (pos 17) ⊗ va 2))
    (hy 0 ⊞ (nm 144 ⊠ (sq (va 0 ⊖ va 1)))) refl (h0, tt)

-- by 12*h1 + 12*h3 + 4611686018427387904*h4 + h6*h5
pub size_both : (x y d c s e : ℤ) → ((pos 4611686018427387904 *ℤ x) -ℤ (c *ℤ d)) ≤ℤ (e *ℤ d) → ((c *ℤ d) -ℤ (pos 4611686018427387904 *ℤ x)) ≤ℤ (e *ℤ d)
    → ((pos 4611686018427387904 *ℤ y) -ℤ (s *ℤ d)) ≤ℤ (e *ℤ d) → ((s *ℤ d) -ℤ (pos 4611686018427387904 *ℤ y)) ≤ℤ (e *ℤ d)
    → (pos 12 *ℤ (x +ℤ y)) ≤ℤ (pos 17 *ℤ d) → (pos 24 *ℤ e) ≤ℤ pos 4611686018427387904 → (pos 0) <ℤ d → (c +ℤ s) ≤ℤ pos 6917529027641081856
size_both x y d c s e h0 h1 h2 h3 h4 h5 h6 =
    cancel (pos 12 *ℤ d) (c +ℤ s) (pos 6917529027641081856) (mul_positive (pos 12) d (lt_pos 0 12 (lit< tt)) h6) (cert (x ∷ y ∷ d ∷ c ∷ s ∷ e ∷ [])
    ((((ko (pos 4611686018427387904) ⊗ va 0) ⊖ (va 3 ⊗ va 2)) ≼ (va 5 ⊗ va 2)) ∷ (((va 3 ⊗ va 2) ⊖ (ko (pos 4611686018427387904) ⊗ va 0)) ≼ (va 5 ⊗ va 2))
    ∷ (((ko (pos 4611686018427387904) ⊗ va 1) ⊖ (va 4 ⊗ va 2)) ≼ (va 5 ⊗ va 2))
    ∷ (((va 4 ⊗ va 2) ⊖ (ko (pos 4611686018427387904) ⊗ va 1)) ≼ (va 5 ⊗ va 2)) ∷ ((ko (pos 12) ⊗ (va 0 ⊕ va 1)) ≼ (ko (pos 17) ⊗ va 2))
    ∷ ((ko (pos 24) ⊗ va 5) ≼ ko (pos 4611686018427387904)) ∷ (ko (pos 0) ≼ va 2) ∷ []) ((ko (pos 12) ⊗ va 2) ⊗ (va 3 ⊕ va 4))
    ((ko (pos 12) ⊗ va 2) ⊗ ko (pos 6917529027641081856)) ((((nm 12 ⊠ hy 1) ⊞ (nm 12 ⊠ hy 3)) ⊞ (nm 4611686018427387904 ⊠ hy 4)) ⊞ (hy 6 ⊠ hy 5)) refl
    (h0, (h1, (h2, (h3, (h4, (h5, (weak (pos 0) d h6, tt))))))))

-- by 12*h1 + 12*h2 + 4611686018427387904*h4 + h6*h5
pub size_first : (x y d c s e : ℤ) → ((pos 4611686018427387904 *ℤ x) -ℤ (c *ℤ d)) ≤ℤ (e *ℤ d) → ((c *ℤ d) -ℤ (pos 4611686018427387904 *ℤ x)) ≤ℤ (e *ℤ d)
    → ((pos 4611686018427387904 *ℤ y) -ℤ (s *ℤ d)) ≤ℤ (e *ℤ d) → ((s *ℤ d) -ℤ (pos 4611686018427387904 *ℤ y)) ≤ℤ (e *ℤ d)
    → (pos 12 *ℤ (x -ℤ y)) ≤ℤ (pos 17 *ℤ d) → (pos 24 *ℤ e) ≤ℤ pos 4611686018427387904 → (pos 0) <ℤ d → (c -ℤ s) ≤ℤ pos 6917529027641081856
size_first x y d c s e h0 h1 h2 h3 h4 h5 h6 =
    cancel (pos 12 *ℤ d) (c -ℤ s) (pos 6917529027641081856) (mul_positive (pos 12) d (lt_pos 0 12 (lit< tt)) h6) (cert (x ∷ y ∷ d ∷ c ∷ s ∷ e ∷ [])
    ((((ko (pos 4611686018427387904) ⊗ va 0) ⊖ (va 3 ⊗ va 2)) ≼ (va 5 ⊗ va 2)) ∷ (((va 3 ⊗ va 2) ⊖ (ko (pos 4611686018427387904) ⊗ va 0)) ≼ (va 5 ⊗ va 2))
    ∷ (((ko (pos 4611686018427387904) ⊗ va 1) ⊖ (va 4 ⊗ va 2)) ≼ (va 5 ⊗ va 2))
    ∷ (((va 4 ⊗ va 2) ⊖ (ko (pos 4611686018427387904) ⊗ va 1)) ≼ (va 5 ⊗ va 2)) ∷ ((ko (pos 12) ⊗ (va 0 ⊖ va 1)) ≼ (ko (pos 17) ⊗ va 2))
    ∷ ((ko (pos 24) ⊗ va 5) ≼ ko (pos 4611686018427387904)) ∷ (ko (pos 0) ≼ va 2) ∷ []) ((ko (pos 12) ⊗ va 2) ⊗ (va 3 ⊖ va 4))
    ((ko (pos 12) ⊗ va 2) ⊗ ko (pos 6917529027641081856)) ((((nm 12 ⊠ hy 1) ⊞ (nm 12 ⊠ hy 2)) ⊞ (nm 4611686018427387904 ⊠ hy 4)) ⊞ (hy 6 ⊠ hy 5)) refl
    (h0, (h1, (h2, (h3, (h4, (h5, (weak (pos 0) d h6, tt))))))))

-- by 12*h0 + 12*h2 + 4611686018427387904*h4 + h6*h5
pub size_neither : (x y d c s e : ℤ) → ((pos 4611686018427387904 *ℤ x) -ℤ (c *ℤ d)) ≤ℤ (e *ℤ d)
    → ((c *ℤ d) -ℤ (pos 4611686018427387904 *ℤ x)) ≤ℤ (e *ℤ d) → ((pos 4611686018427387904 *ℤ y) -ℤ (s *ℤ d)) ≤ℤ (e *ℤ d)
    → ((s *ℤ d) -ℤ (pos 4611686018427387904 *ℤ y)) ≤ℤ (e *ℤ d) → (pos 12 *ℤ ((pos 0 -ℤ x) -ℤ y)) ≤ℤ (pos 17 *ℤ d)
    → (pos 24 *ℤ e) ≤ℤ pos 4611686018427387904 → (pos 0) <ℤ d → (pos 0) ≤ℤ (pos 6917529027641081856 +ℤ (c +ℤ s))
size_neither x y d c s e h0 h1 h2 h3 h4 h5 h6 =
    cancel (pos 12 *ℤ d) (pos 0) (pos 6917529027641081856 +ℤ (c +ℤ s)) (mul_positive (pos 12) d (lt_pos 0 12 (lit< tt)) h6) (cert (x ∷ y ∷ d ∷ c ∷ s ∷ e ∷ [])
    ((((ko (pos 4611686018427387904) ⊗ va 0) ⊖ (va 3 ⊗ va 2)) ≼ (va 5 ⊗ va 2)) ∷ (((va 3 ⊗ va 2) ⊖ (ko (pos 4611686018427387904) ⊗ va 0)) ≼ (va 5 ⊗ va 2))
    ∷ (((ko (pos 4611686018427387904) ⊗ va 1) ⊖ (va 4 ⊗ va 2)) ≼ (va 5 ⊗ va 2)) ∷ (((va 4 ⊗ va 2) ⊖ (ko (pos 4611686018427387904) ⊗ va 1))
    ≼ (va 5 ⊗ va 2)) ∷ ((ko (pos 12) ⊗ ((ko (pos 0) ⊖ va 0) ⊖ va 1)) ≼ (ko (pos 17) ⊗ va 2)) ∷ ((ko (pos 24) ⊗ va 5) ≼ ko (pos 4611686018427387904))
    ∷ (ko (pos 0) ≼ va 2) ∷ []) ((ko (pos 12) ⊗ va 2) ⊗ ko (pos 0)) ((ko (pos 12) ⊗ va 2) ⊗ (ko (pos 6917529027641081856) ⊕ (va 3 ⊕ va 4)))
    ((((nm 12 ⊠ hy 0) ⊞ (nm 12 ⊠ hy 2)) ⊞ (nm 4611686018427387904 ⊠ hy 4)) ⊞ (hy 6 ⊠ hy 5)) refl
    (h0, (h1, (h2, (h3, (h4, (h5, (weak (pos 0) d h6, tt))))))))
