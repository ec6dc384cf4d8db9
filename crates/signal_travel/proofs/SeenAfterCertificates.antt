-- Inequalities of the times of light after two turns, each by a certificate: the greater side less the lesser is a sum of products of the
-- hypotheses h0, h1, .. in the order in which they stand, of squares and of numbers that are not negative.
use Rattle.std.proofs.Common.{[], ◌∷◌, pos, arith, refl}
use Rattle.std.proofs.lemmas.Int.{ints}
use Rattle.whole_math.proofs.Ring.{va, ko, ◌⊕◌, ◌⊖◌, ◌⊗◌}
use Rattle.whole_math.proofs.Certificates.{◌≼◌, hy, nm, sq, ◌⊞◌, ◌⊠◌}
use Rattle.whole_math.specs.Rational.{Rational, ◌≤ʳ◌, of_whole, ◌+ʳ◌, ◌-ʳ◌, ◌*ʳ◌}
use Rattle.orbit_model.proofs.Orders.{cert_r, cancel_r}

-- an angle differs by the rate times what its time does
pub rate_times : (w d a b : Rational) → of_whole (pos 0) ≤ʳ w → a -ʳ b ≤ʳ d → w *ʳ a -ʳ w *ʳ b ≤ʳ w *ʳ d
rate_times w d a b h0 h1 =
    cert_r (w ∷ d ∷ a ∷ b ∷ []) ((ko (pos 0) ≼ va 0) ∷ ((va 2) ⊖ (va 3) ≼ va 1)
    ∷ []) (((va 0) ⊗ (va 2)) ⊖ ((va 0) ⊗ (va 3))) ((va 0) ⊗ (va 1)) ((hy 0) ⊠ (hy 1)) refl (h0, (h1, tt))

-- 23,600 times the speed of light is more than what the squared distance moves by in a second, and the rest is slack
pub rate_enough : (d w l v : Rational) → of_whole (pos 0) ≤ʳ d → of_whole (pos 1000000000000000) *ʳ w ≤ʳ of_whole (pos 72921151467)
    → of_whole (pos 295147905179352825856) *ʳ l ≤ʳ of_whole (pos 1) → of_whole (pos 1) ≤ʳ of_whole (pos 1125899906842624) *ʳ v
    → of_whole (pos 1152921504606846976) *ʳ (of_whole (pos 96672000000000000) *ʳ (w *ʳ d +ʳ l)) +ʳ of_whole (pos 4080000000000000) ≤ʳ of_whole (pos 8157037253232621494131805388800) *ʳ (d +ʳ v)
rate_enough d w l v h0 h1 h2 h3 =
    cancel_r (of_whole (pos 256000000000000000)) (of_whole (pos 1152921504606846976) *ʳ (of_whole (pos 96672000000000000) *ʳ
    (w *ʳ d +ʳ l)) +ʳ of_whole (pos 4080000000000000)) (of_whole (pos 8157037253232621494131805388800) *ʳ (d +ʳ v)) (omega
    (arith, ints))
    (cert_r (d ∷ w ∷ l ∷ v ∷ []) ((ko (pos 0) ≼ va 0) ∷ ((ko (pos 1000000000000000)) ⊗ (va 1) ≼ ko (pos 72921151467))
    ∷ ((ko (pos 295147905179352825856)) ⊗ (va 2) ≼ ko (pos 1)) ∷ (ko (pos 1) ≼ (ko (pos 1125899906842624)) ⊗ (va 3))
    ∷ []) (ko (pos 256000000000000000) ⊗ (((ko (pos 1152921504606846976)) ⊗ ((ko (pos 96672000000000000)) ⊗ (((va 1) ⊗ (va 0)) ⊕ (va 2)))) ⊕
    (ko (pos 4080000000000000)))) (ko (pos 256000000000000000) ⊗ ((ko (pos 8157037253232621494131805388800)) ⊗ ((va 0) ⊕ (va 3))))
    ((((((nm 28532538289498396381151232000000000000) ⊠ ((hy 0) ⊠ (hy 1))) ⊞ ((nm 7575990481061444534208527027142656000000000000) ⊠ (hy 0)))
    ⊞ ((nm 96672000000000000000000000000000) ⊠ (hy 2))) ⊞ ((nm 1854695540994867200000000000000000) ⊠ (hy 3)))
    ⊞ (nm 713543540994867200000000000000000)) refl (h0, (h1, (h2, (h3, tt)))))

pub range_least : (r q : Rational) → of_whole (pos 1152921504606846976) *ʳ (q -ʳ r *ʳ r) ≤ʳ q → of_whole (pos 141000000000000) ≤ʳ q
    → of_whole (pos 11800000) *ʳ of_whole (pos 11800000) ≤ʳ r *ʳ r
range_least r q h0 h1 =
    cancel_r (of_whole (pos 1152921504606846976)) (of_whole (pos 11800000) *ʳ of_whole (pos 11800000)) (r *ʳ r) (omega (arith, ints))
    (cert_r (r ∷ q ∷ []) (((ko (pos 1152921504606846976)) ⊗ ((va 1) ⊖ ((va 0) ⊗ (va 0))) ≼ va 1) ∷ (ko (pos 141000000000000) ≼ va 1)
    ∷ []) (ko (pos 1152921504606846976) ⊗ ((ko (pos 11800000)) ⊗ (ko (pos 11800000)))) (ko (pos 1152921504606846976) ⊗ ((va 0) ⊗ (va 0))) (((hy 0)
    ⊞ ((nm 1152921504606846975) ⊠ (hy 1))) ⊞ (nm 2029141848108050536760000000000)) refl (h0, (h1, tt)))

-- two times of light, whose squares are near those of distances that are near each other
pub times_square : (t s d v u ga gb qa qb : Rational)
    → of_whole (pos 1152921504606846976) *ʳ (of_whole (pos 299792458) *ʳ t *ʳ (of_whole (pos 299792458) *ʳ t) -ʳ qa) ≤ʳ qa
    → of_whole (pos 1152921504606846976) *ʳ (qb -ʳ of_whole (pos 299792458) *ʳ s *ʳ (of_whole (pos 299792458) *ʳ s)) ≤ʳ qb
    → ga -ʳ gb ≤ʳ of_whole (pos 96672000000000000) *ʳ u
    → of_whole (pos 1152921504606846976) *ʳ (of_whole (pos 96672000000000000) *ʳ u) +ʳ of_whole (pos 4080000000000000) ≤ʳ
    of_whole (pos 8157037253232621494131805388800) *ʳ (d +ʳ v) → qa ≤ʳ ga → gb ≤ʳ qb → qa ≤ʳ of_whole (pos 2040000000000000)
    → qb ≤ʳ of_whole (pos 2040000000000000) → of_whole (pos 11800000) ≤ʳ of_whole (pos 299792458) *ʳ s → of_whole (pos 0) ≤ʳ d +ʳ v
    → of_whole (pos 1000) *ʳ (of_whole (pos 299792458) *ʳ t) *ʳ (of_whole (pos 1000) *ʳ (of_whole (pos 299792458) *ʳ t)) ≤ʳ (of_whole (pos 1000) *ʳ (of_whole (pos 299792458) *ʳ s) +ʳ of_whole (pos 299792458) *ʳ (d +ʳ v)) *ʳ (of_whole (pos 1000) *ʳ (of_whole (pos 299792458) *ʳ s) +ʳ of_whole (pos 299792458) *ʳ
    (d +ʳ v))
times_square t s d v u ga gb qa qb h0 h1 h2 h3 h4 h5 h6 h7 h8 h9 =
    cancel_r (of_whole (pos 1152921504606846976)) (of_whole (pos 1000) *ʳ (of_whole (pos 299792458) *ʳ t) *ʳ (of_whole (pos 1000) *ʳ (of_whole (pos 299792458) *ʳ t))) ((of_whole (pos 1000) *ʳ (of_whole (pos 299792458) *ʳ s) +ʳ of_whole (pos 299792458) *ʳ (d +ʳ v)) *ʳ (of_whole (pos 1000) *ʳ (of_whole (pos 299792458) *ʳ s) +ʳ of_whole (pos 299792458) *ʳ (d +ʳ v))) (omega (arith, ints))
    (cert_r (t ∷ s ∷ d ∷ v ∷ u ∷ ga ∷ gb ∷ qa ∷ qb
    ∷ []) (((ko (pos 1152921504606846976)) ⊗ ((((ko (pos 299792458)) ⊗ (va 0)) ⊗ ((ko (pos 299792458)) ⊗ (va 0))) ⊖ (va 7)) ≼ va 7)
    ∷ ((ko (pos 1152921504606846976)) ⊗ ((va 8) ⊖ (((ko (pos 299792458)) ⊗ (va 1)) ⊗ ((ko (pos 299792458)) ⊗ (va 1)))) ≼ va 8)
    ∷ ((va 5) ⊖ (va 6) ≼ (ko (pos 96672000000000000)) ⊗ (va 4))
    ∷ (((ko (pos 1152921504606846976)) ⊗ ((ko (pos 96672000000000000)) ⊗ (va 4))) ⊕ (ko (pos 4080000000000000)) ≼ (ko
    (pos 8157037253232621494131805388800)) ⊗ ((va 2) ⊕ (va 3))) ∷ (va 7 ≼ va 5) ∷ (va 6 ≼ va 8) ∷ (va 7 ≼ ko (pos 2040000000000000))
    ∷ (va 8 ≼ ko (pos 2040000000000000)) ∷ (ko (pos 11800000) ≼ (ko (pos 299792458)) ⊗ (va 1)) ∷ (ko (pos 0) ≼ (va 2) ⊕ (va 3))
    ∷ []) (ko (pos 1152921504606846976) ⊗ (((ko (pos 1000)) ⊗ ((ko (pos 299792458)) ⊗ (va 0))) ⊗ ((ko (pos 1000)) ⊗ ((ko (pos 299792458)) ⊗
    (va 0))))) (ko (pos 1152921504606846976) ⊗ ((((ko (pos 1000)) ⊗ ((ko (pos 299792458)) ⊗ (va 1))) ⊕ ((ko (pos 299792458)) ⊗ ((va 2) ⊕
    (va 3)))) ⊗ (((ko (pos 1000)) ⊗ ((ko (pos 299792458)) ⊗ (va 1))) ⊕ ((ko (pos 299792458)) ⊗ ((va 2) ⊕ (va 3)))))) ((((nm 1000000) ⊠ ((((((((hy 0)
    ⊞ (hy 1)) ⊞ ((nm 1152921504606846976) ⊠ (hy 2))) ⊞ (hy 3)) ⊞ ((nm 1152921504606846976) ⊠ (hy 4))) ⊞ ((nm 1152921504606846976) ⊠ (hy 5))) ⊞ (hy 6))
    ⊞ (hy 7))) ⊞ ((nm 691274343494289957129814016000) ⊠ ((hy 8) ⊠ (hy 9))))
    ⊞ ((nm 103619417294244747606330784469745664) ⊠ (sq ((va 2) ⊕ (va 3))))) refl (h0, (h1, (h2, (h3, (h4, (h5, (h6, (h7, (h8, (h9, tt)))))))))))

pub sum_least : (s d v : Rational) → of_whole (pos 11800000) ≤ʳ of_whole (pos 299792458) *ʳ s → of_whole (pos 0) ≤ʳ d +ʳ v
    → of_whole (pos 0) ≤ʳ of_whole (pos 1000) *ʳ (of_whole (pos 299792458) *ʳ s) +ʳ of_whole (pos 299792458) *ʳ (d +ʳ v)
sum_least s d v h0 h1 =
    cert_r (s ∷ d ∷ v ∷ []) ((ko (pos 11800000) ≼ (ko (pos 299792458)) ⊗ (va 0)) ∷ (ko (pos 0) ≼ (va 1) ⊕ (va 2))
    ∷ []) (ko (pos 0)) (((ko (pos 1000)) ⊗ ((ko (pos 299792458)) ⊗ (va 0))) ⊕ ((ko (pos 299792458)) ⊗ ((va 1) ⊕ (va 2)))) ((((nm 1000) ⊠ (hy 0))
    ⊞ ((nm 299792458) ⊠ (hy 1))) ⊞ (nm 11800000000)) refl (h0, (h1, tt))

pub times_apart : (t s d v : Rational)
    → of_whole (pos 1000) *ʳ (of_whole (pos 299792458) *ʳ t) ≤ʳ of_whole (pos 1000) *ʳ (of_whole (pos 299792458) *ʳ s) +ʳ of_whole (pos 299792458) *ʳ (d +ʳ v) → of_whole (pos 1000) *ʳ (t -ʳ s) ≤ʳ d +ʳ v
times_apart t s d v h0 =
    cancel_r (of_whole (pos 299792458)) (of_whole (pos 1000) *ʳ (t -ʳ s)) (d +ʳ v) (omega (arith, ints))
    (cert_r (t ∷ s ∷ d ∷ v
    ∷ []) (((ko (pos 1000)) ⊗ ((ko (pos 299792458)) ⊗ (va 0)) ≼ ((ko (pos 1000)) ⊗ ((ko (pos 299792458)) ⊗ (va 1))) ⊕ ((ko (pos 299792458)) ⊗
    ((va 2) ⊕ (va 3))))
    ∷ []) (ko (pos 299792458) ⊗ ((ko (pos 1000)) ⊗ ((va 0) ⊖ (va 1)))) (ko (pos 299792458) ⊗ ((va 2) ⊕ (va 3))) (hy 0) refl (h0, tt))

pub less_least : (t g : Rational) → g ≤ʳ t → of_whole (pos 0) ≤ʳ t -ʳ g
less_least t g h0 =
    cert_r (t ∷ g ∷ []) ((va 1 ≼ va 0) ∷ []) (ko (pos 0)) ((va 0) ⊖ (va 1)) (hy 0) refl (h0, tt)

pub less_back : (t g : Rational) → g ≤ʳ t → g -ʳ t ≤ʳ t -ʳ g
less_back t g h0 =
    cert_r (t ∷ g ∷ []) ((va 1 ≼ va 0) ∷ []) ((va 1) ⊖ (va 0)) ((va 0) ⊖ (va 1)) ((hy 0) ⊞ (hy 0)) refl (h0, tt)

pub both_least : (d v : Rational) → of_whole (pos 0) ≤ʳ d → of_whole (pos 0) ≤ʳ v → of_whole (pos 0) ≤ʳ d +ʳ v
both_least d v h0 h1 =
    cert_r (d ∷ v ∷ []) ((ko (pos 0) ≼ va 0) ∷ (ko (pos 0) ≼ va 1) ∷ []) (ko (pos 0)) ((va 0) ⊕ (va 1)) ((hy 0) ⊞ (hy 1)) refl (h0, (h1, tt))

-- a time that a pass leaves near where it began
pub not_late : (t s g a r v : Rational) → of_whole (pos 1000) *ʳ (t -ʳ s) ≤ʳ t -ʳ g +ʳ v → s ≤ʳ g +ʳ a
    → of_whole (pos 1000) *ʳ a +ʳ v ≤ʳ of_whole (pos 999) *ʳ r → t ≤ʳ g +ʳ r
not_late t s g a r v h0 h1 h2 =
    cancel_r (of_whole (pos 999)) (t) (g +ʳ r) (omega (arith, ints))
    (cert_r (t ∷ s ∷ g ∷ a ∷ r ∷ v ∷ []) (((ko (pos 1000)) ⊗ ((va 0) ⊖ (va 1)) ≼ ((va 0) ⊖ (va 2)) ⊕ (va 5)) ∷ (va 1 ≼ (va 2) ⊕ (va 3))
    ∷ (((ko (pos 1000)) ⊗ (va 3)) ⊕ (va 5) ≼ (ko (pos 999)) ⊗ (va 4)) ∷ []) (ko (pos 999) ⊗ (va 0)) (ko (pos 999) ⊗ ((va 2) ⊕ (va 4))) (((hy 0)
    ⊞ ((nm 1000) ⊠ (hy 1))) ⊞ (hy 2)) refl (h0, (h1, (h2, tt))))

pub not_early : (t s g a r v : Rational) → of_whole (pos 1000) *ʳ (s -ʳ t) ≤ʳ g -ʳ t +ʳ v → g -ʳ a ≤ʳ s
    → of_whole (pos 1000) *ʳ a +ʳ v ≤ʳ of_whole (pos 999) *ʳ r → g -ʳ r ≤ʳ t
not_early t s g a r v h0 h1 h2 =
    cancel_r (of_whole (pos 999)) (g -ʳ r) (t) (omega (arith, ints))
    (cert_r (t ∷ s ∷ g ∷ a ∷ r ∷ v ∷ []) (((ko (pos 1000)) ⊗ ((va 1) ⊖ (va 0)) ≼ ((va 2) ⊖ (va 0)) ⊕ (va 5)) ∷ ((va 2) ⊖ (va 3) ≼ va 1)
    ∷ (((ko (pos 1000)) ⊗ (va 3)) ⊕ (va 5) ≼ (ko (pos 999)) ⊗ (va 4)) ∷ []) (ko (pos 999) ⊗ ((va 2) ⊖ (va 4))) (ko (pos 999) ⊗ (va 0)) (((hy 0)
    ⊞ ((nm 1000) ⊠ (hy 1))) ⊞ (hy 2)) refl (h0, (h1, (h2, tt))))
