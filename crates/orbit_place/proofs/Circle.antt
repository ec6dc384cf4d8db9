-- Pairs near the circle: how large their parts are, sums of two angles, doubles.
use Rattle.std.proofs.Common.{ℕ, ◌+◌, ◌≤◌, List, [], ◌∷◌, ℤ, pos, ◌*ℤ◌, ◌≤ℤ◌, arith, refl, lit≤}
use Rattle.std.proofs.lemmas.Int.{ints}
use Rattle.whole_math.proofs.Ring.{va, ko, ◌⊕◌, ◌⊖◌, ◌⊗◌, ng}
use Rattle.whole_math.proofs.Order.{le_pos, mul_nn}
use Rattle.whole_math.proofs.Inequalities.{same_by, pos_nn, nat}
use Rattle.whole_math.proofs.Certificates.{Hy, cert, square_root, ◌≼◌, hy, nm, ◌⊞◌, ◌⊠◌}
use Rattle.whole_math.specs.Rational.{Rational, ◌≈◌, ◌≤ʳ◌, of_whole, ◌+ʳ◌, neg_r, ◌-ʳ◌, ◌*ʳ◌, AreWithin, IsAtMostInSize}
use Rattle.whole_math.specs.Boxes.{of_scale}
use Rattle.whole_math.proofs.RationalLaws.{≈_sym, ≤ʳ_trans}
use Rattle.trig_box.specs.AnglePairs.{Pair, double}
use Rattle.orbit_model.specs.Solution.{one, turned}
use Rattle.whole_math.proofs.RationalIdentities.{same_r}
use Rattle.whole_math.proofs.RationalOrders.{order_r, cancel_r, ◌≐◌}
use Rattle.orbit_place.specs.Rotations.{norm_of, IsNearCircle}

-- ---- norms multiply
pub norm-turned : (p q : Pair) → norm_of (turned p q) ≈ norm_of p *ʳ norm_of q
norm-turned p q = same_r (p.cos ∷ p.sin ∷ q.cos ∷ q.sin ∷ [])
    (λ a b c d. ((a ⊗ c ⊖ b ⊗ d) ⊗ (a ⊗ c ⊖ b ⊗ d) ⊕ (b ⊗ c ⊕ a ⊗ d) ⊗ (b ⊗ c ⊕ a ⊗ d), (a ⊗ a ⊕ b ⊗ b) ⊗ (c ⊗ c ⊕ d ⊗ d))) refl

pub norm-double : (p : Pair) → norm_of (double p) ≈ norm_of p *ʳ norm_of p
norm-double p = same_by (p.cos.num ∷ pos p.cos.den ∷ p.sin.num ∷ pos p.sin.den ∷ [])
    (λ c d s e. (
      ((c ⊗ c ⊗ (e ⊗ e) ⊖ s ⊗ s ⊗ (d ⊗ d)) ⊗ (c ⊗ c ⊗ (e ⊗ e) ⊖ s ⊗ s ⊗ (d ⊗ d)) ⊗ (e ⊗ d ⊗ (e ⊗ d))
          ⊕ nat 2 ⊗ (s ⊗ c) ⊗ (nat 2 ⊗ (s ⊗ c)) ⊗ (d ⊗ d ⊗ (e ⊗ e) ⊗ (d ⊗ d ⊗ (e ⊗ e)))) ⊗ (d ⊗ d ⊗ (e ⊗ e) ⊗ (d ⊗ d ⊗ (e ⊗ e))),
      (c ⊗ c ⊗ (e ⊗ e) ⊕ s ⊗ s ⊗ (d ⊗ d)) ⊗ (c ⊗ c ⊗ (e ⊗ e) ⊕ s ⊗ s ⊗ (d ⊗ d)) ⊗ (d ⊗ d ⊗ (e ⊗ e) ⊗ (d ⊗ d ⊗ (e ⊗ e)) ⊗ (e ⊗ d ⊗ (e ⊗ d))),
    )) refl

-- ---- products of what is near 1: with x = N - 1 and y = M - 1, NM - 1 = xy + x + y, and 2 (uv - xy) = (u - x)(v + y) + (u + x)(v - y)
pub near_product : (u v w n m : Rational) → u +ʳ v +ʳ u *ʳ v ≤ʳ w → AreWithin u n one → AreWithin v m one → AreWithin w (n *ʳ m) one
near_product u v w n m l h k =
    let values : List Rational = u ∷ v ∷ w ∷ n ∷ m ∷ [] in
    let hypotheses : List Hy = (va 3 ⊖ ko (pos 1) ≼ va 0) ∷ (ko (pos 1) ⊖ va 3 ≼ va 0) ∷ (va 4 ⊖ ko (pos 1) ≼ va 1) ∷ (ko (pos 1) ⊖ va 4 ≼ va 1) ∷ (va 0 ⊕ va 1 ⊕ va 0 ⊗ va 1 ≼ va 2) ∷ [] in (
      cancel_r (of_whole (pos 2)) (n *ʳ m -ʳ one) w (omega (arith, ints))
          (order_r values hypotheses [] (ko (pos 2) ⊗ (va 3 ⊗ va 4 ⊖ ko (pos 1))) (ko (pos 2) ⊗ va 2)
          (nm 2 ⊠ hy 4 ⊞ nm 2 ⊠ hy 0 ⊞ nm 2 ⊠ hy 2 ⊞ hy 0 ⊠ hy 3 ⊞ hy 1 ⊠ hy 2) [] refl (h.0, (h.1, (k.0, (k.1, (l, tt))))) tt),
      cancel_r (of_whole (pos 2)) (one -ʳ n *ʳ m) w (omega (arith, ints))
          (order_r values hypotheses [] (ko (pos 2) ⊗ (ko (pos 1) ⊖ va 3 ⊗ va 4)) (ko (pos 2) ⊗ va 2)
          (nm 2 ⊠ hy 4 ⊞ nm 2 ⊠ hy 1 ⊞ nm 2 ⊠ hy 3 ⊞ hy 1 ⊠ hy 3 ⊞ hy 0 ⊠ hy 2) [] refl (h.0, (h.1, (k.0, (k.1, (l, tt))))) tt),
    )

pub near_along : (u n m : Rational) → n ≈ m → AreWithin u n one → AreWithin u m one
near_along u n m e h = (
  order_r (u ∷ n ∷ m ∷ []) ((va 1 ⊖ ko (pos 1) ≼ va 0) ∷ []) ((va 1 ≐ va 2) ∷ []) (va 2 ⊖ ko (pos 1)) (va 0) (hy 0) (ko (pos 1) ∷ []) refl (h.0, tt) (e, tt),
  order_r (u ∷ n ∷ m ∷ []) ((ko (pos 1) ⊖ va 1 ≼ va 0) ∷ []) ((va 1 ≐ va 2) ∷ []) (ko (pos 1) ⊖ va 2) (va 0) (hy 0) (ng (ko (pos 1)) ∷ []) refl (h.1, tt) (e, tt),
)

pub near_looser : (u v n : Rational) → u ≤ʳ v → AreWithin u n one → AreWithin v n one
near_looser u v n l h = (≤ʳ_trans (n -ʳ one) u v h.0 l, ≤ʳ_trans (one -ʳ n) u v h.1 l)

-- a / 2^16, b / 2^16 and their product are at most c / 2^16 together
sixteenths : (a b c : ℕ) → a + b + 1 ≤ c → a ≤ 32 → b ≤ 32 → of_scale 16 (pos a) +ʳ of_scale 16 (pos b) +ʳ of_scale 16 (pos a) *ʳ of_scale 16 (pos b) ≤ʳ of_scale 16 (pos c)
sixteenths a b c h i j =
    cert (pos a ∷ pos b ∷ pos c ∷ []) ((va 0 ⊕ va 1 ⊕ ko (pos 1) ≼ va 2) ∷ (va 0 ≼ ko (pos 32)) ∷ (va 1 ≼ ko (pos 32)) ∷ (ko (pos 0) ≼ va 1) ∷ [])
    (((va 0 ⊗ ko (pos 65536) ⊕ va 1 ⊗ ko (pos 65536)) ⊗ ko (pos 4294967296) ⊕ va 0 ⊗ va 1 ⊗ ko (pos 4294967296)) ⊗ ko (pos 65536)) (va 2 ⊗ ko (pos 18446744073709551616))
    (nm 18446744073709551616 ⊠ hy 0 ⊞ nm 281474976710656 ⊠ (hy 1 ⊠ hy 3 ⊞ nm 32 ⊠ hy 2 ⊞ nm 64512)) refl
    (le_pos (a + b + 1) c h, (le_pos a 32 i, (le_pos b 32 j, (pos_nn b, tt))))

pub turned_near : (a b c : ℕ) (p q : Pair) → a + b + 1 ≤ c → a ≤ 32 → b ≤ 32 → IsNearCircle a p → IsNearCircle b q → IsNearCircle c (turned p q)
turned_near a b c p q h i j n m =
    near_along (of_scale 16 (pos c)) (norm_of p *ʳ norm_of q) (norm_of (turned p q)) (≈_sym (norm_of (turned p q)) (norm_of p *ʳ norm_of q) (norm-turned p q))
    (near_product (of_scale 16 (pos a)) (of_scale 16 (pos b)) (of_scale 16 (pos c)) (norm_of p) (norm_of q) (sixteenths a b c h i j) n m)

pub double_near : (a c : ℕ) (p : Pair) → a + a + 1 ≤ c → a ≤ 32 → IsNearCircle a p → IsNearCircle c (double p)
double_near a c p h i n =
    near_along (of_scale 16 (pos c)) (norm_of p *ʳ norm_of p) (norm_of (double p)) (≈_sym (norm_of (double p)) (norm_of p *ʳ norm_of p) (norm-double p))
    (near_product (of_scale 16 (pos a)) (of_scale 16 (pos a)) (of_scale 16 (pos c)) (norm_of p) (norm_of p) (sixteenths a a c h i i) n n)

-- ---- the parts of a pair
-- r² ≤ b² with b not negative
root_order : (p b : Rational) → pos 0 ≤ℤ b.num → p *ʳ p ≤ʳ b *ʳ b → p ≤ʳ b
root_order p b h k = square_root (p.num *ℤ pos b.den) (b.num *ℤ pos p.den) (mul_nn b.num (pos p.den) h (pos_nn p.den)) (step p.num (pos p.den) b.num (pos b.den) k)
  where
    step : (a d b e : ℤ) → (a *ℤ a *ℤ (e *ℤ e)) ≤ℤ (b *ℤ b *ℤ (d *ℤ d)) → (a *ℤ e *ℤ (a *ℤ e)) ≤ℤ (b *ℤ d *ℤ (b *ℤ d))
    step a d b e h = cert (a ∷ d ∷ b ∷ e ∷ []) ((va 0 ⊗ va 0 ⊗ (va 3 ⊗ va 3) ≼ va 2 ⊗ va 2 ⊗ (va 1 ⊗ va 1)) ∷ []) (va 0 ⊗ va 3 ⊗ (va 0 ⊗ va 3)) (va 2 ⊗ va 1 ⊗ (va 2 ⊗ va 1)) (hy 0) refl (h, tt)

-- 1 + 2^-11, the square of which is over 1 + 2^-11
abbrev pub part_limit : Rational
part_limit = of_scale 11 (pos 2049)

-- what with another square is at most 1 + 2^-11
pub part_size : (off : ℕ) (rest p : Rational) → off ≤ 32 → p *ʳ p +ʳ rest -ʳ one ≤ʳ of_scale 16 (pos off) → of_whole (pos 0) ≤ʳ rest → IsAtMostInSize part_limit p
part_size off rest p h n s = (root_order p part_limit (pos_nn 2049) square, root_order (neg_r p) part_limit (pos_nn 2049) negative)
  where
    most : of_scale 16 (pos off) ≤ʳ of_scale 16 (pos 32)
    most = cert (pos off ∷ []) ((va 0 ≼ ko (pos 32)) ∷ []) (va 0 ⊗ ko (pos 65536)) (ko (pos 32) ⊗ ko (pos 65536)) (nm 65536 ⊠ hy 0) refl (le_pos off 32 h, tt)

    room : one +ʳ of_scale 16 (pos 32) ≤ʳ part_limit *ʳ part_limit
    room = le_pos _ _ (lit≤ tt)

    square : p *ʳ p ≤ʳ part_limit *ʳ part_limit
    square = order_r (p ∷ rest ∷ of_scale 16 (pos off) ∷ of_scale 16 (pos 32) ∷ part_limit ∷ [])
        ((va 0 ⊗ va 0 ⊕ va 1 ⊖ ko (pos 1) ≼ va 2) ∷ (va 2 ≼ va 3) ∷ (ko (pos 1) ⊕ va 3 ≼ va 4 ⊗ va 4) ∷ (ko (pos 0) ≼ va 1) ∷ []) []
        (va 0 ⊗ va 0) (va 4 ⊗ va 4) (hy 0 ⊞ hy 1 ⊞ hy 2 ⊞ hy 3) [] refl (n, (most, (room, (s, tt)))) tt

    negative : neg_r p *ʳ neg_r p ≤ʳ part_limit *ʳ part_limit
    negative = order_r (p ∷ part_limit ∷ []) ((va 0 ⊗ va 0 ≼ va 1 ⊗ va 1) ∷ []) [] (ng (va 0) ⊗ ng (va 0)) (va 1 ⊗ va 1) (hy 0) [] refl (square, tt) tt
