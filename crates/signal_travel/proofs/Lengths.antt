-- The length of a vector, from the ends of the box of its square, in whole numbers.
use Rattle.std.proofs.Common.{ℕ, ◌*◌, ◌^◌, [], ◌∷◌, ℤ, pos, ◌+ℤ◌, ◌-ℤ◌, ◌*ℤ◌, neg_ℤ, ◌≤ℤ◌, ◌<ℤ◌, arith, refl}
use Rattle.std.proofs.lemmas.Int.{ints, clamps}
use Rattle.whole_math.proofs.Ring.{va, ko, ◌⊗◌}
use Rattle.whole_math.proofs.Order.{lins, mul_le_cancel}
use Rattle.whole_math.proofs.Certificates.{cert, weak, square_root, ◌≼◌, hy, nm, ◌⊞◌, ◌⊠◌}
use Rattle.whole_math.proofs.Inequalities.{le_refl_ℤ, le_trans_ℤ, pos_nn}
use Rattle.whole_math.specs.Rational.{Rational, ◌≤ʳ◌, of_whole, InBox}
use Rattle.iv_core.specs.declared.Iv.{Iv}
use Rattle.iv_core.specs.Intervals.{width_of, IsWithin}
use Rattle.iv_core.specs.Boxes.{near_end, far_end}
use Rattle.trig_box.proofs.NormCertificates.{square_down}
use Rattle.signal_travel.specs.declared.places.VectorBox.{VectorBox}
use Rattle.signal_travel.specs.VectorBoxes.{IsVectorWithin, IsVectorAtMostWide, AreEndsWithin, near_square, far_square}
use Rattle.signal_travel.proofs.LengthCertificates.{near_sum, far_square_most, far_root, near_root, square_gap, square_most, first, second, third}

-- ---- the ends of one coordinate: how far the far one is from the near one, their signs, and the size
one : (x : Iv 36) (w : ℤ) → IsWithin (45200000 * 2 ^ 36) x → width_of x ≤ℤ w →
    ((far_end x.lo x.hi -ℤ near_end x.lo x.hi) ≤ℤ w) × (near_end x.lo x.hi ≤ℤ far_end x.lo x.hi) × (pos 0 ≤ℤ near_end x.lo x.hi) × (far_end x.lo x.hi ≤ℤ pos (45200000 * 2 ^ 36))
one x w s n = go x.lo x.hi w x.ordered s.0 s.1 n
  where
    go : (a b w : ℤ) → a ≤ℤ b → neg_ℤ (pos 3106120348467200000) ≤ℤ a → b ≤ℤ pos 3106120348467200000 → (b -ℤ a) ≤ℤ w →
        ((far_end a b -ℤ near_end a b) ≤ℤ w) × (near_end a b ≤ℤ far_end a b) × (pos 0 ≤ℤ near_end a b) × (far_end a b ≤ℤ pos 3106120348467200000)
    go a b w h l u n = omega (arith, lins, clamps)

width_nn : (x : Iv 36) (w : ℤ) → width_of x ≤ℤ w → pos 0 ≤ℤ w
width_nn x w n = go x.lo x.hi x.ordered n
  where
    go : (a b : ℤ) → a ≤ℤ b → (b -ℤ a) ≤ℤ w → pos 0 ≤ℤ w
    go a b h n = omega (arith, lins)

gap : (v : VectorBox) (w : ℤ) → IsVectorWithin (45200000 * 2 ^ 36) v → IsVectorAtMostWide w v → (far_square v -ℤ near_square v) ≤ℤ (pos 3 *ℤ (w *ℤ (pos 2 *ℤ pos (45200000 * 2 ^ 36))))
gap v w s n =
    let first_ends = one v.x w s.0 n.0 in
    let second_ends = one v.y w s.1 n.1 in
    let third_ends = one v.z w s.2 n.2 in
    let width_nonnegative = width_nn v.x w n.0 in
    sum (far v.x) (far v.y) (far v.z) (near v.x) (near v.y) (near v.z) (w *ℤ (pos 2 *ℤ pos (45200000 * 2 ^ 36)))
    (square_gap (near_end v.x.lo v.x.hi) (far_end v.x.lo v.x.hi) w (pos (45200000 * 2 ^ 36)) first_ends.0 first_ends.1 first_ends.2 first_ends.3 width_nonnegative)
    (square_gap (near_end v.y.lo v.y.hi) (far_end v.y.lo v.y.hi) w (pos (45200000 * 2 ^ 36)) second_ends.0 second_ends.1 second_ends.2 second_ends.3 width_nonnegative)
    (square_gap (near_end v.z.lo v.z.hi) (far_end v.z.lo v.z.hi) w (pos (45200000 * 2 ^ 36)) third_ends.0 third_ends.1 third_ends.2 third_ends.3 width_nonnegative)
  where
    far : Iv 36 → ℤ
    far x = far_end x.lo x.hi *ℤ far_end x.lo x.hi

    near : Iv 36 → ℤ
    near x = near_end x.lo x.hi *ℤ near_end x.lo x.hi

    sum : (a b c d e f g : ℤ) → (a -ℤ d) ≤ℤ g → (b -ℤ e) ≤ℤ g → (c -ℤ f) ≤ℤ g → (((a +ℤ b) +ℤ c) -ℤ ((d +ℤ e) +ℤ f)) ≤ℤ (pos 3 *ℤ g)
    sum a b c d e f g h k l = omega (arith, ints)

-- the sum of the squares of the far ends, at their most
far_most : (v : VectorBox) → IsVectorWithin (45200000 * 2 ^ 36) v → far_square v ≤ℤ pos 28943950857485999872168427520000000000
far_most v s =
    let first_ends = one v.x (width_of v.x) s.0 (le_refl_ℤ (width_of v.x)) in
    let second_ends = one v.y (width_of v.y) s.1 (le_refl_ℤ (width_of v.y)) in
    let third_ends = one v.z (width_of v.z) s.2 (le_refl_ℤ (width_of v.z)) in
    sum (far_end v.x.lo v.x.hi *ℤ far_end v.x.lo v.x.hi) (far_end v.y.lo v.y.hi *ℤ far_end v.y.lo v.y.hi) (far_end v.z.lo v.z.hi *ℤ far_end v.z.lo v.z.hi)
    (square_most (near_end v.x.lo v.x.hi) (far_end v.x.lo v.x.hi) first_ends.1 first_ends.2 first_ends.3) (square_most (near_end v.y.lo v.y.hi) (far_end v.y.lo v.y.hi) second_ends.1 second_ends.2 second_ends.3)
    (square_most (near_end v.z.lo v.z.hi) (far_end v.z.lo v.z.hi) third_ends.1 third_ends.2 third_ends.3)
  where
    sum : (a b c : ℤ) → a ≤ℤ pos 9647983619161999957389475840000000000 → b ≤ℤ pos 9647983619161999957389475840000000000
        → c ≤ℤ pos 9647983619161999957389475840000000000 → ((a +ℤ b) +ℤ c) ≤ℤ pos 28943950857485999872168427520000000000
    sum a b c h k l = omega (arith, ints)

near_below_far : (v : VectorBox) → IsVectorWithin (45200000 * 2 ^ 36) v → near_square v ≤ℤ far_square v
near_below_far v s =
    let first_ends = one v.x (width_of v.x) s.0 (le_refl_ℤ (width_of v.x)) in
    let second_ends = one v.y (width_of v.y) s.1 (le_refl_ℤ (width_of v.y)) in
    let third_ends = one v.z (width_of v.z) s.2 (le_refl_ℤ (width_of v.z)) in
    sum (far_end v.x.lo v.x.hi *ℤ far_end v.x.lo v.x.hi) (far_end v.y.lo v.y.hi *ℤ far_end v.y.lo v.y.hi) (far_end v.z.lo v.z.hi *ℤ far_end v.z.lo v.z.hi)
    (near_end v.x.lo v.x.hi *ℤ near_end v.x.lo v.x.hi) (near_end v.y.lo v.y.hi *ℤ near_end v.y.lo v.y.hi) (near_end v.z.lo v.z.hi *ℤ near_end v.z.lo v.z.hi)
    (square_down (near_end v.x.lo v.x.hi) (far_end v.x.lo v.x.hi) first_ends.2 first_ends.1) (square_down (near_end v.y.lo v.y.hi) (far_end v.y.lo v.y.hi) second_ends.2 second_ends.1)
    (square_down (near_end v.z.lo v.z.hi) (far_end v.z.lo v.z.hi) third_ends.2 third_ends.1)
  where
    sum : (a b c d e f : ℤ) → d ≤ℤ a → e ≤ℤ b → f ≤ℤ c → ((d +ℤ e) +ℤ f) ≤ℤ ((a +ℤ b) +ℤ c)
    sum a b c d e f h k l = omega (arith, lins)

-- ---- what the code has: the ends q, r of the box of the square, and the ends l, h of the box of its root
pub record AreRoots (v : VectorBox) (q r l h : ℤ) : Type 0 where
  pub size : IsVectorWithin (45200000 * 2 ^ 36) v
  pub narrow : IsVectorAtMostWide (pos (2 ^ 48)) v
  pub near : near_square v ≤ℤ (pos (2 ^ 63) *ℤ (q +ℤ pos 3))
  pub far : (pos (2 ^ 63) *ℤ (r -ℤ pos 3)) ≤ℤ far_square v
  pub at_most : q ≤ℤ pos (2040000000000000 * 2 ^ 9)
  pub at_least : pos (141000000000000 * 2 ^ 9) ≤ℤ r
  pub not_negative : pos 0 ≤ℤ l
  pub ordered : l ≤ℤ h
  pub low_root : ((q *ℤ pos (2 ^ 59)) *ℤ (pos (2 ^ 60) -ℤ pos 1)) <ℤ (((l +ℤ pos 1) *ℤ (l +ℤ pos 1)) *ℤ pos (2 ^ 60))
  pub high_root : pos 0 <ℤ h → (((h -ℤ pos 1) *ℤ (h -ℤ pos 1)) *ℤ pos (2 ^ 60)) <ℤ ((r *ℤ pos (2 ^ 59)) *ℤ (pos (2 ^ 60) +ℤ pos 1))

-- the box of the square is narrow, so both its ends are near that of the vector that it holds
square_ends : (v : VectorBox) (q r l h : ℤ) → AreRoots v q r l h → (pos 71623200000000000 ≤ℤ q) × (r ≤ℤ pos 1045048800000000000)
square_ends v q r l h a = go (far_square v) (near_square v) q r (gap v (pos (2 ^ 48)) a.size a.narrow) a.near a.far a.at_most a.at_least
  where
    go : (f n q r : ℤ) → (f -ℤ n) ≤ℤ pos 5245770916471798914885038899200000 → n ≤ℤ (pos 9223372036854775808 *ℤ (q +ℤ pos 3)) →
        (pos 9223372036854775808 *ℤ (r -ℤ pos 3)) ≤ℤ f → q ≤ℤ pos 1044480000000000000 → pos 72192000000000000 ≤ℤ r →
        (pos 71623200000000000 ≤ℤ q) × (r ≤ℤ pos 1045048800000000000)
    go f n q r g a b c d = (omega (arith, ints), omega (arith, ints))

pub root_least : (v : VectorBox) (q r l h : ℤ) → AreRoots v q r l h → pos 171798691840000000 ≤ℤ l
root_least v q r l h a =
    let low_square_bounds = (square_ends v q r l h a).0 in
    last l (square_root (pos 171798691840000001) (l +ℤ pos 1) (up l a.not_negative) (go q ((l +ℤ pos 1) *ℤ (l +ℤ pos 1)) low_square_bounds a.low_root))
  where
    up : (l : ℤ) → pos 0 ≤ℤ l → pos 0 ≤ℤ (l +ℤ pos 1)
    up l h = omega (arith, lins)

    go : (q x : ℤ) → pos 71623200000000000 ≤ℤ q → ((q *ℤ pos 576460752303423488) *ℤ pos 1152921504606846975) <ℤ (x *ℤ pos 1152921504606846976) → pos 29514790517935282929197383680000001 ≤ℤ x
    go q x h k = omega (arith, ints)

    last : (l : ℤ) → pos 171798691840000001 ≤ℤ (l +ℤ pos 1) → pos 171798691840000000 ≤ℤ l
    last l h = omega (arith, lins)

root_positive : (v : VectorBox) (q r l h : ℤ) → AreRoots v q r l h → pos 171798691840000000 ≤ℤ h
root_positive v q r l h a = through l h (root_least v q r l h a) a.ordered
  where
    through : (l h : ℤ) → pos 171798691840000000 ≤ℤ l → l ≤ℤ h → pos 171798691840000000 ≤ℤ h
    through l h a b = omega (arith, lins)

above_zero : (h : ℤ) → pos 171798691840000000 ≤ℤ h → pos 0 <ℤ h
above_zero h k = omega (arith, lins)

pub root_most : (v : VectorBox) (q r l h : ℤ) → AreRoots v q r l h → h ≤ℤ pos 776180000000000000
root_most v q r l h a =
    let high_square_bounds = (square_ends v q r l h a).1 in
    let high_positive = above_zero h (root_positive v q r l h a) in
    last h (square_root (h -ℤ pos 1) (pos 776179999999999999) (pos_nn 776179999999999999) (go r ((h -ℤ pos 1) *ℤ (h -ℤ pos 1)) high_square_bounds (a.high_root high_positive)))
  where
    go : (r x : ℤ) → r ≤ℤ pos 1045048800000000000 → (x *ℤ pos 1152921504606846976) <ℤ ((r *ℤ pos 576460752303423488) *ℤ pos 1152921504606846977) → x ≤ℤ pos 602455392399999998447640000000000001
    go r x h k = omega (arith, ints)

    last : (h : ℤ) → (h -ℤ pos 1) ≤ℤ pos 776179999999999999 → h ≤ℤ pos 776180000000000000
    last h k = omega (arith, lins)

-- the squares of the ends against the roots, in units of 2^-36
far_below : (v : VectorBox) (q r l h : ℤ) → AreRoots v q r l h → (((pos 4 *ℤ h) -ℤ pos 68) *ℤ ((pos 4 *ℤ h) -ℤ pos 68)) ≤ℤ far_square v
far_below v q r l h a =
    let root_at_least = root_positive v q r l h a in
    far_root h r (far_square v) (weak (((h -ℤ pos 1) *ℤ (h -ℤ pos 1)) *ℤ pos (2 ^ 60)) ((r *ℤ pos (2 ^ 59)) *ℤ (pos (2 ^ 60) +ℤ pos 1))
    (a.high_root (above_zero h root_at_least))) a.far (far_most v a.size) root_at_least

near_above : (v : VectorBox) (q r l h : ℤ) → AreRoots v q r l h → near_square v ≤ℤ (((pos 4 *ℤ l) +ℤ pos 68) *ℤ ((pos 4 *ℤ l) +ℤ pos 68))
near_above v q r l h a = near_root l q (near_square v)
    (weak ((q *ℤ pos (2 ^ 59)) *ℤ (pos (2 ^ 60) -ℤ pos 1)) (((l +ℤ pos 1) *ℤ (l +ℤ pos 1)) *ℤ pos (2 ^ 60)) a.low_root) a.near
    (le_trans_ℤ (near_below_far v a.size) (far_most v a.size)) (root_least v q r l h a)

-- the width of the length, where the vector is at most w wide
pub length_width : (v : VectorBox) (q r l h w : ℤ) → AreRoots v q r l h → IsVectorAtMostWide w v → (pos 4 *ℤ ((pos 4 *ℤ h) -ℤ (pos 4 *ℤ l))) ≤ℤ ((pos 7 *ℤ w) +ℤ pos 800)
length_width v q r l h w a n =
    let first_ends = one v.x w a.size.0 n.0 in
    let second_ends = one v.y w a.size.1 n.1 in
    let third_ends = one v.z w a.size.2 n.2 in
    let b : ℤ = (pos 4 *ℤ l) +ℤ pos 68 in
    let bound_nonnegative = beta_nn l a.not_negative in
    let width_nonnegative = width_nn v.x w n.0 in
    let near_root_bounded = square_root (pos 4 *ℤ ((near_end v.x.lo v.x.hi +ℤ near_end v.y.lo v.y.hi) +ℤ near_end v.z.lo v.z.hi)) (pos 7 *ℤ b) (seven b bound_nonnegative)
    (near_sum (near_end v.x.lo v.x.hi) (near_end v.y.lo v.y.hi) (near_end v.z.lo v.z.hi) b (near_above v q r l h a)) in
    let far_root_bounded = square_root (pos 4 *ℤ ((pos 4 *ℤ h) -ℤ pos 68)) ((pos 4 *ℤ b) +ℤ (pos 7 *ℤ w)) (both b w bound_nonnegative width_nonnegative)
    (far_square_most (near_end v.x.lo v.x.hi) (near_end v.y.lo v.y.hi) (near_end v.z.lo v.z.hi) (far_end v.x.lo v.x.hi) (far_end v.y.lo v.y.hi) (far_end v.z.lo v.z.hi) w ((pos 4 *ℤ h) -ℤ pos 68) b
    first_ends.0 second_ends.0 third_ends.0 first_ends.1 second_ends.1 third_ends.1 first_ends.2 second_ends.2 third_ends.2 (far_below v q r l h a) (near_above v q r l h a) near_root_bounded width_nonnegative) in
    last h l w far_root_bounded
  where
    beta_nn : (l : ℤ) → pos 0 ≤ℤ l → pos 0 ≤ℤ ((pos 4 *ℤ l) +ℤ pos 68)
    beta_nn l h = omega (arith, ints)

    seven : (b : ℤ) → pos 0 ≤ℤ b → pos 0 ≤ℤ (pos 7 *ℤ b)
    seven b h = omega (arith, ints)

    both : (b w : ℤ) → pos 0 ≤ℤ b → pos 0 ≤ℤ w → pos 0 ≤ℤ ((pos 4 *ℤ b) +ℤ (pos 7 *ℤ w))
    both b w h k = omega (arith, ints)

    last : (h l w : ℤ) → (pos 4 *ℤ ((pos 4 *ℤ h) -ℤ pos 68)) ≤ℤ ((pos 4 *ℤ ((pos 4 *ℤ l) +ℤ pos 68)) +ℤ (pos 7 *ℤ w)) → (pos 4 *ℤ ((pos 4 *ℤ h) -ℤ (pos 4 *ℤ l))) ≤ℤ ((pos 7 *ℤ w) +ℤ pos 800)
    last h l w k = omega (arith, ints)

-- each end of a coordinate against the length
reach : (x : Iv 36) (s l w : ℤ) → IsWithin (45200000 * 2 ^ 36) x → width_of x ≤ℤ w → pos 0 ≤ℤ l → (near_end x.lo x.hi *ℤ near_end x.lo x.hi) ≤ℤ (((pos 4 *ℤ l) +ℤ pos 68) *ℤ ((pos 4 *ℤ l) +ℤ pos 68)) →
    (neg_ℤ (((pos 4 *ℤ l) +ℤ pos 80) +ℤ w) ≤ℤ x.lo) × (x.hi ≤ℤ (((pos 4 *ℤ l) +ℤ pos 80) +ℤ w))
reach x s l w i n l0 h = go x.lo x.hi l w (one x w i n).0 (square_root (near_end x.lo x.hi) ((pos 4 *ℤ l) +ℤ pos 68) (up l l0) h)
  where
    up : (l : ℤ) → pos 0 ≤ℤ l → pos 0 ≤ℤ ((pos 4 *ℤ l) +ℤ pos 68)
    up l h = omega (arith, ints)

    go : (a b l w : ℤ) → (far_end a b -ℤ near_end a b) ≤ℤ w → near_end a b ≤ℤ ((pos 4 *ℤ l) +ℤ pos 68) → (neg_ℤ (((pos 4 *ℤ l) +ℤ pos 80) +ℤ w) ≤ℤ a) × (b ≤ℤ (((pos 4 *ℤ l) +ℤ pos 80) +ℤ w))
    go a b l w h k = omega (arith, ints, clamps)

pub length_reach : (v : VectorBox) (q r l h w : ℤ) → AreRoots v q r l h → IsVectorAtMostWide w v → AreEndsWithin (((pos 4 *ℤ l) +ℤ pos 80) +ℤ w) v
length_reach v q r l h w a n =
    let x : ℤ = near_end v.x.lo v.x.hi in
    let y : ℤ = near_end v.y.lo v.y.hi in
    let z : ℤ = near_end v.z.lo v.z.hi in
    let b : ℤ = (pos 4 *ℤ l) +ℤ pos 68 in
    let near_square_bounded = near_above v q r l h a in (
      reach v.x b l w a.size.0 n.0 a.not_negative (first x y z b near_square_bounded),
      reach v.y b l w a.size.1 n.1 a.not_negative (second x y z b near_square_bounded),
      reach v.z b l w a.size.2 n.2 a.not_negative (third x y z b near_square_bounded),
    )

-- ---- from units of 2^-34 to units of 2^-36
pub in_quarters : (l h : ℤ) (q : Rational) → InBox 34 l h q → InBox 36 (pos 4 *ℤ l) (pos 4 *ℤ h) q
in_quarters l h q b = (go l q.num (pos q.den) b.0, back q.num h (pos q.den) b.1)
  where
    go : (l n d : ℤ) → (l *ℤ d) ≤ℤ (n *ℤ pos 17179869184) → ((pos 4 *ℤ l) *ℤ d) ≤ℤ (n *ℤ pos 68719476736)
    go l n d h = cert (l ∷ n ∷ d ∷ []) ((va 0 ⊗ va 2 ≼ va 1 ⊗ ko (pos 17179869184)) ∷ []) (ko (pos 4) ⊗ va 0 ⊗ va 2) (va 1 ⊗ ko (pos 68719476736)) (nm 4 ⊠ hy 0) refl (h, tt)

    back : (n h d : ℤ) → (n *ℤ pos 17179869184) ≤ℤ (h *ℤ d) → (n *ℤ pos 68719476736) ≤ℤ ((pos 4 *ℤ h) *ℤ d)
    back n h d k = cert (n ∷ h ∷ d ∷ []) ((va 0 ⊗ ko (pos 17179869184) ≼ va 1 ⊗ va 2) ∷ []) (va 0 ⊗ ko (pos 68719476736)) (ko (pos 4) ⊗ va 1 ⊗ va 2) (nm 4 ⊠ hy 0) refl (k, tt)

-- a box at 2^-9 that holds a number between whole ones
pub box_most : (lo hi : ℤ) (m : ℕ) (q : Rational) → InBox 9 lo hi q → q ≤ʳ of_whole (pos m) → lo ≤ℤ pos (m * 2 ^ 9)
box_most lo hi m q b h = mul_le_cancel lo (pos (m * 2 ^ 9)) q.den q.positive (go lo q.num (pos m) (pos q.den) b.0 h)
  where
    go : (l n m d : ℤ) → (l *ℤ d) ≤ℤ (n *ℤ pos 512) → (n *ℤ pos 1) ≤ℤ (m *ℤ d) → (l *ℤ d) ≤ℤ ((m *ℤ pos 512) *ℤ d)
    go l n m d h k = cert (l ∷ n ∷ m ∷ d ∷ []) ((va 0 ⊗ va 3 ≼ va 1 ⊗ ko (pos 512)) ∷ (va 1 ⊗ ko (pos 1) ≼ va 2 ⊗ va 3) ∷ []) (va 0 ⊗ va 3)
        (va 2 ⊗ ko (pos 512) ⊗ va 3) (hy 0 ⊞ nm 512 ⊠ hy 1) refl (h, (k, tt))

pub box_least : (lo hi : ℤ) (m : ℕ) (q : Rational) → InBox 9 lo hi q → of_whole (pos m) ≤ʳ q → pos (m * 2 ^ 9) ≤ℤ hi
box_least lo hi m q b h = mul_le_cancel (pos (m * 2 ^ 9)) hi q.den q.positive (go hi q.num (pos m) (pos q.den) b.1 h)
  where
    go : (l n m d : ℤ) → (n *ℤ pos 512) ≤ℤ (l *ℤ d) → (m *ℤ d) ≤ℤ (n *ℤ pos 1) → ((m *ℤ pos 512) *ℤ d) ≤ℤ (l *ℤ d)
    go l n m d h k = cert (l ∷ n ∷ m ∷ d ∷ []) ((va 1 ⊗ ko (pos 512) ≼ va 0 ⊗ va 3) ∷ (va 2 ⊗ va 3 ≼ va 1 ⊗ ko (pos 1)) ∷ []) (va 2 ⊗ ko (pos 512) ⊗ va 3)
        (va 0 ⊗ va 3) (hy 0 ⊞ nm 512 ⊠ hy 1) refl (h, (k, tt))
