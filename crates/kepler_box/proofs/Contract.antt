-- Every solution of the equation lies near the point at which the steps have ended.
use Rattle.std.proofs.Common.{◌≡◌, ◌*◌, ◌^◌, ◌≤◌, [], ◌∷◌, ℤ, pos, ◌+ℤ◌, ◌-ℤ◌, ◌*ℤ◌, neg_ℤ, ◌≤ℤ◌, ◌<ℤ◌, arith, sym, subst, refl, lit≤, lit<, pow_pos, unsigned_abs}
use Rattle.std.proofs.lemmas.Int.{ints, by_lt_z}
use Rattle.std.proofs.Math.Nat.{mul-pos}
use Rattle.whole_math.proofs.Ring.{ring, va, ko, ◌⊖◌, ◌⊗◌}
use Rattle.whole_math.proofs.Order.{lins, mul_le_right, le_pos, lt_pos}
use Rattle.whole_math.proofs.Certificates.{cert, weak, nm}
use Rattle.whole_math.proofs.Inequalities.{le_refl_ℤ, le_eq, less_nn}
use Rattle.whole_math.specs.Rational.{Rational, ◌+ʳ◌, ◌-ʳ◌, ◌*ʳ◌, ◌≤ʳ◌, AreWithin, times, two_to_minus, InBox}
use Rattle.whole_math.specs.Boxes.{IsNearBox, of_scale}
use Rattle.trig_box.specs.AnglePairs.{IsAnglePair, InRange, SolvesKepler}
use Rattle.trig_box.proofs.PairLaws.{canonical_exists, canonical_is_pair, sharp_law}
use Rattle.trig_box.proofs.PointLaws.{near_nn}
use Rattle.kepler_box.proofs.SolutionCertificates.{upper, lower, upper_easy, lower_easy, own_near, back_near, back_turned, plain_high, plain_low, high_near, high_back, low_near, low_back, own_two, looser, e_bound, e_sign}

-- ---- the solution, seen from x
pub record IsSeen (x r lo hi : ℤ) (d mean other e angle c s t : Rational) : Type 0 where
  pub is_anomaly : SolvesKepler mean e angle c s
  pub near : AreWithin d mean other
  pub held : InBox 56 lo hi (other +ʳ e *ʳ t)
  pub e_low : pos 0 ≤ℤ e.num
  pub e_high : (pos 32 *ℤ e.num) ≤ℤ pos e.den
  pub above : ((pos 16 *ℤ (hi -ℤ x)) +ℤ pos 1) ≤ℤ (pos 15 *ℤ r)
  pub below : ((pos 16 *ℤ (x -ℤ lo)) +ℤ pos 1) ≤ℤ (pos 15 *ℤ r)
  pub radius : pos 0 ≤ℤ r

positive_of : (x : Rational) → pos 0 <ℤ pos x.den
positive_of x = lt_pos 0 x.den x.positive

pub above_is : (x r lo hi : ℤ) (d mean other e angle c s c' t : Rational) → IsSeen x r lo hi d mean other e angle c s t → IsAnglePair 5 (of_scale 56 x) c' t →
    (pos 15 *ℤ (((angle.num *ℤ pos (2 ^ 56)) -ℤ ((x +ℤ r) *ℤ pos angle.den)) *ℤ pos d.den)) ≤ℤ (pos 16 *ℤ (d.num *ℤ (pos angle.den *ℤ pos (2 ^ 56))))
above_is x r lo hi d mean other e angle c s c' t g k = by_lt_z (angle.num *ℤ pos (2 ^ 56)) (x *ℤ pos angle.den)
    (λ l. upper_easy angle.num (pos angle.den) d.num (pos d.den) x r (weak _ _ l) g.radius (near_nn d mean other g.near) (weak _ _ (positive_of angle)) (weak _ _ (positive_of d)))
    (λ l.
    let z : ℤ = (angle.num *ℤ pos (2 ^ 56)) -ℤ (x *ℤ pos angle.den) in
    let z_not_negative : pos 0 ≤ℤ z = less_nn l in
    let w : ℤ = pos angle.den *ℤ pos (2 ^ 56) in
    let far : Rational = record { num = z; den = angle.den * 2 ^ 56; positive = mul-pos angle.positive (pow_pos 56) } in
    let is_within : AreWithin far angle (of_scale 56 x) = (
      own_near z (pos angle.den *ℤ pos (2 ^ 56)) z_not_negative,
      back_turned (angle.num *ℤ pos (2 ^ 56)) (x *ℤ pos angle.den) (pos angle.den) (pos (2 ^ 56)) z_not_negative
          (weak _ _ (lt_pos 0 (angle.den * 2 ^ 56) far.positive)),
    ) in
    let law = sharp_law 5 far angle (of_scale 56 x) c s c' t (lit≤ tt) g.is_anomaly.is_pair k is_within in
    upper angle.num (pos angle.den) s.num (pos s.den) mean.num (pos mean.den) other.num (pos other.den) e.num (pos e.den) t.num (pos t.den) d.num (pos d.den) x r hi
    g.held.1 (le_eq (sym g.is_anomaly.equation)) g.near.0 law.1.0 g.e_high g.e_low g.above z_not_negative (positive_of angle) (positive_of s) (positive_of mean)
    (positive_of other) (positive_of e) (positive_of t) (positive_of d))

pub below_is : (x r lo hi : ℤ) (d mean other e angle c s c' t : Rational) → IsSeen x r lo hi d mean other e angle c s t → IsAnglePair 5 (of_scale 56 x) c' t →
    (pos 15 *ℤ ((((x -ℤ r) *ℤ pos angle.den) -ℤ (angle.num *ℤ pos (2 ^ 56))) *ℤ pos d.den)) ≤ℤ (pos 16 *ℤ (d.num *ℤ (pos angle.den *ℤ pos (2 ^ 56))))
below_is x r lo hi d mean other e angle c s c' t g k = by_lt_z (x *ℤ pos angle.den) (angle.num *ℤ pos (2 ^ 56))
    (λ l. lower_easy angle.num (pos angle.den) d.num (pos d.den) x r (weak _ _ l) g.radius (near_nn d mean other g.near) (weak _ _ (positive_of angle)) (weak _ _ (positive_of d)))
    (λ l.
    let z : ℤ = (x *ℤ pos angle.den) -ℤ (angle.num *ℤ pos (2 ^ 56)) in
    let z_not_negative : pos 0 ≤ℤ z = less_nn l in
    let far : Rational = record { num = z; den = angle.den * 2 ^ 56; positive = mul-pos angle.positive (pow_pos 56) } in
    let is_within : AreWithin far angle (of_scale 56 x) = (
      back_near (x *ℤ pos angle.den) (angle.num *ℤ pos (2 ^ 56)) (pos angle.den *ℤ pos (2 ^ 56)) z_not_negative (weak _ _ (lt_pos 0 (angle.den * 2 ^ 56) far.positive)),
      turned z (pos angle.den) (pos (2 ^ 56)),
    ) in
    let law = sharp_law 5 far angle (of_scale 56 x) c s c' t (lit≤ tt) g.is_anomaly.is_pair k is_within in
    lower angle.num (pos angle.den) s.num (pos s.den) mean.num (pos mean.den) other.num (pos other.den) e.num (pos e.den) t.num (pos t.den) d.num (pos d.den) x r lo
    g.held.0 (le_eq g.is_anomaly.equation) g.near.1 law.1.1 g.e_high g.e_low g.below z_not_negative (positive_of angle) (positive_of s) (positive_of mean)
    (positive_of other) (positive_of e) (positive_of t) (positive_of d))
  where
    turned : (z a b : ℤ) → (z *ℤ (a *ℤ b)) ≤ℤ (z *ℤ (b *ℤ a))
    turned z a b = le_eq (ring (z ∷ a ∷ b ∷ []) (va 0 ⊗ (va 1 ⊗ va 2)) (va 0 ⊗ (va 2 ⊗ va 1)) refl)

pub zero_near : (n w : ℤ) → (((n *ℤ w) -ℤ (n *ℤ w)) *ℤ (pos 1)) ≤ℤ ((pos 0) *ℤ (w *ℤ w))
zero_near n w =
    cert (n ∷ w ∷ []) ([]) ((((va 0) ⊗ (va 1)) ⊖ ((va 0) ⊗ (va 1))) ⊗ (ko (pos 1))) ((ko (pos 0)) ⊗ ((va 1) ⊗ (va 1))) (nm 0) refl tt

-- ---- what the code has at hand: the boxes m and e, the angle x, the box (a, b) of its sine, the right side (fl, fh), and the answer
pub record IsFound (ml mh el eh x r a b fl fh al ah cl ch sl sh : ℤ) : Type 0 where
  pub e_low : pos 0 ≤ℤ el
  pub e_high : eh ≤ℤ pos (2 ^ 55)
  pub sine : (c s : Rational) → IsAnglePair 5 (of_scale 56 x) c s → InBox 60 a b s
  pub right : (u v w : Rational) → InBox 56 ml mh u → InBox 60 el eh v → InBox 60 a b w → InBox 56 fl fh (u +ʳ v *ʳ w)
  pub above : ((pos 16 *ℤ (fh -ℤ x)) +ℤ pos 1) ≤ℤ (pos 15 *ℤ r)
  pub below : ((pos 16 *ℤ (x -ℤ fl)) +ℤ pos 1) ≤ℤ (pos 15 *ℤ r)
  pub radius : pos 0 ≤ℤ r
  pub low_is : al ≡ x -ℤ r
  pub high_is : ah ≡ x +ℤ r
  pub low_end : neg_ℤ (pos (2 ^ 60)) ≤ℤ al
  pub high_end : ah ≤ℤ pos (2 ^ 60)
  pub pair : (z c s : Rational) → InBox 56 al ah z → IsAnglePair 5 z c s → InBox 60 cl ch c × InBox 60 sl sh s

between_range : (x r al ah z : ℤ) → al ≡ x -ℤ r → ah ≡ x +ℤ r → neg_ℤ (pos (2 ^ 60)) ≤ℤ al → ah ≤ℤ pos (2 ^ 60) → (x -ℤ r) ≤ℤ z → z ≤ℤ (x +ℤ r) → InRange 5 (of_scale 56 z)
between_range x r al ah z e f h k l u = go z (first x r al z e h l) (last x r ah z f k u)
  where
    first : (x r al z : ℤ) → al ≡ x -ℤ r → neg_ℤ (pos (2 ^ 60)) ≤ℤ al → (x -ℤ r) ≤ℤ z → neg_ℤ (pos (2 ^ 60)) ≤ℤ z
    first x r al z e h l = omega (arith, ints)

    last : (x r ah z : ℤ) → ah ≡ x +ℤ r → ah ≤ℤ pos (2 ^ 60) → z ≤ℤ (x +ℤ r) → z ≤ℤ pos (2 ^ 60)
    last x r ah z e h l = omega (arith, ints)

    go : (z : ℤ) → neg_ℤ (pos (2 ^ 60)) ≤ℤ z → z ≤ℤ pos (2 ^ 60) → 2 * unsigned_abs z ≤ 2 ^ 5 * 2 ^ 56
    go z h k = omega (arith, ints)

back : (x r : ℤ) → pos 0 ≤ℤ r → (x -ℤ r) ≤ℤ x
back x r h = omega (arith, lins)

on : (x r : ℤ) → pos 0 ≤ℤ r → x ≤ℤ (x +ℤ r)
on x r h = omega (arith, lins)

across : (x r : ℤ) → pos 0 ≤ℤ r → (x -ℤ r) ≤ℤ (x +ℤ r)
across x r h = omega (arith, lins)

pub record IsClose (x r : ℤ) (d angle : Rational) : Type 0 where
  pub above : (pos 15 *ℤ (((angle.num *ℤ pos (2 ^ 56)) -ℤ ((x +ℤ r) *ℤ pos angle.den)) *ℤ pos d.den)) ≤ℤ (pos 16 *ℤ (d.num *ℤ (pos angle.den *ℤ pos (2 ^ 56))))
  pub below : (pos 15 *ℤ ((((x -ℤ r) *ℤ pos angle.den) -ℤ (angle.num *ℤ pos (2 ^ 56))) *ℤ pos d.den)) ≤ℤ (pos 16 *ℤ (d.num *ℤ (pos angle.den *ℤ pos (2 ^ 56))))

-- Contraction: the angle of a solution is within 16/15 d of the box
pub contraction : (ml mh el eh x r a b fl fh al ah cl ch sl sh : ℤ) (d mean other e angle c s : Rational) → IsFound ml mh el eh x r a b fl fh al ah cl ch sl sh →
    InBox 56 ml mh other → AreWithin d mean other → InBox 60 el eh e → SolvesKepler mean e angle c s → IsClose x r d angle
contraction ml mh el eh x r a b fl fh al ah cl ch sl sh d mean other e angle c s f h n k g =
    let star = canonical_exists 5 (of_scale 56 x) (between_range x r al ah x f.low_is f.high_is f.low_end f.high_end (back x r f.radius) (on x r f.radius)) in
    let t : Rational = star.1 in
    let is_pair = canonical_is_pair 5 (of_scale 56 x) star.0 t star.2 in
    let seen : IsSeen x r fl fh d mean other e angle c s t = record {
      is_anomaly = g;
      near = n;
      held = f.right other e t h k (f.sine star.0 t is_pair);
      e_low = e_sign e.num (pos e.den) el k.0 f.e_low (weak _ _ (positive_of e));
      e_high = e_bound e.num (pos e.den) eh k.1 f.e_high (weak _ _ (positive_of e));
      above = f.above;
      below = f.below;
      radius = f.radius;
    } in
    record { above = above_is x r fl fh d mean other e angle c s star.0 t seen is_pair; below = below_is x r fl fh d mean other e angle c s star.0 t seen is_pair }

boxed : (x r al ah : ℤ) (z : Rational) → al ≡ x -ℤ r → ah ≡ x +ℤ r → ((x -ℤ r) *ℤ pos z.den) ≤ℤ (z.num *ℤ pos (2 ^ 56)) → (z.num *ℤ pos (2 ^ 56)) ≤ℤ ((x +ℤ r) *ℤ pos z.den) → InBox 56 al ah z
boxed x r al ah z e f h k = (subst (λ (i : ℤ). (i *ℤ pos z.den) ≤ℤ (z.num *ℤ pos (2 ^ 56))) (sym e) h, subst (λ (i : ℤ). (z.num *ℤ pos (2 ^ 56)) ≤ℤ (i *ℤ pos z.den)) (sym f) k)

pub found_holds : (ml mh el eh x r a b fl fh al ah cl ch sl sh : ℤ) (mean e angle c s : Rational) → IsFound ml mh el eh x r a b fl fh al ah cl ch sl sh →
    InBox 56 ml mh mean → InBox 60 el eh e → SolvesKepler mean e angle c s → InBox 56 al ah angle × InBox 60 cl ch c × InBox 60 sl sh s
found_holds ml mh el eh x r a b fl fh al ah cl ch sl sh mean e angle c s f h k g =
    let zero : Rational = record { num = pos 0; den = 1; positive = lit< tt } in
    let none_apart : AreWithin zero mean mean = (zero_near mean.num (pos mean.den), zero_near mean.num (pos mean.den)) in
    let is_close = contraction ml mh el eh x r a b fl fh al ah cl ch sl sh zero mean mean e angle c s f h none_apart k g in
    let angle_in_box : InBox 56 al ah angle = boxed x r al ah angle f.low_is f.high_is (plain_low angle.num (pos angle.den) x r is_close.below) (plain_high angle.num (pos angle.den) x r is_close.above) in
    let pair_in_boxes = f.pair angle c s angle_in_box g.is_pair in
    (angle_in_box, pair_in_boxes.0, pair_in_boxes.1)

-- the angle, clamped to the box
record IsClamped (al ah : ℤ) (d angle z : Rational) : Type 0 where
  pub held : InBox 56 al ah z
  pub near : AreWithin (times 2 d) angle z
  pub in_range : InRange 5 z

clamp : (x r al ah : ℤ) (d angle : Rational) → IsClose x r d angle → InRange 5 angle → pos 0 ≤ℤ r → pos 0 ≤ℤ d.num → al ≡ x -ℤ r → ah ≡ x +ℤ r → neg_ℤ (pos (2 ^ 60)) ≤ℤ al → ah ≤ℤ pos (2 ^ 60) →
    (z : Rational) × IsClamped al ah d angle z
clamp x r al ah d angle q i r0 d0 e f h k =
    let n : ℤ = angle.num in
    let m : ℤ = pos angle.den in
    let m_not_negative : pos 0 ≤ℤ m = weak _ _ (positive_of angle) in
    let den_not_negative : pos 0 ≤ℤ pos d.den = weak _ _ (positive_of d) in
    let scale_not_negative : pos 0 ≤ℤ pos (2 ^ 56) = le_pos 0 (2 ^ 56) (lit≤ tt) in
    by_lt_z ((x +ℤ r) *ℤ m) (n *ℤ pos (2 ^ 56))
    (λ l. (
      of_scale 56 (x +ℤ r),
      record {
        held = boxed x r al ah (of_scale 56 (x +ℤ r)) e f (mul_le_right (pos (2 ^ 56)) (x -ℤ r) (x +ℤ r) scale_not_negative (across x r r0)) (le_refl_ℤ ((x +ℤ r) *ℤ pos (2 ^ 56)));
        near = (high_near n m d.num (pos d.den) x r q.above d0 m_not_negative, high_back n m d.num (pos d.den) x r (weak _ _ l) d0 m_not_negative den_not_negative);
        in_range = between_range x r al ah (x +ℤ r) e f h k (across x r r0) (le_refl_ℤ (x +ℤ r));
      },
    ))
    (λ u. by_lt_z (n *ℤ pos (2 ^ 56)) ((x -ℤ r) *ℤ m)
    (λ l. (
      of_scale 56 (x -ℤ r),
      record {
        held = boxed x r al ah (of_scale 56 (x -ℤ r)) e f (le_refl_ℤ ((x -ℤ r) *ℤ pos (2 ^ 56))) (mul_le_right (pos (2 ^ 56)) (x -ℤ r) (x +ℤ r) scale_not_negative (across x r r0));
        near = (low_back n m d.num (pos d.den) x r (weak _ _ l) d0 m_not_negative den_not_negative, low_near n m d.num (pos d.den) x r q.below d0 m_not_negative);
        in_range = between_range x r al ah (x -ℤ r) e f h k (le_refl_ℤ (x -ℤ r)) (across x r r0);
      },
    ))
    (λ l. (
      angle,
      record {
        held = boxed x r al ah angle e f l u;
        near = (own_two n m d.num (pos d.den) d0 m_not_negative, own_two n m d.num (pos d.den) d0 m_not_negative);
        in_range = i;
      },
    )))

pub found_near : (ml mh el eh x r a b fl fh al ah cl ch sl sh : ℤ) (d mean e angle c s : Rational) → IsFound ml mh el eh x r a b fl fh al ah cl ch sl sh →
    IsNearBox 56 ml mh d mean → InBox 60 el eh e → SolvesKepler mean e angle c s → IsNearBox 56 al ah (times 2 d) angle
    × IsNearBox 60 cl ch (times 4 d +ʳ two_to_minus 60) c × IsNearBox 60 sl sh (times 4 d +ʳ two_to_minus 60) s
found_near ml mh el eh x r a b fl fh al ah cl ch sl sh d mean e angle c s f h k g =
    let is_close = contraction ml mh el eh x r a b fl fh al ah cl ch sl sh d mean h.inside e angle c s f h.held h.near k g in
    let d_not_negative = near_nn d mean h.inside h.near in
    let clamped = clamp x r al ah d angle is_close g.is_pair.in_range f.radius d_not_negative f.low_is f.high_is f.low_end f.high_end in
    let star = canonical_exists 5 clamped.0 clamped.1.in_range in
    let u : Rational = star.0 in
    let v : Rational = star.1 in
    let is_pair = canonical_is_pair 5 clamped.0 u v star.2 in
    let law = sharp_law 5 (times 2 d) angle clamped.0 c s u v (lit≤ tt) g.is_pair is_pair clamped.1.near in
    let pair_in_boxes = f.pair clamped.0 u v clamped.1.held is_pair in
    let den_not_negative : pos 0 ≤ℤ pos d.den = weak _ _ (positive_of d) in (
      record { inside = clamped.0; held = clamped.1.held; near = clamped.1.near },
      record { inside = u; held = pair_in_boxes.0; near = (loose c u law.0.0 den_not_negative, loose u c law.0.1 den_not_negative) },
      record { inside = v; held = pair_in_boxes.1; near = (loose s v law.1.0 den_not_negative, loose v s law.1.1 den_not_negative) },
    )
  where
    loose : (x y : Rational) → x -ʳ y ≤ʳ times 2 (times 2 d) +ʳ two_to_minus 67 → pos 0 ≤ℤ pos d.den → x -ʳ y ≤ʳ times 4 d +ʳ two_to_minus 60
    loose x y h w0 = looser (x -ʳ y).num d.num (pos d.den) (pos (x.den * y.den)) h w0 (weak _ _ (lt_pos 0 (x.den * y.den) (mul-pos x.positive y.positive)))
