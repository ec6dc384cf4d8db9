use Rattle.std.proofs.Common.{◌≡◌, ◌+◌, ◌^◌, ℤ, pos, ◌+ℤ◌, ◌-ℤ◌, ◌*ℤ◌, ◌≤ℤ◌, arith, lit≤, ap, sym, subst, ◌∙◌, to_z, of_z}
use Rattle.std.proofs.lemmas.Int.{ints, to_z-of_z}
use Rattle.std.specs.Int.{w64}
use Rattle.whole_math.specs.Rational.{Rational}
use Rattle.whole_math.specs.Boxes.{of_scale}
use Rattle.trig_box.specs.AnglePairs.{IsAnglePair}
use Rattle.whole_math.proofs.Order.{le_pos}
use Rattle.whole_math.specs.Rounding.{floor_div}
use Rattle.trig_box.specs.PairBoxes.{HoldsPair}
use Rattle.signal_travel.proofs.EarthTurn.{IsTurn, turn_holds, pad_small, padded_within, padded_width, plain_radius}
use Rattle.signal_travel.proofs.turns.turn_in.Goals as goal

nn : (l m : ℤ) → pos 0 ≤ℤ l → l ≤ℤ m → pos 0 ≤ℤ m
nn l m h k = omega (arith, ints)

radius : (c : goal.After-padded-arg-2-1) → to_z w64 (of_z w64 (to_z w64 (of_z w64 c.args.travel.now.hi) -ℤ to_z w64 (of_z w64 c.middle_of-middle.result)))
    ≡ c.args.travel.now.hi -ℤ c.middle_of-middle.result
radius c = plain_radius c.middle_of-middle.result c.args.travel.now.hi
    (nn c.args.travel.now.lo c.middle_of-middle.result c.requires.0 c.middle_of-middle.ensures.low) c.middle_of-middle.ensures.high c.requires.1

twice : (l h d : ℤ) → pos 0 ≤ℤ l → h ≤ℤ pos 192153584101141163 → (d +ℤ d) ≤ℤ ((h -ℤ l) +ℤ pos 1) → (d +ℤ d) ≤ℤ pos 192153584101141164
twice l h d a b k = omega (arith, ints)

most : (c : goal.After-padded-arg-2-1) → (pos 4096 *ℤ c.pad_for-pad.result) ≤ℤ ((c.args.travel.now.hi -ℤ c.middle_of-middle.result) +ℤ pos 139264)
most c = subst (λ (d : ℤ). (pos 4096 *ℤ c.pad_for-pad.result) ≤ℤ (d +ℤ pos 139264)) (radius c) c.pad_for-pad.ensures.most

small : (c : goal.After-padded-arg-2-1) → c.pad_for-pad.result ≤ℤ pos 23456248059260
small c = pad_small (c.args.travel.now.hi -ℤ c.middle_of-middle.result) c.pad_for-pad.result
    (twice c.args.travel.now.lo c.args.travel.now.hi _ c.requires.0 c.requires.1 c.middle_of-middle.ensures.above) (most c)

plain_pad : (c : goal.After-padded-arg-2-1) → to_z w64 (of_z w64 c.pad_for-pad.result) ≡ c.pad_for-pad.result
plain_pad c = to_z-of_z w64 c.pad_for-pad.result (record { sfits = c.pad_for-pad.type_inv })

under : (p : ℤ) → p ≤ℤ pos 23456248059260 → p ≤ℤ pos (2 ^ 46)
under p h = omega (arith, ints)

pub padded-requires-2-clause-high : goal.padded-requires-2-clause-high
padded-requires-2-clause-high c = subst (λ (p : ℤ). p ≤ℤ pos (2 ^ 46)) (sym (plain_pad c)) (under c.pad_for-pad.result (small c))

is_turn : (c : goal.After-padded-arg-2-1) → IsTurn c.args.travel.now.lo c.args.travel.now.hi c.middle_of-middle.result c.earth_turn_in-angle.result
    c.pad_for-pad.result c.pairs_of-pair.result.cos.lo c.pairs_of-pair.result.cos.hi c.pairs_of-pair.result.sin.lo c.pairs_of-pair.result.sin.hi
is_turn c = record {
  middle_high = c.middle_of-middle.ensures.high;
  below = c.middle_of-middle.ensures.below;
  angle = c.earth_turn_in-angle.ensures.value ∙ ap (λ (m : ℤ). floor_div (pos 72921151467 *ℤ m) 16000000000000000)
      (to_z-of_z w64 c.middle_of-middle.result (record { sfits = c.middle_of-middle.type_inv }));
  angle_low = c.earth_turn_in-angle.ensures.low;
  angle_high = c.earth_turn_in-angle.ensures.high;
  least = subst (λ (d : ℤ). (d +ℤ pos 135168) ≤ℤ (pos 4096 *ℤ c.pad_for-pad.result)) (radius c) c.pad_for-pad.ensures.least;
  pairs = subst (λ (a : ℤ). (x y : Rational) → IsAnglePair 5 (of_scale 56 a) x y → HoldsPair c.pairs_of-pair.result x y)
      (to_z-of_z w64 c.earth_turn_in-angle.result (record { sfits = c.earth_turn_in-angle.type_inv })) c.pairs_of-pair.ensures.holds;
}

pub returns-clause-holds : goal.returns-clause-holds
returns-clause-holds c =
    let same_pad = plain_pad c.before in
    let pair = c.pairs_of-pair.result in
    turn_holds _ _ _ _ _ _ _ _ _ c.padded.result.lo c.padded.result.hi c.padded-2.result.lo c.padded-2.result.hi (is_turn c.before)
    (c.padded.ensures.lo ∙ ap (λ (p : ℤ). pair.cos.lo -ℤ p) same_pad) (c.padded.ensures.hi ∙ ap (λ (p : ℤ). pair.cos.hi +ℤ p) same_pad)
    (c.padded-2.ensures.lo ∙ ap (λ (p : ℤ). pair.sin.lo -ℤ p) same_pad) (c.padded-2.ensures.hi ∙ ap (λ (p : ℤ). pair.sin.hi +ℤ p) same_pad)

pub returns-clause-cos_size : goal.returns-clause-cos_size
returns-clause-cos_size c =
    let same_pad = plain_pad c.before in
    let pair = c.pairs_of-pair.result in
    padded_within pair.cos.lo pair.cos.hi c.padded.result.lo c.padded.result.hi c.pad_for-pad.result (pos 1152939096792891904) (pos (2 ^ 60 + 2 ^ 46))
    (c.padded.ensures.lo ∙ ap (λ (p : ℤ). pair.cos.lo -ℤ p) same_pad) (c.padded.ensures.hi ∙ ap (λ (p : ℤ). pair.cos.hi +ℤ p) same_pad) c.pairs_of-pair.ensures.cos_size.0
    c.pairs_of-pair.ensures.cos_size.1 (small c.before)
    (le_pos 1152962553040951164 1152991873351024640 (lit≤ tt))

pub returns-clause-sin_size : goal.returns-clause-sin_size
returns-clause-sin_size c =
    let same_pad = plain_pad c.before in
    let pair = c.pairs_of-pair.result in
    padded_within pair.sin.lo pair.sin.hi c.padded-2.result.lo c.padded-2.result.hi c.pad_for-pad.result (pos 28024121222816) (pos (2 ^ 46))
    (c.padded-2.ensures.lo ∙ ap (λ (p : ℤ). pair.sin.lo -ℤ p) same_pad) (c.padded-2.ensures.hi ∙ ap (λ (p : ℤ). pair.sin.hi +ℤ p) same_pad)
    c.pairs_of-pair.ensures.sin_size.0 c.pairs_of-pair.ensures.sin_size.1 (small c.before)
    (le_pos 51480369282076 70368744177664 (lit≤ tt))

pub returns-clause-width : goal.returns-clause-width
returns-clause-width c = λ w h.
    let same_pad = plain_pad c.before in
    let pair = c.pairs_of-pair.result in
    let pad_at_most = most c.before in
    let middle_not_above = c.middle_of-middle.ensures.above in
    let half_travel : ℤ = c.args.travel.now.hi -ℤ c.middle_of-middle.result in
    let travel_width : ℤ = c.args.travel.now.hi -ℤ c.args.travel.now.lo in (
      padded_width pair.cos.lo pair.cos.hi c.padded.result.lo c.padded.result.hi c.pad_for-pad.result half_travel travel_width w (c.padded.ensures.lo ∙ ap (λ (p : ℤ). pair.cos.lo -ℤ p) same_pad)
          (c.padded.ensures.hi ∙ ap (λ (p : ℤ). pair.cos.hi +ℤ p) same_pad) c.pairs_of-pair.ensures.narrow.0 pad_at_most middle_not_above h,
      padded_width pair.sin.lo pair.sin.hi c.padded-2.result.lo c.padded-2.result.hi c.pad_for-pad.result half_travel travel_width w (c.padded-2.ensures.lo
          ∙ ap (λ (p : ℤ). pair.sin.lo -ℤ p) same_pad) (c.padded-2.ensures.hi ∙ ap (λ (p : ℤ). pair.sin.hi +ℤ p) same_pad) c.pairs_of-pair.ensures.narrow.1 pad_at_most middle_not_above h,
    )
