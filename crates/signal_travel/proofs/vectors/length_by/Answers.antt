use Rattle.std.proofs.Common.{◌≡◌, ◌*◌, ◌^◌, ℤ, pos, ◌+ℤ◌, ◌-ℤ◌, ◌*ℤ◌, ◌≤ℤ◌, arith, sym, subst, subst₂}
use Rattle.std.proofs.lemmas.Int.{ints}
use Rattle.whole_math.specs.Rational.{InBox}
use Rattle.orbit_model.specs.SeenPlaces.{square}
use Rattle.signal_travel.specs.VectorBoxes.{AreEndsWithin}
use Rattle.signal_travel.proofs.Lengths.{AreRoots, box_most, box_least, root_least, root_most, length_width, length_reach, in_quarters}
use Rattle.signal_travel.proofs.vectors.length_by.Goals as goal

roots : (c : goal.After-in_quarters-arg-1) → AreRoots c.args.v.now c.squared_length.result.lo c.squared_length.result.hi c.root_by.result.lo c.root_by.result.hi
roots c =
    let square_between = c.requires.between in
    let square_in_box = c.squared_length.ensures.holds square_between.vector square_between.held in
    record {
      size = c.requires.size;
      narrow = c.requires.narrow;
      near = c.squared_length.ensures.near;
      far = c.squared_length.ensures.far;
      at_most = box_most c.squared_length.result.lo c.squared_length.result.hi 2040000000000000 (square square_between.vector) square_in_box square_between.near;
      at_least = box_least c.squared_length.result.lo c.squared_length.result.hi 141000000000000 (square square_between.vector) square_in_box square_between.far;
      not_negative = c.root_by.ensures.not_negative;
      ordered = c.root_by.result.ordered;
      low_root = c.root_by.ensures.near_low;
      high_root = c.root_by.ensures.near_high;
    }

pub in_quarters-requires-clause-low : goal.in_quarters-requires-clause-low
in_quarters-requires-clause-low c = c.root_by.ensures.not_negative

small : (h : ℤ) → h ≤ℤ pos 776180000000000000 → h ≤ℤ pos (2 ^ 60)
small h k = omega (arith, ints)

pub in_quarters-requires-clause-high : goal.in_quarters-requires-clause-high
in_quarters-requires-clause-high c = small c.root_by.result.hi (root_most _ _ _ _ _ (roots c))

pub returns-clause-holds : goal.returns-clause-holds
returns-clause-holds c = λ p r h n.
    let quarters_stand = c.in_quarters.ensures in
    subst₂ (λ (l u : ℤ). InBox 36 l u r) (sym quarters_stand.lo) (sym quarters_stand.hi) (in_quarters c.root_by.result.lo c.root_by.result.hi r (c.root_by.ensures.holds (square p) r (c.squared_length.ensures.holds p h) n))

far : (l z : ℤ) → z ≡ pos 4 *ℤ l → pos 171798691840000000 ≤ℤ l → pos (10000000 * 2 ^ 36) ≤ℤ z
far l z e h = omega (arith, ints)

near : (h z : ℤ) → z ≡ pos 4 *ℤ h → h ≤ℤ pos 776180000000000000 → z ≤ℤ pos (45200000 * 2 ^ 36)
near h z e k = omega (arith, ints)

pub returns-clause-far : goal.returns-clause-far
returns-clause-far c = far c.root_by.result.lo c.in_quarters.result.lo c.in_quarters.ensures.lo (root_least _ _ _ _ _ (roots c.before))

pub returns-clause-near : goal.returns-clause-near
returns-clause-near c = near c.root_by.result.hi c.in_quarters.result.hi c.in_quarters.ensures.hi (root_most _ _ _ _ _ (roots c.before))

pub returns-clause-width : goal.returns-clause-width
returns-clause-width c = λ w n.
    let quarters_stand = c.in_quarters.ensures in
    subst₂ (λ (l u : ℤ). (pos 4 *ℤ (u -ℤ l)) ≤ℤ ((pos 7 *ℤ w) +ℤ pos 800)) (sym quarters_stand.lo) (sym quarters_stand.hi) (length_width _ _ _ _ _ w (roots c.before) n)

pub returns-clause-reach : goal.returns-clause-reach
returns-clause-reach c = λ w n. subst (λ (l : ℤ). AreEndsWithin ((l +ℤ pos 80) +ℤ w) c.args.v.now) (sym c.in_quarters.ensures.lo) (length_reach _ _ _ _ _ w (roots c.before) n)
