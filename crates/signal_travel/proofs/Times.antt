-- The time over a range, and the widths of a pass.
use Rattle.std.proofs.Common.{◌+◌, ◌-◌, ◌*◌, ◌^◌, ℤ, pos, ◌+ℤ◌, ◌-ℤ◌, ◌*ℤ◌, ◌≤ℤ◌, ◌<ℤ◌, arith, lit<}
use Rattle.std.proofs.lemmas.Int.{ints}
use Rattle.whole_math.specs.Rounding.{floor_div}
use Rattle.whole_math.proofs.Rounding.{floor_le, lt_floor}
use Rattle.signal_travel.specs.declared.passes.TheConstants.{SPEED}

-- ---- a pass: from the width t of the box of times to that of the pair
pub pair_width : ℤ → ℤ
pair_width t = floor_div (t +ℤ pos 2379776) 4096

pub pair_enough : (t : ℤ) → (t +ℤ pos (580 * 2 ^ 12 + 1)) ≤ℤ (pos (2 ^ 12) *ℤ pair_width t)
unfolding pair_width
pair_enough t = go t (floor_div (t +ℤ pos 2379776) 4096) (lt_floor (t +ℤ pos 2379776) 4096 (lit< tt))
  where
    go : (t f : ℤ) → (t +ℤ pos 2379776) <ℤ ((f *ℤ pos 4096) +ℤ pos 4096) → (t +ℤ pos 2375681) ≤ℤ (pos 4096 *ℤ f)
    go t f h = omega (arith, ints)

-- and to that of the places
pub place_enough : (t w : ℤ) → pos 0 ≤ℤ t → (t +ℤ pos (904 * 264813)) ≤ℤ (pos 904 *ℤ w) → ((pos 76000000 *ℤ pair_width t) +ℤ pos (262180 * 2 ^ 24)) ≤ℤ (pos (2 ^ 24) *ℤ w)
unfolding pair_width
place_enough t w h k = go t (floor_div (t +ℤ pos 2379776) 4096) w h k (floor_le (t +ℤ pos 2379776) 4096 (lit< tt))
  where
    go : (t f w : ℤ) → pos 0 ≤ℤ t → (t +ℤ pos 239390952) ≤ℤ (pos 904 *ℤ w) → (f *ℤ pos 4096) ≤ℤ (t +ℤ pos 2379776) → ((pos 76000000 *ℤ f) +ℤ pos 4398650490880) ≤ℤ (pos 16777216 *ℤ w)
    go t f w h k l = omega (arith, ints)

-- every box of times is narrow enough for places that are less than 4,096 m wide
pub any_width : (l h : ℤ) → pos 0 ≤ℤ l → h ≤ℤ pos 192153584101141163 → ((h -ℤ l) +ℤ pos (904 * 264813)) ≤ℤ (pos 904 *ℤ pos (2 ^ 48 - 1))
any_width l h a b = omega (arith, ints)

-- ---- three passes: the widths that each leaves
pub first_time : (r t : ℤ) → (pos 4 *ℤ r) ≤ℤ ((pos 7 *ℤ pos 212559274712979) +ℤ pos 807)
    → (pos SPEED *ℤ t) ≤ℤ ((pos (2 ^ 24) *ℤ r) +ℤ pos (2 * SPEED)) → (t +ℤ pos (904 * 264813)) ≤ℤ (pos 904 *ℤ pos 23027875089)
first_time r t h k = omega (arith, ints)

pub second_time : (r t : ℤ) → (pos 4 *ℤ r) ≤ℤ ((pos 7 *ℤ pos 23027875089) +ℤ pos 807)
    → (pos SPEED *ℤ t) ≤ℤ ((pos (2 ^ 24) *ℤ r) +ℤ pos (2 * SPEED)) → (t +ℤ pos (904 * 264813)) ≤ℤ (pos 904 *ℤ pos 2759538)
second_time r t h k = omega (arith, ints)

pub third_time : (r t : ℤ) → (pos 4 *ℤ r) ≤ℤ ((pos 7 *ℤ pos 2759538) +ℤ pos 807)
    → (pos SPEED *ℤ t) ≤ℤ ((pos (2 ^ 24) *ℤ r) +ℤ pos (2 * SPEED)) → t ≤ℤ pos (2 ^ 19)
third_time r t h k = omega (arith, ints)

-- ---- the last pass, from a box of 2^19 units: a coordinate is at most 265,393 wide
pub last_place : (t : ℤ) → t ≤ℤ pos (2 ^ 19) → (t +ℤ pos (904 * 264813)) ≤ℤ (pos 904 *ℤ pos 265393)
last_place t h = omega (arith, ints)

pub last_range : (r : ℤ) → (pos 4 *ℤ r) ≤ℤ ((pos 7 *ℤ pos 265393) +ℤ pos 807) → r ≤ℤ pos (2 ^ 19)
last_range r h = omega (arith, ints)

pub last_time : (r t : ℤ) → r ≤ℤ pos (2 ^ 19) → (pos SPEED *ℤ t) ≤ℤ ((pos (2 ^ 24) *ℤ r) +ℤ pos (2 * SPEED)) → t ≤ℤ pos (2 ^ 15)
last_time r t narrow time = omega (arith, ints)
