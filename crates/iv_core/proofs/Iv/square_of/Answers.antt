use Rattle.std.proofs.Common.{◌≡◌, ℕ, ◌+◌, ◌-◌, ◌^◌, ℤ, pos, ◌+ℤ◌, ◌-ℤ◌, ◌*ℤ◌, ◌≤ℤ◌, ◌<ℤ◌, arith, to_z, of_z, pow_pos, sym, subst₂}
use Rattle.std.specs.Int.{w128}
use Rattle.std.proofs.lemmas.Int.{ints, to_z-of_z}
use Rattle.whole_math.specs.Rational.{Rational, InBox, ◌*ʳ◌}
use Rattle.iv_core.specs.Boxes.{near_end, far_end}
use Rattle.whole_math.specs.Rounding.{floor_div, ceil_div}
use Rattle.whole_math.proofs.Rounding.{floor_le_ceil}
use Rattle.iv_core.specs.Intervals.{IsWithin, width_of}
use Rattle.iv_core.proofs.ProductLaws.{near_le_far, square_holds}
use Rattle.iv_core.proofs.Widths.{square_width}
use Rattle.iv_core.proofs.Iv.square_of.Goals as goal

pub overflow_cast-lo : goal.overflow_cast-lo
overflow_cast-lo g c =
    let a = c.args.self.now in
    let s : ℕ = 2 ^ (g.row.K + g.row.K - g.row.B) in
    let u : ℤ = floor_div (near_end a.lo a.hi *ℤ near_end a.lo a.hi) s in
    let v : ℤ = ceil_div (far_end a.lo a.hi *ℤ far_end a.lo a.hi) s in
    let low_is : to_z w128 (of_z w128 c.floor_shift-lo.result) ≡ u = grind (arith, to_z-of_z) in
    let ends_ordered : u ≤ℤ v = floor_le_ceil (near_end a.lo a.hi *ℤ near_end a.lo a.hi) (far_end a.lo a.hi *ℤ far_end a.lo a.hi) s (pow_pos (g.row.K + g.row.K - g.row.B)) (near_le_far a.lo a.hi a.ordered) in
    omega (arith, ints, low_is, ends_ordered, c.requires.low, c.requires.high)

pub overflow_cast-hi : goal.overflow_cast-hi
overflow_cast-hi g c =
    let a = c.args.self.now in
    let s : ℕ = 2 ^ (g.row.K + g.row.K - g.row.B) in
    let u : ℤ = floor_div (near_end a.lo a.hi *ℤ near_end a.lo a.hi) s in
    let v : ℤ = ceil_div (far_end a.lo a.hi *ℤ far_end a.lo a.hi) s in
    let high_is : to_z w128 (of_z w128 c.ceil_shift-hi.result) ≡ v = grind (arith, to_z-of_z) in
    let ends_ordered : u ≤ℤ v = floor_le_ceil (near_end a.lo a.hi *ℤ near_end a.lo a.hi) (far_end a.lo a.hi *ℤ far_end a.lo a.hi) s (pow_pos (g.row.K + g.row.K - g.row.B)) (near_le_far a.lo a.hi a.ordered) in
    omega (arith, ints, high_is, ends_ordered, c.requires.low, c.requires.high)

pub from_ends-requires : goal.from_ends-requires
from_ends-requires g c =
    let a = c.args.self.now in
    let s : ℕ = 2 ^ (g.row.K + g.row.K - g.row.B) in
    let u : ℤ = floor_div (near_end a.lo a.hi *ℤ near_end a.lo a.hi) s in
    let v : ℤ = ceil_div (far_end a.lo a.hi *ℤ far_end a.lo a.hi) s in
    let low_is : to_z w128 (of_z w128 c.floor_shift-lo.result) ≡ u = grind (arith, to_z-of_z) in
    let high_is : to_z w128 (of_z w128 c.ceil_shift-hi.result) ≡ v = grind (arith, to_z-of_z) in
    let ends_ordered : u ≤ℤ v = floor_le_ceil (near_end a.lo a.hi *ℤ near_end a.lo a.hi) (far_end a.lo a.hi *ℤ far_end a.lo a.hi) s (pow_pos (g.row.K + g.row.K - g.row.B)) (near_le_far a.lo a.hi a.ordered) in (
      omega arith,
      (c.requires.scale, (omega (arith, ints, low_is, high_is, ends_ordered, c.requires.low, c.requires.high), (omega (arith, ints, low_is, high_is, ends_ordered, c.requires.low, c.requires.high), omega (arith, ints, low_is, high_is, ends_ordered, c.requires.low, c.requires.high)))),
    )

pub returns-clause-lo : goal.returns-clause-lo
returns-clause-lo g c =
    let a = c.args.self.now in
    let s : ℕ = 2 ^ (g.row.K + g.row.K - g.row.B) in
    let u : ℤ = floor_div (near_end a.lo a.hi *ℤ near_end a.lo a.hi) s in
    let v : ℤ = ceil_div (far_end a.lo a.hi *ℤ far_end a.lo a.hi) s in
    let low_is : to_z w128 (of_z w128 c.floor_shift-lo.result) ≡ u = grind (arith, to_z-of_z) in
    let ends_ordered : u ≤ℤ v = floor_le_ceil (near_end a.lo a.hi *ℤ near_end a.lo a.hi) (far_end a.lo a.hi *ℤ far_end a.lo a.hi) s (pow_pos (g.row.K + g.row.K - g.row.B)) (near_le_far a.lo a.hi a.ordered) in
    omega (arith, ints, low_is, ends_ordered, c.requires.low, c.requires.high, c.from_ends.ensures.lo)

pub returns-clause-hi : goal.returns-clause-hi
returns-clause-hi g c =
    let a = c.args.self.now in
    let s : ℕ = 2 ^ (g.row.K + g.row.K - g.row.B) in
    let u : ℤ = floor_div (near_end a.lo a.hi *ℤ near_end a.lo a.hi) s in
    let v : ℤ = ceil_div (far_end a.lo a.hi *ℤ far_end a.lo a.hi) s in
    let high_is : to_z w128 (of_z w128 c.ceil_shift-hi.result) ≡ v = grind (arith, to_z-of_z) in
    let ends_ordered : u ≤ℤ v = floor_le_ceil (near_end a.lo a.hi *ℤ near_end a.lo a.hi) (far_end a.lo a.hi *ℤ far_end a.lo a.hi) s (pow_pos (g.row.K + g.row.K - g.row.B)) (near_le_far a.lo a.hi a.ordered) in
    omega (arith, ints, high_is, ends_ordered, c.requires.low, c.requires.high, c.from_ends.ensures.hi)

pub returns-clause-holds : goal.returns-clause-holds
returns-clause-holds g c =
    let a = c.args.self.now in
    subst₂ (λ l h. (x : Rational) → InBox g.row.K a.lo a.hi x → InBox g.row.B l h (x *ʳ x)) (sym (returns-clause-lo g c)) (sym (returns-clause-hi g c))
    (square_holds g.row.K g.row.B a.lo a.hi c.requires.coarser)

pub returns-clause-width : goal.returns-clause-width
returns-clause-width g c =
    let a = c.args.self.now in
    let s : ℕ = 2 ^ (g.row.K + g.row.K - g.row.B) in
    subst₂ (λ l h. (m : ℕ) → IsWithin m a → (pos s *ℤ (h -ℤ l)) <ℤ (((pos 2 *ℤ pos m) *ℤ width_of a) +ℤ (pos 2 *ℤ pos s))) (sym (returns-clause-lo g c)) (sym (returns-clause-hi g c))
    (λ m i. square_width a.lo a.hi s m (pow_pos (g.row.K + g.row.K - g.row.B)) a.ordered i.0 i.1)
