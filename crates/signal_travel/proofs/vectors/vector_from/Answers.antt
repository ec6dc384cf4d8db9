use Rattle.std.proofs.Common.{ℤ, pos, ◌+ℤ◌, ◌≤ℤ◌, arith}
use Rattle.std.proofs.lemmas.Int.{ints}
use Rattle.signal_travel.specs.VectorBoxes.{coordinate_of}
use Rattle.signal_travel.proofs.vectors.vector_from.Goals as goal

wider : (r a w : ℤ) → r ≤ℤ (a +ℤ pos 1) → a ≤ℤ w → r ≤ℤ (w +ℤ pos 1)
wider r a w h k = omega (arith, ints, h, k)

pub returns-clause-width : goal.returns-clause-width
returns-clause-width c = λ w h. (
  wider _ _ w c.offset_from.ensures.width h.0,
  wider _ _ w c.offset_from-2.ensures.width h.1,
  wider _ _ w c.offset_from-3.ensures.width h.2,
)

pub returns-clause-holds : goal.returns-clause-holds
returns-clause-holds c = λ p held.
    let point = c.args.point.now in (
      c.offset_from.ensures.holds p.x (coordinate_of point.x) held.0 point.held.0,
      c.offset_from-2.ensures.holds p.y (coordinate_of point.y) held.1 point.held.1,
      c.offset_from-3.ensures.holds p.z (coordinate_of point.z) held.2 point.held.2,
    )
