use Rattle.std.proofs.Common.{◌^◌, pos}
use Rattle.orbit_model.specs.SeenPlaces.{Position, difference, square, point_of}
use Rattle.orbit_model.proofs.Changes.{range_change}
use Rattle.signal_travel.proofs.MeanDirections.{seen_square, seen_between, far_enough, near_enough, move_x, move_y, move_z, wider}
use Rattle.signal_travel.proofs.directions.direction_to.Goals as goal

pub length_by-range-requires-clause-between : goal.length_by-range-requires-clause-between
length_by-range-requires-clause-between c = seen_between c.args.seen.now.place c.vector_from-vector.result c.args.point.now c.args.seen.now.away c.vector_from-vector.ensures.holds

pub coordinate_spread-requires-clause-low : goal.coordinate_spread-requires-clause-low
coordinate_spread-requires-clause-low c = wider c.length_by-range.result.lo c.vector_from-vector.result.x.lo
    (c.length_by-range.ensures.reach (pos 524289) (c.vector_from-vector.ensures.width (pos (2 ^ 19)) c.args.seen.now.narrow)).0.0

pub coordinate_spread-requires-2-clause-low : goal.coordinate_spread-requires-2-clause-low
coordinate_spread-requires-2-clause-low c = wider c.length_by-range.result.lo c.vector_from-vector.result.y.lo
    (c.length_by-range.ensures.reach (pos 524289) (c.vector_from-vector.ensures.width (pos (2 ^ 19)) c.args.seen.now.narrow)).1.0

pub coordinate_spread-requires-3-clause-low : goal.coordinate_spread-requires-3-clause-low
coordinate_spread-requires-3-clause-low c = wider c.length_by-range.result.lo c.vector_from-vector.result.z.lo
    (c.length_by-range.ensures.reach (pos 524289) (c.vector_from-vector.ensures.width (pos (2 ^ 19)) c.args.seen.now.narrow)).2.0

pub returns : goal.returns
returns c = λ place move direction h m d.
    let receiver : Position = point_of c.args.point.now.x c.args.point.now.y c.args.point.now.z in
    let offset : Position = difference place receiver in
    let holds_vector = c.vector_from-vector.ensures.holds place h in
    let range_in_box = c.length_by-range.ensures.holds offset d.before holds_vector d.before_is in
    let square_between = seen_square c.args.seen.now.place c.args.point.now place c.args.seen.now.away h in
    let range_changes = range_change offset move d.before d.after (far_enough (square offset) square_between) (near_enough (square offset) square_between) m d.before_is d.after_is in (
      c.coordinate_spread.ensures offset.x move.x d.before d.after direction.x holds_vector.0 range_in_box (move_x move m) range_changes.0 range_changes.1 d.x_is,
      c.coordinate_spread-2.ensures offset.y move.y d.before d.after direction.y holds_vector.1 range_in_box (move_y move m) range_changes.0 range_changes.1 d.y_is,
      c.coordinate_spread-3.ensures offset.z move.z d.before d.after direction.z holds_vector.2 range_in_box (move_z move m) range_changes.0 range_changes.1 d.z_is,
    )
