use Rattle.std.proofs.Common.{◌≡◌, length, get_or, pos, lit≤, arith, sym, subst}
use Rattle.obs_rows.specs.ReceiverPoints.{IsReceiverPoint}
use Rattle.obs_rows.specs.declared.limits.TheConstants.{MOST_COORDINATE}
use Rattle.signal_travel.proofs.AboveLaws.{coordinate, cast_size}
use Rattle.signal_travel.proofs.PlaceLists.{read_point}
use Rattle.signal_travel.proofs.sent.point_at.Goals as goal

pub coordinate_box-requires : goal.coordinate_box-requires
coordinate_box-requires c =
    let three : length c.args.point.now ≡ 3 = omega arith in
    cast_size (get_or c.args.point.now 0 (pos 0)) MOST_COORDINATE (lit≤ tt) (coordinate c.args.point.now 0 (omega (arith, three)) c.requires)

pub coordinate_box-requires-2 : goal.coordinate_box-requires-2
coordinate_box-requires-2 c =
    let three : length c.args.point.now ≡ 3 = omega arith in
    cast_size (get_or c.args.point.now 1 (pos 0)) MOST_COORDINATE (lit≤ tt) (coordinate c.args.point.now 1 (omega (arith, three)) c.requires)

pub coordinate_box-requires-3 : goal.coordinate_box-requires-3
coordinate_box-requires-3 c =
    let three : length c.args.point.now ≡ 3 = omega arith in
    cast_size (get_or c.args.point.now 2 (pos 0)) MOST_COORDINATE (lit≤ tt) (coordinate c.args.point.now 2 (omega (arith, three)) c.requires)

pub invariant_of-result : goal.invariant_of-result
invariant_of-result c =
    let three : length c.args.point.now ≡ 3 = omega arith in
    record {
      receiver = subst IsReceiverPoint (sym (read_point c.args.point.now three c.requires)) c.requires;
      held = (c.coordinate_box.ensures.holds, c.coordinate_box-2.ensures.holds, c.coordinate_box-3.ensures.holds);
      boxes_within = (c.coordinate_box.ensures.size, c.coordinate_box-2.ensures.size, c.coordinate_box-3.ensures.size);
      boxes_narrow = (c.coordinate_box.ensures.width, c.coordinate_box-2.ensures.width, c.coordinate_box-3.ensures.width);
    }

pub returns : goal.returns
returns c =
    let three : length c.args.point.now ≡ 3 = omega arith in
    sym (read_point c.args.point.now three c.requires)
