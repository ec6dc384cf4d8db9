use Rattle.std.proofs.Common.{◌<◌, length, arith}
use Rattle.track_job.proofs.PairPlaces.{place_pushed}
use Rattle.track_job.proofs.places.push_places.Goals as goal

pub push_pair_place-requires-clause-point : goal.push_pair_place-requires-clause-point
push_pair_place-requires-clause-point c =
    let inside = c.loop-k-test.true in
    let each = c.requires.point_each in
    c.requires.points c.loop-k.k _ (omega arith)

pub push_pair_place-requires-clause-moved : goal.push_pair_place-requires-clause-moved
push_pair_place-requires-clause-moved c =
    let inside = c.loop-k-test.true in
    let each = c.requires.move_each in
    c.requires.moves c.loop-k.k _ (omega arith)

pub loop-k-preserved : goal.loop-k-preserved
loop-k-preserved c =
    let pairs = c.args.pairs.now in
    let points = c.args.points.now in
    let moves = c.args.moves.now in
    let k = c.loop-k.k in
    let inside = c.loop-k-test.true in
    let point_each = c.requires.point_each in
    let move_each = c.requires.move_each in
    let of_points : k < length points = omega arith in
    let of_moves : k < length moves = omega arith in
    place_pushed c.loop-k.text.items c.push_pair_place.new.text.items _ c.args.base.now pairs points moves k _ _ _ inside of_points of_moves c.in_ok-push_pair_place.ensures c.loop-k.invariant
