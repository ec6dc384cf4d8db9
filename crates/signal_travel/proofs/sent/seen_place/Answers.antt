use Rattle.std.proofs.Common.{◌≡◌, get_or, length, arith}
use Rattle.whole_math.proofs.Lists.{three_items}
use Rattle.orbit_model.specs.Places.{IsBetweenDistances}
use Rattle.signal_travel.proofs.PlaceBoxes.{away_within}
use Rattle.signal_travel.proofs.sent.seen_place.Goals as goal

three : (c : goal.After-index-seen-2) → length c.args.seen.now.place ≡ 3
three c = omega arith

away : (c : goal.After-index-seen-2) → IsBetweenDistances 18900000 38100000 (get_or c.args.seen.now.place 0 c.index-seen-0.result)
    (get_or c.args.seen.now.place 1 c.index-seen-1.result) (get_or c.args.seen.now.place 2 c.index-seen-2.result)
away c = c.args.seen.now.away (get_or c.args.seen.now.place 0 c.index-seen-0.result) (get_or c.args.seen.now.place 1 c.index-seen-1.result) (get_or c.args.seen.now.place 2 c.index-seen-2.result)
    (three_items c.args.seen.now.place c.index-seen-0.result c.index-seen-1.result c.index-seen-2.result (three c))

pub invariant_of-result : goal.invariant_of-result
invariant_of-result c =
    let three_coordinates : length c.args.seen.now.place ≡ 3 = three c in
    record {
      narrow = (
        c.args.seen.now.narrow 0 c.index-seen-0.result (omega arith),
        c.args.seen.now.narrow 1 c.index-seen-1.result (omega arith),
        c.args.seen.now.narrow 2 c.index-seen-2.result (omega arith),
      );
      within = away_within 18900000 38100000 (get_or c.args.seen.now.place 0 c.index-seen-0.result)
          (get_or c.args.seen.now.place 1 c.index-seen-1.result) (get_or c.args.seen.now.place 2 c.index-seen-2.result) (away c);
      away = away c;
    }
