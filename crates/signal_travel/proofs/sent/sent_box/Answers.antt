use Rattle.std.proofs.Common.{◌≡◌, get_or, length, arith}
use Rattle.whole_math.proofs.Lists.{three_items}
use Rattle.orbit_model.specs.Places.{IsBetweenDistances}
use Rattle.signal_travel.proofs.PlaceBoxes.{away_within}
use Rattle.signal_travel.proofs.sent.sent_box.Goals as goal

three : (c : goal.After-index-sv-2) → length c.args.sv.now.place ≡ 3
three c = omega arith

away : (c : goal.After-index-sv-2) → IsBetweenDistances 19000000 38000000 (get_or c.args.sv.now.place 0 c.index-sv-0.result)
    (get_or c.args.sv.now.place 1 c.index-sv-1.result) (get_or c.args.sv.now.place 2 c.index-sv-2.result)
away c = c.args.sv.now.away (get_or c.args.sv.now.place 0 c.index-sv-0.result) (get_or c.args.sv.now.place 1 c.index-sv-1.result) (get_or c.args.sv.now.place 2 c.index-sv-2.result)
    (three_items c.args.sv.now.place c.index-sv-0.result c.index-sv-1.result c.index-sv-2.result (three c))

pub invariant_of-result : goal.invariant_of-result
invariant_of-result c =
    let three_coordinates : length c.args.sv.now.place ≡ 3 = three c in
    record {
      narrow = (c.args.sv.now.narrow 0 c.index-sv-0.result (omega arith), c.args.sv.now.narrow 1 c.index-sv-1.result (omega arith), c.args.sv.now.narrow 2 c.index-sv-2.result (omega arith));
      within = away_within 19000000 38000000 (get_or c.args.sv.now.place 0 c.index-sv-0.result) (get_or c.args.sv.now.place 1 c.index-sv-1.result)
          (get_or c.args.sv.now.place 2 c.index-sv-2.result) (away c);
      away = away c;
    }
