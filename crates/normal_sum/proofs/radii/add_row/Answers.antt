use Rattle.std.proofs.Common.{◌^◌, ◌<◌, length, ℤ, pos, ◌≤ℤ◌, arith, rules}
use Rattle.whole_math.proofs.Order.{lins}
use Rattle.obs_rows.specs.Data.{number_at}
use Rattle.normal_sum.proofs.Words.{from_w64, to_w64, from_w128, to_w128}
use Rattle.normal_sum.proofs.RadiusLaws.{radii_same, up_to, Added, added_is}
use Rattle.normal_sum.proofs.radii.add_row.Goals as goal

weak : (r : ℤ) → r ≤ℤ pos (2 ^ 20) → r ≤ℤ pos (2 ^ 35)
weak r h = omega (arith, lins)

pub plus_square-requires-clause-sum_from : goal.plus_square-requires-clause-sum_from
plus_square-requires-clause-sum_from c = from_w128 c.args.sums.u1 c.requires.sums.u1_from c.requires.sums.u1_to

pub plus_square-requires-clause-sum_to : goal.plus_square-requires-clause-sum_to
plus_square-requires-clause-sum_to c = to_w128 c.args.sums.u1 c.requires.sums.u1_from c.requires.sums.u1_to

pub plus_square-requires-clause-from : goal.plus_square-requires-clause-from
plus_square-requires-clause-from c = let first_there : 0 < length c.args.row.now.ru = search rules in let radius_bounds = c.args.row.now.ru_in 0 (pos 0) first_there in from_w64 (number_at c.args.row.now.ru 0) radius_bounds.0
    (weak (number_at c.args.row.now.ru 0) radius_bounds.1)

pub plus_square-requires-clause-to : goal.plus_square-requires-clause-to
plus_square-requires-clause-to c = let first_there : 0 < length c.args.row.now.ru = search rules in let radius_bounds = c.args.row.now.ru_in 0 (pos 0) first_there in to_w64 (number_at c.args.row.now.ru 0) radius_bounds.0 radius_bounds.1

pub plus_square-requires-2-clause-sum_from : goal.plus_square-requires-2-clause-sum_from
plus_square-requires-2-clause-sum_from c = from_w128 c.args.sums.u2 c.requires.sums.u2_from c.requires.sums.u2_to

pub plus_square-requires-2-clause-sum_to : goal.plus_square-requires-2-clause-sum_to
plus_square-requires-2-clause-sum_to c = to_w128 c.args.sums.u2 c.requires.sums.u2_from c.requires.sums.u2_to

pub plus_square-requires-2-clause-from : goal.plus_square-requires-2-clause-from
plus_square-requires-2-clause-from c = let second_there : 1 < length c.args.row.now.ru = search rules in let radius_bounds = c.args.row.now.ru_in 1 (pos 0) second_there in from_w64 (number_at c.args.row.now.ru 1) radius_bounds.0
    (weak (number_at c.args.row.now.ru 1) radius_bounds.1)

pub plus_square-requires-2-clause-to : goal.plus_square-requires-2-clause-to
plus_square-requires-2-clause-to c = let second_there : 1 < length c.args.row.now.ru = search rules in let radius_bounds = c.args.row.now.ru_in 1 (pos 0) second_there in to_w64 (number_at c.args.row.now.ru 1) radius_bounds.0 radius_bounds.1

pub plus_square-requires-3-clause-sum_from : goal.plus_square-requires-3-clause-sum_from
plus_square-requires-3-clause-sum_from c = from_w128 c.args.sums.u3 c.requires.sums.u3_from c.requires.sums.u3_to

pub plus_square-requires-3-clause-sum_to : goal.plus_square-requires-3-clause-sum_to
plus_square-requires-3-clause-sum_to c = to_w128 c.args.sums.u3 c.requires.sums.u3_from c.requires.sums.u3_to

pub plus_square-requires-3-clause-from : goal.plus_square-requires-3-clause-from
plus_square-requires-3-clause-from c = let third_there : 2 < length c.args.row.now.ru = search rules in let radius_bounds = c.args.row.now.ru_in 2 (pos 0) third_there in from_w64 (number_at c.args.row.now.ru 2) radius_bounds.0
    (weak (number_at c.args.row.now.ru 2) radius_bounds.1)

pub plus_square-requires-3-clause-to : goal.plus_square-requires-3-clause-to
plus_square-requires-3-clause-to c = let third_there : 2 < length c.args.row.now.ru = search rules in let radius_bounds = c.args.row.now.ru_in 2 (pos 0) third_there in to_w64 (number_at c.args.row.now.ru 2) radius_bounds.0 radius_bounds.1

pub plus_square-requires-4-clause-sum_from : goal.plus_square-requires-4-clause-sum_from
plus_square-requires-4-clause-sum_from c = from_w128 c.args.sums.y c.requires.sums.y_from c.requires.sums.y_to

pub plus_square-requires-4-clause-sum_to : goal.plus_square-requires-4-clause-sum_to
plus_square-requires-4-clause-sum_to c = to_w128 c.args.sums.y c.requires.sums.y_from c.requires.sums.y_to

pub returns-clause-value : goal.returns-clause-value
returns-clause-value c =
    let first_there : 0 < length c.args.row.now.ru = search rules in
    let second_there : 1 < length c.args.row.now.ru = search rules in
    let third_there : 2 < length c.args.row.now.ru = search rules in
    let first_bounds = c.args.row.now.ru_in 0 (pos 0) first_there in
    let second_bounds = c.args.row.now.ru_in 1 (pos 0) second_there in
    let third_bounds = c.args.row.now.ru_in 2 (pos 0) third_there in
    let signal_bounds = c.args.row.now.ry_in in
    let sums_bounded = c.requires.sums in
    radii_same _ _ _ _ _ _ _ _
    (added_is c.plus_square.result c.args.sums.u1 c.args.weight
    (number_at c.args.row.now.ru 0) sums_bounded.u1_from sums_bounded.u1_to c.requires.weight_from c.requires.weight_to first_bounds.0 first_bounds.1 c.plus_square.ensures.value c.plus_square.ensures.from c.plus_square.ensures.to).value
    (added_is c.plus_square-2.result c.args.sums.u2 c.args.weight
    (number_at c.args.row.now.ru 1) sums_bounded.u2_from sums_bounded.u2_to c.requires.weight_from c.requires.weight_to second_bounds.0 second_bounds.1 c.plus_square-2.ensures.value c.plus_square-2.ensures.from
    c.plus_square-2.ensures.to).value
    (added_is c.plus_square-3.result c.args.sums.u3 c.args.weight
    (number_at c.args.row.now.ru 2) sums_bounded.u3_from sums_bounded.u3_to c.requires.weight_from c.requires.weight_to third_bounds.0 third_bounds.1 c.plus_square-3.ensures.value c.plus_square-3.ensures.from
    c.plus_square-3.ensures.to).value
    (added_is c.plus_square-4.result c.args.sums.y c.args.weight c.args.row.now.ry sums_bounded.y_from sums_bounded.y_to c.requires.weight_from c.requires.weight_to signal_bounds.0 signal_bounds.1 c.plus_square-4.ensures.value
    c.plus_square-4.ensures.from c.plus_square-4.ensures.to).value

pub returns-clause-size : goal.returns-clause-size
returns-clause-size c =
    let first_there : 0 < length c.args.row.now.ru = search rules in
    let second_there : 1 < length c.args.row.now.ru = search rules in
    let third_there : 2 < length c.args.row.now.ru = search rules in
    let first_bounds = c.args.row.now.ru_in 0 (pos 0) first_there in
    let second_bounds = c.args.row.now.ru_in 1 (pos 0) second_there in
    let third_bounds = c.args.row.now.ru_in 2 (pos 0) third_there in
    let signal_bounds = c.args.row.now.ry_in in
    let sums_bounded = c.requires.sums in
    let first_added : Added c.plus_square.result c.args.sums.u1 c.args.weight (number_at c.args.row.now.ru 0) = added_is c.plus_square.result c.args.sums.u1 c.args.weight
    (number_at c.args.row.now.ru 0) sums_bounded.u1_from sums_bounded.u1_to c.requires.weight_from c.requires.weight_to first_bounds.0 first_bounds.1 c.plus_square.ensures.value c.plus_square.ensures.from c.plus_square.ensures.to in
    let second_added : Added c.plus_square-2.result c.args.sums.u2 c.args.weight (number_at c.args.row.now.ru 1) = added_is c.plus_square-2.result c.args.sums.u2 c.args.weight
    (number_at c.args.row.now.ru 1) sums_bounded.u2_from sums_bounded.u2_to c.requires.weight_from c.requires.weight_to second_bounds.0 second_bounds.1 c.plus_square-2.ensures.value c.plus_square-2.ensures.from c.plus_square-2.ensures.to in
    let third_added : Added c.plus_square-3.result c.args.sums.u3 c.args.weight (number_at c.args.row.now.ru 2) = added_is c.plus_square-3.result c.args.sums.u3 c.args.weight
    (number_at c.args.row.now.ru 2) sums_bounded.u3_from sums_bounded.u3_to c.requires.weight_from c.requires.weight_to third_bounds.0 third_bounds.1 c.plus_square-3.ensures.value c.plus_square-3.ensures.from c.plus_square-3.ensures.to in
    let signal_added : Added c.plus_square-4.result c.args.sums.y c.args.weight c.args.row.now.ry =
    added_is c.plus_square-4.result c.args.sums.y c.args.weight c.args.row.now.ry sums_bounded.y_from sums_bounded.y_to c.requires.weight_from c.requires.weight_to signal_bounds.0 signal_bounds.1 c.plus_square-4.ensures.value
    c.plus_square-4.ensures.from c.plus_square-4.ensures.to in
    λ m h. record {
      u1_from = first_added.from;
      u1_to = up_to _ c.args.sums.u1 m first_added.to h.u1_to;
      u2_from = second_added.from;
      u2_to = up_to _ c.args.sums.u2 m second_added.to h.u2_to;
      u3_from = third_added.from;
      u3_to = up_to _ c.args.sums.u3 m third_added.to h.u3_to;
      y_from = signal_added.from;
      y_to = up_to _ c.args.sums.y m signal_added.to h.y_to;
    }
