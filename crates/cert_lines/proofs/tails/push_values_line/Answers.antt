use Rattle.std.proofs.Common.{SFits, rules}
use Rattle.std.specs.Int.{w128}
use Rattle.std.proofs.lemmas.Int.{to_z-of_z}
use Rattle.cert_lines.proofs.Appends.{values_appended}
use Rattle.cert_lines.proofs.tails.push_values_line.Goals as goal

pub returns : goal.returns
returns c =
    let values = c.args.values in
    let p1_fits : SFits w128 values.p1 = search rules in
    let p2_fits : SFits w128 values.p2 = search rules in
    let top_fits : SFits w128 values.top = search rules in
    let first_pushed = rw (to_z-of_z w128 values.p1 p1_fits) at c.in_ok-push_number-2.ensures in
    let second_pushed = rw (to_z-of_z w128 values.p2 p2_fits) at c.in_ok-push_number-3.ensures in
    let top = rw (to_z-of_z w128 values.top top_fits) at c.in_ok-push_number-4.ensures in
    values_appended c.args.out.now.items _ _ _ _ _ _ values.h values.p1 values.p2 values.top c.in_ok-extend_from_slice.ensures.items c.in_ok-push_number.ensures first_pushed second_pushed top c.in_ok-push.ensures.items
