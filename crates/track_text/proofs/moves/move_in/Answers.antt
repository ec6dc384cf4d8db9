use Rattle.std.proofs.Common.{◌<◌, ◌^◌, refl, arith}
use Rattle.track_text.proofs.MoveLaws.{move_spelled, moves_below}
use Rattle.track_text.proofs.moves.move_in.Goals as goal

pub returns-clause-spelled : goal.returns-clause-spelled
returns-clause-spelled c =
    let fits = c.ranges.number.fits in
    let few : c.args.number < 2 ^ 64 = omega (arith, fits) in
    move_spelled c.args.line.now c.in_ok-numbers.numbers c.as_slice-numbers.result.now _ c.number_at.result c.args.number _ c.each_within.result c.in_ok-numbers.ensures.value
    c.in_ok-numbers.ensures.count c.as_slice-numbers.ensures.value c.number_at.ensures c.in_ok-natural.ensures.exact c.in_ok-natural.ensures.in_range few refl
    c.each_within.ensures.value c.each_within.ensures.small

pub returns-clause-in_range : goal.returns-clause-in_range
returns-clause-in_range c = moves_below c.each_within.result c.each_within.ensures.in_range
