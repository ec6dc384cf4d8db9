use Rattle.std.proofs.Common.{◌≡◌, pos, negsuc, arith}
use Rattle.std.proofs.lemmas.Int.{ints}
use Rattle.int_search.specs.PlainCount.{side}
use Rattle.int_search.proofs.PointLaws.{side_up, side_down}
use Rattle.int_search.proofs.points.one_further.Goals as goal

pub returns-then-offset-le0-clause-value : goal.returns-then-offset-le0-clause-value
returns-then-offset-le0-clause-value c = let side_is_up : side c.args.offset ≡ pos 1 = side_up c.args.offset (omega (arith, ints)) in rw side_is_up (omega (arith, ints))

pub returns-clause-value : goal.returns-clause-value
returns-clause-value c = let down : side c.args.offset ≡ negsuc 0 = side_down c.args.offset (omega (arith, ints)) in rw down (omega (arith, ints))
