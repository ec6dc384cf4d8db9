-- A number below 0 is none.
use Rattle.std.proofs.Common.{arith}
use Rattle.std.proofs.lemmas.Int.{ints}
use Rattle.eph_store.proofs.Signs.{below_whole}
use Rattle.eph_store.proofs.decimals.whole_up_to.Goals as goal

pub returns-then-d-lt0 : goal.returns-then-d-lt0
returns-then-d-lt0 c = λ n h is. below_whole n c.args.d (omega (arith, ints, c.if-d-lt0.true)) is
