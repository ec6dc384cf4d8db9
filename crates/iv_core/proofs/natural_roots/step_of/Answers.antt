use Rattle.std.proofs.Common.{arith}
use Rattle.iv_core.proofs.NaturalRoots.{small_step}
use Rattle.iv_core.proofs.natural_roots.step_of.Goals as goal

pub returns : goal.returns
returns c = small_step _ _ (omega arith) (omega arith)
