use Rattle.std.proofs.Common.{◌≡◌, [], length}
use Rattle.rinex_head.specs.LineRules.{rest_gives}
use Rattle.rinex2_obs.specs.Obs2Rules.{Body, obs2_rules}
use Rattle.rinex2_obs.proofs.body.read_epochs.Given as goal

abbrev pub invariant-epochs : goal.invariant-epochs
invariant-epochs l = rest_gives obs2_rules l.fn.lines (Body l.header []) ≡ rest_gives obs2_rules l.lines (Body l.header l.epochs)

abbrev pub decreases-epochs : goal.decreases-epochs
decreases-epochs l = length l.lines.left
