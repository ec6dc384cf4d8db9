use Rattle.std.proofs.Common.{◌≡◌, length}
use Rattle.rinex_head.specs.declared.system.System.TheVariants.{Gps}
use Rattle.rinex_head.specs.LineRules.{rest_gives}
use Rattle.obs_fields.specs.HeaderRules.{First}
use Rattle.obs_fields.specs.OpenHeaders.{expected_in_header}
use Rattle.rinex2_obs.specs.Obs2Rules.{Head, obs2_rules}
use Rattle.rinex2_obs.proofs.header.read_header.Given as goal

abbrev pub invariant-header : goal.invariant-header
invariant-header l = rest_gives obs2_rules l.fn.lines (Head (First Gps)) ≡ rest_gives obs2_rules l.lines (Head (expected_in_header l.header))

abbrev pub decreases-header : goal.decreases-header
decreases-header l = length l.lines.left
