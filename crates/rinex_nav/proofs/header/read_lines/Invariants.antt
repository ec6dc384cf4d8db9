-- a line of the header is expected still
use Rattle.std.proofs.Common.{◌≡◌, length}
use Rattle.rinex_head.specs.declared.system.System.{System}
use Rattle.rinex_head.specs.LineRules.{rest_gives}
use Rattle.rinex_nav.specs.NavRules.{Head, nav_rules}
use Rattle.rinex_nav.proofs.header.read_lines.Given as goal

abbrev pub invariant-header : goal.invariant-header
invariant-header l = (system : System) → rest_gives (nav_rules system) l.fn.lines Head ≡ rest_gives (nav_rules system) l.lines Head

abbrev pub decreases-header : goal.decreases-header
decreases-header l = length l.lines.left
