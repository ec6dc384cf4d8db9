-- a record is expected after those of the file
use Rattle.std.proofs.Common.{◌≡◌, [], false, length}
use Rattle.rinex_head.specs.LineRules.{rest_gives}
use Rattle.rinex_nav.specs.NavRules.{Body, nav_rules}
use Rattle.rinex_nav.proofs.body.read_records.Given as goal

abbrev pub invariant-records : goal.invariant-records
invariant-records l = rest_gives (nav_rules l.system) l.fn.lines (Body [] false) ≡ rest_gives (nav_rules l.system) l.lines (Body l.file.all l.skipping)

abbrev pub decreases-records : goal.decreases-records
decreases-records l = length l.lines.left
