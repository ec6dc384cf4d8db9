-- The first line and the others.
use Rattle.std.proofs.Common.{[], false}
use Rattle.rinex_head.proofs.LineRuleLaws.{reads_then}
use Rattle.rinex_nav.specs.NavRules.{First, Head, Body, nav_rules}
use Rattle.rinex_nav.proofs.Steps.{hands_on}
use Rattle.rinex_nav.proofs.header.read_header.Goals as goal

pub returns-in_err-read_first : goal.returns-in_err-read_first
returns-in_err-read_first c = hands_on c.args.system First (λ u. Body [] false) _ _ c.from_residual.result _ c.from_residual.ensures.1 c.in_err-read_first.ensures

pub returns : goal.returns
returns c = reads_then (nav_rules c.args.system) First Head (λ u. Body [] false) _ _ _ c.read_lines.result c.in_ok-read_first.ensures (c.read_lines.ensures c.args.system)
