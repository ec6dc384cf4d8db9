-- The first line.
use Rattle.std.proofs.Common.{refl}
use Rattle.rinex_head.proofs.LineRuleLaws.{reads_line, has_none}
use Rattle.rinex_head.specs.declared.place.What.TheVariants.{Version}
use Rattle.rinex_nav.specs.FirstLine.{first_line_of}
use Rattle.rinex_nav.specs.NavRules.{First, Head, nav_rules}
use Rattle.rinex_nav.proofs.Steps.{hands_on}
use Rattle.rinex_nav.proofs.header.read_first.Goals as goal

pub returns-in_err-line : goal.returns-in_err-line
returns-in_err-line c = hands_on c.args.system First (λ u. Head) _ _ c.from_residual.result _ c.from_residual.ensures.1
    (has_none (nav_rules c.args.system) First _ _ Version _ refl c.in_err-line.ensures)

pub returns : goal.returns
returns c = reads_line (nav_rules c.args.system) First (λ u. Head) _ _ _ c.in_ok-line.line.bytes.now
    (first_line_of c.args.system c.in_ok-line.line.bytes.now) c.first_line.result c.in_ok-line.ensures refl c.first_line.ensures
