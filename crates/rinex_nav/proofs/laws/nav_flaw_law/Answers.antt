use Rattle.rinex_head.proofs.OwnFlawLaws.{own_flaw}
use Rattle.rinex_nav.specs.NavRules.{nav_rules}
use Rattle.rinex_nav.proofs.laws.nav_flaw_law.Goals as goal

pub returns : goal.returns
returns c = λ system lines at gives. own_flaw (nav_rules system) lines at gives
