use Rattle.rinex_head.proofs.OwnFlawLaws.{own_flaw}
use Rattle.rinex_obs.specs.ObsRules.{obs_rules}
use Rattle.rinex_obs.proofs.laws.obs_flaw_law.Goals as goal

pub returns : goal.returns
returns c = λ system lines at gives. own_flaw (obs_rules system) lines at gives
