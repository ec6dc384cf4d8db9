use Rattle.rinex_head.proofs.OwnFlawLaws.{own_flaw}
use Rattle.rinex2_obs.specs.Obs2Rules.{obs2_rules}
use Rattle.rinex2_obs.proofs.laws.obs2_flaw_law.Goals as goal

pub returns : goal.returns
returns c = λ lines at gives. own_flaw obs2_rules lines at gives
