use Rattle.rinex_head.proofs.OwnFlawLaws.{own_flaw}
use Rattle.file_jobs.specs.ZeroRules.{rows_rules}
use Rattle.file_jobs.proofs.zero_laws.rows_flaw_law.Goals as goal

pub returns : goal.returns
returns c = λ lines at gives. own_flaw rows_rules lines at gives
