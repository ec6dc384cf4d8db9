use Rattle.rinex_head.proofs.OwnFlawLaws.{own_flaw}
use Rattle.line_source.specs.EndedLines.{ended_lines}
use Rattle.cert_text.specs.Rules.{cert_rules}
use Rattle.cert_text.proofs.laws.cert_flaw_law.Goals as goal

pub returns : goal.returns
returns c = λ text at gives. own_flaw cert_rules (ended_lines text) at gives
