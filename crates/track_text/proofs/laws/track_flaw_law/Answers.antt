use Rattle.rinex_head.proofs.OwnFlawLaws.{own_flaw}
use Rattle.line_source.specs.EndedLines.{ended_lines}
use Rattle.track_text.specs.Rules.{track_rules}
use Rattle.track_text.proofs.laws.track_flaw_law.Goals as goal

pub returns : goal.returns
returns c = λ text at gives. own_flaw track_rules (ended_lines text) at gives
