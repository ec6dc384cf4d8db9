use Rattle.rinex_head.proofs.TextLines.{spelled_lines}
use Rattle.rinex_head.proofs.laws.text_lines_law.Goals as goal

pub returns : goal.returns
returns c = λ lines are. spelled_lines lines are
