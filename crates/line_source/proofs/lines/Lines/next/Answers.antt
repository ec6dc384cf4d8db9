-- Where the first line is too long there is one.
use Rattle.line_source.specs.Lines.{lines_by}
use Rattle.line_source.proofs.StrictLines.{no_long}
use Rattle.line_source.proofs.lines.Lines.next.Goals as goal

pub returns-in-None-clause-ended : goal.returns-in-None-clause-ended
returns-in-None-clause-ended c = λ none.
    absurd (no_long (lines_by c.self.inside.ends c.self.inside.rest.now) c.in-None.ensures.lines (rw (← c.self.view_is) at none))
