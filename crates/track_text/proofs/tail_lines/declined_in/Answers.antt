use Rattle.std.proofs.Common.{sym, ◌∙◌}
use Rattle.track_text.proofs.tail_lines.declined_in.Goals as goal

pub returns-clause-value : goal.returns-clause-value
returns-clause-value c = rw (sym c.begins.ensures ∙ c.if-begins.false, sym c.begins-2.ensures ∙ c.if-begins-2.false) c.overwidth_in.ensures.value
