use Rattle.std.proofs.lemmas.Result.{err_from_is_err_and}
use Rattle.cert_lines.specs.TailForms.{decision_line_in}
use Rattle.cert_text.proofs.GrammarLaws.{line_goes, line_stops, line_wants}
use Rattle.cert_text.proofs.lines.next_decision.Goals as goal

pub returns-in_err-line-clause-reads : goal.returns-in_err-line-clause-reads
returns-in_err-line-clause-reads g c = λ s next takes.
    let err_parts = err_from_is_err_and c.from_residual.result c.from_residual.ensures.1 in
    rw (err_parts.1, err_parts.2) (line_wants g.G.Grammar.rules s decision_line_in next _ _ _ takes c.in_err-line.ensures)

pub returns-in-Ok-clause-reads : goal.returns-in-Ok-clause-reads
returns-in-Ok-clause-reads g c = λ s next takes.
    line_goes g.G.Grammar.rules s decision_line_in next c.in-Ok.fixed _ _ _ c.in_ok-line.line.bytes.now takes c.in_ok-line.ensures c.in-Ok.ensures.value

pub returns-in-Err-clause-reads : goal.returns-in-Err-clause-reads
returns-in-Err-clause-reads g c = λ s next takes.
    rw c.at.ensures (line_stops g.G.Grammar.rules s decision_line_in next _ _ _ _ c.in_ok-line.line.bytes.now takes c.in_ok-line.ensures c.in-Err.ensures.value)
