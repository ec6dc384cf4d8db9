use Rattle.std.proofs.Common.{ℤ, List, take}
use Rattle.std.proofs.lemmas.Result.{err_from_is_err_and}
use Rattle.cert_lines.specs.Forms.{vector_in}
use Rattle.cert_lines.specs.declared.ranges.TheConstants.{ENTRIES}
use Rattle.cert_text.proofs.GrammarLaws.{line_wants, line_read_by}
use Rattle.cert_text.proofs.tail_readers.next_integers.Goals as goal

pub returns-in_err-line-clause-reads : goal.returns-in_err-line-clause-reads
returns-in_err-line-clause-reads g c = λ s next takes.
    let err_parts = err_from_is_err_and c.from_residual.result c.from_residual.ensures.1 in
    rw (err_parts.1, err_parts.2) (line_wants g.G.Grammar.rules s (vector_in c.args.word.now c.args.count ENTRIES) next _ _ _ takes c.in_err-line.ensures)

pub returns-clause-reads : goal.returns-clause-reads
returns-clause-reads g c = λ s next takes.
    let line = c.in_ok-line.line.bytes.now in
    let part = vector_in c.args.word.now c.args.count ENTRIES line in
    line_read_by g.G.Grammar.rules s part next (λ (z : List ℤ). take c.args.count z) _ _ _ line _ c.in_ok-line.ensures (takes.admits line) c.integers_in.ensures.value
