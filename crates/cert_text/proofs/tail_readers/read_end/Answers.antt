use Rattle.std.proofs.lemmas.Result.{err_from_is_err_and}
use Rattle.rinex_head.proofs.LineRuleLaws.{refuses, has_long, ends_well}
use Rattle.cert_text.proofs.tail_readers.read_end.Goals as goal

pub returns-in_err-line : goal.returns-in_err-line
returns-in_err-line g c = λ s is.
    let err_parts = err_from_is_err_and c.from_residual.result c.from_residual.ensures.1 in
    rw (err_parts.1, err_parts.2) (has_long g.G.Grammar.rules s _ _ _ c.in_err-line.ensures)

pub returns-in-Some : goal.returns-in-Some
returns-in-Some g c = λ s is.
    let gives = rw c.in-Some.is at c.in_ok-line.ensures in
    let line = c.in-Some.line.bytes.now in
    rw c.at.ensures (refuses g.G.Grammar.rules s _ _ _ _ line gives (is.admits line))

pub returns-in-None : goal.returns-in-None
returns-in-None g c = λ s is.
    let ended = rw c.in-None.is at c.in_ok-line.ensures in
    (ends_well g.G.Grammar.rules s _ _ tt ended is.ends, ended.none)
