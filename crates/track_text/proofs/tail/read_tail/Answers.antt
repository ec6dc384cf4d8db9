use Rattle.std.proofs.Common.{◌++◌, ℕ, ℤ, List, take, codes, Ok, Err, refl, sym, ap, ◌∙◌}
use Rattle.std.proofs.lemmas.Result.{err_from_is_err_and}
use Rattle.rinex_head.specs.declared.place.What.TheVariants.{BadLine}
use Rattle.rinex_head.proofs.LineRuleLaws.{has_none, goes_on, stops}
use Rattle.cert_lines.specs.Forms.{vector_in}
use Rattle.cert_lines.specs.declared.ranges.TheConstants.{ENTRIES}
use Rattle.cert_text.proofs.GrammarLaws.{line_read_by, reads_behind}
use Rattle.track_text.specs.Rules.{track_rules, frame, numbers_of, Tail, Second, End}
use Rattle.track_text.specs.TailForms.{declined_in}
use Rattle.track_text.proofs.LineLaws.{admits_vectors, admits_declined}
use Rattle.track_text.proofs.tail.read_tail.Goals as goal

pub returns-in_err-line-clause-reads : goal.returns-in_err-line-clause-reads
returns-in_err-line-clause-reads c = λ ss arcs is.
    let is_error = err_from_is_err_and c.from_residual.result c.from_residual.ensures.1 in
    rw (is_error.1, is_error.2) (has_none track_rules (Tail (frame c.args.budget ss) arcs (numbers_of c.args.pairs.now)) _ _ BadLine _ refl c.in_err-line.ensures)

pub returns-in_err-first-clause-reads : goal.returns-in_err-first-clause-reads
returns-in_err-first-clause-reads c = λ ss arcs is.
    let is_error = err_from_is_err_and c.from_residual-in_err-first.result c.from_residual-in_err-first.ensures.1 in
    let count = c.args.count in
    let numbers = numbers_of c.args.pairs.now in
    let f = frame c.args.budget ss in
    let line = c.in_ok-line.line.bytes.now in
    let admits = admits_vectors f count arcs numbers line is (sym c.begins.ensures ∙ c.if-begins.true) in
    let first = vector_in (codes "z1") count ENTRIES line in
    let at = c.in_err-first.field-0.0 in
    rw (is_error.1, is_error.2)
    (line_read_by track_rules (Tail f arcs numbers) first (λ z. Second count numbers) (λ (z : List ℤ). take count z) _ _ _ line (Err at) c.in_ok-line.ensures admits c.in_err-first.ensures.value)

pub returns-then-begins-clause-reads : goal.returns-then-begins-clause-reads
returns-then-begins-clause-reads c = λ ss arcs is.
    let count = c.args.count in
    let numbers = numbers_of c.args.pairs.now in
    let f = frame c.args.budget ss in
    let line = c.in_ok-line.line.bytes.now in
    let admits = admits_vectors f count arcs numbers line is (sym c.begins.ensures ∙ c.if-begins.true) in
    let part = vector_in (codes "z1") count ENTRIES line in
    let z = take count c.in_ok-first.first in
    let first = goes_on track_rules (Tail f arcs numbers) (Second count numbers) part (λ z. Ok (Second count numbers)) z _ _ _ line c.in_ok-line.ensures admits (sym c.in_ok-first.ensures.value) refl in
    reads_behind track_rules (Tail f arcs numbers) (Second count numbers) (λ t. End) _ _ _ c.read_vectors.result first c.read_vectors.ensures.reads

pub returns-in-Ok-clause-reads : goal.returns-in-Ok-clause-reads
returns-in-Ok-clause-reads c = λ ss arcs is.
    let numbers = numbers_of c.args.pairs.now in
    let f = frame c.args.budget ss in
    let line = c.in_ok-line.line.bytes.now in
    let admits = admits_declined f arcs numbers line (sym c.begins.ensures ∙ c.if-begins.false) in
    let part = declined_in c.args.budget line in
    goes_on track_rules (Tail f arcs numbers) End part (λ t. Ok End) c.in-Ok.tail _ _ _ line c.in_ok-line.ensures admits c.in-Ok.ensures.value refl

pub returns-in-Ok-clause-took : goal.returns-in-Ok-clause-took
returns-in-Ok-clause-took c = c.in_ok-line.ensures.next ∙ ap (λ (l : List (List ℕ)). l ++ c.next_line.new.lines.left) (c.in-Ok.ensures.spelled c.args.pairs.now)

pub returns-in-Ok-clause-fits : goal.returns-in-Ok-clause-fits
returns-in-Ok-clause-fits c = λ ss arcs is. c.in-Ok.ensures.fits ss arcs c.args.pairs.now

pub returns-in-Err-clause-reads : goal.returns-in-Err-clause-reads
returns-in-Err-clause-reads c = λ ss arcs is.
    let numbers = numbers_of c.args.pairs.now in
    let f = frame c.args.budget ss in
    let line = c.in_ok-line.line.bytes.now in
    let admits = admits_declined f arcs numbers line (sym c.begins.ensures ∙ c.if-begins.false) in
    let part = declined_in c.args.budget line in
    rw c.at.ensures (stops track_rules (Tail f arcs numbers) part (λ t. Ok End) _ _ _ _ line c.in_ok-line.ensures admits c.in-Err.ensures.value)
