use Rattle.std.proofs.Common.{Ok, sym, ◌∙◌, refl, ℤ, List, take, codes, Err}
use Rattle.std.proofs.lemmas.Result.{err_from_is_err_and}
use Rattle.rinex_head.specs.declared.place.What.TheVariants.{BadLine}
use Rattle.rinex_head.proofs.LineRuleLaws.{has_none, goes_on, stops, reads_then}
use Rattle.cert_lines.specs.Forms.{vector_in}
use Rattle.cert_lines.specs.declared.ranges.TheConstants.{ENTRIES}
use Rattle.cert_text.specs.Rules.{cert_rules, frame, Tail, Second, End}
use Rattle.cert_text.specs.TailForms.{declined_in}
use Rattle.cert_text.proofs.GrammarLaws.{line_read_by}
use Rattle.cert_text.proofs.LineLaws.{admits_vectors, admits_declined}
use Rattle.cert_text.proofs.tail.read_tail.Goals as goal

pub returns-in_err-line-clause-reads : goal.returns-in_err-line-clause-reads
returns-in_err-line-clause-reads c = λ ss arcs is.
    let refusal = err_from_is_err_and c.from_residual.result c.from_residual.ensures.1 in
    rw (refusal.1, refusal.2) (has_none cert_rules (Tail (frame c.args.version c.args.budget ss) arcs) _ _ BadLine _ refl c.in_err-line.ensures)

pub returns-in_err-first-clause-reads : goal.returns-in_err-first-clause-reads
returns-in_err-first-clause-reads c = λ ss arcs is.
    let refusal = err_from_is_err_and c.from_residual-in_err-first.result c.from_residual-in_err-first.ensures.1 in
    let count = c.args.count in
    let its_frame = frame c.args.version c.args.budget ss in
    let line = c.in_ok-line.line.bytes.now in
    let admits = admits_vectors its_frame count arcs line is (sym c.begins.ensures ∙ c.if-begins.true) in
    let first = vector_in (codes "z1") count ENTRIES line in
    let at = c.in_err-first.field-0.0 in
    rw (refusal.1, refusal.2)
    (line_read_by cert_rules (Tail its_frame arcs) first (λ z. Second count) (λ (z : List ℤ). take count z) _ _ _ line (Err at) c.in_ok-line.ensures admits c.in_err-first.ensures.value)

pub returns-then-begins-clause-reads : goal.returns-then-begins-clause-reads
returns-then-begins-clause-reads c = λ ss arcs is.
    let count = c.args.count in
    let its_frame = frame c.args.version c.args.budget ss in
    let line = c.in_ok-line.line.bytes.now in
    let admits = admits_vectors its_frame count arcs line is (sym c.begins.ensures ∙ c.if-begins.true) in
    let part = vector_in (codes "z1") count ENTRIES line in
    let z = take count c.in_ok-first.first in
    let first = goes_on cert_rules (Tail its_frame arcs) (Second count) part (λ z. Ok (Second count)) z _ _ _ line c.in_ok-line.ensures admits (sym c.in_ok-first.ensures.value) refl in
    reads_then cert_rules (Tail its_frame arcs) (Second count) (λ t. End) _ _ _ c.read_vectors.result first c.read_vectors.ensures.reads

pub returns-in-Ok-clause-reads : goal.returns-in-Ok-clause-reads
returns-in-Ok-clause-reads c = λ ss arcs is.
    let its_frame = frame c.args.version c.args.budget ss in
    let line = c.in_ok-line.line.bytes.now in
    let admits = admits_declined its_frame arcs line (sym c.begins.ensures ∙ c.if-begins.false) in
    let part = declined_in c.args.version c.args.budget line in
    goes_on cert_rules (Tail its_frame arcs) End part (λ t. Ok End) c.in-Ok.tail _ _ _ line c.in_ok-line.ensures admits c.in-Ok.ensures.value refl

pub returns-in-Ok-clause-fits : goal.returns-in-Ok-clause-fits
returns-in-Ok-clause-fits c = λ ss arcs is. c.in-Ok.ensures.fits ss arcs

pub returns-in-Err-clause-reads : goal.returns-in-Err-clause-reads
returns-in-Err-clause-reads c = λ ss arcs is.
    let its_frame = frame c.args.version c.args.budget ss in
    let line = c.in_ok-line.line.bytes.now in
    let admits = admits_declined its_frame arcs line (sym c.begins.ensures ∙ c.if-begins.false) in
    let part = declined_in c.args.version c.args.budget line in
    rw c.at.ensures (stops cert_rules (Tail its_frame arcs) part (λ t. Ok End) _ _ _ _ line c.in_ok-line.ensures admits c.in-Err.ensures.value)
