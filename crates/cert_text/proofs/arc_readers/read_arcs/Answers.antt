use Rattle.std.proofs.Common.{sym, ap, ◌∙◌, [], List}
use Rattle.std.proofs.lemmas.Result.{err_from_is_err_and}
use Rattle.rinex_head.proofs.LineRuleLaws.{handed_on}
use Rattle.obs_rows.specs.declared.arcs.Arc.{Arc}
use Rattle.rinex_head.specs.LineRules.{rest_gives}
use Rattle.cert_text.proofs.arc_readers.read_arcs.Goals as goal

pub returns-in_err-count-clause-reads : goal.returns-in_err-count-clause-reads
returns-in_err-count-clause-reads g c = λ s before counts taken.
    let err_parts = err_from_is_err_and c.from_residual.result c.from_residual.ensures.1 in
    rw (err_parts.1, err_parts.2) (c.in_err-count.ensures.reads s (λ n. before n []) counts)

pub returns-in_err-arcs-clause-reads : goal.returns-in_err-arcs-clause-reads
returns-in_err-arcs-clause-reads g c = λ s before counts taken.
    let err_parts = err_from_is_err_and c.from_residual-in_err-arcs.result c.from_residual-in_err-arcs.ensures.1 in
    rw (err_parts.1, err_parts.2) (handed_on _ _ c.in_err-arcs.field-0.0 (c.in_ok-count.ensures.reads s (λ n. before n []) counts) (c.in_err-arcs.ensures.reads before taken))

pub returns-clause-reads : goal.returns-clause-reads
returns-clause-reads g c = λ s before counts taken.
    c.in_ok-count.ensures.reads s (λ n. before n []) counts ∙ c.in_ok-arcs.ensures.reads before taken
    ∙ ap (λ (more : List Arc). rest_gives g.G.Grammar.rules c.read_arc_lines.new.lines (before 0 more)) (sym c.new.ensures)
