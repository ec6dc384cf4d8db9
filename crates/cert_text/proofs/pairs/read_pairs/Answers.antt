use Rattle.std.proofs.Common.{◌∙◌}
use Rattle.std.proofs.lemmas.Result.{err_from_is_err_and}
use Rattle.rinex_head.proofs.LineRuleLaws.{handed_on}
use Rattle.obs_rows.specs.Signals.{fine_signals}
use Rattle.cert_text.specs.Rules.{frame, PairCount, before_pairs}
use Rattle.cert_text.proofs.LineLaws.{pair_count_taken}
use Rattle.cert_text.proofs.pairs.read_pairs.Goals as goal

pub returns-in_err-count-clause-reads : goal.returns-in_err-count-clause-reads
returns-in_err-count-clause-reads c = λ budget.
    let refusal = err_from_is_err_and c.from_residual.result c.from_residual.ensures.1 in
    let session = c.args.session in
    let its_frame = frame c.args.version budget (fine_signals session.signals) in
    rw (refusal.1, refusal.2) (c.in_err-count.ensures.reads (PairCount its_frame session.arcs) (λ n. before_pairs its_frame session.arcs n 0) (pair_count_taken its_frame session.arcs))

pub returns-in_err-whole-clause-reads : goal.returns-in_err-whole-clause-reads
returns-in_err-whole-clause-reads c = λ budget.
    let refusal = err_from_is_err_and c.from_residual-in_err-whole.result c.from_residual-in_err-whole.ensures.1 in
    let session = c.args.session in
    let its_frame = frame c.args.version budget (fine_signals session.signals) in
    let count = c.in_ok-count.ensures.reads (PairCount its_frame session.arcs) (λ n. before_pairs its_frame session.arcs n 0) (pair_count_taken its_frame session.arcs) in
    rw (refusal.1, refusal.2) (handed_on _ _ c.in_err-whole.field-0.0 count (c.in_err-whole.ensures.reads budget))

pub returns-clause-reads : goal.returns-clause-reads
returns-clause-reads c = λ budget.
    let session = c.args.session in
    let its_frame = frame c.args.version budget (fine_signals session.signals) in
    c.in_ok-count.ensures.reads (PairCount its_frame session.arcs) (λ n. before_pairs its_frame session.arcs n 0) (pair_count_taken its_frame session.arcs) ∙ c.in_ok-whole.ensures.reads budget
