use Rattle.std.proofs.Common.{ℕ, ◌+◌, ◌-◌}
use Rattle.std.proofs.lemmas.Result.{err_from_is_err_and}
use Rattle.obs_rows.specs.Signals.{fine_signals}
use Rattle.cert_text.specs.Rules.{cert_rules, frame, before_pairs, before_rows}
use Rattle.cert_text.proofs.LineLaws.{pair_taken, rows_taken}
use Rattle.cert_text.proofs.GrammarLaws.{reads_behind}
use Rattle.cert_text.proofs.RowSteps.{pair_renumbered}
use Rattle.cert_text.proofs.pairs.next_pair.Goals as goal

pub returns-in_err-head-clause-reads : goal.returns-in_err-head-clause-reads
returns-in_err-head-clause-reads c = λ budget.
    let p = err_from_is_err_and c.from_residual.result c.from_residual.ensures.1 in
    let its_frame = frame c.args.version budget (fine_signals c.args.signals) in
    let arcs = c.args.arcs.now in
    let left = c.args.left in
    let taken = pair_taken its_frame arcs left c.args.least c.requires.left in
    rw (p.1, p.2) (c.in_err-head.ensures.reads (before_pairs its_frame arcs left c.args.least) (λ p. before_rows its_frame arcs (left - 1) p.number p.count 0) taken)

pub returns-clause-reads : goal.returns-clause-reads
returns-clause-reads c = λ budget.
    let its_frame = frame c.args.version budget (fine_signals c.args.signals) in
    let arcs = c.args.arcs.now in
    let pair_head = c.in_ok-head.head in
    let left = c.args.left - 1 in
    let start = before_pairs its_frame arcs c.args.left c.args.least in
    let middle = before_rows its_frame arcs left pair_head.number pair_head.count 0 in
    let taken = pair_taken its_frame arcs c.args.left c.args.least c.requires.left in
    let head = c.in_ok-head.ensures.reads start (λ p. before_rows its_frame arcs left p.number p.count 0) taken in
    let after = before_pairs its_frame arcs left (pair_head.number + 1) in
    let rows = c.read_rows.ensures.reads (λ n least. before_rows its_frame arcs left pair_head.number n least) after (rows_taken its_frame arcs left pair_head.number) in
    pair_renumbered cert_rules _ (λ (n : ℕ). before_pairs its_frame arcs left (n + 1)) pair_head.number _ _ c.read_rows.result c.read_rows.ensures.number
    (reads_behind cert_rules start middle (λ p. after) _ _ _ c.read_rows.result head rows)
