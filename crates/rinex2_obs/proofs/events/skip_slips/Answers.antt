use Rattle.std.proofs.Common.{◌≡◌, ◌*◌, refl, ap, ◌∙◌, false}
use Rattle.std.proofs.lemmas.Result.{err_from_is_err_and}
use Rattle.rinex_head.specs.LineRules.{rest_gives}
use Rattle.rinex_head.proofs.LineRuleLaws.{reads_then}
use Rattle.rinex2_obs.specs.Rows.{rows_of, further_lines_of}
use Rattle.rinex2_obs.specs.Obs2Rules.{Expected, Body, more_lines, more_slips, obs2_rules}
use Rattle.rinex2_obs.proofs.events.skip_slips.Goals as goal

pub returns-in_err-skip_names-clause-reads : goal.returns-in_err-skip_names-clause-reads
returns-in_err-skip_names-clause-reads c = λ epochs.
    let header = c.args.header.now in
    let rows = c.args.count * rows_of header.types in
    let same : more_slips header epochs (further_lines_of c.args.count) rows ≡ more_slips header epochs c.further_lines.result rows = rw c.further_lines.ensures refl in
    let refusal = err_from_is_err_and c.from_residual.result c.from_residual.ensures.1 in
    rw (refusal.1, refusal.2) (ap (λ (s : Expected). rest_gives obs2_rules c.args.lines.now s) same ∙ c.in_err-skip_names.ensures.reads header epochs rows)

pub returns-clause-reads : goal.returns-clause-reads
returns-clause-reads c = λ epochs.
    let header = c.args.header.now in
    let rows = c.args.count * c.rows.result in
    let same : more_slips header epochs (further_lines_of c.args.count) (c.args.count * rows_of header.types) ≡ more_slips header epochs c.further_lines.result rows =
    rw (c.further_lines.ensures, c.rows.ensures) refl in
    let skipped = ap (λ (s : Expected). rest_gives obs2_rules c.args.lines.now s) same ∙ c.in_ok-skip_names.ensures.reads header epochs rows in
    reads_then obs2_rules (more_slips header epochs (further_lines_of c.args.count) (c.args.count * rows_of header.types)) (more_lines header epochs false rows)
    (λ u. Body header epochs) _ _ _ c.skip_lines.result skipped (c.skip_lines.ensures.reads header epochs)
