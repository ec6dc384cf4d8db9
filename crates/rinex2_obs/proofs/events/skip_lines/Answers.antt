use Rattle.std.proofs.Common.{◌-◌, Ok, refl, ◌∙◌, arith}
use Rattle.std.proofs.lemmas.Result.{err_from_is_err_and}
use Rattle.rinex_head.specs.declared.place.What.TheVariants.{Truncated}
use Rattle.rinex_head.proofs.LineRuleLaws.{goes_on, stops, has_none, gives_less}
use Rattle.obs_fields.specs.declared.layout.Layout.TheVariants.{Rinex2}
use Rattle.obs_fields.specs.Labels.{event_line_of}
use Rattle.rinex2_obs.specs.Obs2Rules.{more_lines, obs2_rules}
use Rattle.rinex2_obs.proofs.Steps.{finish_lines, admit_lines}
use Rattle.rinex2_obs.proofs.events.skip_lines.Goals as goal

pub returns-in_err-line-clause-reads : goal.returns-in_err-line-clause-reads
returns-in_err-line-clause-reads c = λ h epochs.
    let refusal = err_from_is_err_and c.from_residual.result c.from_residual.ensures.1 in
    rw (refusal.1, refusal.2) (c.skipped.invariant.reads h epochs
    ∙ has_none obs2_rules (more_lines h epochs c.args.changes c.skipped.left) _ _ Truncated _ (finish_lines h epochs c.args.changes c.skipped.left c.skipped-test.true) c.in_err-line.ensures)

pub skipped-preserved : goal.skipped-preserved
skipped-preserved c =
    let bytes = c.in_ok-line.line.bytes.now in
    let left = c.skipped.left in
    let changes = c.args.changes in
    let less = gives_less _ _ _ _ c.in_ok-line.ensures in
    record {
      reads = λ h epochs. c.skipped.invariant.reads h epochs
          ∙ goes_on obs2_rules (more_lines h epochs changes left) (more_lines h epochs changes (left - 1)) (event_line_of Rinex2 changes bytes)
          (λ u. Ok (more_lines h epochs changes (left - 1))) tt _ _ _ bytes c.in_ok-line.ensures
          (admit_lines h epochs changes left bytes c.skipped-test.true) c.in-Ok.ensures refl;
      less = omega arith;
    }

pub returns-in-Err-clause-reads : goal.returns-in-Err-clause-reads
returns-in-Err-clause-reads c = λ h epochs.
    let bytes = c.in_ok-line.line.bytes.now in
    let left = c.skipped.left in
    let changes = c.args.changes in
    rw c.at.ensures (c.skipped.invariant.reads h epochs
    ∙ stops obs2_rules (more_lines h epochs changes left) (event_line_of Rinex2 changes bytes) (λ u. Ok (more_lines h epochs changes (left - 1))) _ _ _ _
    bytes c.in_ok-line.ensures (admit_lines h epochs changes left bytes c.skipped-test.true) c.in-Err.ensures)
