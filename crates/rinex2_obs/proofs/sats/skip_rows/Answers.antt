use Rattle.std.proofs.Common.{◌<◌, ◌+◌, ℕ, None, ◌∙◌, subst, arith}
use Rattle.std.proofs.lemmas.Result.{err_from_is_err_and}
use Rattle.obs_store.specs.Missing.{missing_values}
use Rattle.rinex_head.specs.declared.place.What.TheVariants.{Truncated}
use Rattle.rinex_head.proofs.LineRuleLaws.{takes, has_none, gives_less}
use Rattle.rinex2_obs.specs.Rows.{rows_of}
use Rattle.rinex2_obs.specs.Obs2Rules.{more_rows, obs2_rules}
use Rattle.rinex2_obs.proofs.Steps.{finish_rows, admit_other}
use Rattle.rinex2_obs.proofs.sats.skip_rows.Goals as goal

pub returns-in_err-next_line-clause-reads : goal.returns-in_err-next_line-clause-reads
returns-in_err-next_line-clause-reads c = λ epochs tag power sats names.
    let header = c.args.header.now in
    let at = c.loop-at._at in
    let less : at < rows_of header.types = subst (λ (n : ℕ). at < n) c.rows-at-end.ensures c.loop-at-test.true in
    let refusal = err_from_is_err_and c.from_residual.result c.from_residual.ensures.1 in
    rw (refusal.1, refusal.2) (c.loop-at.invariant.reads epochs tag power sats names
    ∙ has_none obs2_rules (more_rows header epochs tag power sats None names at missing_values) _ _ Truncated _
    (finish_rows header epochs tag power sats None names at missing_values less) c.in_err-next_line.ensures)

pub loop-at-preserved : goal.loop-at-preserved
loop-at-preserved c =
    let header = c.args.header.now in
    let at = c.loop-at._at in
    let less : at < rows_of header.types = subst (λ (n : ℕ). at < n) c.rows-at-end.ensures c.loop-at-test.true in
    let fewer = gives_less _ _ _ _ c.in_ok-next_line.ensures in
    record {
      reads = λ epochs tag power sats names. c.loop-at.invariant.reads epochs tag power sats names
          ∙ takes obs2_rules (more_rows header epochs tag power sats None names at missing_values) (more_rows header epochs tag power sats None names
          (at + 1) missing_values) _ _ _ _ c.in_ok-next_line.ensures (admit_other header epochs tag power sats names at missing_values _ less);
      less = omega (arith, fewer, c.loop-at.invariant.less);
      end = c.loop-at.invariant.end;
    }
