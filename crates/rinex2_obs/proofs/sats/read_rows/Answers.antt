use Rattle.std.proofs.Common.{◌<◌, ◌+◌, ℕ, Some, Ok, refl, sym, ◌∙◌, subst, arith}
use Rattle.std.proofs.lemmas.Result.{err_from_is_err_and}
use Rattle.rinex_head.specs.declared.place.What.TheVariants.{Truncated}
use Rattle.rinex_head.proofs.LineRuleLaws.{goes_on, stops, has_none, gives_less}
use Rattle.obs_fields.specs.declared.layout.Layout.TheVariants.{Rinex2}
use Rattle.obs_fields.specs.SatFields.{values_in}
use Rattle.rinex2_obs.specs.Rows.{rows_of}
use Rattle.rinex2_obs.specs.Obs2Rules.{more_rows, obs2_rules}
use Rattle.rinex2_obs.proofs.Steps.{finish_rows, admit_mine}
use Rattle.rinex2_obs.proofs.sats.read_rows.Goals as goal

pub returns-in_err-line-clause-reads : goal.returns-in_err-line-clause-reads
returns-in_err-line-clause-reads c = λ number epochs tag power sats names.
    let header = c.args.header.now in
    let at = c.loop-at.at in
    let values = c.loop-at.values in
    let less : at < rows_of header.types = subst (λ (n : ℕ). at < n) c.rows-at-end.ensures c.loop-at-test.true in
    let refusal = err_from_is_err_and c.from_residual.result c.from_residual.ensures.1 in
    rw (refusal.1, refusal.2) (c.loop-at.invariant.reads number epochs tag power sats names
    ∙ has_none obs2_rules (more_rows header epochs tag power sats (Some number) names at values) _ _ Truncated _
    (finish_rows header epochs tag power sats (Some number) names at values less) c.in_err-line.ensures)

pub returns-in-Err-clause-reads : goal.returns-in-Err-clause-reads
returns-in-Err-clause-reads c = λ number epochs tag power sats names.
    let header = c.args.header.now in
    let at = c.loop-at.at in
    let values = c.loop-at.values in
    let bytes = c.in_ok-line.line.bytes.now in
    let kept = c.args.kept.now in
    let less : at < rows_of header.types = subst (λ (n : ℕ). at < n) c.rows-at-end.ensures c.loop-at-test.true in
    rw c.at.ensures (c.loop-at.invariant.reads number epochs tag power sats names
    ∙ stops obs2_rules (more_rows header epochs tag power sats (Some number) names at values) (values_in Rinex2 at kept bytes values)
    (λ set. Ok (more_rows header epochs tag power sats (Some number) names (at + 1) set)) _ _ _ _ bytes c.in_ok-line.ensures
    (admit_mine kept header epochs tag power sats number names at values bytes c.requires.kept less) (sym c.in-Err.ensures.err))

pub loop-at-preserved : goal.loop-at-preserved
loop-at-preserved c =
    let header = c.args.header.now in
    let at = c.loop-at.at in
    let values = c.loop-at.values in
    let set = c.set_values.new.values in
    let bytes = c.in_ok-line.line.bytes.now in
    let kept = c.args.kept.now in
    let less : at < rows_of header.types = subst (λ (n : ℕ). at < n) c.rows-at-end.ensures c.loop-at-test.true in
    let fewer = gives_less _ _ _ _ c.in_ok-line.ensures in
    record {
      reads = λ number epochs tag power sats names. c.loop-at.invariant.reads number epochs tag power sats names
          ∙ goes_on obs2_rules (more_rows header epochs tag power sats (Some number) names at values)
          (more_rows header epochs tag power sats (Some number) names (at + 1) set) (values_in Rinex2 at kept bytes values)
          (λ set. Ok (more_rows header epochs tag power sats (Some number) names (at + 1) set)) set _ _ _ bytes c.in_ok-line.ensures
          (admit_mine kept header epochs tag power sats number names at values bytes c.requires.kept less) (sym c.in-Ok.ensures.ok) refl;
      less = omega (arith, fewer, c.loop-at.invariant.less);
      end = c.loop-at.invariant.end;
    }
