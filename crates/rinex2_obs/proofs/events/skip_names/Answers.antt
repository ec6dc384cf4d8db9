use Rattle.std.proofs.Common.{◌-◌, Ok, refl, ◌∙◌, ap, arith}
use Rattle.std.proofs.lemmas.Result.{err_from_is_err_and}
use Rattle.rinex_head.specs.declared.place.What.TheVariants.{Truncated}
use Rattle.rinex_head.specs.LineRules.{rest_gives}
use Rattle.rinex_head.proofs.LineRuleLaws.{goes_on, stops, has_none, gives_less}
use Rattle.rinex2_obs.specs.SatNames.{further_mark_of}
use Rattle.rinex2_obs.specs.Obs2Rules.{Expected, more_slips, obs2_rules}
use Rattle.rinex2_obs.proofs.Steps.{finish_slips, admit_slips, slips_all}
use Rattle.rinex2_obs.proofs.events.skip_names.Goals as goal

pub returns-in_err-line-clause-reads : goal.returns-in_err-line-clause-reads
returns-in_err-line-clause-reads c = λ h epochs rows.
    let refusal = err_from_is_err_and c.from_residual.result c.from_residual.ensures.1 in
    rw (refusal.1, refusal.2) (c.further.invariant.reads h epochs rows
    ∙ has_none obs2_rules (more_slips h epochs c.further.left rows) _ _ Truncated _ (finish_slips h epochs c.further.left rows c.further-test.true) c.in_err-line.ensures)

pub further-preserved : goal.further-preserved
further-preserved c =
    let bytes = c.in_ok-line.line.bytes.now in
    let left = c.further.left in
    let less = gives_less _ _ _ _ c.in_ok-line.ensures in
    record {
      reads = λ h epochs rows. c.further.invariant.reads h epochs rows
          ∙ goes_on obs2_rules (more_slips h epochs left rows) (more_slips h epochs (left - 1) rows) (further_mark_of bytes)
          (λ u. Ok (more_slips h epochs (left - 1) rows)) tt _ _ _ bytes c.in_ok-line.ensures (admit_slips h epochs left rows bytes c.further-test.true)
          c.in-Ok.ensures refl;
      less = omega arith;
    }

pub returns-in-Err-clause-reads : goal.returns-in-Err-clause-reads
returns-in-Err-clause-reads c = λ h epochs rows.
    let bytes = c.in_ok-line.line.bytes.now in
    let left = c.further.left in
    rw c.at.ensures (c.further.invariant.reads h epochs rows
    ∙ stops obs2_rules (more_slips h epochs left rows) (further_mark_of bytes) (λ u. Ok (more_slips h epochs (left - 1) rows)) _ _ _ _ bytes c.in_ok-line.ensures
    (admit_slips h epochs left rows bytes c.further-test.true) c.in-Err.ensures)

pub returns-clause-reads : goal.returns-clause-reads
returns-clause-reads c = λ h epochs rows. c.further.invariant.reads h epochs rows
    ∙ ap (λ (s : Expected). rest_gives obs2_rules c.further.lines s) (slips_all h epochs c.further.left rows c.further-test.false)
