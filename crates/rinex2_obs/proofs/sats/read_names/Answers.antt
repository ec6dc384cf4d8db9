use Rattle.std.proofs.Common.{Ok, refl, ap, ◌∙◌, arith}
use Rattle.std.proofs.lemmas.Result.{err_from_is_err_and}
use Rattle.rinex_head.specs.declared.place.What.TheVariants.{Truncated}
use Rattle.rinex_head.specs.LineRules.{rest_gives}
use Rattle.rinex_head.proofs.LineRuleLaws.{goes_on, stops, has_none, gives_less}
use Rattle.rinex2_obs.specs.SatNames.{further_names_of}
use Rattle.rinex2_obs.specs.Obs2Rules.{Expected, more_names, obs2_rules}
use Rattle.rinex2_obs.proofs.Steps.{finish_names, admit_names, names_all}
use Rattle.rinex2_obs.proofs.sats.read_names.Goals as goal

pub returns-in_err-line-clause-reads : goal.returns-in_err-line-clause-reads
returns-in_err-line-clause-reads c = λ h epochs tag power.
    let names = c.names.list.names in
    let left = c.names.list.left in
    let refusal = err_from_is_err_and c.from_residual.result c.from_residual.ensures.1 in
    rw (refusal.1, refusal.2) (c.names.invariant.reads h epochs tag power
    ∙ has_none obs2_rules (more_names h epochs tag power names left) _ _ Truncated _ (finish_names h epochs tag power names left c.names-test.true) c.in_err-line.ensures)

pub returns-in-Err-clause-reads : goal.returns-in-Err-clause-reads
returns-in-Err-clause-reads c = λ h epochs tag power.
    let bytes = c.in_ok-line.line.bytes.now in
    let names = c.names.list.names in
    let left = c.names.list.left in
    rw c.at.ensures (c.names.invariant.reads h epochs tag power
    ∙ stops obs2_rules (more_names h epochs tag power names left) (further_names_of bytes names left)
    (λ list. Ok (more_names h epochs tag power list.names list.left)) _ _ _ _ bytes c.in_ok-line.ensures
    (admit_names h epochs tag power names left bytes c.names-test.true) c.in-Err.ensures.value)

pub names-preserved : goal.names-preserved
names-preserved c =
    let bytes = c.in_ok-line.line.bytes.now in
    let names = c.names.list.names in
    let left = c.names.list.left in
    let list = c.in-Ok.list in
    let less = gives_less _ _ _ _ c.in_ok-line.ensures in
    record {
      reads = λ h epochs tag power. c.names.invariant.reads h epochs tag power
          ∙ goes_on obs2_rules (more_names h epochs tag power names left) (more_names h epochs tag power list.names list.left)
          (further_names_of bytes names left) (λ list. Ok (more_names h epochs tag power list.names list.left)) list _ _ _ bytes c.in_ok-line.ensures
          (admit_names h epochs tag power names left bytes c.names-test.true) c.in-Ok.ensures.value refl;
      less = omega arith;
      room = c.in-Ok.ensures.room;
    }

pub returns-clause-reads : goal.returns-clause-reads
returns-clause-reads c = λ h epochs tag power. c.names.invariant.reads h epochs tag power
    ∙ ap (λ (s : Expected). rest_gives obs2_rules c.names.lines s) (names_all h epochs tag power c.names.list.names c.names.list.left c.names-test.false)
