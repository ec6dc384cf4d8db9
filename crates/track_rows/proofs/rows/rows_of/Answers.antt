use Rattle.std.proofs.lemmas.Result.{err_from_is_err_and}
use Rattle.row_build.proofs.SessionLaws.{some_at}
use Rattle.row_build.specs.PairRows.{ArePairRows}
use Rattle.session.proofs.CutLaws.{cut_along}
use Rattle.track_rows.specs.PairRules.{rows_setting, setting_of}
use Rattle.track_rows.proofs.KeptArcs.{some_held}
use Rattle.track_rows.proofs.PairSessions.{is_there}
use Rattle.row_build.proofs.BasePseudorangeLaws.{no_sights}
use Rattle.track_rows.proofs.rows.rows_of.Goals as goal

pub unwrap-requires : goal.unwrap-requires
unwrap-requires c = is_there c.in_ok-rows.rows (λ none. some_held c.args.files.now.kept.now c.args.arcs.now c.args.pair c.requires.may.same c.requires.enough (c.in_ok-rows.ensures.none.0 none))

pub returns-clause-rows : goal.returns-clause-rows
returns-clause-rows c =
    some_at c.in_ok-rows.rows (ArePairRows (rows_setting (setting_of c.args.files.now) c.args.arcs.now c.args.point.now c.args.scale) c.args.pair)
    c.in_ok-rows.ensures.rows c.unwrap.result c.unwrap.ensures

pub returns-in_err-rows-clause-far : goal.returns-in_err-rows-clause-far
returns-in_err-rows-clause-far c = λ e.
    let answered = err_from_is_err_and c.from_residual.result c.from_residual.ensures.1 in
    c.in_err-rows.ensures.overwidth (cc (answered.1, answered.2, e))

pub invariant_of-from : goal.invariant_of-from
invariant_of-from c =
    let may = c.requires.may in
    let ready = may.ready in
    record {
      cut = ∣ cut_along c.args.files.now.screened.now.used c.args.files.now.kept.now c.args.arcs.now may.same ready.cut ∣₁;
      few = may.arcs_are.few;
      base_in = ready.position_in;
      point_in = c.requires.point;
      base_pseudoranges_hold = ∣ ready.base_pseudoranges ∣₁;
      sights_hold = no_sights c.args.files.now.screened.now.boxes c.args.point.now;
    }
