use Rattle.std.proofs.Common.{◌∙◌, arith}
use Rattle.std.proofs.lemmas.Result.{err_from_is_err_and}
use Rattle.session.proofs.FewArcs.{kept_few}
use Rattle.track_job.proofs.outcomes.track_outcome.Goals as goal

pub overflow_cast-result : goal.overflow_cast-result
overflow_cast-result c =
    let cut = c.in_ok-cut.cut in
    let few = kept_few cut.screened.used cut.arcs.kept c.in_ok-cut.ensures.cut cut.screened.ranges cut.screened.numbered cut.screened.few in
    omega (arith, few, c.len.ensures)

pub returns-clause-outcome : goal.returns-clause-outcome
returns-clause-outcome c =
    let cut = c.in_ok-cut.cut in
    record {
      position = c.in_ok-begun.begun.position;
      position_is = c.in_ok-begun.ensures.position;
      signals = c.in_ok-begun.begun.signals;
      signals_are = c.in_ok-begun.ensures.signals;
      sparse = c.in_ok-begun.ensures.sparse;
      taken = c.in_ok-begun.begun.taken.items;
      taken_are = c.in_ok-begun.ensures.taken;
      screened = cut.screened;
      kept = cut.arcs.kept;
      short = cut.arcs.short;
      arcs_are = c.in_ok-cut.ensures.screened;
      taken_is = c.len-taken.ensures ∙ c.in_ok-begun.begun.taken.ok.0;
      all_is = c.in_ok-begun.ensures.all;
      kept_is = c.len.ensures;
      delta_is = c.have_delta-delta.ensures;
      answer_is = c.in_ok-answered.ensures;
    }

pub returns-in_err-cut-clause-refused : goal.returns-in_err-cut-clause-refused
returns-in_err-cut-clause-refused c =
    let is_error = err_from_is_err_and c.from_residual-in_err-cut.result c.from_residual-in_err-cut.ensures.1 in
    rw (is_error.1, is_error.2)
    ((c.in_ok-begun.begun.position, c.in_ok-begun.ensures.position), ((c.in_ok-begun.begun.signals, c.in_ok-begun.ensures.signals), c.in_ok-begun.ensures.sparse))

pub returns-in_err-answered-clause-refused : goal.returns-in_err-answered-clause-refused
returns-in_err-answered-clause-refused c =
    let is_error = err_from_is_err_and c.from_residual-in_err-answered.result c.from_residual-in_err-answered.ensures.1 in
    rw (is_error.1, is_error.2)
    ((c.in_ok-begun.begun.position, c.in_ok-begun.ensures.position), ((c.in_ok-begun.begun.signals, c.in_ok-begun.ensures.signals), c.in_ok-begun.ensures.sparse))
