use Rattle.std.proofs.lemmas.Result.{err_from_is_err_and}
use Rattle.session.proofs.runs.start_run.Goals as goal

pub returns-clause-start : goal.returns-clause-start
returns-clause-start c = record {
  position_is = c.in_ok-begun.ensures.position;
  signals_are = c.in_ok-begun.ensures.signals;
  sparse = c.in_ok-begun.ensures.sparse;
  taken_are = c.in_ok-begun.ensures.taken;
  few = c.in_ok-begun.ensures.few;
  all_is = c.in_ok-begun.ensures.all;
  screened = c.in_ok-rounds.ensures.screened;
  cut = c.in_ok-rounds.ensures.cut;
  base_pseudoranges = c.in_ok-rounds.ensures.base_pseudoranges;
  delta_is = c.have_delta-delta.ensures;
}

pub returns-in_err-rounds-clause-refused : goal.returns-in_err-rounds-clause-refused
returns-in_err-rounds-clause-refused c =
    let err_parts = err_from_is_err_and c.from_residual-in_err-rounds.result c.from_residual-in_err-rounds.ensures.1 in
    rw (err_parts.1, err_parts.2)
    ((c.in_ok-begun.begun.position, c.in_ok-begun.ensures.position), ((c.in_ok-begun.begun.signals, c.in_ok-begun.ensures.signals), c.in_ok-begun.ensures.sparse))
