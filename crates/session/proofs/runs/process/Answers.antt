use Rattle.std.proofs.lemmas.Result.{err_from_is_err_and}
use Rattle.session.proofs.runs.process.Goals as goal

pub finish_run-requires : goal.finish_run-requires
finish_run-requires c = record { base = c.args.base.now; rover = c.args.rover.now; records = c.args.nav.now; is = c.in_ok-started.ensures.start }

pub returns-clause-outcome : goal.returns-clause-outcome
returns-clause-outcome c = c.in_ok-out.ensures.outcome c.args.base.now c.args.rover.now c.args.nav.now c.in_ok-started.ensures.start

pub returns-in_err-out-clause-refused : goal.returns-in_err-out-clause-refused
returns-in_err-out-clause-refused c =
    let err_parts = err_from_is_err_and c.from_residual-in_err-out.result c.from_residual-in_err-out.ensures.1 in
    rw (err_parts.1, err_parts.2)
    ((c.in_ok-started.started.begun.position, c.in_ok-started.ensures.start.position_is), ((c.in_ok-started.started.begun.signals, c.in_ok-started.ensures.start.signals_are), c.in_ok-started.ensures.start.sparse))
