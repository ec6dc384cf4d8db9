use Rattle.sim_jobs.proofs.Dates.{moment_is, ticks_are}
use Rattle.sim_jobs.proofs.written.new_year_law.Goals as goal

pub returns-clause-moment : goal.returns-clause-moment
returns-clause-moment c = moment_is

pub returns-clause-ticks : goal.returns-clause-ticks
returns-clause-ticks c = ticks_are
