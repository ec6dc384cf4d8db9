use Rattle.sim_jobs.proofs.TextReadings.{base_reads, rover_reads, navigation_reads}
use Rattle.sim_jobs.proofs.readings.reading_law.Goals as goal

pub returns-clause-base : goal.returns-clause-base
returns-clause-base c = base_reads

pub returns-clause-rover : goal.returns-clause-rover
returns-clause-rover c = rover_reads

pub returns-clause-nav : goal.returns-clause-nav
returns-clause-nav c = navigation_reads
