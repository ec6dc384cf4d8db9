use Rattle.sim_jobs.proofs.SameWords.{one_navigation, base_differs, rover_differs}
use Rattle.sim_jobs.proofs.readings.same_words_law.Goals as goal

pub returns-clause-nav : goal.returns-clause-nav
returns-clause-nav c = one_navigation

pub returns-clause-base : goal.returns-clause-base
returns-clause-base c = base_differs

pub returns-clause-rover : goal.returns-clause-rover
returns-clause-rover c = rover_differs
