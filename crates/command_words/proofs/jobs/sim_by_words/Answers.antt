use Rattle.command_words.proofs.OneJob.{no_sim}
use Rattle.command_words.proofs.jobs.sim_by_words.Goals as goal

pub returns-in-None-clause-usage : goal.returns-in-None-clause-usage
returns-in-None-clause-usage c = λ is job asked. no_sim c.args.part.now c.args.seed.now c.args.epochs.now c.args.sats.now c.args.given.now c.in-None.ensures.sim job asked
