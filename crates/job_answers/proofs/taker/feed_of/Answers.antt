use Rattle.std.proofs.Common.{◌∙◌, [], arith}
use Rattle.job_answers.proofs.taker.feed_of.Goals as goal

pub returns-clause-kept : goal.returns-clause-kept
returns-clause-kept c = (
  omega (arith, c.in_ok-take-2.ensures.counted, c.in_ok-take.ensures.counted, c.new-feed.ensures.taken),
  c.in_ok-take-2.ensures.system ∙ c.in_ok-take.ensures.system ∙ c.new-feed.ensures.system,
)

pub returns-clause-stands : goal.returns-clause-stands
returns-clause-stands c = (c.in_ok-take-2.ensures.stands c.args.line.now (c.in_ok-take.ensures.stands [] c.new-feed.ensures.stands), c.requires.reads)
