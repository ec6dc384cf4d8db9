use Rattle.sim_jobs.proofs.Truths.{by_entry}
use Rattle.sim_jobs.proofs.matches.has_truth.Goals as goal

pub returns-clause-free : goal.returns-clause-free
returns-clause-free c = λ a is free. by_entry c.args.truth.now c.args.arcs.now c.args.signals.now c.args.z.now c.args.k c.datum_of.result a _ _
    c.agrees.result c.requires.marked c.datum_of.ensures.inside c.datum_of.ensures.datum is c.agrees.ensures
