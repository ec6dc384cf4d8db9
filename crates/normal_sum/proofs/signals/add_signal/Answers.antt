use Rattle.std.proofs.Common.{◌<◌, Option, IfSome, sym, ◌∙◌, subst, ℕ}
use Rattle.normal_sum.proofs.PlaceLaws.{sees_none}
use Rattle.normal_sum.proofs.signals.add_signal.Goals as goal

pub returns-in-None-clause-added : goal.returns-in-None-clause-added
returns-in-None-clause-added c = λ arcs ss are n i j h b g.
    c.add_code.ensures.added arcs ss (sees_none arcs ss c.args.signal c.args.pair.now.rows c.args.firsts.now c.args.phase c.in-None.is are) n i j h b g

pub add_phase-requires-clause-places : goal.add_phase-requires-clause-places
add_phase-requires-clause-places c = λ k. subst (λ (p : Option ℕ). IfSome p (λ i. i < c.args.integers)) (sym (c.places_of-places.ensures k)) (c.requires.places k)

pub returns-in-Some-clause-added : goal.returns-in-Some-clause-added
returns-in-Some-clause-added c = λ arcs ss are n i j h b g. c.add_phase.ensures.added arcs ss (λ k d l. c.places_of-places.ensures k ∙ are k d l) n i j h b g
