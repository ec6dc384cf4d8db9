use Rattle.std.proofs.lemmas.List.Elements.{All-push}
use Rattle.obs_rows.specs.UsedSats.{IsInRange}
use Rattle.pair_examples.proofs.slip_arcs_tests.add.Goals as goal

pub returns-clause-ranges : goal.returns-clause-ranges
returns-clause-ranges c = rw c.in_ok-push.ensures.items (All-push IsInRange _ _ c.requires.earlier c.requires.pair)
