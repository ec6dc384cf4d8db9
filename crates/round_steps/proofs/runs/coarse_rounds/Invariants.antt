use Rattle.std.proofs.Common.{◌≡◌, ◌+◌, ◌-◌}
use Rattle.obs_rows.specs.declared.units.TheConstants.{COARSE_SCALE}
use Rattle.round_steps.specs.Runs.{AreSameRules, most_rounds}
use Rattle.round_steps.proofs.RunLaws.{CoarseSoFar}
use Rattle.round_steps.proofs.runs.coarse_rounds.Given as goal

abbrev pub invariant-rounds : goal.invariant-rounds
invariant-rounds g l = record {
  so_far : CoarseSoFar (g.R.Rounds.rules l.fn.rounds) l.point l.arcs l.made;
  rules : AreSameRules (g.R.Rounds.rules l.fn.rounds) (g.R.Rounds.rules l.rounds);
  ready : g.R.Rounds.ready l.rounds;
  sessions : g.R.Rounds.made l.rounds + 1 ≡ l.made;
}

abbrev pub decreases-rounds : goal.decreases-rounds
decreases-rounds g l = most_rounds COARSE_SCALE - l.made
