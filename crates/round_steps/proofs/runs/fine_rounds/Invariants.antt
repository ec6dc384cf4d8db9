use Rattle.std.proofs.Common.{◌≡◌, ◌+◌, ◌-◌}
use Rattle.round_steps.specs.Runs.{AreSameRules, most_rounds}
use Rattle.round_steps.proofs.RunLaws.{FineSoFar}
use Rattle.round_steps.proofs.runs.fine_rounds.Given as goal

abbrev pub invariant-rounds : goal.invariant-rounds
invariant-rounds g l = record {
  so_far : FineSoFar (g.R.Rounds.rules l.fn.rounds) l.point l.arcs.items l.coarse l.fine;
  rules : AreSameRules (g.R.Rounds.rules l.fn.rounds) (g.R.Rounds.rules l.rounds);
  ready : g.R.Rounds.ready l.rounds;
  sessions : g.R.Rounds.made l.rounds + 1 ≡ l.coarse + l.fine;
}

abbrev pub decreases-rounds : goal.decreases-rounds
decreases-rounds g l = most_rounds 0 - l.fine
