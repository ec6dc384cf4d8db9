use Rattle.std.proofs.Common.{ℕ, ◌<◌}
use Rattle.round_steps.specs.Counts.{held}
use Rattle.round_steps.proofs.counts.are_few.Given as goal

abbrev pub invariant-loop-number : goal.invariant-loop-number
invariant-loop-number l = (k : ℕ) → k < l.number → held l.arcs k < 4
