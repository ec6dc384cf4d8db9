use Rattle.std.proofs.Common.{ℕ, ◌<◌, subst, below_more}
use Rattle.round_steps.specs.Counts.{held}
use Rattle.round_steps.proofs.counts.are_few.Goals as goal

pub loop-number-preserved : goal.loop-number-preserved
loop-number-preserved c = below_more (λ (k : ℕ). held c.args.arcs.now k < 4) c.loop-number.number c.loop-number.invariant (subst (λ (n : ℕ). n < 4) c.held.ensures c.if-held-ge-LEAST_SATELLITES.false)
