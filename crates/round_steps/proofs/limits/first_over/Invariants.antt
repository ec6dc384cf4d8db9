use Rattle.std.proofs.Common.{ℕ, ◌<◌, ◌≤◌, unsigned_abs}
use Rattle.integer_form.specs.FloatPoint.{item}
use Rattle.round_steps.specs.Limits.{limit}
use Rattle.round_steps.proofs.limits.first_over.Given as goal

abbrev pub invariant-loop-column : goal.invariant-loop-column
invariant-loop-column l = (j : ℕ) → j < l.column → unsigned_abs (item l.numbers j) ≤ limit l.scale j
