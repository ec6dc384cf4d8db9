use Rattle.std.proofs.Common.{ℕ, ◌+◌, ◌-◌, ◌^◌, ◌<◌, ◌≤◌, pos, ◌≤ℤ◌}
use Rattle.lower_form.proofs.rounding.exponent_of.Given as goal

abbrev pub invariant-loop-h : goal.invariant-loop-h
invariant-loop-h l = record {
  few : l.h ≤ 76;
  least : (k : ℕ) → k < l.h → pos (2 ^ (50 + k)) ≤ℤ l.greatest;
}

abbrev pub decreases-loop-h : goal.decreases-loop-h
decreases-loop-h l = 77 - l.h
