use Rattle.std.proofs.Common.{◌-◌, ◌^◌, pos, ◌+ℤ◌, ◌≤ℤ◌}
use Rattle.vector_bound.specs.Reaches.{IsRange}
use Rattle.vector_bound.proofs.reaches.least_reach.Given as goal

abbrev pub invariant-loop-turn : goal.invariant-loop-turn
invariant-loop-turn l = record {
  range : IsRange l.mu l.l l.k l.range;
  width : l.range.high ≤ℤ (l.range.low +ℤ pos (2 ^ (30 - l.turn)));
}
