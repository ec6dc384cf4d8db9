use Rattle.std.proofs.Common.{ℕ, ◌+◌, ◌^◌, ◌<◌}
use Rattle.round_steps.specs.Shifts.{AreShiftsBelow}
use Rattle.round_steps.proofs.ShiftLaws.{AreGrownTo}
use Rattle.round_steps.proofs.shifts.grown.Given as goal

abbrev pub invariant-loop-k : goal.invariant-loop-k
invariant-loop-k l = record {
  grown : AreGrownTo l.k l.arcs l.signals l.numbers l.after.items;
  below : (m : ℕ) → AreShiftsBelow m l.arcs → 0 < m → AreShiftsBelow (m + 2 ^ 30) l.after.items;
}
