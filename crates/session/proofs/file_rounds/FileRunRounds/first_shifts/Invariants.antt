use Rattle.std.proofs.Common.{◌^◌, All}
use Rattle.obs_rows.specs.Signals.{fine_signals}
use Rattle.obs_rows.specs.Unused.{HasUsedShifts}
use Rattle.round_steps.specs.Shifts.{AreShiftsBelow}
use Rattle.session.proofs.FirstArcs.{AreFirstTo}
use Rattle.session.proofs.file_rounds.FileRunRounds.first_shifts.Given as goal

abbrev pub invariant-loop-k : goal.invariant-loop-k
invariant-loop-k l = record {
  first : AreFirstTo l.self.files.now.screened.boxes l.self.files.now.kept l.self.files.now.position l.point l.self.files.now.signals l.k l.arcs.items;
  size : AreShiftsBelow (2 ^ 39) l.arcs.items;
  used : All (HasUsedShifts (fine_signals l.self.files.now.signals)) l.arcs.items;
}
