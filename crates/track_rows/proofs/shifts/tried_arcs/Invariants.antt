use Rattle.std.proofs.Common.{◌^◌, All}
use Rattle.obs_rows.specs.Signals.{fine_signals}
use Rattle.obs_rows.specs.Unused.{HasUsedShifts}
use Rattle.round_steps.specs.Shifts.{AreShiftsBelow}
use Rattle.track_rows.specs.PairRules.{setting_of}
use Rattle.track_rows.specs.Trials.{flagged}
use Rattle.track_rows.proofs.TriedArcs.{AreTriedTo}
use Rattle.track_rows.proofs.shifts.tried_arcs.Given as goal

abbrev pub invariant-loop-k : goal.invariant-loop-k
invariant-loop-k l = record {
  tried : AreTriedTo (setting_of l.files) l.arcs (flagged l.begun) l.pair l.point l.k l.tried.items;
  small : AreShiftsBelow (2 ^ 40) l.tried.items;
  used : All (HasUsedShifts (fine_signals l.files.signals)) l.tried.items;
}
