use Rattle.std.proofs.Common.{◌≡◌, ◌+◌, ◌^◌, ◌<◌, ℕ, All, length}
use Rattle.obs_rows.specs.declared.units.TheConstants.{PHASES}
use Rattle.obs_rows.specs.BandSets.{phase_of}
use Rattle.obs_rows.specs.Ranges.{IsBelow}
use Rattle.integer_form.specs.FloatPoint.{item}
use Rattle.round_steps.specs.Shifts.{grown_shift}
use Rattle.round_steps.proofs.shifts.grown_arc.Given as goal

abbrev pub invariant-loop-band : goal.invariant-loop-band
invariant-loop-band l = record {
  whole : length l.shift ≡ PHASES;
  grown : (b : ℕ) → b < l.band → item l.shift b ≡ grown_shift l.arcs l.signals l.numbers l.k l.arc (phase_of b);
  below : (m : ℕ) → All (IsBelow m) l.arc.shift → 0 < m → (b : ℕ) → b < l.band → IsBelow (m + 2 ^ 30) (item l.shift b);
}
