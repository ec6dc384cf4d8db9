-- What holds of the tag of an epoch's line.
use Rattle.gps_time.specs.declared.Tick.{Tick}
use Rattle.rinex_obs.specs.declared.epoch_lines.EpochLine.{EpochLine}
use Rattle.rinex_obs.specs.declared.epoch_lines.EpochLine.TheVariants.{Blank, Event, Epoch}

abbrev pub IfEpoch : EpochLine → (Tick → Type 0) → Type 0
IfEpoch Blank P = Unit {0}
IfEpoch (Event changes count) P = Unit {0}
IfEpoch (Epoch tag power count) P = P tag

abbrev pub IsNoEpoch : EpochLine → Type 0
IsNoEpoch Blank = Unit {0}
IsNoEpoch (Event changes count) = Unit {0}
IsNoEpoch (Epoch tag power count) = ⊥
