-- What holds of an epoch's line.
use Rattle.gps_time.specs.declared.Tick.{Tick}
use Rattle.rinex2_obs.specs.declared.sat_names.NameList.{NameList}
use Rattle.rinex2_obs.specs.declared.epoch_lines.EpochLine.{EpochLine}
use Rattle.rinex2_obs.specs.declared.epoch_lines.EpochLine.TheVariants.{Blank, Event, Slips, Epoch}

-- of its tag and of the names in it
abbrev pub IfEpoch : EpochLine → (Tick → NameList → Type 0) → Type 0
IfEpoch Blank P = Unit {0}
IfEpoch (Event changes count) P = Unit {0}
IfEpoch (Slips count) P = Unit {0}
IfEpoch (Epoch tag power list) P = P tag list

abbrev pub IsNoEpoch : EpochLine → Type 0
IsNoEpoch Blank = Unit {0}
IsNoEpoch (Event changes count) = Unit {0}
IsNoEpoch (Slips count) = Unit {0}
IsNoEpoch (Epoch tag power list) = ⊥
