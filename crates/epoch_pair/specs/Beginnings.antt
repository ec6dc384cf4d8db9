-- What two files have in common before a run.
use Rattle.std.specs.Prelude.{◌≡◌, ℕ, List, Some, ℤ}
use Rattle.obs_rows.specs.declared.bands.Signals.{Signals}
use Rattle.obs_store.specs.declared.file.ObsFile.{ObsFile}
use Rattle.obs_store.specs.Epochs.{tags_of}
use Rattle.epoch_pair.specs.declared.pairs.PairOf.{PairOf}
use Rattle.epoch_pair.specs.declared.pairs.PairFault.{PairFault}
use Rattle.epoch_pair.specs.Pairs.{all_pairs, AreApart, IsTaken}
use Rattle.epoch_pair.specs.Faults.{IsDense}
use Rattle.epoch_pair.specs.Signals.{AreLettersOf, LacksLetter}
use Rattle.obs_rows.specs.BandSets.{bands_of}
use Rattle.obs_rows.specs.declared.options.Options.{Options}
use Rattle.obs_rows.specs.ReceiverPoints.{IsReceiverPoint}
use Rattle.epoch_pair.specs.declared.faults.PairWhat.TheVariants.{NoBasePosition, NoSignal, Dense}
use Rattle.epoch_pair.specs.declared.faults.SessionFault.{SessionFault}
use Rattle.epoch_pair.specs.declared.faults.SessionFault.TheVariants.{Refused, NoMemory}

-- the header has this position, from 6,000 km to 7,000 km from the Earth's centre
pub record IsPosition (file : ObsFile) (p : List ℤ) : Type 0 where
  pub there : file.position ≡ Some p
  pub in_reach : IsReceiverPoint p

abbrev pub HasPosition : ObsFile → Type 0
HasPosition file = (p : List ℤ) × IsPosition file p

abbrev pub LacksPosition : ObsFile → Type 0
LacksPosition file = HasPosition file → ⊥

-- on each of these bands the first letter for which both headers list code and phase, and 0 on any other
abbrev pub AreSignals : List ℕ → ObsFile → ObsFile → Signals → Type 0
AreSignals bands base rover s = AreLettersOf bands base.listed rover.listed s

abbrev pub HaveSignals : List ℕ → ObsFile → ObsFile → Type 0
HaveSignals bands base rover = (s : Signals) × AreSignals bands base rover s

-- one of these bands has no common code
abbrev pub LackSignal : List ℕ → ObsFile → ObsFile → Type 0
LackSignal bands base rover = LacksLetter bands base.listed rover.listed

-- the tags of both files are far enough apart
abbrev pub AreSparse : ℕ → ObsFile → ObsFile → Type 0
AreSparse gap base rover = AreApart gap (tags_of base.epochs) × AreApart gap (tags_of rover.epochs)

-- Why two files are refused: the base's position, else a band, else epochs that are too dense, each exactly where it is
-- so. Where memory runs out none of them is
abbrev pub IsSessionFault : ObsFile → ObsFile → Options → SessionFault → Type 0
IsSessionFault base rover o (Refused NoBasePosition) = LacksPosition base
IsSessionFault base rover o (Refused NoSignal) = HasPosition base × LackSignal (bands_of o.bands) base rover
IsSessionFault base rover o (Refused (Dense in_rover epoch)) =
    HasPosition base × (HaveSignals (bands_of o.bands) base rover × IsDense o.gap (tags_of base.epochs) (tags_of rover.epochs) in_rover epoch)
IsSessionFault base rover o NoMemory = HasPosition base × (HaveSignals (bands_of o.bands) base rover × AreSparse o.gap base rover)

abbrev pub fault_of : PairFault → SessionFault
fault_of (PairFault.Dense in_rover epoch) = Refused (Dense in_rover epoch)
fault_of PairFault.NoMemory = NoMemory

-- all pairs of the two files
abbrev pub pairs_of : ObsFile → ObsFile → Options → List PairOf
pairs_of base rover o = all_pairs o.gap (tags_of base.epochs) (tags_of rover.epochs)

-- those that are taken
abbrev pub AreTaken : ObsFile → ObsFile → Options → List PairOf → Type 0
AreTaken base rover o taken = IsTaken (pairs_of base rover o) o.first o.step o.count taken
