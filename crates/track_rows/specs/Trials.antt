-- How a pair is tried, and what becomes of it. Which arcs have begun is a fact of their numbers.
use Rattle.std.specs.Prelude.{◌≡◌, ◌≢◌, ◌<◌, ℕ, Bool, true, false, Some, List, All, slice_get, ℤ}
use Rattle.obs_rows.specs.declared.arcs.Arc.{Arc}
use Rattle.obs_rows.specs.declared.bands.Signals.{Signals}
use Rattle.obs_rows.specs.declared.pair_rows.PairRows.{PairRows}
use Rattle.obs_rows.specs.Arcs.{AreArcs}
use Rattle.obs_rows.specs.Pairs.{HasItsArcs}
use Rattle.obs_rows.specs.Ranges.{IsPoint}
use Rattle.obs_rows.specs.Signals.{fine_signals}
use Rattle.obs_rows.specs.Unused.{HasUsedRows, HasUsedShifts}
use Rattle.integer_form.specs.declared.faults.Place.{Place}
use Rattle.integer_form.specs.declared.faults.LowerFault.{LowerFault}
use Rattle.cert_data.specs.declared.tails.Tail.{Tail}
use Rattle.cert_data.specs.declared.outcomes.Stage.{Stage}
use Rattle.row_build.specs.HeldArcs.{holds_pair}
use Rattle.row_build.specs.Shifts.{AreFirstShifts}
use Rattle.row_build.specs.PairRows.{ArePairRows}
use Rattle.row_build.specs.Far.{HasFarRow}
use Rattle.round_steps.specs.Counts.{held}
use Rattle.round_steps.specs.Shifts.{AreSameArcs, without_shifts}
use Rattle.round_steps.specs.Runs.{EndsEarly, SettlesAt, coarse_alone}
use Rattle.track_data.specs.declared.lost.LostCause.{LostCause}
use Rattle.track_data.specs.declared.lost.LostCause.TheVariants.{Rows, Coarse, Unsettled, Y, Weak, Wide}
use Rattle.track_form.specs.PairFronts.{HasFront, IsRefusedPair}
use Rattle.track_rows.specs.declared.trials.Trial.{Trial}
use Rattle.track_rows.specs.declared.trials.Trial.TheVariants.{Lost, Tracked}
use Rattle.track_rows.specs.PairRules.{TrackSetting, rows_setting, rules_of_pair}

-- the pair has fewer than four rows
abbrev pub IsFew : TrackSetting → ℕ → Type 0
IsFew t pair = held t.kept pair < 4

-- ---- the coarse rounds
-- they settle at this point
abbrev pub IsSettledAt : TrackSetting → ℕ → List ℤ → Type 0
IsSettledAt t pair point = (made : ℕ) × SettlesAt (rules_of_pair t pair) made point

-- one of them is declined
pub record IsDeclined (t : TrackSetting) (pair : ℕ) : Type 0 where
  pub made : ℕ
  pub tail : Tail
  pub declined : (entry : ℤ) → tail ≢ Tail.Unsettled entry
  pub ends : EndsEarly (rules_of_pair t pair) (coarse_alone made) Stage.Coarse tail

-- the last that is allowed isn't settled
abbrev pub IsUnsettled : TrackSetting → ℕ → Type 0
IsUnsettled t pair = (made : ℕ) × ((entry : ℤ) × EndsEarly (rules_of_pair t pair) (coarse_alone made) Stage.Coarse (Tail.Unsettled entry))

-- by which cause the pair is lost whose coarse rounds end with this tail
abbrev pub cause_of : Tail → LostCause
cause_of (Tail.Unsettled entry) = Unsettled
cause_of (Tail.Fixed h moved best top) = Coarse
cause_of (Tail.Unseparated h moved best top) = Coarse
cause_of (Tail.Weak column pivot) = Coarse
cause_of (Tail.Overwidth place) = Coarse
cause_of (Tail.Spent budget) = Coarse

-- ---- shifts
-- the flag of the arc of this number is set
abbrev pub flagged : List Bool → ℕ → Type 0
flagged flags k = slice_get flags k ≡ Some true

-- The arcs with which a pair is tried at a point: those of the pair that have begun are as they were, the other arcs of the pair have shifts
-- with which their phases in it lie from -λ to λ
pub record AreTried (t : TrackSetting) (arcs : List Arc) (begun : ℕ → Type 0) (pair : ℕ) (point : List ℤ) (tried : List Arc) : Type 0 where
  pub same : AreSameArcs t.kept tried
  pub stayed : (k : ℕ) (a b : Arc) → slice_get arcs k ≡ Some a → slice_get tried k ≡ Some b → holds_pair a pair ≡ true → begun k → b ≡ a
  pub taken : (k : ℕ) (b : Arc) → slice_get tried k ≡ Some b → holds_pair b pair ≡ true → (begun k → ⊥) → AreFirstShifts (rows_setting t t.kept point 0) pair b.sat b.shift

-- the arcs that don't hold the pair are as they were
abbrev pub KeepsOthers : List Arc → ℕ → List Arc → Type 0
KeepsOthers arcs pair tried = (k : ℕ) (a b : Arc) → slice_get arcs k ≡ Some a → slice_get tried k ≡ Some b → holds_pair a pair ≡ false → b ≡ a

-- the same of one arc
pub record IsTriedArc (t : TrackSetting) (begun : Type 0) (pair : ℕ) (point : List ℤ) (a b : Arc) : Type 0 where
  pub same : without_shifts b ≡ without_shifts a
  pub stayed : begun → b ≡ a
  pub other : holds_pair a pair ≡ false → b ≡ a
  pub taken : holds_pair b pair ≡ true → (begun → ⊥) → AreFirstShifts (rows_setting t t.kept point 0) pair b.sat b.shift

-- ---- trials
-- the pair has rows enough, and is tried with these arcs where its coarse rounds settle
pub record IsTried (t : TrackSetting) (arcs : List Arc) (begun : ℕ → Type 0) (pair : ℕ) (point : List ℤ) (tried : List Arc) : Type 0 where
  pub enough : IsFew t pair → ⊥
  pub settles : IsSettledAt t pair point
  pub are_tried : AreTried t arcs begun pair point tried

-- the pair is tried, and its fine rows are these
pub record HasTriedRows (t : TrackSetting) (arcs : List Arc) (begun : ℕ → Type 0) (pair : ℕ) (rows : PairRows) : Type 0 where
  pub point : List ℤ
  pub tried : List Arc
  pub is_tried : IsTried t arcs begun pair point tried
  pub rows_are : ArePairRows (rows_setting t tried point 0) pair rows

-- the pair is tried, and one of its fine rows may be too far
pub record MayBeFar (t : TrackSetting) (arcs : List Arc) (begun : ℕ → Type 0) (pair : ℕ) : Type 0 where
  pub point : List ℤ
  pub tried : List Arc
  pub is_tried : IsTried t arcs begun pair point tried
  pub far : HasFarRow (rows_setting t tried point 0) pair

-- the front of the fine rows is refused. It doesn't depend on shifts
pub record IsWeak (t : TrackSetting) (arcs : List Arc) (begun : ℕ → Type 0) (pair : ℕ) : Type 0 where
  pub rows : PairRows
  pub rows_are : HasTriedRows t arcs begun pair rows
  pub column : ℕ
  pub pivot : ℤ
  pub refused : IsRefusedPair t.kept (fine_signals t.signals) rows (LowerFault.Weak column pivot)

pub record IsWide (t : TrackSetting) (arcs : List Arc) (begun : ℕ → Type 0) (pair : ℕ) : Type 0 where
  pub rows : PairRows
  pub rows_are : HasTriedRows t arcs begun pair rows
  pub place : Place
  pub refused : IsRefusedPair t.kept (fine_signals t.signals) rows (LowerFault.Overwidth place)

-- the first cause that holds
abbrev pub IsLost : TrackSetting → List Arc → (ℕ → Type 0) → ℕ → LostCause → Type 0
IsLost t arcs begun pair Rows = IsFew t pair
IsLost t arcs begun pair Coarse = (IsFew t pair → ⊥) × IsDeclined t pair
IsLost t arcs begun pair Unsettled = (IsFew t pair → ⊥) × IsUnsettled t pair
IsLost t arcs begun pair Y = MayBeFar t arcs begun pair
IsLost t arcs begun pair Weak = IsWeak t arcs begun pair
IsLost t arcs begun pair Wide = IsWide t arcs begun pair

-- with these arcs the pair has these rows at the point, and their front isn't refused
pub record IsTrackedBy (t : TrackSetting) (arcs : List Arc) (begun : ℕ → Type 0) (pair : ℕ) (point : List ℤ) (rows : PairRows) (tried : List Arc) : Type 0 where
  pub is_tried : IsTried t arcs begun pair point tried
  pub rows_are : ArePairRows (rows_setting t tried point 0) pair rows
  pub front : HasFront t.kept (fine_signals t.signals) rows

-- what became of a pair; where it is tracked, the arcs that don't hold it are as they were
abbrev pub IsTrialOf : TrackSetting → List Arc → (ℕ → Type 0) → ℕ → Trial → Type 0
IsTrialOf t arcs begun pair (Lost cause) = IsLost t arcs begun pair cause
IsTrialOf t arcs begun pair (Tracked point rows tried) = IsTrackedBy t arcs begun pair point rows tried.items × KeepsOthers arcs pair tried.items

-- ---- ranges
-- what the type of a track asks of a tracked pair and of the arcs as they are after it
pub record FitsTrack (signals : Signals) (point : List ℤ) (rows : PairRows) (tried : List Arc) : Type 0 where
  pub point_in : IsPoint point
  pub arcs_in : AreArcs tried
  pub shifts_used : All (HasUsedShifts (fine_signals signals)) tried
  pub rows_have_arcs : HasItsArcs tried rows
  pub rows_used : HasUsedRows (fine_signals signals) rows

abbrev pub Fits : Signals → Trial → Type 0
Fits signals (Lost cause) = Unit {0}
Fits signals (Tracked point rows tried) = FitsTrack signals point rows tried.items
