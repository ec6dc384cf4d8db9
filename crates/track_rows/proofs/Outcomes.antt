-- What becomes of a pair, from what its calls answered.
use Rattle.std.proofs.Common.{◌≡◌, ℕ, ◌<◌, ◌≤◌, List, All, ℤ, arith, subst}
use Rattle.obs_rows.specs.declared.arcs.Arc.{Arc}
use Rattle.obs_rows.specs.declared.pair_rows.PairRows.{PairRows}
use Rattle.obs_rows.specs.Arcs.{AreArcs}
use Rattle.obs_rows.specs.Signals.{fine_signals}
use Rattle.obs_rows.specs.Unused.{HasUsedShifts}
use Rattle.integer_form.specs.declared.front_form.FrontForm.{FrontForm}
use Rattle.integer_form.specs.declared.faults.Place.{Place}
use Rattle.integer_form.specs.declared.faults.LowerFault.{LowerFault}
use Rattle.cert_data.specs.declared.tails.Tail.{Tail}
use Rattle.cert_data.specs.declared.outcomes.Stage.{Stage}
use Rattle.row_build.specs.PairRows.{ArePairRows}
use Rattle.row_build.specs.Far.{HasFarRow}
use Rattle.row_build.proofs.SessionLaws.{has_arcs}
use Rattle.obs_rows.proofs.ReceiverPointLaws.{receiver_is_point}
use Rattle.row_build.proofs.UnusedLaws.{used_rows}
use Rattle.round_steps.specs.Counts.{held}
use Rattle.round_steps.specs.Runs.{EndsEarly, coarse_alone}
use Rattle.track_form.specs.PairFronts.{IsFrontOfPair, IsRefusedPair}
use Rattle.track_rows.specs.PairRules.{TrackSetting, rows_setting, rules_of_pair}
use Rattle.track_rows.specs.Trials.{IsFew, IsSettledAt, IsLost, AreTried, IsTried, MayBeFar, IsWeak, IsWide, IsTrackedBy, FitsTrack, cause_of}

pub not_few : (t : TrackSetting) (pair : ℕ) → 4 ≤ held t.kept pair → IsFew t pair → ⊥
not_few t pair enough few = apart (held t.kept pair) enough few
  where
    apart : (n : ℕ) → 4 ≤ n → n < 4 → ⊥
    apart n h g = omega arith

-- ---- the coarse rounds end early
pub lost_early : (t : TrackSetting) (arcs : List Arc) (begun : ℕ → Type 0) (pair made : ℕ) (tail : Tail) → 4 ≤ held t.kept pair →
    EndsEarly (rules_of_pair t pair) (coarse_alone made) Stage.Coarse tail → IsLost t arcs begun pair (cause_of tail)
lost_early t arcs begun pair made (Tail.Unsettled entry) enough ends = (not_few t pair enough, (made, (entry, ends)))
lost_early t arcs begun pair made (Tail.Fixed h moved best top) enough ends =
    (not_few t pair enough, record { made = made; tail = Tail.Fixed h moved best top; declined = λ entry e. cc; ends = ends })
lost_early t arcs begun pair made (Tail.Unseparated h moved best top) enough ends =
    (not_few t pair enough, record { made = made; tail = Tail.Unseparated h moved best top; declined = λ entry e. cc; ends = ends })
lost_early t arcs begun pair made (Tail.Weak column pivot) enough ends = (not_few t pair enough, record { made = made; tail = Tail.Weak column pivot; declined = λ entry e. cc; ends = ends })
lost_early t arcs begun pair made (Tail.Overwidth place) enough ends = (not_few t pair enough, record { made = made; tail = Tail.Overwidth place; declined = λ entry e. cc; ends = ends })
lost_early t arcs begun pair made (Tail.Spent budget) enough ends = (not_few t pair enough, record { made = made; tail = Tail.Spent budget; declined = λ entry e. cc; ends = ends })

-- ---- they settle
pub is_tried : (t : TrackSetting) (arcs : List Arc) (begun : ℕ → Type 0) (pair : ℕ) (point : List ℤ) (tried : List Arc) →
    4 ≤ held t.kept pair → IsSettledAt t pair point → AreTried t arcs begun pair point tried → IsTried t arcs begun pair point tried
is_tried t arcs begun pair point tried enough settles are = record { enough = not_few t pair enough; settles = settles; are_tried = are }

-- the rows with the arcs of one list are those with the arcs of a list that is the same
pub rows_there : (t : TrackSetting) (pair : ℕ) (point : List ℤ) (given tried : List Arc) (rows : PairRows) → given ≡ tried →
    ArePairRows (rows_setting t given point 0) pair rows → ArePairRows (rows_setting t tried point 0) pair rows
rows_there t pair point given tried rows e are = subst (λ (l : List Arc). ArePairRows (rows_setting t l point 0) pair rows) e are

pub lost_far : (t : TrackSetting) (arcs : List Arc) (begun : ℕ → Type 0) (pair : ℕ) (point : List ℤ) (tried : List Arc) →
    IsTried t arcs begun pair point tried → HasFarRow (rows_setting t tried point 0) pair → MayBeFar t arcs begun pair
lost_far t arcs begun pair point tried trial far = record { point = point; tried = tried; is_tried = trial; far = far }

pub lost_weak : (t : TrackSetting) (arcs : List Arc) (begun : ℕ → Type 0) (pair : ℕ) (point : List ℤ) (tried : List Arc) (rows : PairRows) (column : ℕ) (pivot : ℤ) →
    IsTried t arcs begun pair point tried → ArePairRows (rows_setting t tried point 0) pair rows →
    IsRefusedPair t.kept (fine_signals t.signals) rows (LowerFault.Weak column pivot) → IsWeak t arcs begun pair
lost_weak t arcs begun pair point tried rows column pivot trial are refused =
    record { rows = rows; rows_are = record { point = point; tried = tried; is_tried = trial; rows_are = are }; column = column; pivot = pivot; refused = refused }

pub lost_wide : (t : TrackSetting) (arcs : List Arc) (begun : ℕ → Type 0) (pair : ℕ) (point : List ℤ) (tried : List Arc) (rows : PairRows) (place : Place) →
    IsTried t arcs begun pair point tried → ArePairRows (rows_setting t tried point 0) pair rows →
    IsRefusedPair t.kept (fine_signals t.signals) rows (LowerFault.Overwidth place) → IsWide t arcs begun pair
lost_wide t arcs begun pair point tried rows place trial are refused =
    record { rows = rows; rows_are = record { point = point; tried = tried; is_tried = trial; rows_are = are }; place = place; refused = refused }

pub tracked_by : (t : TrackSetting) (arcs : List Arc) (begun : ℕ → Type 0) (pair : ℕ) (point : List ℤ) (tried : List Arc) (rows : PairRows) (f : FrontForm) →
    IsTried t arcs begun pair point tried → ArePairRows (rows_setting t tried point 0) pair rows → IsFrontOfPair t.kept (fine_signals t.signals) rows f → IsTrackedBy t arcs begun pair point rows tried
tracked_by t arcs begun pair point tried rows f trial are front = record { is_tried = trial; rows_are = are; front = (f, front) }

pub fits_track : (t : TrackSetting) (pair : ℕ) (point : List ℤ) (tried : List Arc) (rows : PairRows) → IsSettledAt t pair point → AreArcs tried → All (HasUsedShifts (fine_signals t.signals)) tried →
    ArePairRows (rows_setting t tried point 0) pair rows → FitsTrack t.signals point rows tried
fits_track t pair point tried rows settles arcs used are = record {
  point_in = receiver_is_point point settles.1.in_reach;
  arcs_in = arcs;
  shifts_used = used;
  rows_have_arcs = has_arcs (rows_setting t tried point 0) pair rows are;
  rows_used = used_rows (rows_setting t tried point 0) pair rows are;
}
