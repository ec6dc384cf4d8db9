-- What pairs are tried by, and the rules of the coarse rounds of one pair.
use Rattle.std.specs.Prelude.{◌≡◌, ◌<◌, ℕ, List, [], ◌∷◌, length, All, ℤ, pos}
use Rattle.obs_rows.specs.declared.arcs.Arc.{Arc}
use Rattle.obs_rows.specs.declared.bands.Signals.{Signals}
use Rattle.obs_rows.specs.declared.pair_rows.PairRows.{PairRows}
use Rattle.obs_rows.specs.declared.sessions.Session.{Session}
use Rattle.obs_rows.specs.Arcs.{AreArcs}
use Rattle.obs_rows.specs.Ranges.{IsSystem}
use Rattle.obs_rows.specs.ReceiverPoints.{IsReceiverPoint}
use Rattle.slip_arcs.specs.Linked.{IsCutOf}
use Rattle.screening.specs.declared.sv_pair.SvPair.{SvPair}
use Rattle.row_build.specs.BasePseudoranges.{AreBasePseudoranges}
use Rattle.row_build.specs.Rows.{RowSetting, setting}
use Rattle.row_build.specs.PairRows.{ArePairRows}
use Rattle.row_build.specs.Far.{HasFarRow}
use Rattle.round_steps.specs.Shifts.{AreSameArcs}
use Rattle.round_steps.specs.Runs.{Rules}
use Rattle.obs_rows.specs.Rounds.{Round}
use Rattle.track_rows.specs.declared.files.TrackFiles.{TrackFiles}

-- the satellites' boxes in all pairs, the kept arcs without shifts, the base's position, the signals and the system
pub record TrackSetting : Type 0 where
  pub boxes : List SvPair
  pub kept : List Arc
  pub position : List ℤ
  pub signals : Signals
  pub system : ℕ

-- rows of a pair by these, with the shifts of these arcs, at a point and a scale
abbrev pub rows_setting : TrackSetting → List Arc → List ℤ → ℕ → RowSetting
rows_setting t arcs point scale = setting t.boxes arcs t.position point t.signals scale

-- the session has the kept arcs, with shifts of its own, and exactly the rows of this one pair
pub record HasRowsOfPair (t : TrackSetting) (pair : ℕ) (s : Session) : Type 0 where
  pub system_is : s.system ≡ t.system
  pub base_is : s.base ≡ t.position
  pub signals_are : s.signals ≡ t.signals
  pub arcs_are : AreSameArcs t.kept s.arcs
  pub rows : PairRows
  pub alone : s.pairs ≡ rows ∷ []
  pub rows_are : ArePairRows (rows_setting t s.arcs s.point s.scale) pair rows

-- A run over the rows of one pair. It is asked for its coarse rounds alone, so nothing is said of the shifts of a fine one
abbrev pub rules_of_pair : TrackSetting → ℕ → Rules
rules_of_pair t pair = record {
  base = t.position;
  arcs = t.kept;
  signals = t.signals;
  stands = HasRowsOfPair t pair;
  begins = λ point arcs. AreSameArcs t.kept arcs;
  may_be_wide = λ (r : Round). HasFarRow (rows_setting t r.arcs r.point r.scale) pair;
}

abbrev pub setting_of : TrackFiles → TrackSetting
setting_of f = record { boxes = f.screened.now.boxes; kept = f.kept.now; position = f.position; signals = f.signals; system = f.system }

-- each arc's shifts are 0
abbrev pub AreUnshifted : List Arc → Type 0
AreUnshifted arcs = All (λ a. a.shift ≡ pos 0 ∷ pos 0 ∷ pos 0 ∷ []) arcs

-- what every trial rests on: the arcs are cut of the pairs that were screened, and are arcs of a session
pub record AreReady (f : TrackFiles) : Type 0 where
  pub cut : IsCutOf f.screened.now.used f.kept.now
  pub arcs : AreArcs f.kept.now
  pub unshifted : AreUnshifted f.kept.now
  pub position_in : IsReceiverPoint f.position
  pub base_pseudoranges : AreBasePseudoranges f.screened.now.boxes f.position f.base_pseudoranges.now
  pub system_is : IsSystem f.system

-- the pair of this number may be tried with these arcs: it is one of those that were screened, and they are the kept ones, with shifts
-- in their range
pub record MayBeTried (f : TrackFiles) (arcs : List Arc) (pair : ℕ) : Type 0 where
  pub ready : AreReady f
  pub arcs_are : AreArcs arcs
  pub same : AreSameArcs f.kept.now arcs
  pub pair_in : pair < length f.screened.now.used
