-- The rules of a run over what was screened of two files.
use Rattle.std.specs.Prelude.{◌≡◌, ℕ, List, Some, slice_get, ℤ}
use Rattle.obs_rows.specs.declared.arcs.Arc.{Arc}
use Rattle.obs_rows.specs.declared.bands.Signals.{Signals}
use Rattle.obs_rows.specs.declared.sessions.Session.{Session}
use Rattle.screening.specs.declared.sv_pair.SvPair.{SvPair}
use Rattle.row_build.specs.Rows.{setting}
use Rattle.row_build.specs.SessionRows.{AreSessionRows, HasFarPair}
use Rattle.row_build.specs.Shifts.{AreFirstShifts}
use Rattle.round_steps.specs.Shifts.{AreSameArcs}
use Rattle.round_steps.specs.Runs.{Rules}
use Rattle.obs_rows.specs.Rounds.{Round}

-- the session of this system has the kept arcs, with shifts of its own, and exactly the rows of `count` pairs, whose
-- satellites have these boxes
pub record HasRowsOf (boxes : List SvPair) (count : ℕ) (kept : List Arc) (position : List ℤ) (signals : Signals) (system : ℕ) (s : Session) : Type 0 where
  pub system_is : s.system ≡ system
  pub arcs_are : AreSameArcs kept s.arcs
  pub base_is : s.base ≡ position
  pub signals_are : s.signals ≡ signals
  pub rows : AreSessionRows (setting boxes s.arcs s.base s.point s.signals s.scale) count s.pairs

-- the kept arcs, each with shifts with which its phases lie from -λ to λ in its first pair; those of unused bands are 0
pub record HaveFirstShifts (boxes : List SvPair) (kept : List Arc) (position point : List ℤ) (signals : Signals) (arcs : List Arc) : Type 0 where
  pub same : AreSameArcs kept arcs
  pub near : (k : ℕ) (a b : Arc) → slice_get kept k ≡ Some a → slice_get arcs k ≡ Some b → AreFirstShifts (setting boxes kept position point signals 0) a.first a.sat b.shift

abbrev pub rules_of : List SvPair → ℕ → List Arc → List ℤ → Signals → ℕ → Rules
rules_of boxes count kept position signals system = record {
  base = position;
  arcs = kept;
  signals = signals;
  stands = HasRowsOf boxes count kept position signals system;
  begins = λ point arcs. HaveFirstShifts boxes kept position point signals arcs;
  may_be_wide = λ (r : Round). HasFarPair (setting boxes r.arcs position r.point signals r.scale);
}
