-- The outcome of two observation files and a navigation file.
use Rattle.std.specs.Prelude.{◌≡◌, ◌≤◌, ◌⊎◌, ◌↔◌, ℕ, IsTrue, List, length, map, ℤ}
use Rattle.obs_rows.specs.declared.bands.Signals.{Signals}
use Rattle.obs_rows.specs.declared.sessions.Session.{Session}
use Rattle.row_build.specs.Stands.{StandsForFiles}
use Rattle.obs_store.specs.declared.file.ObsFile.{ObsFile}
use Rattle.eph_store.specs.File.{Records}
use Rattle.epoch_pair.specs.declared.pairs.PairOf.{PairOf}
use Rattle.obs_rows.specs.BandSets.{bands_of}
use Rattle.obs_rows.specs.declared.limits.TheConstants.{MOST_KEPT_ARCS, MOST_PAIRS}
use Rattle.cert_data.specs.declared.outcomes.Outcome.{Outcome}
use Rattle.obs_rows.specs.declared.options.Options.{Options}
use Rattle.slip_arcs.specs.Linked.{IsCutOf}
use Rattle.row_build.specs.BasePseudoranges.{AreBasePseudoranges}
use Rattle.session.specs.declared.file_rounds.FileRounds.{FileRounds}
use Rattle.session.specs.declared.runs.RunStart.{RunStart}
use Rattle.epoch_pair.specs.Beginnings.{IsPosition, AreSignals, AreSparse, AreTaken, pairs_of}
use Rattle.session.specs.Answers.{HasDelta, IsAnswer}
use Rattle.session.specs.FileRules.{HasRowsOf, rules_of}
use Rattle.session.specs.Origins.{origin_of}
use Rattle.session.specs.ScreenedArcs.{AreScreenedArcs}

-- the files' rounds begin with what was screened of them, of the base's position and the signals
pub record AreScreened (base rover : ObsFile) (nav : Records) (options : Options) (position : List ℤ) (signals : Signals) (taken : List PairOf) (f : FileRounds) : Type 0 where
  pub position_is : f.position ≡ position
  pub signals_are : f.signals ≡ signals
  pub system_is : f.system ≡ options.system
  pub short : ℕ
  pub arcs_are : AreScreenedArcs base rover nav options signals taken f.screened f.kept short

-- the session stands for the files at its point, with its shifts and at its scale
abbrev pub StandsAsItIs : ObsFile → ObsFile → Records → Options → List ℤ → Signals → List PairOf → Session → Type 0
StandsAsItIs base rover nav options position signals taken s =
    StandsForFiles (origin_of base rover nav options position signals taken) s.point (map (λ a. a.shift) s.arcs) s.scale s

-- what a run over the files begins with
pub record IsRunStart (base rover : ObsFile) (nav : Records) (options : Options) (run : RunStart) : Type 0 where
  pub position_is : IsPosition base run.begun.position
  pub signals_are : AreSignals (bands_of options.bands) base rover run.begun.signals
  pub sparse : AreSparse options.gap base rover
  pub taken_are : AreTaken base rover options run.begun.taken.items
  pub few : length run.begun.taken.items ≤ MOST_PAIRS
  pub all_is : run.begun.all ≡ length (pairs_of base rover options)
  pub screened : AreScreened base rover nav options run.begun.position run.begun.signals run.begun.taken.items run.rounds
  pub cut : IsCutOf run.rounds.screened.used run.rounds.kept
  pub base_pseudoranges : AreBasePseudoranges run.rounds.screened.boxes run.rounds.position run.rounds.base_pseudoranges.items
  pub delta_is : IsTrue run.delta ↔ (HasDelta base ⊎ HasDelta rover)

-- it is that of some files
pub record MayRun (options : Options) (run : RunStart) : Type 0 where
  pub base : ObsFile
  pub rover : ObsFile
  pub records : Records
  pub is : IsRunStart base rover records options run

-- The counts, and the answer of a run over the kept arcs with its rounds. Each session that a round of the run may have stands for the files
pub record IsOutcome (base rover : ObsFile) (nav : Records) (options : Options) (out : Outcome) : Type 0 where
  pub position : List ℤ
  pub position_is : IsPosition base position
  pub signals : Signals
  pub signals_are : AreSignals (bands_of options.bands) base rover signals
  pub sparse : AreSparse options.gap base rover
  pub taken : List PairOf
  pub taken_are : AreTaken base rover options taken
  pub rounds : FileRounds
  pub screened : AreScreened base rover nav options position signals taken rounds
  pub stands : (s : Session) → HasRowsOf rounds.screened.boxes (length rounds.screened.used) rounds.kept rounds.position rounds.signals rounds.system s
      → StandsAsItIs base rover nav options position signals taken s
  pub taken_is : out.taken ≡ length taken
  pub all_is : out.all ≡ length (pairs_of base rover options)
  pub kept_is : out.kept ≡ length rounds.kept
  pub kept_few : out.kept ≤ MOST_KEPT_ARCS
  pub delta_is : IsTrue out.delta ↔ (HasDelta base ⊎ HasDelta rover)
  pub answer_is : IsAnswer (rules_of rounds.screened.boxes (length rounds.screened.used) rounds.kept rounds.position rounds.signals rounds.system) out.taken options out.rounds out.answer
