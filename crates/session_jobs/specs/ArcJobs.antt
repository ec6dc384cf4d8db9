-- What the command `arcs` ends with.
use Rattle.std.specs.Prelude.{◌≡◌, ℕ, ℤ, List, []}
use Rattle.obs_store.specs.declared.file.ObsFile.{ObsFile}
use Rattle.eph_store.specs.File.{Records}
use Rattle.obs_rows.specs.declared.arcs.Arc.{Arc}
use Rattle.obs_rows.specs.declared.bands.Signals.{Signals}
use Rattle.epoch_pair.specs.declared.pairs.PairOf.{PairOf}
use Rattle.obs_rows.specs.declared.used.UsedPair.{UsedPair}
use Rattle.slip_arcs.specs.Runs.{AreKept}
use Rattle.slip_arcs.specs.Linked.{HaveDatums}
use Rattle.orbit_model.specs.Elements.{world_of}
use Rattle.screening.specs.Screening.{setting_of, AreUsedPairs}
use Rattle.obs_rows.specs.declared.options.Options.{Options}
use Rattle.obs_rows.specs.BandSets.{bands_of}
use Rattle.epoch_pair.specs.Beginnings.{IsPosition, AreSignals, AreSparse, AreTaken}
use Rattle.report_text.specs.ArcLines.{arcs_text}
use Rattle.job_answers.specs.declared.status.Status.TheVariants.{Done}
use Rattle.job_answers.specs.Endings.{Ending, ending}

-- The kept arcs of the files: of the pairs that are taken the used satellites, by the base's position and the solutions of
-- the satellites' records with the constants of the system; and of these the arcs on the bands of the options that are long
-- enough, with the number of the shorter ones.
pub record AreArcsOf (base rover : ObsFile) (nav : Records) (options : Options) (kept : List Arc) (short : ℕ) : Type 0 where
  pub position : List ℤ
  pub position_is : IsPosition base position
  pub signals : Signals
  pub signals_are : AreSignals (bands_of options.bands) base rover signals
  pub sparse : AreSparse options.gap base rover
  pub taken : List PairOf
  pub taken_are : AreTaken base rover options taken
  pub used : List UsedPair
  pub used_are : AreUsedPairs (setting_of base nav signals options.mask (world_of options.system)) base.epochs rover.epochs taken used
  pub kept_are : AreKept (bands_of options.bands) options.jump options.arc used kept short
  pub datums : HaveDatums kept

pub record AnswersArcs (options : Options) (base rover : ObsFile) (nav : Records) (end : Ending) : Type 0 where
  pub kept : List Arc
  pub short : ℕ
  pub are : AreArcsOf base rover nav options kept short
  pub end_is : end ≡ ending Done (arcs_text options.system kept short) []
