-- What was screened of two files, with the arcs that are kept of it.
use Rattle.std.specs.Prelude.{◌≡◌, ℕ, List, [], ◌∷◌, All, pos}
use Rattle.obs_rows.specs.declared.arcs.Arc.{Arc}
use Rattle.obs_rows.specs.declared.bands.Signals.{Signals}
use Rattle.obs_store.specs.declared.file.ObsFile.{ObsFile}
use Rattle.eph_store.specs.File.{Records}
use Rattle.epoch_pair.specs.declared.pairs.PairOf.{PairOf}
use Rattle.slip_arcs.specs.Runs.{AreKept}
use Rattle.slip_arcs.specs.Linked.{HaveDatums}
use Rattle.obs_rows.specs.BandSets.{bands_of}
use Rattle.orbit_model.specs.Elements.{world_of}
use Rattle.screening.specs.declared.screened.Screened.{Screened}
use Rattle.screening.specs.Screening.{setting_of, AreUsedPairs, IsSvPair}
use Rattle.obs_rows.specs.declared.options.Options.{Options}

-- the used satellites of the taken pairs with their boxes, and the arcs that are kept of them, with the number of shorter ones
pub record AreScreenedArcs (base rover : ObsFile) (nav : Records) (options : Options) (signals : Signals) (taken : List PairOf) (screened : Screened) (kept : List Arc) (short : ℕ) : Type 0 where
  pub used_are : AreUsedPairs (setting_of base nav signals options.mask (world_of options.system)) base.epochs rover.epochs taken screened.used
  pub boxes_are : All (IsSvPair (setting_of base nav signals options.mask (world_of options.system)) base.epochs rover.epochs taken) screened.boxes
  pub kept_are : AreKept (bands_of options.bands) options.jump options.arc screened.used kept short
  pub datums : HaveDatums kept
  pub shifts : All (λ a. a.shift ≡ pos 0 ∷ pos 0 ∷ pos 0 ∷ []) kept
