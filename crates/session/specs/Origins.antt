-- Where the sessions of two observation files and a navigation file come from.
use Rattle.std.specs.Prelude.{List, ℤ}
use Rattle.obs_store.specs.declared.file.ObsFile.{ObsFile}
use Rattle.eph_store.specs.File.{Records}
use Rattle.epoch_pair.specs.declared.pairs.PairOf.{PairOf}
use Rattle.obs_rows.specs.declared.bands.Signals.{Signals}
use Rattle.obs_rows.specs.BandSets.{bands_of}
use Rattle.orbit_model.specs.Elements.{world_of}
use Rattle.screening.specs.Screening.{setting_of}
use Rattle.row_build.specs.Stands.{Origin}
use Rattle.obs_rows.specs.declared.options.Options.{Options}

-- the files with these options, the base's position, the signals and the pairs that are taken of the files
abbrev pub origin_of : ObsFile → ObsFile → Records → Options → List ℤ → Signals → List PairOf → Origin
origin_of base rover nav options position signals taken = record {
  setting = setting_of base nav signals options.mask (world_of options.system);
  base = base.epochs;
  rover = rover.epochs;
  taken = taken;
  bands = bands_of options.bands;
  jump = options.jump;
  least = options.arc;
  system = options.system;
  position = position;
  signals = signals;
}
