-- The options of a run that is asked for nothing in particular.
use Rattle.std.specs.Prelude.{◌≡◌, ℕ, ◌==◌, if◌then◌else◌}
use Rattle.obs_rows.specs.declared.defaults.TheConstants.{DEFAULT_SYSTEM, DEFAULT_RATIO, DEFAULT_BUDGET, DEFAULT_MASK, DEFAULT_GAP, DEFAULT_JUMP, DEFAULT_ARC, DEFAULT_STEP, DEFAULT_FIRST, DEFAULT_COUNT}
use Rattle.obs_rows.specs.declared.band_sets.TheConstants.{BANDS_L1_L2, BANDS_L1_L5}
use Rattle.obs_rows.specs.declared.options.TheConstants.{GALILEO}
use Rattle.obs_rows.specs.declared.options.Options.{Options}

-- the bands of a run whose words name none: L1 and L5 of Galileo, L1 and L2 of GPS
abbrev pub default_bands : ℕ → ℕ
default_bands system = if system == GALILEO then BANDS_L1_L5 else BANDS_L1_L2

pub record AreDefaults (o : Options) : Type 0 where
  pub bands : o.bands ≡ default_bands DEFAULT_SYSTEM
  pub system : o.system ≡ DEFAULT_SYSTEM
  pub ratio : o.ratio ≡ DEFAULT_RATIO
  pub budget : o.budget ≡ DEFAULT_BUDGET
  pub mask : o.mask ≡ DEFAULT_MASK
  pub gap : o.gap ≡ DEFAULT_GAP
  pub jump : o.jump ≡ DEFAULT_JUMP
  pub arc : o.arc ≡ DEFAULT_ARC
  pub step : o.step ≡ DEFAULT_STEP
  pub first : o.first ≡ DEFAULT_FIRST
  pub count : o.count ≡ DEFAULT_COUNT

-- the numbers of options
pub record Numbers : Type 0 where
  pub bands : ℕ
  pub system : ℕ
  pub ratio : ℕ
  pub budget : ℕ
  pub mask : ℕ
  pub gap : ℕ
  pub jump : ℕ
  pub arc : ℕ
  pub step : ℕ
  pub first : ℕ
  pub count : ℕ

abbrev pub numbers_of : Options → Numbers
numbers_of o = record {
  bands = o.bands;
  system = o.system;
  ratio = o.ratio;
  budget = o.budget;
  mask = o.mask;
  gap = o.gap;
  jump = o.jump;
  arc = o.arc;
  step = o.step;
  first = o.first;
  count = o.count;
}
