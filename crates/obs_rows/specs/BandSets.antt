-- The sets of bands that a run may use, by their numbers.
use Rattle.std.specs.Prelude.{ℕ, ◌==◌, ◌||◌, if◌then◌else◌, IsTrue, List, slice_index_or}
use Rattle.obs_rows.specs.declared.units.TheConstants.{BANDS_12, BANDS_15, BANDS_125}
use Rattle.obs_rows.specs.declared.band_sets.TheConstants.{BANDS_L1_L2, BANDS_L1_L5, BANDS_L1_L2_L5, BAND_DIGITS, PHASE_SIGNALS}

-- the number of a set of bands: L1 and L2, L1 and L5, or all three
abbrev pub IsBandsNumber : ℕ → Type 0
IsBandsNumber n = IsTrue ((n == BANDS_L1_L2) || ((n == BANDS_L1_L5) || (n == BANDS_L1_L2_L5)))

-- the bands of such a number, 0 for L1, 1 for L2, 2 for L5
abbrev pub bands_of : ℕ → List ℕ
bands_of n = if n == BANDS_L1_L5 then BANDS_15 else if n == BANDS_L1_L2_L5 then BANDS_125 else BANDS_12

-- the digit of a band in the name of an observation type
abbrev pub digit_of : ℕ → ℕ
digit_of b = slice_index_or BAND_DIGITS b 0

-- the phase on a band, by its number among the signals
abbrev pub phase_of : ℕ → ℕ
phase_of b = slice_index_or PHASE_SIGNALS b 0
