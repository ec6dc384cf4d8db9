-- How the shifts of arcs grow in a fine round that isn't settled.
use Rattle.std.specs.Prelude.{◌≡◌, ◌^◌, ℕ, if◌then◌else◌, nat_lt, List, [], length, map, drop, Some, slice_get, ℤ, pos, ◌+ℤ◌, unsigned_abs, All}
use Rattle.whole_math.specs.Rounding.{nearest_div}
use Rattle.obs_rows.specs.declared.arcs.Arc.{Arc}
use Rattle.obs_rows.specs.Ranges.{IsBelow}
use Rattle.quadratic_form.specs.declared.sizes.TheConstants.{BASELINE_COLUMNS}
use Rattle.obs_rows.specs.declared.units.TheConstants.{SIGNALS_125}
use Rattle.obs_rows.specs.Signals.{phases, band}
use Rattle.obs_rows.specs.Integers.{integer}
use Rattle.integer_form.specs.FloatPoint.{item}
use Rattle.round_steps.specs.declared.limits.TheConstants.{THREE_QUARTERS}

-- by the nearest whole number of cycles where the number, in 2^-16 cycles, is over three quarters of a cycle
abbrev pub growth : ℤ → ℤ
growth f = if nat_lt THREE_QUARTERS (unsigned_abs f) then nearest_div f (2 ^ 16) else pos 0

-- the integers' numbers stand after those of the baseline
abbrev pub integers : List ℤ → List ℤ
integers x = drop BASELINE_COLUMNS x

-- the shift of a phase of arc k, which stands at its band, grown by the number of its integer; a datum, and a phase that
-- doesn't count, has none and keeps its shift
abbrev pub grown_shift : List Arc → List ℕ → List ℤ → ℕ → Arc → ℕ → ℤ
grown_shift arcs ss x k a s = item a.shift (band s) +ℤ growth (integer arcs ss (integers x) k s)

-- each of its shifts: the phases of all signals are one for each band, in order
abbrev pub grown_arc : List Arc → List ℕ → List ℤ → ℕ → Arc → Arc
grown_arc arcs ss x k a = record a { shift = map (grown_shift arcs ss x k a) (phases SIGNALS_125) }

-- the same arcs but for their shifts, which have grown by the float point x over these signals
pub record AreGrown (arcs : List Arc) (ss : List ℕ) (x : List ℤ) (after : List Arc) : Type 0 where
  pub as_many : length after ≡ length arcs
  pub each : (k : ℕ) (a : Arc) → slice_get arcs k ≡ Some a → slice_get after k ≡ Some (grown_arc arcs ss x k a)

-- each shift is below m in size
abbrev pub AreShiftsBelow : ℕ → List Arc → Type 0
AreShiftsBelow m arcs = All (λ a. All (IsBelow m) a.shift) arcs

-- the arc without its shifts
abbrev pub without_shifts : Arc → Arc
without_shifts a = record a { shift = [] }

-- the same arcs but for their shifts
abbrev pub AreSameArcs : List Arc → List Arc → Type 0
AreSameArcs arcs after = map without_shifts after ≡ map without_shifts arcs
