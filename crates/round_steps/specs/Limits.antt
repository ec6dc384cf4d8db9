-- When a float point is settled.
use Rattle.std.specs.Prelude.{◌≡◌, ℕ, ◌<◌, ◌≤◌, ◌==◌, if◌then◌else◌, nat_lt, List, ℤ, unsigned_abs}
use Rattle.quadratic_form.specs.declared.sizes.TheConstants.{BASELINE_COLUMNS}
use Rattle.integer_form.specs.FloatPoint.{item}
use Rattle.round_steps.specs.declared.limits.TheConstants.{FINE_BASELINE, THREE_QUARTERS, COARSE_BASELINE}

-- The greatest size that a settled number of a column has. In a fine round it is 1 mm for the baseline and three quarters of
-- a cycle for an integer, in a coarse round some 3 m
abbrev pub limit : ℕ → ℕ → ℕ
limit scale column = if scale == 0 then (if nat_lt column BASELINE_COLUMNS then FINE_BASELINE else THREE_QUARTERS) else COARSE_BASELINE

-- no number is over its limit
abbrev pub IsSettled : ℕ → List ℤ → Type 0
IsSettled scale x = (j : ℕ) → unsigned_abs (item x j) ≤ limit scale j

-- the entry is the first number, by column, that is over its limit
pub record IsFirstOver (scale : ℕ) (x : List ℤ) (entry : ℤ) : Type 0 where
  pub column : ℕ
  pub over : limit scale column < unsigned_abs (item x column)
  pub before : (j : ℕ) → j < column → unsigned_abs (item x j) ≤ limit scale j
  pub entry_is : entry ≡ item x column
