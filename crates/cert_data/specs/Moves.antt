-- The unit of a move in 0.1 mm.
use Rattle.std.specs.Prelude.{ℕ, ◌*◌, ◌/◌, ◌^◌, unsigned_abs}
use Rattle.obs_rows.specs.declared.units.TheConstants.{UNIT_FREQUENCY, MOVE_EXPONENT}

-- A number of a move is in 2^-5 ι, and ι is the speed of light over the unit's frequency. So in 0.1 mm it is that number times the
-- speed of light over this
abbrev pub parts : ℕ
parts = (unsigned_abs UNIT_FREQUENCY / 10 ^ 4) * 2 ^ MOVE_EXPONENT
