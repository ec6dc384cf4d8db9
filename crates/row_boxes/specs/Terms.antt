-- Pseudoranges over rationals, the unit of what is computed, and how wide boxes are.
use Rattle.std.specs.Prelude.{ℕ, ℤ, pos}
use Rattle.whole_math.specs.Rational.{Rational, ◌-ʳ◌, ◌*ʳ◌}
use Rattle.row_boxes.specs.Sightings.{metre, light_speed}

-- ρ - c Δt: a range in metres less what the satellite's clock, in seconds, is ahead
abbrev pub pseudorange : Rational → Rational → Rational
pseudorange range clock = metre *ʳ (range -ʳ light_speed *ʳ clock)

-- ---- the unit of what is computed
-- lengths are in 2^-15 ι until they are in the unit of a row
abbrev pub iota_exponent : ℕ
iota_exponent = 15

-- ---- how wide boxes are
-- the greatest width of a pseudorange, in 2^-15 ι
abbrev pub pseudorange_width : ℤ
pseudorange_width = pos 1878

-- of an observation less computed
abbrev pub prefit_width : ℤ
prefit_width = pos 3757

-- of its ends in the unit of a row
abbrev pub y_width : ℤ
y_width = pos 940
