-- What the bound on the relativity of a clock takes from a system's constants.
use Rattle.std.specs.Prelude.{pos, ◌^◌}
use Rattle.whole_math.specs.Rational.{Rational, of_whole, ◌*ʳ◌}
use Rattle.orbit_model.specs.Elements.{Constants}

-- F² c⁴ and 4 μ
abbrev pub squared_effect : Constants → Rational
squared_effect world = world.relativity *ʳ world.relativity *ʳ of_whole (pos (299_792_458 ^ 4))

abbrev pub four_mu : Constants → Rational
four_mu world = of_whole (pos 4) *ʳ world.mu
