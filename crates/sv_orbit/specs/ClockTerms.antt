-- The terms of the clock's correction, and the correction that they give at a clock.
use Rattle.std.specs.Prelude.{◌^◌}
use Rattle.std.proofs.Common.{lit<}
use Rattle.whole_math.specs.Rational.{Rational, ◌+ʳ◌, ◌-ʳ◌, ◌*ʳ◌, times, divided}
use Rattle.iv_core.specs.Intervals.{Holds}
use Rattle.orbit_model.specs.Elements.{Elements}
use Rattle.sv_orbit.specs.declared.correction.Terms.{Terms}

-- q / 10^4
abbrev pub per_ten_thousand : Rational → Rational
per_ten_thousand q = divided q 10000 (lit< tt)

-- each term lies in its box; sent is the satellite's clock time of sending
pub record HoldsTerms (b : Terms) (eph : Elements) (sent : Rational) : Type 0 where
  pub bias : Holds b.bias.held eph.af0
  pub drift : Holds b.drift.held (times (10 ^ 4) eph.af1)
  pub aging : Holds b.aging.held (times (10 ^ 8) eph.af2)
  pub offset : Holds b.offset.held (per_ten_thousand (sent -ʳ eph.toc))

-- af0 + af1 x + af2 x² + effect, where x is the time since toc, and `effect` the relativistic term
abbrev pub polynomial : Elements → Rational → Rational → Rational
polynomial eph x effect = eph.af0 +ʳ eph.af1 *ʳ x +ʳ eph.af2 *ʳ (x *ʳ x) +ʳ effect

-- the same at t - toc, where t is the time of sending by a satellite's clock that is off by `clock`
abbrev pub correction : Elements → Rational → Rational → Rational → Rational
correction eph sent clock effect = polynomial eph (sent -ʳ clock -ʳ eph.toc) effect
