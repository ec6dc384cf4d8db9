-- Each step holds the value of its term.
use Rattle.std.proofs.Common.{◌^◌}
use Rattle.whole_math.specs.Rational.{Rational, ◌+ʳ◌, ◌-ʳ◌, ◌*ʳ◌, times}
use Rattle.whole_math.proofs.Boxes.{InBox-along}
use Rattle.sv_orbit.specs.ClockTerms.{per_ten_thousand, correction}
use Rattle.sv_orbit.proofs.Values.{correction_is, stepped}
use Rattle.sv_orbit.proofs.correction.corrected_clock.Goals as goal

pub returns : goal.returns
returns g c = λ eph sent x y t hx hy.
    let drift : Rational = times (10 ^ 4) eph.af1 in
    let aging : Rational = times (10 ^ 8) eph.af2 in
    let offset : Rational = per_ten_thousand (sent -ʳ eph.toc) in
    let time : Rational = offset -ʳ per_ten_thousand x in
    let in_time = c.sub-time.ensures.holds offset (per_ten_thousand x) t.offset (c.per_ten_thousand-scaled.ensures x hx) in
    let in_aged = c.mul-aged.ensures.holds aging time t.aging in_time in
    let in_slope = c.add-slope.ensures.holds drift (aging *ʳ time) t.drift in_aged in
    let in_turn = c.mul-turn.ensures.holds time (drift +ʳ aging *ʳ time) in_time in_slope in
    let in_sum = c.add-sum.ensures.holds eph.af0 (time *ʳ (drift +ʳ aging *ʳ time)) t.bias in_turn in
    let all = c.add.ensures.holds (eph.af0 +ʳ time *ʳ (drift +ʳ aging *ʳ time)) y in_sum hy in
    InBox-along 60 c.add.result.held.lo c.add.result.held.hi (stepped eph.af0 drift aging time y) (correction eph sent x y) (correction_is eph sent x y) all
