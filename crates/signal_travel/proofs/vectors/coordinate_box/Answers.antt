use Rattle.std.proofs.Common.{arith}
use Rattle.std.proofs.lemmas.Int.{ints}
use Rattle.signal_travel.proofs.vectors.coordinate_box.Goals as goal

pub returns-clause-width : goal.returns-clause-width
returns-clause-width c =
    let size_allowed = c.requires in
    let low_units_stand = c.units_of-low.ensures in
    let rest_stands = c.rest_of.ensures in
    let ends_stand = c.from_ends.ensures in
    omega (arith, ints, size_allowed, low_units_stand.low, low_units_stand.high, rest_stands.low, rest_stands.high, ends_stand.lo, ends_stand.hi)

pub returns-clause-holds : goal.returns-clause-holds
returns-clause-holds c =
    let size_allowed = c.requires in
    let low_units_stand = c.units_of-low.ensures in
    let rest_stands = c.rest_of.ensures in
    let ends_stand = c.from_ends.ensures in
    let rest_above = rest_stands.above c.units_of-low.result low_units_stand.high in
    (omega (arith, ints, size_allowed, low_units_stand.low, ends_stand.lo), omega (arith, ints, size_allowed, low_units_stand.low, low_units_stand.high, rest_above, rest_stands.low, rest_stands.high, ends_stand.lo, ends_stand.hi))
