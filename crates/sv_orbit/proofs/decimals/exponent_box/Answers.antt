-- The number is a whole one, or a quotient by a power of ten.
use Rattle.std.proofs.Common.{◌≡◌, ℕ, ℤ, pos, neg_ℤ, ◌<◌, arith, subst, to_z, of_z}
use Rattle.std.proofs.lemmas.Int.{ints, to_z-of_z}
use Rattle.std.specs.Int.{w64}
use Rattle.whole_math.specs.Rational.{Rational}
use Rattle.sv_orbit.specs.LeastBoxes.{IsLeastBox}
use Rattle.sv_orbit.proofs.Shift.{whole_value, part_value}
use Rattle.sv_orbit.proofs.decimals.exponent_box.Goals as goal

pub returns-then-exp-ge0-clause-least : goal.returns-then-exp-ge0-clause-least
returns-then-exp-ge0-clause-least g c =
    let mantissa : ℤ = to_z w64 (of_z w64 c.args.mant) in
    let exponent_is : c.args.exp ≡ pos c.size_of_exponent.result = omega (arith, ints, c.size_of_exponent.ensures, c.if-exp-ge0.true) in
    subst (λ (v : Rational). IsLeastBox c.whole_box.result v) (whole_value c.args.mant mantissa c.args.exp c.size_of_exponent.result (to_z-of_z w64 c.args.mant c.ranges.mant) exponent_is) c.whole_box.ensures.least

pub returns-else-exp-ge0-clause-least : goal.returns-else-exp-ge0-clause-least
returns-else-exp-ge0-clause-least g c =
    let mantissa : ℤ = to_z w64 (of_z w64 c.args.mant) in
    let places : ℕ = c.size_of_exponent-else-exp-ge0.result in
    let exponent_is : c.args.exp ≡ neg_ℤ (pos places) = omega (arith, ints, c.size_of_exponent-else-exp-ge0.ensures, c.if-exp-ge0.false) in
    let some : 0 < places = omega (arith, ints, c.size_of_exponent-else-exp-ge0.ensures, c.if-exp-ge0.false) in
    subst (λ (v : Rational). IsLeastBox c.part_box.result v) (part_value c.args.mant mantissa c.args.exp places (to_z-of_z w64 c.args.mant c.ranges.mant) exponent_is some) c.part_box.ensures.least
