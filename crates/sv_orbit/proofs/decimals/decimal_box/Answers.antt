-- The bound of the number keeps the ends of its box.
use Rattle.std.proofs.Common.{◌≡◌, ◌^◌, ℤ, pos, ◌+ℤ◌, arith, subst, sym, to_z, of_z}
use Rattle.std.proofs.lemmas.Int.{ints}
use Rattle.std.specs.Int.{w64}
use Rattle.iv_core.specs.declared.Iv.{Iv}
use Rattle.whole_math.specs.Rational.{Rational, ◌≈◌, times}
use Rattle.eph_store.specs.Decimals.{with_exponent, value_of}
use Rattle.sv_orbit.specs.LeastBoxes.{IsLeastBox}
use Rattle.sv_orbit.proofs.Shift.{scaled_value, least_along, small_enough, in_reach, ends_of}
use Rattle.sv_orbit.proofs.decimals.decimal_box.Goals as goal

pub exponent_box-held-requires : goal.exponent_box-held-requires
exponent_box-held-requires g c =
    let mantissa : ℤ = to_z w64 (of_z w64 c.args.d.mant) in
    let exponent : ℤ = to_z w64 (of_z w64 c.raised.result) in
    let mant : mantissa ≡ c.args.d.mant = omega (arith, ints) in
    let own : exponent ≡ c.raised.result = omega (arith, ints) in
    let exp : c.args.d.exp +ℤ pos g.row.UP ≡ exponent = omega (arith, ints, c.raised.ensures.sum) in
    let same : times (10 ^ g.row.UP) (value_of c.args.d) ≈ with_exponent mantissa exponent = scaled_value g.row.UP c.args.d.mant c.args.d.exp mantissa exponent mant exp in
    let small = small_enough g.row.BOUND g.row.PLACES g.row.UP g.row.K g.row.SIZE c.args.d c.requires.within c.requires.size in (
      omega arith,
      (
        c.requires.scale,
        (
          (omega (arith, ints, own, c.raised.ensures.range.0), omega (arith, ints, own, c.raised.ensures.range.1)),
          in_reach g.row.K g.row.SIZE (times (10 ^ g.row.UP) (value_of c.args.d)) (with_exponent mantissa exponent) c.requires.limit same small,
        ),
      ),
    )

pub new-requires : goal.new-requires
new-requires g c =
    let mantissa : ℤ = to_z w64 (of_z w64 c.args.d.mant) in
    let exponent : ℤ = to_z w64 (of_z w64 c.raised.result) in
    let mant : mantissa ≡ c.args.d.mant = omega (arith, ints) in
    let exp : c.args.d.exp +ℤ pos g.row.UP ≡ exponent = omega (arith, ints, c.raised.ensures.sum) in
    let same : times (10 ^ g.row.UP) (value_of c.args.d) ≈ with_exponent mantissa exponent = scaled_value g.row.UP c.args.d.mant c.args.d.exp mantissa exponent mant exp in
    let small = small_enough g.row.BOUND g.row.PLACES g.row.UP g.row.K g.row.SIZE c.args.d c.requires.within c.requires.size in (
      omega arith,
      (
        omega arith,
        (
          ends_of g.row.K g.row.SIZE c.exponent_box-held.result (times (10 ^ g.row.UP) (value_of c.args.d)) (with_exponent mantissa exponent)
              same c.exponent_box-held.ensures.least small,
          c.exponent_box-held.ensures.narrow,
        ),
      ),
    )

pub returns : goal.returns
returns g c =
    let mantissa : ℤ = to_z w64 (of_z w64 c.args.d.mant) in
    let exponent : ℤ = to_z w64 (of_z w64 c.raised.result) in
    let mant : mantissa ≡ c.args.d.mant = omega (arith, ints) in
    let exp : c.args.d.exp +ℤ pos g.row.UP ≡ exponent = omega (arith, ints, c.raised.ensures.sum) in
    let same : times (10 ^ g.row.UP) (value_of c.args.d) ≈ with_exponent mantissa exponent = scaled_value g.row.UP c.args.d.mant c.args.d.exp mantissa exponent mant exp in
    let value : Rational = times (10 ^ g.row.UP) (value_of c.args.d) in
    subst (λ (b : Iv g.row.K). IsLeastBox b value) (sym c.new.ensures) (least_along g.row.K c.exponent_box-held.result (with_exponent mantissa exponent) value same c.exponent_box-held.ensures.least)
