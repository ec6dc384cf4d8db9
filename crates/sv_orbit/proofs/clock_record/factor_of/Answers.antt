use Rattle.std.proofs.Common.{◌≡◌, ℤ, ◌^◌, arith, refl, to_z, of_z}
use Rattle.std.proofs.lemmas.Int.{ints}
use Rattle.std.specs.Int.{w64, w128}
use Rattle.whole_math.specs.Rational.{times}
use Rattle.eph_store.specs.Decimals.{decimal}
use Rattle.sv_orbit.proofs.Values.{factor_ratio}
use Rattle.sv_orbit.proofs.RootOfMu.{bounded}
use Rattle.sv_orbit.proofs.clock_record.factor_of.Goals as goal

pub returns : goal.returns
returns c =
    let rel : ℤ = c.args.world.now.rel in
    let constants_bounded = bounded c.args.world.now.mu rel c.args.world.now.known in
    let n : ℤ = to_z w128 (of_z w128 (to_z w64 (of_z w64 rel))) in
    let own : n ≡ rel = omega (arith, ints, constants_bounded.rel_low, constants_bounded.rel_high) in
    c.quotient.ensures (times (10 ^ 4) (decimal rel 19)) (factor_ratio rel n _ own refl)
