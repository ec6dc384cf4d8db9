-- 2^63 · 10^19 fits.
use Rattle.std.proofs.lemmas.Int.{to_z-of_z}
use Rattle.std.specs.Int.{w64, w128}
use Rattle.sv_orbit.proofs.Least.{product_fits}
use Rattle.sv_orbit.proofs.decimals.whole_number.Goals as goal

pub overflow_mul-result : goal.overflow_mul-result
overflow_mul-result c =
    let mantissa_kept = to_z-of_z w64 c.args.mant c.ranges.mant in
    let power_kept = to_z-of_z w128 c.cut_power.result (record { sfits = c.cut_power.type_inv }) in
    rw (mantissa_kept, power_kept) (product_fits c.args.mant c.cut_power.result c.ranges.mant c.cut_power.ensures.positive c.cut_power.ensures.bound).0

pub returns : goal.returns
returns c =
    let mantissa_kept = to_z-of_z w64 c.args.mant c.ranges.mant in
    let power_kept = to_z-of_z w128 c.cut_power.result (record { sfits = c.cut_power.type_inv }) in
    rw (mantissa_kept, power_kept, ← c.cut_power.ensures.value) (product_fits c.args.mant c.cut_power.result c.ranges.mant c.cut_power.ensures.positive c.cut_power.ensures.bound).1
