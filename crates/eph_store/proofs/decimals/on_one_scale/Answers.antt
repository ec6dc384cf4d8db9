-- On one scale, with the exponent cut.
use Rattle.std.proofs.Common.{◌≡◌, unsigned_abs, arith}
use Rattle.std.proofs.lemmas.Int.{ints}
use Rattle.eph_store.proofs.Scales.{size_up, size_down}
use Rattle.eph_store.proofs.decimals.on_one_scale.Goals as goal

pub returns-then-shift-ge0 : goal.returns-then-shift-ge0
returns-then-shift-ge0 c =
    let size : c.unsigned_abs-size.result ≡ unsigned_abs c.args.d.mant = omega (arith, ints, c.unsigned_abs-size.ensures.value) in
    let same_order = size_up c.args.d c.unsigned_abs-size.result c.args.bound c.args.places _ c.cut_power.result (omega arith) c.cut_power.ensures.short
    c.cut_power.ensures.long size (omega (arith, ints, c.if-shift-ge0.true)) in
    record { below = same_order.below; above = same_order.above }

pub returns-else-shift-ge0 : goal.returns-else-shift-ge0
returns-else-shift-ge0 c =
    let size : c.unsigned_abs-size.result ≡ unsigned_abs c.args.d.mant = omega (arith, ints, c.unsigned_abs-size.ensures.value) in
    let same_order = size_down c.args.d c.unsigned_abs-size.result c.args.bound c.args.places _ c.cut_power-else-shift-ge0.result (omega arith)
    c.cut_power-else-shift-ge0.ensures.short c.cut_power-else-shift-ge0.ensures.long size
    (omega (arith, ints, c.if-shift-ge0.false, c.unsigned_abs.ensures.value)) (omega (arith, ints, c.if-shift-ge0.false, c.unsigned_abs.ensures.value)) in
    record { below = same_order.below; above = same_order.above }
