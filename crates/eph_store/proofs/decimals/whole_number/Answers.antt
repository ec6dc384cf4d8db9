-- Whole numbers, with the exponent cut.
use Rattle.std.proofs.Common.{arith}
use Rattle.std.proofs.lemmas.Int.{ints}
use Rattle.eph_store.proofs.Signs.{whole_up, whole_down, whole_none, whole_some}
use Rattle.eph_store.proofs.decimals.whole_number.Goals as goal

pub returns-then-d-ge0-clause-some : goal.returns-then-d-ge0-clause-some
returns-then-d-ge0-clause-some c = λ n small.
    whole_up c.args.d c.unsigned_abs-size.result _ c.cut_power.result n (omega arith) c.cut_power.ensures.short c.cut_power.ensures.long
    (omega (arith, ints, c.requires, c.unsigned_abs-size.ensures.value)) (omega (arith, ints, c.if-d-ge0.true))

pub returns-else-d-ge0-clause-none : goal.returns-else-d-ge0-clause-none
returns-else-d-ge0-clause-none c =
    whole_none c.args.d c.quotient.result c.unsigned_abs-size.result c.cut_power-else-d-ge0.result
    (λ n. whole_down c.args.d c.unsigned_abs-size.result _ c.cut_power-else-d-ge0.result n (omega arith) c.cut_power-else-d-ge0.ensures.short c.cut_power-else-d-ge0.ensures.long
    (omega (arith, ints, c.if-d-ge0.false, c.unsigned_abs.ensures.value)) (omega (arith, ints, c.requires, c.unsigned_abs-size.ensures.value))
    (omega (arith, ints, c.if-d-ge0.false, c.unsigned_abs.ensures.value)))
    c.quotient.ensures

pub returns-else-d-ge0-clause-some : goal.returns-else-d-ge0-clause-some
returns-else-d-ge0-clause-some c =
    whole_some c.args.d c.quotient.result c.unsigned_abs-size.result c.cut_power-else-d-ge0.result c.cut_power-else-d-ge0.ensures.positive
    (λ n. whole_down c.args.d c.unsigned_abs-size.result _ c.cut_power-else-d-ge0.result n (omega arith) c.cut_power-else-d-ge0.ensures.short c.cut_power-else-d-ge0.ensures.long
    (omega (arith, ints, c.if-d-ge0.false, c.unsigned_abs.ensures.value)) (omega (arith, ints, c.requires, c.unsigned_abs-size.ensures.value))
    (omega (arith, ints, c.if-d-ge0.false, c.unsigned_abs.ensures.value)))
    c.quotient.ensures
