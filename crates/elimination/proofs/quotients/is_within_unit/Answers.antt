use Rattle.std.proofs.Common.{◌≡◌, ◌^◌, ◌≤◌, ℤ, pos, ◌-ℤ◌, ◌*ℤ◌, ◌<ℤ◌, int_le, unsigned_abs, true, arith, to_z, of_z, subst}
use Rattle.std.proofs.lemmas.Int.{ints, to_z-of_z}
use Rattle.std.specs.Int.{w64, w128}
use Rattle.whole_math.proofs.Words.{as_w128}
use Rattle.elimination.proofs.RowWords.{widened, widened_is}
use Rattle.elimination.proofs.quotients.is_within_unit.Goals as goal

turned : (a : ℤ) → unsigned_abs a ≤ 2 ^ 52 → to_z w128 (of_z w128 (pos 0 -ℤ a)) ≡ pos 0 -ℤ a
turned a h = omega (arith, ints)

between : (x a : ℤ) → pos 0 <ℤ a → int_le (pos 0 -ℤ a) x ≡ true → int_le x a ≡ true → unsigned_abs x ≤ unsigned_abs a
between x a p l u = omega (arith, ints)

pub returns-then-most-left : goal.returns-then-most-left
returns-then-most-left c =
    let left : ℤ = c.unit_missed-left.result in
    let divisor_wide : widened c.args.a ≡ c.args.a = widened_is c.args.a (omega (arith, c.requires.a_size)) in
    let left_kept : to_z w128 (of_z w128 c.unit_missed-left.result) ≡ c.unit_missed-left.result = as_w128 c.unit_missed-left.result (omega (arith, c.unit_missed-left.ensures.size)) in
    let value : c.unit_missed-left.result ≡ (c.args.ratio *ℤ c.args.a) -ℤ (pos (2 ^ 61) *ℤ c.args.p) =
    rw (to_z-of_z w64 c.args.ratio c.ranges.ratio, to_z-of_z w64 c.args.a c.ranges.a, to_z-of_z w64 c.args.p c.ranges.p) at c.unit_missed-left.ensures.value in
    let low : int_le (pos 0 -ℤ c.args.a) c.unit_missed-left.result ≡ true = rw (divisor_wide, left_kept, turned c.args.a c.requires.a_size) at c.if-most-left.true in
    λ t.
    let high : int_le c.unit_missed-left.result c.args.a ≡ true = rw (divisor_wide, left_kept) at t in
    subst (λ (z : ℤ). unsigned_abs z ≤ unsigned_abs c.args.a) value (between left c.args.a c.requires.positive low high)
