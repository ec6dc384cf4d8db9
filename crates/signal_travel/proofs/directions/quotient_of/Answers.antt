use Rattle.std.proofs.Common.{◌*◌, ◌+◌, ◌^◌, ℤ, pos, ◌+ℤ◌, ◌-ℤ◌, ◌*ℤ◌, ◌≤ℤ◌, ◌<ℤ◌, neg_ℤ, arith, lit<, lit≤}
use Rattle.std.proofs.lemmas.Int.{ints}
use Rattle.std.proofs.lemmas.Result.{IfOk-at_ok}
use Rattle.iv_core.specs.Boxes.{least_ratio, most_ratio}
use Rattle.sized_box.proofs.Bounds.{ok_of_quotient, in_reach}
use Rattle.obs_rows.specs.declared.units.TheConstants.{DIRECTION_EXPONENT}
use Rattle.signal_travel.proofs.MeanDirections.{ratio_size}
use Rattle.signal_travel.proofs.directions.quotient_of.Goals as goal

positive : (c : ℤ) → pos (9999991 * 2 ^ 36) ≤ℤ c → pos 0 <ℤ c
positive c h = omega (arith, ints)

apart : (c d : ℤ) → pos (9999991 * 2 ^ 36) ≤ℤ c → c ≤ℤ d → (c ≤ℤ pos 0) × (pos 0 ≤ℤ d) → ⊥
apart c d h o z = omega (arith, ints, z.0)

ratio : (a b c : ℤ) → pos (9999991 * 2 ^ 36) ≤ℤ c → neg_ℤ (c +ℤ pos (66 * 2 ^ 34)) ≤ℤ a → b ≤ℤ (c +ℤ pos (66 * 2 ^ 34)) →
    (neg_ℤ (pos (2 ^ DIRECTION_EXPONENT + 28) *ℤ c) ≤ℤ (a *ℤ pos (2 ^ DIRECTION_EXPONENT))) × ((b *ℤ pos (2 ^ DIRECTION_EXPONENT)) ≤ℤ (pos (2 ^ DIRECTION_EXPONENT + 28) *ℤ c))
ratio a b c h l u = (omega (arith, ints), omega (arith, ints))

ends : (c : goal.After-div_by) →
    let change = c.args.change.now in
    let sum = c.args.sum.now in
    (neg_ℤ (pos (2 ^ DIRECTION_EXPONENT + 28)) ≤ℤ least_ratio change.lo change.hi sum.lo sum.hi (2 ^ DIRECTION_EXPONENT))
    × (most_ratio change.lo change.hi sum.lo sum.hi (2 ^ DIRECTION_EXPONENT) ≤ℤ pos (2 ^ DIRECTION_EXPONENT + 28))
ends c =
    let change = c.args.change.now in
    let sum = c.args.sum.now in
    let ratio_within = ratio change.lo change.hi sum.lo c.requires.least c.requires.low c.requires.high in
    ratio_size change.lo change.hi sum.lo sum.hi (2 ^ DIRECTION_EXPONENT) (2 ^ DIRECTION_EXPONENT + 28) (positive sum.lo c.requires.least) sum.ordered ratio_within.0 ratio_within.1

pub unwrap-requires : goal.unwrap-requires
unwrap-requires c =
    let sum = c.args.sum.now in
    let ends_within = ends c in
    ok_of_quotient c.div_by.result (λ h. apart sum.lo sum.hi c.requires.least sum.ordered (c.div_by.ensures.zero_inside.0 h))
    (λ h. in_reach _ _ (2 ^ DIRECTION_EXPONENT + 28) (lit≤ tt) ends_within.0 ends_within.1 ((c.div_by.ensures.overwidth.0 h).1))

pub returns-clause-size : goal.returns-clause-size
returns-clause-size c =
    let ends_within = ends c.before in
    let divided_ends = IfOk-at_ok _ c.unwrap.ensures c.div_by.ensures.ends in
    (rw divided_ends.0 ends_within.0, rw divided_ends.1 ends_within.1)

narrow : (w x y : ℤ) → x ≤ℤ pos (2 ^ 40 + 2 ^ 20) → y ≤ℤ pos (33 * 2 ^ 35 + 2 ^ 20)
    → (pos (9999991 * 2 ^ 36) *ℤ w) <ℤ (((pos (2 ^ DIRECTION_EXPONENT) *ℤ x) +ℤ (pos (2 ^ DIRECTION_EXPONENT + 28) *ℤ y)) +ℤ (pos 2 *ℤ pos (9999991 * 2 ^ 36))) → w ≤ℤ pos 57
narrow w x y h k l = omega (arith, ints)

pub returns-clause-width : goal.returns-clause-width
returns-clause-width c =
    let change = c.args.change.now in
    let sum = c.args.sum.now in
    let quotient = c.unwrap.result in
    narrow (quotient.hi -ℤ quotient.lo) (change.hi -ℤ change.lo) (sum.hi -ℤ sum.lo) c.requires.change_width c.requires.sum_width
    (IfOk-at_ok _ c.unwrap.ensures c.div_by.ensures.width (9999991 * 2 ^ 36) (2 ^ DIRECTION_EXPONENT + 28) (lit< tt) c.requires.least
    (ratio change.lo change.hi sum.lo c.requires.least c.requires.low c.requires.high))
