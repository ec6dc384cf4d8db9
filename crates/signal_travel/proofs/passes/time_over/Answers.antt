use Rattle.std.proofs.Common.{◌≡◌, ◌*◌, ◌^◌, ℕ, ℤ, pos, ◌*ℤ◌, ◌≤ℤ◌, arith, subst}
use Rattle.std.proofs.lemmas.Int.{ints}
use Rattle.whole_math.proofs.Inequalities.{pos_nn}
use Rattle.signal_travel.specs.declared.passes.TheConstants.{SPEED}
use Rattle.signal_travel.proofs.TimeCertificates.{time_low, time_high}
use Rattle.signal_travel.proofs.passes.time_over.Goals as goal

one_of : (d : ℕ) → pos (1 * d) ≡ pos d
one_of d = omega (arith, ints)

pub returns-clause-holds : goal.returns-clause-holds
returns-clause-holds c = λ t h.
    let range = c.args.range.now in
    let range_within = c.requires in
    let ends_stand = c.from_ends.ensures in
    let is_ordered = range.ordered in
    let below = c.time_below-low.ensures in
    let above = c.time_above-high.ensures in
    let low_at_most : (c.from_ends.result.lo *ℤ pos SPEED) ≤ℤ (range.lo *ℤ pos 16777216) = omega (arith, ints, range_within.low, range_within.high, is_ordered, below.low, ends_stand.lo) in
    let high_at_least : (range.hi *ℤ pos 16777216) ≤ℤ (c.from_ends.result.hi *ℤ pos SPEED) = omega (arith, ints, range_within.low, range_within.high, is_ordered, above.low, above.high, ends_stand.hi) in (
      time_low t.num (pos t.den) c.from_ends.result.lo range.lo (subst (λ (d : ℤ). (range.lo *ℤ d) ≤ℤ ((pos SPEED *ℤ t.num) *ℤ pos (2 ^ 36))) (one_of t.den) h.0) low_at_most (pos_nn t.den),
      time_high t.num (pos t.den) c.from_ends.result.hi range.hi (subst (λ (d : ℤ). ((pos SPEED *ℤ t.num) *ℤ pos (2 ^ 36)) ≤ℤ (range.hi *ℤ d)) (one_of t.den) h.1) high_at_least (pos_nn t.den),
    )
