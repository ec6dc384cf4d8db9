-- The first bounds put the clock into the first box; each pass keeps it.
use Rattle.std.proofs.Common.{ℤ, pos, subst, lit≤}
use Rattle.std.proofs.lemmas.Int.{to_z-of_z}
use Rattle.std.specs.Int.{w64}
use Rattle.whole_math.proofs.Order.{le_pos}
use Rattle.whole_math.specs.Rational.{Rational, ◌+ʳ◌, ◌*ʳ◌, ◌-ʳ◌, times, of_whole, two_to_minus}
use Rattle.whole_math.specs.Boxes.{of_scale}
use Rattle.whole_math.proofs.Boxes.{InBox-along}
use Rattle.whole_math.proofs.RationalSizes.{size_looser}
use Rattle.iv_core.specs.Intervals.{Holds}
use Rattle.eph_store.specs.Decimals.{decimal}
use Rattle.orbit_model.specs.Elements.{Elements, sent_at, elements_of}
use Rattle.orbit_model.specs.Solution.{with_share}
use Rattle.sv_orbit.specs.Records.{constants_of}
use Rattle.sv_orbit.specs.ClockTerms.{per_ten_thousand, HoldsTerms, correction}
use Rattle.sv_orbit.proofs.FirstBounds.{clock_small, sent_size, effect_size}
use Rattle.sv_orbit.proofs.NearMean.{clock_is, epoch_time_is, mean_is}
use Rattle.sv_orbit.proofs.timing.timing_at.Goals as goal

pub returns : goal.returns
returns c = λ q n.
    let solves = n.solves in
    let eph = c.args.made.now.eph in
    let world = c.args.made.now.world in
    let elements : Elements = with_share (elements_of eph) n.share in
    let sent : Rational = sent_at c.args.tag.0 c.args.code in
    let own = to_z-of_z w64 c.args.code c.ranges.code in
    let relativity_effect : Rational = (constants_of world).relativity *ʳ elements.ecc *ʳ elements.root_a *ʳ q.eccentric_pair.sin in
    let same = clock_is elements sent q.t q.clock relativity_effect solves.time_of_sending solves.clock_correction in
    let motion = c.args.made.now.motion_in sent q n in
    let from_toe : Holds c.time_since-sent.result.held (per_ten_thousand (sent -ʳ elements.toe)) =
    subst (λ (k : ℤ). Holds c.time_since-sent.result.held (per_ten_thousand (sent_at c.args.tag.0 k -ʳ elements.toe))) own c.time_since-sent.ensures in
    let terms : HoldsTerms c.of-terms.result elements sent = subst (λ (k : ℤ). HoldsTerms c.of-terms.result elements (sent_at c.args.tag.0 k)) own (c.of-terms.ensures n.share n.small) in
    let small = clock_small eph world sent q n (sent_size c.args.tag.0 eph.toe.0 c.args.code c.requires.near c.requires.code_low c.requires.code_high) in
    let little = size_looser (decimal (pos 4442807633) 19 *ʳ decimal (pos 3125) 5 *ʳ of_whole (pos 6000) *ʳ
    (of_whole (pos 1) +ʳ two_to_minus 16)) (of_scale 60 (pos 110000000000)) relativity_effect (le_pos _ _ (lit≤ tt))
    (effect_size eph world q.eccentric q.eccentric_pair.cos q.eccentric_pair.sin solves.kepler.is_pair) in
    let first = InBox-along 60 c.corrected_clock-first.result.held.lo c.corrected_clock-first.result.held.hi (correction elements sent q.clock relativity_effect) q.clock same
    (c.corrected_clock-first.ensures elements sent q.clock relativity_effect terms (c.any_clock.ensures q.clock small) (c.any_effect.ensures relativity_effect little)) in
    let effect = c.effect_of-effect.ensures sent q n from_toe first in
    let second = InBox-along 60 c.corrected_clock-second.result.held.lo c.corrected_clock-second.result.held.hi (correction elements sent q.clock relativity_effect) q.clock same (c.corrected_clock-second.ensures elements sent q.clock relativity_effect terms first effect) in
    let third = InBox-along 60 c.corrected_clock-clock.result.held.lo c.corrected_clock-clock.result.held.hi (correction elements sent q.clock relativity_effect) q.clock same (c.corrected_clock-clock.ensures elements sent q.clock relativity_effect terms second effect) in
    let time = InBox-along 60 c.time_at-epoch_time.result.held.lo c.time_at-epoch_time.result.held.hi (per_ten_thousand (sent -ʳ elements.toe) -ʳ per_ten_thousand q.clock)
    (per_ten_thousand q.tk) (epoch_time_is sent elements.toe q.clock q.t q.tk solves.time_of_sending solves.time_from_epoch)
    (c.time_at-epoch_time.ensures (per_ten_thousand (sent -ʳ elements.toe)) q.clock from_toe third) in
    let mean = InBox-along 56 c.mean_anomaly-mean.result.held.lo c.mean_anomaly-mean.result.held.hi (elements.m0 +ʳ times 10000 q.motion *ʳ per_ten_thousand q.tk)
    q.mean (mean_is q.mean elements.m0 q.motion q.tk solves.mean_anomaly) (c.mean_anomaly-mean.ensures (times 10000 q.motion) (per_ten_thousand q.tk) motion time) in
    record { clock = third; epoch_time = time; mean = mean }
