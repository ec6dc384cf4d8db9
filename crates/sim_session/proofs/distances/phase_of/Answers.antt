use Rattle.std.proofs.Common.{◌≡◌, ◌*◌, ◌^◌, ◌≤◌, ℤ, pos, ◌+ℤ◌, ◌*ℤ◌, ◌≤ℤ◌, ◌<ℤ◌, unsigned_abs, w64, FitsSigned, to_z, of_z, arith, ap, subst, ◌∙◌}
use Rattle.std.specs.Int.{w128}
use Rattle.std.proofs.lemmas.Int.{ints, to_z-of_z}
use Rattle.obs_rows.specs.declared.units.TheConstants.{LIGHT_SPEED}
use Rattle.whole_math.specs.Rounding.{IsNearest}
use Rattle.sim_session.proofs.Measures.{phase_near}
use Rattle.sim_session.specs.declared.drawn.TheConstants.{MOST_CYCLES}
use Rattle.sim_session.proofs.distances.phase_of.Goals as goal

plain : (n k : ℤ) → pos 16000000000 ≤ℤ n → n ≤ℤ pos 490000000000 → unsigned_abs k ≤ MOST_CYCLES →
    to_z w64 (of_z w64 (to_z w64 (of_z w64 n) +ℤ to_z w64 (of_z w64 (pos 1000 *ℤ to_z w64 (of_z w64 k))))) ≡ n +ℤ (pos 1000 *ℤ k)
plain n k a b s = omega (arith, ints)

fits : (n k : ℤ) → pos 16000000000 ≤ℤ n → n ≤ℤ pos 490000000000 → unsigned_abs k ≤ MOST_CYCLES → FitsSigned w64 (to_z w64 (of_z w64 n) +ℤ to_z w64 (of_z w64 (pos 1000 *ℤ to_z w64 (of_z w64 k))))
fits n k a b s = omega (arith, ints)

low : (n k p : ℤ) → pos 16000000000 ≤ℤ n → unsigned_abs k ≤ MOST_CYCLES → p ≡ n +ℤ (pos 1000 *ℤ k) → pos 0 ≤ℤ p
low n k p a s e = omega (arith, ints)

high : (n k p : ℤ) → n ≤ℤ pos 490000000000 → unsigned_abs k ≤ MOST_CYCLES → p ≡ n +ℤ (pos 1000 *ℤ k) → p <ℤ pos 10000000000000
high n k p a s e = omega (arith, ints)

pub overflow_add-result : goal.overflow_add-result
overflow_add-result c = fits c.whole_thousandths.result c.args.cycles c.whole_thousandths.ensures.low c.whole_thousandths.ensures.high c.requires.cycles

pub returns-clause-low : goal.returns-clause-low
returns-clause-low c =
    let thousandths_made = c.whole_thousandths in
    low thousandths_made.result c.args.cycles _ thousandths_made.ensures.low c.requires.cycles (plain thousandths_made.result c.args.cycles thousandths_made.ensures.low thousandths_made.ensures.high c.requires.cycles)

pub returns-clause-high : goal.returns-clause-high
returns-clause-high c =
    let thousandths_made = c.whole_thousandths in
    high thousandths_made.result c.args.cycles _ thousandths_made.ensures.high c.requires.cycles (plain thousandths_made.result c.args.cycles thousandths_made.ensures.low thousandths_made.ensures.high c.requires.cycles)

pub returns-clause-near : goal.returns-clause-near
returns-clause-near c = λ v h.
    let thousandths_made = c.whole_thousandths in
    let units = c.args.distance.now.units in
    let length = to_z-of_z w128 c.with_clock-length.result (record { sfits = c.with_clock-length.type_inv }) ∙ c.with_clock-length.ensures.value
    ∙ ap (λ (z : ℤ). (pos 1000 *ℤ units) +ℤ (z *ℤ pos (2 ^ 36))) (to_z-of_z w64 c.args.clock c.ranges.clock) in
    let product = to_z-of_z w128 c.scaled.result (record { sfits = c.scaled.type_inv }) ∙ c.scaled.ensures.value ∙ ap (λ (z : ℤ). z *ℤ pos c.args.frequency) length in
    phase_near c.args.frequency units thousandths_made.result c.args.clock c.args.cycles _ v c.requires.most (plain thousandths_made.result c.args.cycles thousandths_made.ensures.low thousandths_made.ensures.high c.requires.cycles)
    (subst (λ (z : ℤ). IsNearest z (unsigned_abs LIGHT_SPEED * 2 ^ 36) thousandths_made.result) product thousandths_made.ensures.nearest) h
