use Rattle.std.proofs.Common.{◌≡◌, ◌+ℤ◌, ◌*◌, ◌^◌, ℤ, pos, ◌-ℤ◌, ◌*ℤ◌, ◌≤ℤ◌, arith, to_z, of_z, sym, subst, ap₂, ◌∙◌}
use Rattle.std.specs.Int.{w64, w128}
use Rattle.std.proofs.lemmas.Int.{ints, to_z-of_z}
use Rattle.whole_math.specs.Rounding.{IsFloor, IsCeil}
use Rattle.whole_math.proofs.Inequalities.{le_trans_ℤ}
use Rattle.whole_math.specs.Rational.{InBox}
use Rattle.obs_rows.specs.declared.units.TheConstants.{LIGHT_SPEED}
use Rattle.iv_core.proofs.Sizes.{end_cast}
use Rattle.row_boxes.specs.declared.pseudoranges.TheConstants.{METRE_UNITS, HALF_LIGHT_SPEED}
use Rattle.row_boxes.specs.Terms.{pseudorange, iota_exponent}
use Rattle.row_boxes.proofs.Ends.{pseudorange_ordered, pseudorange_narrow}
use Rattle.row_boxes.proofs.Boxes.{pseudorange_holds}
use Rattle.row_boxes.proofs.pseudoranges.pseudorange_of.Goals as goal

-- in 2^-60 m
abbrev metres : ℤ → ℤ → ℤ
metres r t = (r *ℤ pos (2 ^ 24)) -ℤ (t *ℤ LIGHT_SPEED)

lo_is : (c : goal.After-above) → to_z w64 (of_z w64 c.below.result) ≡ c.below.result
lo_is c = to_z-of_z w64 c.below.result (record { sfits = c.below.type_inv })

hi_is : (c : goal.After-above) → to_z w64 (of_z w64 c.above.result) ≡ c.above.result
hi_is c = to_z-of_z w64 c.above.result (record { sfits = c.above.type_inv })

-- what the two ends are rounded from
low_metres : (c : goal.After-above) → c.less_clock.result ≡ metres c.args.range.now.lo c.args.clock.now.hi
low_metres c =
    let range = c.args.range.now in
    let clock = c.args.clock.now in
    c.less_clock.ensures.value ∙ ap₂ metres (end_cast range.lo range.low (le_trans_ℤ range.ordered range.high)) (end_cast clock.hi (le_trans_ℤ clock.low clock.ordered) clock.high)

high_metres : (c : goal.After-above) → c.less_clock-2.result ≡ metres c.args.range.now.hi c.args.clock.now.lo
high_metres c =
    let range = c.args.range.now in
    let clock = c.args.clock.now in
    c.less_clock-2.ensures.value ∙ ap₂ metres (end_cast range.hi (le_trans_ℤ range.low range.ordered) range.high) (end_cast clock.lo clock.low (le_trans_ℤ clock.ordered clock.high))

is_floor : (c : goal.After-above) → IsFloor (metres c.args.range.now.lo c.args.clock.now.hi *ℤ pos METRE_UNITS) (HALF_LIGHT_SPEED * 2 ^ 39) c.below.result
is_floor c = subst (λ (v : ℤ). IsFloor (v *ℤ pos METRE_UNITS) (HALF_LIGHT_SPEED * 2 ^ 39) c.below.result)
    (to_z-of_z w128 c.less_clock.result (record { sfits = c.less_clock.type_inv }) ∙ low_metres c) c.below.ensures.rounded

is_ceil : (c : goal.After-above) → IsCeil (metres c.args.range.now.hi c.args.clock.now.lo *ℤ pos METRE_UNITS) (HALF_LIGHT_SPEED * 2 ^ 39) c.above.result
is_ceil c = subst (λ (v : ℤ). IsCeil (v *ℤ pos METRE_UNITS) (HALF_LIGHT_SPEED * 2 ^ 39) c.above.result)
    (to_z-of_z w128 c.less_clock-2.result (record { sfits = c.less_clock-2.type_inv }) ∙ high_metres c) c.above.ensures.rounded

rising : (rl rh tl th : ℤ) → rl ≤ℤ rh → tl ≤ℤ th → metres rl th ≤ℤ metres rh tl
rising rl rh tl th h k = omega (arith, ints)

narrow : (rl rh tl th : ℤ) → (rh -ℤ rl) ≤ℤ pos (2 ^ 19) → (th -ℤ tl) ≤ℤ pos (2 ^ 10) → (metres rh tl -ℤ metres rl th) ≤ℤ (pos (2 ^ 43) +ℤ (pos (2 ^ 10) *ℤ LIGHT_SPEED))
narrow rl rh tl th h k = omega (arith, ints)

pub invariant_of-result : goal.invariant_of-result
invariant_of-result c =
    let range = c.args.range.now in
    let clock = c.args.clock.now in
    let least_metres : ℤ = metres range.lo clock.hi in
    let most_metres : ℤ = metres range.hi clock.lo in
    let low_end : ℤ = c.below.result in
    let high_end : ℤ = c.above.result in
    record {
      ordered = rw (lo_is c, hi_is c) (pseudorange_ordered low_end high_end least_metres most_metres (rising range.lo range.hi clock.lo clock.hi range.ordered clock.ordered) (is_floor c) (is_ceil c));
      narrow = rw (lo_is c, hi_is c) (pseudorange_narrow low_end high_end least_metres most_metres (narrow range.lo range.hi clock.lo clock.hi c.requires.range_narrow c.requires.clock_narrow) (is_floor c) (is_ceil c));
      lo_size = rw (lo_is c) c.below.ensures.size;
      hi_size = rw (hi_is c) c.above.ensures.size;
    }

pub returns : goal.returns
returns c = λ r t h i.
    let range = c.args.range.now in
    let clock = c.args.clock.now in
    let held : InBox iota_exponent c.before.below.result c.before.above.result (pseudorange r t) =
    pseudorange_holds range.lo range.hi clock.lo clock.hi c.before.below.result c.before.above.result r t (is_floor c.before)
    (is_ceil c.before) h i in
    subst (λ (z : ℤ). InBox iota_exponent z (to_z w64 (of_z w64 c.above.result)) (pseudorange r t)) (sym (lo_is c.before))
    (subst (λ (z : ℤ). InBox iota_exponent c.below.result z (pseudorange r t)) (sym (hi_is c.before)) held)
