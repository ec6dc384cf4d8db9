use Rattle.std.proofs.Common.{◌+ℤ◌, ◌≡◌, ◌+◌, ◌^◌, ◌≤ℤ◌, ◌-ℤ◌, ◌*ℤ◌, ℕ, ℤ, pos, lit≤, to_z, of_z, subst, ap, ap₂, ◌∙◌}
use Rattle.std.proofs.lemmas.Int.{to_z-of_z}
use Rattle.std.specs.Int.{w64, w128}
use Rattle.whole_math.specs.Rounding.{floor_div, ceil_div}
use Rattle.row_boxes.proofs.Ends.{plain_size}
use Rattle.row_boxes.proofs.Boxes.{AreYEnds, y_holds, y_radius, y_narrow, y_ordered}
use Rattle.row_boxes.proofs.y_boxes.y_box.Goals as goal

abbrev less : ℤ → ℤ → ℤ
less end whole = end -ℤ (whole *ℤ pos 32768)

plain_whole : (c : goal.After-ceil_shift-hi) → to_z w64 (of_z w64 c.args.whole) ≡ c.args.whole
plain_whole c = to_z-of_z w64 c.args.whole c.ranges.whole

lo_less : (c : goal.After-ceil_shift-hi) → to_z w128 (of_z w128 c.less_whole.result) ≡ less c.args.prefit.now.lo c.args.whole
lo_less c = to_z-of_z w128 c.less_whole.result (record { sfits = c.less_whole.type_inv }) ∙ c.less_whole.ensures.value ∙ ap₂ less
    (plain_size c.args.prefit.now.lo (2 ^ 68) (lit≤ tt) c.args.prefit.now.lo_size) (plain_whole c)

hi_less : (c : goal.After-ceil_shift-hi) → to_z w128 (of_z w128 c.less_whole-2.result) ≡ less c.args.prefit.now.hi c.args.whole
hi_less c = to_z-of_z w128 c.less_whole-2.result (record { sfits = c.less_whole-2.type_inv }) ∙ c.less_whole-2.ensures.value ∙ ap₂ less
    (plain_size c.args.prefit.now.hi (2 ^ 68) (lit≤ tt) c.args.prefit.now.hi_size) (plain_whole c)

units : (c : goal.After-ceil_shift-hi) → 2 ^ c.coarser_by-bits.result ≡ 2 ^ (c.args.scale + 2)
units c = ap (λ (n : ℕ). 2 ^ n) c.coarser_by-bits.ensures.value

lo_is : (c : goal.After-ceil_shift-hi) → to_z w128 (of_z w128 c.floor_shift-lo.result) ≡ floor_div (less c.args.prefit.now.lo c.args.whole) (2 ^ (c.args.scale + 2))
lo_is c = to_z-of_z w128 c.floor_shift-lo.result (record { sfits = c.floor_shift-lo.type_inv }) ∙ c.floor_shift-lo.ensures.value ∙ ap₂ floor_div (lo_less c) (units c)

hi_is : (c : goal.After-ceil_shift-hi) → to_z w128 (of_z w128 c.ceil_shift-hi.result) ≡ ceil_div (less c.args.prefit.now.hi c.args.whole) (2 ^ (c.args.scale + 2))
hi_is c = to_z-of_z w128 c.ceil_shift-hi.result (record { sfits = c.ceil_shift-hi.type_inv }) ∙ c.ceil_shift-hi.ensures.value ∙ ap₂ ceil_div (hi_less c) (units c)

pub around-requires-clause-ordered : goal.around-requires-clause-ordered
around-requires-clause-ordered c = rw (lo_is c, hi_is c) (y_ordered c.args.scale c.args.prefit.now.lo c.args.prefit.now.hi (c.args.whole *ℤ pos 32768) c.args.prefit.now.ordered)

pub around-requires-clause-narrow : goal.around-requires-clause-narrow
around-requires-clause-narrow c = rw (lo_is c, hi_is c) (y_narrow c.args.scale c.args.prefit.now.lo c.args.prefit.now.hi (c.args.whole *ℤ pos 32768) c.requires.scale c.args.prefit.now.narrow)

ends : (c : goal.After-around) → AreYEnds c.args.scale c.args.prefit.now.lo c.args.prefit.now.hi c.args.whole c.around.result.centre c.around.result.radius
ends c = record {
  scale = c.requires.scale;
  ordered = c.args.prefit.now.ordered;
  narrow = c.args.prefit.now.narrow;
  top = c.around.ensures.top ∙ hi_is c.before;
  bottom = subst (λ (z : ℤ). (c.around.result.centre -ℤ c.around.result.radius) ≤ℤ z) (lo_is c.before) c.around.ensures.bottom;
  half = subst (λ (z : ℤ). (pos 2 *ℤ c.around.result.radius) ≤ℤ ((z -ℤ floor_div (less c.args.prefit.now.lo c.args.whole) (2 ^ (c.args.scale + 2))) +ℤ pos 1)) (hi_is c.before)
      (subst (λ (z : ℤ). (pos 2 *ℤ c.around.result.radius) ≤ℤ ((to_z w128 (of_z w128 c.ceil_shift-hi.result) -ℤ z) +ℤ pos 1)) (lo_is c.before) c.around.ensures.half);
}

pub returns-clause-holds : goal.returns-clause-holds
returns-clause-holds c = λ q h. y_holds c.args.scale c.args.prefit.now.lo c.args.prefit.now.hi c.args.whole c.around.result.centre c.around.result.radius q (ends c) h

pub returns-clause-radius : goal.returns-clause-radius
returns-clause-radius c = y_radius c.args.scale c.args.prefit.now.lo c.args.prefit.now.hi c.args.whole c.around.result.centre c.around.result.radius (ends c)
