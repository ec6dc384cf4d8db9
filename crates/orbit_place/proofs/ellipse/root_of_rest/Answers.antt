use Rattle.std.proofs.Common.{pos, neg_ℤ, ◌≤ℤ◌, ◌^◌, ◌*◌, arith, sym, subst}
use Rattle.std.proofs.lemmas.Int.{ints}
use Rattle.whole_math.specs.Rational.{two_to_minus, ◌*ʳ◌, ◌-ʳ◌, AreWithin}
use Rattle.whole_math.specs.Boxes.{of_scale}
use Rattle.iv_core.specs.declared.Iv.{Iv}
use Rattle.iv_core.specs.Intervals.{Holds}
use Rattle.orbit_model.specs.Solution.{one}
use Rattle.orbit_place.proofs.Roots.{IsRootBox, root_high, root_narrow, root_near}
use Rattle.orbit_place.proofs.ellipse.root_of_rest.Goals as goal

pub new-requires : goal.new-requires
new-requires c =
    let rest = c.rest_of.result in
    let root = c.root_to.result in
    let is_root : IsRootBox rest.lo rest.hi root.lo root.hi =
    record {
      least = c.rest_of.ensures.low;
      most = c.rest_of.ensures.high;
      rest_ordered = rest.ordered;
      narrow = c.rest_of.ensures.narrow;
      ordered = root.ordered;
      not_negative = c.root_to.ensures.not_negative;
      near_low = c.root_to.ensures.near_low;
      near_high = c.root_to.ensures.near_high;
    } in
    let low : neg_ℤ (pos (1025 * 2 ^ 50)) ≤ℤ root.lo = omega (arith, ints, c.root_to.ensures.not_negative) in
    (omega arith, (omega arith, ((low, root_high rest.lo rest.hi root.lo root.hi is_root), root_narrow rest.lo rest.hi root.lo root.hi is_root)))

pub returns-clause-holds : goal.returns-clause-holds
returns-clause-holds c = λ e w h k. subst (λ (b : Iv 60). Holds b w) (sym c.new.ensures) (c.root_to.ensures.holds (one -ʳ e *ʳ e) w (c.rest_of.ensures.holds e h) k)

pub returns-clause-near : goal.returns-clause-near
returns-clause-near c = λ e h.
    let rest = c.rest_of.result in
    let root = c.root_to.result in
    let root_box : IsRootBox rest.lo rest.hi root.lo root.hi =
    record {
      least = c.rest_of.ensures.low;
      most = c.rest_of.ensures.high;
      rest_ordered = rest.ordered;
      narrow = c.rest_of.ensures.narrow;
      ordered = root.ordered;
      not_negative = c.root_to.ensures.not_negative;
      near_low = c.root_to.ensures.near_low;
      near_high = c.root_to.ensures.near_high;
    } in
    subst (λ (root_box : Iv 60). AreWithin (two_to_minus 50) (of_scale 60 root_box.lo *ʳ of_scale 60 root_box.lo) (one -ʳ e *ʳ e)) (sym c.new.ensures)
    (root_near rest.lo rest.hi root.lo root.hi (one -ʳ e *ʳ e) root_box (c.rest_of.ensures.holds e h))
