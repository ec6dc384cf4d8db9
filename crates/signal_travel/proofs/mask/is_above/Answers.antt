use Rattle.std.proofs.Common.{◌≡◌, ℤ, pos, ◌*ℤ◌, ◌≤ℤ◌, ◌*◌, IsTrue, to_z, of_z, ap, sym, subst, ◌∙◌}
use Rattle.std.proofs.lemmas.Int.{to_z-of_z}
use Rattle.std.specs.Int.{w64, w128}
use Rattle.whole_math.proofs.Absolute.{pos_abs}
use Rattle.signal_travel.specs.Grid.{dot3}
use Rattle.signal_travel.proofs.MaskLaws.{decided, same_dot, not_below}
use Rattle.signal_travel.proofs.mask.is_above.Goals as goal

pub returns : goal.returns
returns c =
    let a : ℤ = c.args.a in
    let b : ℤ = c.args.b in
    let d : ℤ = c.args.c in
    let p : ℤ = c.args.p in
    let q : ℤ = c.args.q in
    let r : ℤ = c.args.r in
    let first_offset_is = to_z-of_z w64 a c.ranges.a in
    let second_offset_is = to_z-of_z w64 b c.ranges.b in
    let third_offset_is = to_z-of_z w64 d c.ranges.c in
    let first_place_is = to_z-of_z w64 p c.ranges.p in
    let second_place_is = to_z-of_z w64 q c.ranges.q in
    let third_place_is = to_z-of_z w64 r c.ranges.r in
    let plain : to_z w128 (of_z w128 c.dot_of-rise.result) ≡ dot3 a b d p q r =
    to_z-of_z w128 c.dot_of-rise.result (record { sfits = c.dot_of-rise.type_inv }) ∙ c.dot_of-rise.ensures.value
    ∙ same_dot a b d p q r _ _ _ _ _ _ first_offset_is second_offset_is third_offset_is first_place_is second_place_is third_place_is in
    let squared : to_z w128 (of_z w128 c.square_of.result) ≡ dot3 a b d a b d =
    to_z-of_z w128 c.square_of.result (record { sfits = c.square_of.type_inv }) ∙ c.square_of.ensures.value
    ∙ same_dot a b d a b d _ _ _ _ _ _ first_offset_is second_offset_is third_offset_is first_offset_is second_offset_is third_offset_is in
    let own = to_z-of_z w128 c.square_of-2.result (record { sfits = c.square_of-2.type_inv }) in
    let pointed : to_z w128 (of_z w128 c.square_of-2.result) ≡ dot3 p q r p q r = own ∙ c.square_of-2.ensures.value ∙ same_dot p q r p q r _ _ _ _ _ _ first_place_is second_place_is third_place_is first_place_is second_place_is third_place_is in
    decided (IsTrue c.is_at_least.result) c.args.mask c.mask_side.result c.height-height.result _ (dot3 a b d p q r) (dot3 a b d a b d) (dot3 p q r p q r) c.is_at_least.ensures
    (subst (λ (z : ℤ). pos 0 ≤ℤ z) plain (not_below _ c.if-rise-lt0.false))
    (c.height-height.ensures.value ∙ ap (λ (z : ℤ). pos 1000 *ℤ z) plain)
    (c.mask_side.ensures.value ∙ ap (λ (z : ℤ). pos (c.args.mask * c.args.mask) *ℤ z) squared)
    (pos_abs _ (subst (λ (z : ℤ). pos 0 ≤ℤ z) (sym own) c.square_of-2.ensures.low) ∙ pointed)
