-- The number itself, which the cut leaves as it is.
use Rattle.std.proofs.Common.{◌≡◌, ◌^◌, ℤ, pos, ◌*ℤ◌, min, arith, refl, ap, ◌∙◌, to_z, of_z}
use Rattle.std.proofs.lemmas.Int.{to_z-of_z}
use Rattle.std.proofs.lemmas.Result.{IfOk-at_ok}
use Rattle.std.specs.Int.{w64, w128}
use Rattle.whole_math.specs.Rounding.{floor_div, ceil_div}
use Rattle.whole_math.specs.Rational.{of_whole}
use Rattle.iv_core.proofs.BoxLaws.{ok_of}
use Rattle.sv_orbit.proofs.Least.{whole_room, whole_is, whole_ends, ends_small, not_past, as_box}
use Rattle.sv_orbit.proofs.decimals.whole_box.Goals as goal

pub ratio-requires : goal.ratio-requires
ratio-requires g c =
    let whole : ℤ = c.args.mant *ℤ pos (10 ^ c.args.power) in
    let num : to_z w128 (of_z w128 c.whole_number.result) ≡ whole =
    to_z-of_z w128 c.whole_number.result (record { sfits = c.whole_number.type_inv }) ∙ c.whole_number.ensures
    ∙ ap (λ z. z *ℤ pos (10 ^ min c.args.power 19)) (to_z-of_z w64 c.args.mant c.ranges.mant)
    ∙ whole_is g.row.K c.args.power c.args.mant c.requires.small in
    (omega arith, (c.requires.scale, (omega arith, rw num (whole_room g.row.K whole c.requires.scale c.requires.small))))

pub unwrap-requires : goal.unwrap-requires
unwrap-requires g c =
    let whole : ℤ = c.args.mant *ℤ pos (10 ^ c.args.power) in
    let number : ℤ = to_z w128 (of_z w128 c.whole_number.result) in
    let num : number ≡ whole = to_z-of_z w128 c.whole_number.result (record { sfits = c.whole_number.type_inv }) ∙ c.whole_number.ensures
    ∙ ap (λ z. z *ℤ pos (10 ^ min c.args.power 19)) (to_z-of_z w64 c.args.mant c.ranges.mant)
    ∙ whole_is g.row.K c.args.power c.args.mant c.requires.small in
    ok_of c.ratio.result (λ h. not_past _ _ (ends_small g.row.K (2 ^ 62) _ _ (of_whole whole) (whole_ends g.row.K whole number (pos 1) num refl) c.requires.small) (c.ratio.ensures.refused.0 h))

pub returns-clause-least : goal.returns-clause-least
returns-clause-least g c =
    let whole : ℤ = c.args.mant *ℤ pos (10 ^ c.args.power) in
    let number : ℤ = to_z w128 (of_z w128 c.whole_number.result) in
    let num : number ≡ whole = to_z-of_z w128 c.whole_number.result (record { sfits = c.whole_number.type_inv }) ∙ c.whole_number.ensures
    ∙ ap (λ z. z *ℤ pos (10 ^ min c.args.power 19)) (to_z-of_z w64 c.args.mant c.ranges.mant)
    ∙ whole_is g.row.K c.args.power c.args.mant c.requires.small in
    let ends_are = IfOk-at_ok (λ r. (r.lo ≡ floor_div (number *ℤ pos (2 ^ g.row.K)) 1) × (r.hi ≡ ceil_div (number *ℤ pos (2 ^ g.row.K)) 1)) c.unwrap.ensures c.ratio.ensures.ends in
    as_box g.row.K c.unwrap.result _ _ (of_whole whole) ends_are.0 ends_are.1 (whole_ends g.row.K whole number (pos 1) num refl)
