-- The ends of the quotient are those of the least box, the power cut or not.
use Rattle.std.proofs.Common.{◌≡◌, ◌^◌, ℤ, pos, ◌*ℤ◌, unsigned_abs, arith, ◌∙◌, to_z, of_z}
use Rattle.std.proofs.lemmas.Int.{to_z-of_z}
use Rattle.std.proofs.lemmas.Result.{IfOk-at_ok}
use Rattle.std.specs.Int.{w64, w128}
use Rattle.whole_math.specs.Rounding.{floor_div, ceil_div}
use Rattle.iv_core.proofs.BoxLaws.{ok_of}
use Rattle.eph_store.specs.Decimals.{decimal}
use Rattle.sv_orbit.proofs.Least.{part_room, part_ends, ends_small, not_past, as_box}
use Rattle.sv_orbit.proofs.decimals.part_box.Goals as goal

pub ratio-requires : goal.ratio-requires
ratio-requires g c =
    let num : to_z w128 (of_z w128 (to_z w64 (of_z w64 c.args.mant))) ≡ c.args.mant = grind (arith, to_z-of_z) in
    let den : to_z w128 (of_z w128 c.cut_power.result) ≡ c.cut_power.result = to_z-of_z w128 c.cut_power.result (record { sfits = c.cut_power.type_inv }) in
    (omega arith, (c.requires.scale, (rw den c.cut_power.ensures.positive, rw num (part_room c.args.mant g.row.K c.requires.scale c.ranges.mant))))

pub unwrap-requires : goal.unwrap-requires
unwrap-requires g c =
    let num : to_z w128 (of_z w128 (to_z w64 (of_z w64 c.args.mant))) ≡ c.args.mant = grind (arith, to_z-of_z) in
    let den : to_z w128 (of_z w128 c.cut_power.result) ≡ c.cut_power.result = to_z-of_z w128 c.cut_power.result (record { sfits = c.cut_power.type_inv }) in
    let ends = part_ends g.row.K c.args.places c.args.mant _ _ c.requires.scale c.ranges.mant num (den ∙ c.cut_power.ensures.value) in
    ok_of c.ratio.result (λ h. not_past _ _ (ends_small g.row.K (2 ^ 62) _ _ (decimal c.args.mant c.args.places) ends c.requires.small) (c.ratio.ensures.refused.0 h))

pub returns-clause-least : goal.returns-clause-least
returns-clause-least g c =
    let mantissa : ℤ = to_z w128 (of_z w128 (to_z w64 (of_z w64 c.args.mant))) in
    let divisor : ℤ = to_z w128 (of_z w128 c.cut_power.result) in
    let num : mantissa ≡ c.args.mant = grind (arith, to_z-of_z) in
    let den : divisor ≡ c.cut_power.result = to_z-of_z w128 c.cut_power.result (record { sfits = c.cut_power.type_inv }) in
    let ends = part_ends g.row.K c.args.places c.args.mant mantissa divisor c.requires.scale c.ranges.mant num (den ∙ c.cut_power.ensures.value) in
    let ends_are = IfOk-at_ok (λ r. (r.lo ≡ floor_div (mantissa *ℤ pos (2 ^ g.row.K)) (unsigned_abs divisor)) × (r.hi ≡ ceil_div (mantissa *ℤ pos (2 ^ g.row.K)) (unsigned_abs divisor))) c.unwrap.ensures c.ratio.ensures.ends in
    as_box g.row.K c.unwrap.result _ _ (decimal c.args.mant c.args.places) ends_are.0 ends_are.1 ends
