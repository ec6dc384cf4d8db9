use Rattle.std.proofs.Common.{◌≡◌, ◌+◌, ◌^◌, ◌-ℤ◌, ◌+ℤ◌, ◌*ℤ◌, neg_ℤ, ℤ, pos, arith, lit≤, to_z, of_z, sym, subst}
use Rattle.std.proofs.lemmas.Int.{ints, to_z-of_z}
use Rattle.std.specs.Int.{w64}
use Rattle.whole_math.specs.Rounding.{IsNearest, floor_div, ceil_div}
use Rattle.whole_math.specs.Rational.{of_whole, ◌-ʳ◌, InBox}
use Rattle.whole_math.proofs.Boxes.{InBox-along, Near-along}
use Rattle.orbit_model.specs.SeenPlaces.{range_of}
use Rattle.obs_rows.specs.Signals.{wavelength}
use Rattle.row_boxes.specs.Terms.{prefit_width, pseudorange, iota_exponent}
use Rattle.row_boxes.specs.Sightings.{in_row_unit, Sighting, y_of, y_in_rows}
use Rattle.row_boxes.specs.YBoxes.{Pairing, AreSightings, HoldsBoth, IsWithinHalf, IsAllowedGroup}
use Rattle.row_boxes.proofs.Ends.{plain_size}
use Rattle.row_boxes.proofs.Boxes.{AreYEnds, middle_ends, y_holds, y_radius, y_meets}
use Rattle.row_boxes.proofs.Ys.{less_pseudoranges, y_is, y_in_rows_is, half_group, within_half}
use Rattle.row_boxes.proofs.choices.first_group.Goals as goal

nearest : (c : goal.After-nearest_iota) → IsNearest c.prefit_of-prefit.result.lo (2 ^ 15) c.nearest_iota.result
nearest c = subst (λ (z : ℤ). IsNearest z (2 ^ 15) c.nearest_iota.result) (plain_size c.prefit_of-prefit.result.lo (2 ^ 68) (lit≤ tt) c.prefit_of-prefit.result.lo_size) c.nearest_iota.ensures.nearest

held : (c : goal.After-nearest_iota) (p : Pairing) → HoldsBoth p c.args.base.now c.args.rover.now → (b r : Sighting) → AreSightings p b r →
    InBox iota_exponent c.prefit_of-prefit.result.lo c.prefit_of-prefit.result.hi (less_pseudoranges 2 c.args.amount b r)
held c p h b r a = subst (λ (z : ℤ). InBox iota_exponent c.prefit_of-prefit.result.lo c.prefit_of-prefit.result.hi (less_pseudoranges 2 z b r)) (to_z-of_z w64 c.args.amount c.ranges.amount)
    (c.prefit_of-prefit.ensures.holds (pseudorange (range_of b.travel) b.clock) (pseudorange (range_of r.travel) r.clock) (h.base_held b a.base_is) (h.rover_held r a.rover_is))

no_shift : (g : ℤ) → g ≡ g +ℤ (wavelength 2 *ℤ pos 0)
no_shift g = omega (arith, ints)

result_is : (c : goal.After-nearest_iota) → to_z w64 (of_z w64 c.nearest_iota.result) ≡ c.nearest_iota.result
result_is c = to_z-of_z w64 c.nearest_iota.result (record { sfits = c.nearest_iota.type_inv })

pub returns-clause-near : goal.returns-clause-near
returns-clause-near c = λ p h b r a.
    let prefit = c.prefit_of-prefit.result in
    let chosen_group : ℤ = c.nearest_iota.result in
    let prefit_within_half : IsWithinHalf (pos 1) (less_pseudoranges 2 c.args.amount b r -ʳ of_whole chosen_group) = within_half (pos 1) prefit.lo prefit.hi chosen_group (less_pseudoranges 2 c.args.amount b r)
    (half_group prefit.lo prefit.hi chosen_group prefit.narrow (nearest c)) (held c p h b r a) in
    let row_within_half : IsWithinHalf (pos 1) (y_of 2 c.args.amount chosen_group (pos 0) b r) = InBox-along 15 (neg_ℤ (pos (2 ^ 14))) (pos (2 ^ 14) +ℤ prefit_width)
    (less_pseudoranges 2 c.args.amount b r -ʳ of_whole chosen_group) (y_of 2 c.args.amount chosen_group (pos 0) b r) (y_is 2 c.args.amount chosen_group (pos 0) chosen_group b r (no_shift chosen_group)) prefit_within_half in
    subst (λ (z : ℤ). IsWithinHalf (pos 1) (y_of 2 c.args.amount z (pos 0) b r)) (sym (result_is c)) row_within_half

pub returns-clause-allowed : goal.returns-clause-allowed
returns-clause-allowed c = λ scale p t both.
    let prefit = c.prefit_of-prefit.result in
    let chosen_group : ℤ = c.nearest_iota.result in
    let half_group_holds = half_group prefit.lo prefit.hi chosen_group prefit.narrow (nearest c) in
    let low_end : ℤ = floor_div (prefit.lo -ℤ (chosen_group *ℤ pos 32768)) (2 ^ (scale + 2)) in
    let high_end : ℤ = ceil_div (prefit.hi -ℤ (chosen_group *ℤ pos 32768)) (2 ^ (scale + 2)) in
    let centre_of_ends : ℤ = floor_div (low_end +ℤ high_end) 2 in
    let radius_of_ends : ℤ = high_end -ℤ centre_of_ends in
    let are_ends : AreYEnds scale prefit.lo prefit.hi chosen_group centre_of_ends radius_of_ends = middle_ends scale prefit.lo prefit.hi chosen_group t prefit.ordered prefit.narrow in
    let is_allowed : IsAllowedGroup p scale c.args.amount chosen_group = record {
      centre = centre_of_ends;
      radius = radius_of_ends;
      narrow = y_radius scale prefit.lo prefit.hi chosen_group centre_of_ends radius_of_ends are_ends;
      holds = λ b r a. Near-along centre_of_ends radius_of_ends (in_row_unit scale (less_pseudoranges 2 c.args.amount b r -ʳ of_whole chosen_group)) (y_in_rows scale 2 c.args.amount chosen_group (pos 0) b r)
          (y_in_rows_is scale 2 c.args.amount chosen_group (pos 0) chosen_group b r (no_shift chosen_group)) (y_holds scale prefit.lo prefit.hi chosen_group centre_of_ends radius_of_ends (less_pseudoranges 2 c.args.amount b r) are_ends (held c p both b r a));
      meets = y_meets scale prefit.lo prefit.hi chosen_group centre_of_ends radius_of_ends are_ends half_group_holds.0 half_group_holds.1;
    } in
    subst (λ (z : ℤ). IsAllowedGroup p scale c.args.amount z) (sym (result_is c)) is_allowed
