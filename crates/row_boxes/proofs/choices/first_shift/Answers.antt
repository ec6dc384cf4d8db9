use Rattle.std.proofs.Common.{◌≡◌, ◌*◌, ◌^◌, ◌-ℤ◌, ◌+ℤ◌, ◌*ℤ◌, ℕ, ℤ, pos, unsigned_abs, lit≤, to_z, of_z, sym, subst, ap₂, ◌∙◌, refl}
use Rattle.std.proofs.lemmas.Int.{to_z-of_z}
use Rattle.std.specs.Int.{w64, w128}
use Rattle.whole_math.specs.Rounding.{IsNearest}
use Rattle.whole_math.specs.Rational.{Rational, of_whole, ◌-ʳ◌, InBox}
use Rattle.whole_math.proofs.Boxes.{InBox-along}
use Rattle.orbit_model.specs.SeenPlaces.{range_of}
use Rattle.obs_rows.specs.Signals.{wavelength}
use Rattle.row_boxes.specs.Terms.{pseudorange, iota_exponent}
use Rattle.row_boxes.specs.Sightings.{Sighting, y_of}
use Rattle.row_boxes.specs.YBoxes.{Pairing, AreSightings, HoldsBoth, IsWithinHalf}
use Rattle.row_boxes.proofs.Ends.{plain_size}
use Rattle.row_boxes.proofs.Ys.{less_pseudoranges, y_is, half_cycle, within_half, cycle_units}
use Rattle.row_boxes.proofs.choices.first_shift.Goals as goal

end_is : (c : goal.After-nearest_cycle) → to_z w128 (of_z w128 c.less_whole.result) ≡ c.prefit_of-prefit.result.lo -ℤ (c.args.group *ℤ pos (2 ^ 15))
end_is c = to_z-of_z w128 c.less_whole.result (record { sfits = c.less_whole.type_inv }) ∙ c.less_whole.ensures.value ∙ ap₂ (λ (l g : ℤ). l -ℤ (g *ℤ pos (2 ^ 15)))
    (plain_size c.prefit_of-prefit.result.lo (2 ^ 68) (lit≤ tt) c.prefit_of-prefit.result.lo_size) (to_z-of_z w64 c.args.group c.ranges.group)

nearest : (c : goal.After-nearest_cycle) → IsNearest (c.prefit_of-prefit.result.lo -ℤ (c.args.group *ℤ pos (2 ^ 15))) (unsigned_abs (wavelength c.args.signal) * 2 ^ 15) c.nearest_cycle.result
nearest c = subst (λ (z : ℤ). IsNearest z (unsigned_abs (wavelength c.args.signal) * 2 ^ 15) c.nearest_cycle.result) (end_is c) c.nearest_cycle.ensures.nearest

held : (c : goal.After-nearest_cycle) (p : Pairing) → HoldsBoth p c.args.base.now c.args.rover.now → (b r : Sighting) → AreSightings p b r →
    InBox iota_exponent c.prefit_of-prefit.result.lo c.prefit_of-prefit.result.hi (less_pseudoranges c.args.signal c.args.amount b r)
held c p h b r a = subst (λ (z : ℤ). InBox iota_exponent c.prefit_of-prefit.result.lo c.prefit_of-prefit.result.hi (less_pseudoranges c.args.signal z b r))
    (to_z-of_z w64 c.args.amount c.ranges.amount)
    (c.prefit_of-prefit.ensures.holds (pseudorange (range_of b.travel) b.clock) (pseudorange (range_of r.travel) r.clock) (h.base_held b a.base_is) (h.rover_held r a.rover_is))

result_is : (c : goal.After-nearest_cycle) → to_z w64 (of_z w64 c.nearest_cycle.result) ≡ c.nearest_cycle.result
result_is c = to_z-of_z w64 c.nearest_cycle.result (record { sfits = c.nearest_cycle.type_inv })

pub returns-clause-near : goal.returns-clause-near
returns-clause-near c = λ p h b r a.
    let signal : ℕ = c.args.signal in
    let prefit = c.prefit_of-prefit.result in
    let chosen_group : ℤ = c.args.group in
    let k : ℤ = c.nearest_cycle.result in
    let l : ℤ = wavelength signal in
    let q : Rational = less_pseudoranges signal c.args.amount b r in
    let prefit_within_half : IsWithinHalf l (q -ʳ of_whole (chosen_group +ℤ (l *ℤ k))) = within_half l prefit.lo prefit.hi (chosen_group +ℤ (l *ℤ k)) q
    (half_cycle prefit.lo prefit.hi chosen_group k l (unsigned_abs l * 2 ^ 15) (cycle_units signal c.requires.signal c.requires.phase) prefit.narrow (nearest c)) (held c p h b r a) in
    let row_within_half : IsWithinHalf l (y_of signal c.args.amount chosen_group k b r) = InBox-along 15 _ _ (q -ʳ of_whole (chosen_group +ℤ (l *ℤ k))) (y_of signal c.args.amount chosen_group k b r)
    (y_is signal c.args.amount chosen_group k (chosen_group +ℤ (l *ℤ k)) b r refl) prefit_within_half in
    subst (λ (z : ℤ). IsWithinHalf l (y_of signal c.args.amount chosen_group z b r)) (sym (result_is c)) row_within_half
