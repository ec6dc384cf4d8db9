use Rattle.std.proofs.Common.{◌≡◌, ◌<◌, ◌+ℤ◌, ◌*ℤ◌, ℕ, ℤ, pos, length, arith, to_z, of_z, subst, ap, ◌∙◌}
use Rattle.std.proofs.lemmas.Int.{to_z-of_z}
use Rattle.std.specs.Int.{w64}
use Rattle.whole_math.specs.Rational.{of_whole, ◌-ʳ◌, InBox}
use Rattle.whole_math.proofs.Boxes.{Near-along}
use Rattle.orbit_model.specs.SeenPlaces.{range_of}
use Rattle.obs_rows.specs.Signals.{wavelength, band}
use Rattle.obs_rows.specs.Data.{number_at}
use Rattle.row_boxes.specs.Terms.{pseudorange, iota_exponent}
use Rattle.row_boxes.specs.Sightings.{in_row_unit, y_in_rows}
use Rattle.row_boxes.proofs.Ends.{read_small}
use Rattle.row_boxes.proofs.Ys.{less_pseudoranges, y_in_rows_is}
use Rattle.row_boxes.proofs.terms.y_of_signal.Goals as goal
use Rattle.obs_rows.specs.declared.units.TheConstants.{SIGNALS}

whole_is : (c : goal.After-y_box) → to_z w64 (of_z w64 c.whole_of.result) ≡ c.args.group +ℤ (wavelength c.args.signal *ℤ number_at c.args.shift.now (band c.args.signal))
whole_is c = to_z-of_z w64 c.whole_of.result (record { sfits = c.whole_of.type_inv }) ∙ c.whole_of.ensures.value ∙
    ap (λ (g : ℤ). g +ℤ (wavelength c.args.signal *ℤ number_at c.args.shift.now (band c.args.signal))) (to_z-of_z w64 c.args.group c.ranges.group)

read_amount : (c : goal.After-y_box) → to_z w64 (of_z w64 (number_at c.args.amounts.now c.args.signal)) ≡ number_at c.args.amounts.now c.args.signal
read_amount c =
    let amounts_length : length c.args.amounts.now ≡ SIGNALS = omega arith in
    let signal_within : c.args.signal < length c.args.amounts.now = omega arith in
    read_small (number_at c.args.amounts.now c.args.signal) (c.requires.amounts c.args.signal (pos 0) signal_within)

pub returns-clause-holds : goal.returns-clause-holds
returns-clause-holds c = λ p h base rover a.
    let signal : ℕ = c.args.signal in
    let amount : ℤ = number_at c.args.amounts.now signal in
    let whole : ℤ = to_z w64 (of_z w64 c.whole_of.result) in
    let held : InBox iota_exponent c.prefit_of-prefit.result.lo c.prefit_of-prefit.result.hi (less_pseudoranges signal amount base rover) =
    subst (λ (z : ℤ). InBox iota_exponent c.prefit_of-prefit.result.lo c.prefit_of-prefit.result.hi (less_pseudoranges signal z base rover)) (read_amount c)
    (c.prefit_of-prefit.ensures.holds (pseudorange (range_of base.travel) base.clock) (pseudorange (range_of rover.travel) rover.clock) (h.base_held base a.base_is) (h.rover_held rover a.rover_is)) in
    Near-along c.y_box.result.centre c.y_box.result.radius (in_row_unit c.args.scale (less_pseudoranges signal amount base rover -ʳ of_whole whole))
    (y_in_rows c.args.scale signal amount c.args.group (number_at c.args.shift.now (band signal)) base rover)
    (y_in_rows_is c.args.scale signal amount c.args.group (number_at c.args.shift.now (band signal)) whole base rover (whole_is c)) (c.y_box.ensures.holds (less_pseudoranges signal amount base rover) held)
