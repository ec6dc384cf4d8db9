use Rattle.std.proofs.Common.{ℕ, ℤ, unsigned_abs, to_z, of_z, sym, subst}
use Rattle.std.proofs.lemmas.Int.{to_z-of_z}
use Rattle.std.specs.Int.{w64}
use Rattle.obs_rows.specs.Data.{number_at}
use Rattle.obs_rows.specs.Signals.{wavelength}
use Rattle.row_boxes.specs.Sightings.{y_of}
use Rattle.row_boxes.specs.YBoxes.{IsWithinHalf}
use Rattle.row_boxes.proofs.Ends.{read_small}
use Rattle.row_build.specs.Rows.{seen_by}
use Rattle.row_build.proofs.Amounts.{wide}
use Rattle.row_build.proofs.SightLaws.{held_by_both}
use Rattle.row_build.proofs.shifts.shift_of.Goals as goal

pub returns-clause-near : goal.returns-clause-near
returns-clause-near c = λ _ base point known b r a.
    let signal : ℕ = c.args.signal in
    let amount : ℤ = number_at c.args.entry.now.sv.now.observed signal in
    subst (λ (k : ℤ). IsWithinHalf (wavelength signal) (y_of signal amount c.args.group k b r)) (sym (to_z-of_z w64 c.first_shift.result (record { sfits = c.first_shift.type_inv })))
    (subst (λ (g : ℤ). IsWithinHalf (wavelength signal) (y_of signal amount g c.first_shift.result b r)) (to_z-of_z w64 c.args.group c.ranges.group)
    (subst (λ (m : ℤ). IsWithinHalf (wavelength signal) (y_of signal m (to_z w64 (of_z w64 c.args.group)) c.first_shift.result b r))
    (read_small amount (wide signal (unsigned_abs amount) (c.args.entry.now.sv.now.observed_in signal c.requires.signal)))
    (c.first_shift.ensures.near (seen_by c.args.entry.now.sv.now base point) (held_by_both c.args.entry.now base point known) b r a)))
