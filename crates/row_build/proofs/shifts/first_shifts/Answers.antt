use Rattle.std.proofs.Common.{ℕ, List, IsTrue, ℤ, sym, subst}
use Rattle.std.proofs.lemmas.Int.{to_z-of_z}
use Rattle.std.specs.Int.{w64}
use Rattle.obs_rows.specs.Data.{number_at}
use Rattle.obs_rows.specs.Signals.{wavelength, band}
use Rattle.obs_rows.specs.CountedSignals.{phase_bands}
use Rattle.obs_rows.specs.Unused.{IsZeroOff}
use Rattle.row_boxes.specs.Sightings.{y_of}
use Rattle.row_boxes.specs.YBoxes.{IsWithinHalf}
use Rattle.row_boxes.proofs.Ys.{long_cycle}
use Rattle.row_boxes.proofs.Groups.{row_close, shift_within}
use Rattle.row_build.specs.Rows.{seen_by}
use Rattle.row_build.proofs.SightLaws.{both_see}
use Rattle.row_build.specs.Shifts.{counts}
use Rattle.row_build.proofs.shifts.first_shifts.Goals as goal

pub returns-clause-near : goal.returns-clause-near
returns-clause-near c =
    let first_used = c.first_seen_sat-first.result.sv.now in
    let entry_used = c.seen_sat_of-entry.result.sv.now in
    let chosen_group : ℤ = c.group_of-group.result in
    record {
      first = first_used;
      first_is = c.first_seen_sat-first.ensures.entry;
      first_seen = both_see c.first_seen_sat-first.result c.args.from.now.base.now c.args.from.now.point.now c.first_seen_sat-first.ensures.seen;
      entry = entry_used;
      entry_is = c.seen_sat_of-entry.ensures.entry;
      seen = both_see c.seen_sat_of-entry.result c.args.from.now.base.now c.args.from.now.point.now c.seen_sat_of-entry.ensures.seen;
      within = λ group a s h phase among b r q.
          shift_within s (number_at entry_used.observed s) chosen_group group (number_at c.shifts_of.result (band s)) b r (long_cycle s h phase)
          (row_close (seen_by first_used c.args.from.now.base.now c.args.from.now.point.now) (number_at first_used.observed 2) chosen_group group a
          (both_see c.first_seen_sat-first.result c.args.from.now.base.now c.args.from.now.point.now c.first_seen_sat-first.ensures.seen)
          (c.group_of-group.ensures.near c.args.from.now.base.now c.args.from.now.point.now c.first_seen_sat-first.ensures.seen))
          (subst (λ (m : ℤ). IsWithinHalf (wavelength s) (y_of s (number_at entry_used.observed s) m (number_at c.shifts_of.result (band s)) b r))
          (to_z-of_z w64 chosen_group (record { sfits = c.group_of-group.type_inv })) (c.shifts_of.ensures.near c.args.from.now.base.now c.args.from.now.point.now c.seen_sat_of-entry.ensures.seen s h phase
          (subst (λ (ss : List ℕ). IsTrue (counts ss s)) (sym c.fine_signals.ensures.value) among) b r q));
      unused = subst (λ (ss : List ℕ). IsZeroOff (phase_bands ss) c.shifts_of.result) c.fine_signals.ensures.value c.shifts_of.ensures.unused;
    }
