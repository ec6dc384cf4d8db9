-- The y box of the code on L1 of a pair's first row meets that from -1 to 1 ι.
use Rattle.std.proofs.Common.{◌≡◌, ℕ, Bool, true, false, cond, Some, All, List, ℤ, pos, lit<, sym, subst, ap, ◌∙◌}
use Rattle.std.specs.Prelude.{slice_get, ◌==◌}
use Rattle.std.proofs.lemmas.Option.{same_Some}
use Rattle.whole_math.proofs.IntLaws.{zero_mul_ℤ}
use Rattle.whole_math.specs.Rational.{of_whole, ◌-ʳ◌}
use Rattle.obs_rows.specs.declared.arcs.Arc.{Arc}
use Rattle.obs_rows.specs.declared.rows.Row.{Row}
use Rattle.obs_rows.specs.declared.bands.Signals.{Signals}
use Rattle.obs_rows.specs.declared.units.TheConstants.{SIGNALS_12, SIGNALS_15, SIGNALS_125, COARSE_SIGNALS}
use Rattle.obs_rows.specs.Signals.{band, fine_signals, counted}
use Rattle.obs_rows.specs.Data.{number_at}
use Rattle.obs_rows.specs.declared.used.UsedPair.{UsedPair}
use Rattle.obs_rows.specs.UsedSats.{IsInRange}
use Rattle.screening.specs.declared.sv_pair.SvPair.{SvPair}
use Rattle.screening.specs.Entries.{entries_of, places_of}
use Rattle.row_boxes.specs.Sightings.{observed, Sighting, computed, y_of}
use Rattle.row_boxes.specs.YBoxes.{AreSightings, HasSightings, HoldsY, IsWithinHalf, MeetsOne}
use Rattle.row_boxes.proofs.Groups.{meets_one}
use Rattle.row_build.specs.Entries.{IsEntry}
use Rattle.row_build.specs.HeldArcs.{arcs_at}
use Rattle.row_build.specs.Rows.{RowSetting, pairing_of, IsRow}
use Rattle.row_build.specs.Far.{IsFirstEntry}
use Rattle.row_build.proofs.Unique.{one_entry}

-- the code on L1 counts in each session
pub code_counts : (P : ℕ → Type 0) (signals : Signals) (scale : ℕ) → All P (counted signals scale) → P 2
code_counts P signals scale = by_scale (scale == 0)
  where
    by_l2 : (unused : Bool) → All P (cond unused SIGNALS_15 SIGNALS_125) → P 2
    by_l2 true h = h 1 0 (lit< tt)
    by_l2 false h = h 2 0 (lit< tt)

    by_l5 : (unused : Bool) → All P (cond unused SIGNALS_12 (cond (signals.l2 == 0) SIGNALS_15 SIGNALS_125)) → P 2
    by_l5 true h = h 2 0 (lit< tt)
    by_l5 false h = by_l2 (signals.l2 == 0) h

    by_scale : (fine : Bool) → All P (cond fine (fine_signals signals) COARSE_SIGNALS) → P 2
    by_scale true h = by_l5 (signals.l5 == 0) h
    by_scale false h = h 0 0 (lit< tt)

-- a code has no shift
no_shift : (amount group shift : ℤ) (b r : Sighting) → IsWithinHalf (pos 1) (y_of 2 amount group (pos 0) b r) → IsWithinHalf (pos 1) (y_of 2 amount group shift b r)
no_shift amount group shift b r h = subst (λ (z : ℤ). IsWithinHalf (pos 1) (observed 2 amount -ʳ computed b r -ʳ of_whole group -ʳ of_whole z))
    (zero_mul_ℤ (pos 0) ∙ sym (zero_mul_ℤ shift)) h

pub first_meets : (used : List UsedPair) (t : RowSetting) (pair : ℕ) (group : ℤ) (r : Row) (f : SvPair) → places_of t.boxes ≡ entries_of used → All IsInRange used →
    IsFirstEntry t.boxes t.arcs pair f → slice_get (arcs_at t.arcs pair) 0 ≡ Some r.arc → IsRow t pair group r → HasSightings (pairing_of t f) →
    ((b q : Sighting) → AreSightings (pairing_of t f) b q → IsWithinHalf (pos 1) (y_of 2 (number_at f.observed 2) group (pos 0) b q)) → MeetsOne t.scale (number_at r.y 2) r.ry
first_meets used t pair group r f m rs first is row has near =
    let number : r.arc ≡ first.number = same_Some r.arc first.number (sym is ∙ first.first) in
    let arc : row.arc ≡ first.arc = same_Some row.arc first.arc (sym row.arc_is ∙ ap (λ (k : ℕ). slice_get t.arcs k) number ∙ first.arc_is) in
    let entry : row.entry ≡ f = one_entry used t.boxes pair first.arc.sat row.entry f m rs (subst (λ (a : Arc). IsEntry t.boxes pair a.sat row.entry) arc row.entry_is) first.entry_is in
    let box : HoldsY (pairing_of t f) t.scale 2 (number_at f.observed 2) group (number_at row.arc.shift 0) (number_at r.y 2) r.ry =
    subst (λ (v : SvPair). HoldsY (pairing_of t v) t.scale 2 (number_at v.observed 2) group (number_at row.arc.shift 0) (number_at r.y 2) r.ry) entry
    (code_counts (λ i. HoldsY (pairing_of t row.entry) t.scale i (number_at row.entry.observed i) group (number_at row.arc.shift (band i)) (number_at r.y i) r.ry) t.signals t.scale row.y) in
    let base_sighting : Sighting = has.base.sighting in
    let rover_sighting : Sighting = has.rover.sighting in
    let are : AreSightings (pairing_of t f) base_sighting rover_sighting = record { base_is = has.base.is; rover_is = has.rover.is } in
    meets_one t.scale (number_at r.y 2) r.ry (y_of 2 (number_at f.observed 2) group (number_at row.arc.shift 0) base_sighting rover_sighting)
    (no_shift (number_at f.observed 2) group (number_at row.arc.shift 0) base_sighting rover_sighting (near base_sighting rover_sighting are)) (box base_sighting rover_sighting are)
