use Rattle.std.proofs.Common.{◌≡◌, ℕ, Option, Some, All, List, map, ℤ, pos, to_z, of_z, sym, subst, subst₂, ap, ◌∙◌}
use Rattle.std.specs.Prelude.{slice_get}
use Rattle.std.specs.Option.{option_map}
use Rattle.std.proofs.lemmas.Int.{to_z-of_z}
use Rattle.std.proofs.lemmas.Result.{err_from_is_err_and}
use Rattle.std.specs.Int.{w64}
use Rattle.std.proofs.lemmas.Option.{slice_get-map, slice_get_within, get_or_from_slice_get}
use Rattle.obs_rows.specs.declared.rows.Row.{Row}
use Rattle.obs_rows.specs.Data.{number_at}
use Rattle.row_boxes.specs.Sightings.{Sighting, y_of}
use Rattle.row_boxes.specs.YBoxes.{AreSightings, IsWithinHalf}
use Rattle.row_build.specs.HeldArcs.{arcs_at}
use Rattle.row_build.specs.Rows.{setting_from, seen_by, IsRow}
use Rattle.row_build.specs.Far.{IsGroup, HasFarRow}
use Rattle.row_build.proofs.FirstRow.{first_meets}
use Rattle.row_build.proofs.SightLaws.{both_see}
use Rattle.row_build.proofs.pairs.next_pair_rows.Goals as goal

row_in : (P : Row → Type 0) (rows : List Row) (r : Row) → All P rows → slice_get rows 0 ≡ Some r → P r
row_in P rows r all e = subst P (get_or_from_slice_get rows 0 r r e) (all 0 r (slice_get_within rows 0 r e))

pub returns-clause-rows : goal.returns-clause-rows
returns-clause-rows c =
    let setting = setting_from c.args.from.now c.args.scale in
    let finished = c.finish.result in
    let entry_used = c.first_seen_sat-first.result.sv.now in
    let chosen_group : ℤ = c.group_of-group.result in
    let plain : to_z w64 (of_z w64 chosen_group) ≡ chosen_group = to_z-of_z w64 chosen_group (record { sfits = c.group_of-group.type_inv }) in
    let group : finished.group ≡ chosen_group = c.finish.ensures.group ∙ c.in_ok-rows.ensures.group ∙ c.in_ok-empty.ensures.group ∙ plain in
    let arcs : map (λ (r : Row). r.arc) finished.rows ≡ arcs_at c.args.from.now.arcs.now c.args.pair =
    ap (λ (rs : List Row). map (λ (r : Row). r.arc) rs) c.finish.ensures.rows ∙ c.in_ok-rows.ensures.arcs ∙ c.as_slice-held.ensures.value ∙ c.in_ok-held.ensures in
    let rows : All (IsRow setting c.args.pair finished.group) finished.rows =
    subst (λ (rs : List Row). All (IsRow setting c.args.pair finished.group) rs) (sym c.finish.ensures.rows)
    (subst₂ (λ (n : ℕ) (k : ℤ). All (IsRow setting n k) c.in_ok-rows.rows.rows) c.in_ok-empty.ensures.number (sym (c.finish.ensures.group ∙ c.in_ok-rows.ensures.group)) c.in_ok-rows.ensures.rows) in
    record {
      number = c.finish.ensures.number ∙ c.in_ok-rows.ensures.number ∙ c.in_ok-empty.ensures.number;
      tag = record {
        sat = c.first_seen_sat-first.ensures.entry.arc.sat;
        entry = entry_used;
        entry_is = c.first_seen_sat-first.ensures.entry.entry_is;
        tag_is =
            sym (c.finish.ensures.tag ∙ c.in_ok-rows.ensures.tag ∙ c.in_ok-empty.ensures.tag);
      };
      arcs = arcs;
      rows = rows;
      group = λ r e.
          first_meets c.args.from.now.screened.now.used setting c.args.pair finished.group r entry_used c.args.from.now.screened.now.matched c.args.from.now.screened.now.ranges c.first_seen_sat-first.ensures.entry
          (ap (λ (xs : List ℕ). slice_get xs 0) (sym arcs) ∙ slice_get-map (λ (q : Row). q.arc) finished.rows 0 ∙ ap (λ (o : Option Row). option_map (λ (q : Row). q.arc) o) e)
          (row_in (IsRow setting c.args.pair finished.group) finished.rows r rows e) (both_see c.first_seen_sat-first.result c.args.from.now.base.now c.args.from.now.point.now c.first_seen_sat-first.ensures.seen)
          (subst (λ (k : ℤ). (b q : Sighting) → AreSightings (seen_by entry_used c.args.from.now.base.now c.args.from.now.point.now) b q
          → IsWithinHalf (pos 1) (y_of 2 (number_at entry_used.observed 2) k (pos 0) b q)) (sym group)
          (c.group_of-group.ensures.near c.args.from.now.base.now c.args.from.now.point.now c.first_seen_sat-first.ensures.seen));
    }

pub returns-in_err-rows-clause-overwidth : goal.returns-in_err-rows-clause-overwidth
returns-in_err-rows-clause-overwidth c = λ e.
    let answered = err_from_is_err_and c.from_residual-in_err-rows.result c.from_residual-in_err-rows.ensures.1 in
    let setting = setting_from c.args.from.now c.args.scale in
    let chosen_group : ℤ = c.group_of-group.result in
    let plain : to_z w64 (of_z w64 chosen_group) ≡ chosen_group = to_z-of_z w64 chosen_group (record { sfits = c.group_of-group.type_inv }) in
    let allowed : IsGroup setting c.args.pair chosen_group = record {
      entry = c.first_seen_sat-first.result.sv.now;
      entry_is = c.first_seen_sat-first.ensures.entry;
      seen = both_see c.first_seen_sat-first.result c.args.from.now.base.now c.args.from.now.point.now c.first_seen_sat-first.ensures.seen;
      allowed =
          c.group_of-group.ensures.allowed c.args.from.now.base.now c.args.from.now.point.now c.first_seen_sat-first.ensures.seen c.args.scale c.requires.scale;
    } in
    subst (λ (n : ℕ). HasFarRow setting n) c.in_ok-empty.ensures.number
    (c.in_err-rows.ensures.far (cc (answered.1, answered.2, e)) (subst₂ (λ (n : ℕ) (k : ℤ). IsGroup setting n k) (sym c.in_ok-empty.ensures.number) (sym (c.in_ok-empty.ensures.group ∙ plain)) allowed))
