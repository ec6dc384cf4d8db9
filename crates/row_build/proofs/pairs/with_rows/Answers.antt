use Rattle.std.proofs.Common.{◌≡◌, ℕ, ◌+◌, ◌^◌, ◌<◌, ◌≤◌, Some, List, take, length, get_or, ℤ, unsigned_abs, arith, to_z, of_z, sym, subst, subst₂, ap, ◌∙◌}
use Rattle.std.specs.Prelude.{slice_get}
use Rattle.std.specs.Int.{w64}
use Rattle.std.proofs.Math.Logic.{∥∥₁_elim}
use Rattle.std.proofs.Props.{props}
use Rattle.std.proofs.lemmas.Option.{slice_get-get_or}
use Rattle.obs_rows.specs.declared.rows.Row.{Row}
use Rattle.obs_rows.specs.Rows.{AreBelow}
use Rattle.obs_rows.specs.declared.limits.TheConstants.{MOST_SATELLITES}
use Rattle.obs_rows.specs.declared.arcs.Arc.{Arc}
use Rattle.slip_arcs.specs.Linked.{IsCutOf}
use Rattle.screening.specs.declared.sv_pair.SvPair.{SvPair}
use Rattle.row_build.specs.Entries.{IsEntry}
use Rattle.row_build.specs.HeldArcs.{arcs_at, IsHeld}
use Rattle.row_build.specs.Rows.{setting_from, IsRow}
use Rattle.row_build.specs.Far.{IsFirstEntry, IsGroup, HasFarRow}
use Rattle.row_build.proofs.ArcLaws.{held_read}
use Rattle.row_build.proofs.FewRows.{held_few}
use Rattle.row_build.proofs.RowLists.{AreFirstRows, few_so_far, in_order, one_row_more}
use Rattle.row_build.proofs.pairs.with_rows.Goals as goal
use Rattle.whole_math.proofs.Words.{as_w64}

read_group : (z : ℤ) → unsigned_abs z < 2 ^ 55 → to_z w64 (of_z w64 z) ≡ z
read_group z small = as_w64 z (omega (arith, small))

-- an entry of an arc that holds the pair is of the pair
of_pair : (boxes : List SvPair) (arcs : List Arc) (held : List ℕ) (place n k : ℕ) (v : SvPair) → held ≡ arcs_at arcs n → place < length held →
    ((m : ℕ) (a : Arc) → slice_get held place ≡ Some m → slice_get arcs m ≡ Some a → IsEntry boxes k a.sat v) → k ≡ n → v.pair ≡ n
of_pair boxes arcs held place n k v e h all same =
    let is_held = held_read arcs n place held e h in
    (all (get_or held place 0) is_held.arc (slice_get-get_or held place 0 h) is_held.is).of_pair ∙ same

pub held_sat-entry-requires-clause-held : goal.held_sat-entry-requires-clause-held
held_sat-entry-requires-clause-held c = c.requires.held ∙ ap (λ (n : ℕ). arcs_at c.args.from.now.arcs.now n) (sym c.loop-place.invariant.0)

pub held_sat-entry-requires-clause-first : goal.held_sat-entry-requires-clause-first
held_sat-entry-requires-clause-first c =
    subst (λ (n : ℕ). IsFirstEntry c.args.from.now.screened.now.boxes c.args.from.now.arcs.now n c.args.first.now.sv.now) (sym c.loop-place.invariant.0) c.requires.first

pub row_at-requires-clause-number : goal.row_at-requires-clause-number
row_at-requires-clause-number c =
    let same_pair = of_pair c.args.from.now.screened.now.boxes c.args.from.now.arcs.now c.args.held.now c.loop-place.place c.args.rows.number c.loop-place.rows.number c.held_sat-entry.result.sv.now
    c.requires.held c.loop-place-test.true c.held_sat-entry.ensures.entry c.loop-place.invariant.0 in
    subst (λ (n : ℕ). IsHeld c.args.from.now.arcs.now n (get_or c.args.held.now c.loop-place.place 0)) (sym same_pair)
    (held_read c.args.from.now.arcs.now c.args.rows.number c.loop-place.place c.args.held.now c.requires.held c.loop-place-test.true)

pub row_at-requires-clause-entry : goal.row_at-requires-clause-entry
row_at-requires-clause-entry c = λ a is.
    let arc_number : ℕ = get_or c.args.held.now c.loop-place.place 0 in
    let is_entry = c.held_sat-entry.ensures.entry arc_number a (slice_get-get_or c.args.held.now c.loop-place.place 0 c.loop-place-test.true) is in
    subst (λ (n : ℕ). IsEntry c.args.from.now.screened.now.boxes n a.sat c.held_sat-entry.result.sv.now) (sym is_entry.of_pair) is_entry

pub push-requires-clause-room : goal.push-requires-clause-room
push-requires-clause-room c =
    let few_held : length c.args.held.now ≤ MOST_SATELLITES = subst (λ (xs : List ℕ). length xs ≤ MOST_SATELLITES) (sym c.requires.held)
    (∥∥₁_elim c.args.from.now.cut (hlevel props)
    (λ (cut : IsCutOf c.args.from.now.screened.now.used c.args.from.now.arcs.now).
    held_few c.args.from.now.screened.now.used c.args.from.now.arcs.now c.args.rows.number cut c.args.from.now.screened.now.ranges c.requires.pair)) in
    few_so_far c.args.held.now c.loop-place.rows.rows c.loop-place.place c.loop-place.invariant.3.arcs c.loop-place-test.true few_held

pub push-requires-clause-order : goal.push-requires-clause-order
push-requires-clause-order c =
    let arc_number : ℕ = get_or c.args.held.now c.loop-place.place 0 in
    let arc_at_place : slice_get c.args.held.now c.loop-place.place ≡ Some arc_number = slice_get-get_or c.args.held.now c.loop-place.place 0 c.loop-place-test.true in
    subst (λ (k : ℕ). AreBelow c.loop-place.rows.rows k) (sym c.in_ok-row.ensures.arc)
    (in_order c.args.from.now.arcs.now c.args.rows.number c.args.held.now c.loop-place.rows.rows c.loop-place.place arc_number c.requires.held c.loop-place.invariant.3.arcs arc_at_place)

pub returns-in_err-row-clause-far : goal.returns-in_err-row-clause-far
returns-in_err-row-clause-far c = λ _ g.
    let setting = setting_from c.args.from.now c.args.scale in
    let rows_so_far = c.loop-place.invariant in
    let same_pair = of_pair c.args.from.now.screened.now.boxes c.args.from.now.arcs.now c.args.held.now c.loop-place.place c.args.rows.number c.loop-place.rows.number c.held_sat-entry.result.sv.now
    c.requires.held c.loop-place-test.true c.held_sat-entry.ensures.entry rows_so_far.0 in
    subst (λ (n : ℕ). HasFarRow setting n) same_pair
    (c.in_err-row.ensures.far (subst₂ (λ (n : ℕ) (k : ℤ). IsGroup setting n k) (sym same_pair) (sym (read_group c.loop-place.rows.group c.loop-place.rows.group_in ∙ rows_so_far.2)) g))

pub loop-place-preserved : goal.loop-place-preserved
loop-place-preserved c =
    let setting = setting_from c.args.from.now c.args.scale in
    let rows_so_far = c.loop-place.invariant in
    let arc_number : ℕ = get_or c.args.held.now c.loop-place.place 0 in
    let arc_at_place : slice_get c.args.held.now c.loop-place.place ≡ Some arc_number = slice_get-get_or c.args.held.now c.loop-place.place 0 c.loop-place-test.true in
    let same_pair = of_pair c.args.from.now.screened.now.boxes c.args.from.now.arcs.now c.args.held.now c.loop-place.place c.args.rows.number c.loop-place.rows.number c.held_sat-entry.result.sv.now
    c.requires.held c.loop-place-test.true c.held_sat-entry.ensures.entry rows_so_far.0 in
    let row : IsRow setting c.args.rows.number c.args.rows.group c.in_ok-row.row = subst₂ (λ (n : ℕ) (k : ℤ). IsRow setting n k c.in_ok-row.row) same_pair
    (read_group c.loop-place.rows.group c.loop-place.rows.group_in ∙ rows_so_far.2) c.in_ok-row.ensures.row in (
      c.push.ensures.number ∙ rows_so_far.0,
      c.push.ensures.tag ∙ rows_so_far.1,
      c.push.ensures.group ∙ rows_so_far.2,
      subst (λ (rs : List Row). AreFirstRows setting c.args.rows.number c.args.rows.group (take (c.loop-place.place + 1) c.args.held.now) rs) (sym c.in_ok-push.ensures.added)
          (one_row_more setting c.args.rows.number c.args.rows.group c.args.held.now c.loop-place.rows.rows c.loop-place.place arc_number c.in_ok-row.row rows_so_far.3 arc_at_place c.in_ok-row.ensures.arc row),
    )
