use Rattle.std.proofs.Common.{◌≡◌, ℕ, true, Some, List, get_or, sym, subst, ap, ◌∙◌}
use Rattle.std.specs.Prelude.{slice_get}
use Rattle.std.proofs.lemmas.Option.{same_Some, slice_get-get_or, slice_get_within, get_or_from_slice_get}
use Rattle.obs_rows.specs.declared.arcs.Arc.{Arc}
use Rattle.slip_arcs.specs.Used.{is_used}
use Rattle.row_build.specs.Entries.{IsEntry}
use Rattle.row_build.proofs.ArcLaws.{cut_sat, held_read}
use Rattle.row_build.proofs.pairs.held_sat.Goals as goal

pub bounds-from-number : goal.bounds-from-number
bounds-from-number c =
    let is_held = held_read c.args.from.now.arcs.now c.args.pair c.args.place c.args.held.now c.requires.held c.requires.inside in
    slice_get_within c.args.from.now.arcs.now (get_or c.args.held.now c.args.place 0) is_held.arc is_held.is

pub seen_sat_of-requires : goal.seen_sat_of-requires
seen_sat_of-requires c =
    let arc_number : ℕ = get_or c.args.held.now c.args.place 0 in
    let is_held = held_read c.args.from.now.arcs.now c.args.pair c.args.place c.args.held.now c.requires.held c.requires.inside in
    record {
      used = subst (λ (a : Arc). is_used c.args.from.now.screened.now.used a.sat c.args.pair ≡ true) (sym (get_or_from_slice_get c.args.from.now.arcs.now arc_number is_held.arc _ is_held.is))
          (cut_sat c.args.from.now.screened.now.used c.args.from.now.arcs.now arc_number c.args.pair is_held.arc c.args.from.now.cut is_held.is is_held.held);
    }

pub returns-then-place-eq0-clause-entry : goal.returns-then-place-eq0-clause-entry
returns-then-place-eq0-clause-entry c = λ n a at is.
    let is_first_entry = c.requires.first in
    let here : slice_get c.args.held.now 0 ≡ Some n = subst (λ (k : ℕ). slice_get c.args.held.now k ≡ Some n) c.if-place-eq0.true at in
    let same : is_first_entry.number ≡ n = same_Some is_first_entry.number n (sym is_first_entry.first ∙ ap (λ (xs : List ℕ). slice_get xs 0) (sym c.requires.held) ∙ here) in
    let arc : is_first_entry.arc ≡ a = same_Some is_first_entry.arc a (sym is_first_entry.arc_is ∙ subst (λ (k : ℕ). slice_get c.args.from.now.arcs.now k ≡ Some a) (sym same) is) in
    subst (λ (b : Arc). IsEntry c.args.from.now.screened.now.boxes c.args.pair b.sat c.args.first.now.sv.now) arc is_first_entry.entry_is

pub returns-clause-entry : goal.returns-clause-entry
returns-clause-entry c = λ n a at is.
    let arc_number : ℕ = get_or c.args.held.now c.args.place 0 in
    let same : n ≡ arc_number = same_Some n arc_number (sym at ∙ slice_get-get_or c.args.held.now c.args.place 0 c.requires.inside) in
    subst (λ (b : Arc). IsEntry c.args.from.now.screened.now.boxes c.args.pair b.sat c.seen_sat_of.result.sv.now)
    (get_or_from_slice_get c.args.from.now.arcs.now arc_number a _ (subst (λ (k : ℕ). slice_get c.args.from.now.arcs.now k ≡ Some a) same is)) c.seen_sat_of.ensures.entry
