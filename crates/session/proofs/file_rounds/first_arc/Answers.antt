use Rattle.std.proofs.Common.{◌≡◌, ◌<◌, ◌≤◌, ℕ, false, List, [], length, Some, get_or, sym, ap, ◌∙◌, subst}
use Rattle.std.specs.Prelude.{slice_get}
use Rattle.std.proofs.lemmas.Bool.{false≢true}
use Rattle.std.proofs.lemmas.Option.{slice_get-get_or, get_or_from_slice_get, MatchOption-at_some}
use Rattle.row_build.proofs.EntryLaws.{some_or}
use Rattle.obs_rows.specs.declared.arcs.Arc.{Arc}
use Rattle.obs_rows.specs.declared.limits.TheConstants.{MOST_ARCS}
use Rattle.row_boxes.specs.declared.pseudoranges.Pseudorange.{Pseudorange}
use Rattle.slip_arcs.specs.Linked.{IsCutOf}
use Rattle.row_build.specs.BasePseudoranges.{AreBasePseudoranges}
use Rattle.row_build.specs.Rows.{setting}
use Rattle.row_build.specs.HeldArcs.{holds_pair}
use Rattle.row_build.specs.Shifts.{AreFirstShifts}
use Rattle.row_build.proofs.BasePseudorangeLaws.{no_sights}
use Rattle.round_steps.specs.Shifts.{without_shifts}
use Rattle.session.proofs.RangeLaws.{first_inside, holds_first}
use Rattle.session.proofs.file_rounds.first_arc.Goals as goal

pub shift_with-requires-clause-pair : goal.shift_with-requires-clause-pair
shift_with-requires-clause-pair c =
    let kept : List Arc = c.args.files.now.kept in
    let unread : Arc = record { sat = 0; first = 0; last = 0; datum = false; shift = [] } in
    subst (λ (l : List Arc). (get_or l c.args.k unread).first < length c.args.files.now.screened.used) (sym c.as_slice-kept.ensures)
    (first_inside c.args.files.now.screened.used kept c.args.k (get_or kept c.args.k unread) c.requires.cut c.args.files.now.screened.numbered
    (slice_get-get_or kept c.args.k unread c.requires.inside))

-- the arc holds its first pair, so it has shifts there
pub unwrap-shift-requires : goal.unwrap-shift-requires
unwrap-shift-requires c = some_or c.shift_with.result (λ e.
    let kept : List Arc = c.args.files.now.kept in
    let arcs : List Arc = c.as_slice-kept.result.now in
    let unread : Arc = record { sat = 0; first = 0; last = 0; datum = false; shift = [] } in
    let arc : Arc = get_or kept c.args.k unread in
    let at : slice_get kept c.args.k ≡ Some arc = slice_get-get_or kept c.args.k unread c.requires.inside in
    let same : get_or arcs c.args.k unread ≡ arc = ap (λ (l : List Arc). get_or l c.args.k unread) c.as_slice-kept.ensures in
    let none : holds_pair arc (get_or arcs c.args.k unread).first ≡ false =
    (c.shift_with.ensures.none arc (subst (λ (l : List Arc). slice_get l c.args.k ≡ Some arc) (sym c.as_slice-kept.ensures) at)).0 e in
    false≢true (sym (subst (λ (n : ℕ). holds_pair arc n ≡ false) (ap (λ (x : Arc). x.first) same) none) ∙ holds_first kept c.args.k arc c.requires.arcs at))

pub returns-clause-same : goal.returns-clause-same
returns-clause-same c = λ a at.
    let kept : List Arc = c.args.files.now.kept in
    let unread : Arc = record { sat = 0; first = 0; last = 0; datum = false; shift = [] } in
    ap without_shifts (ap (λ (l : List Arc). get_or l c.args.k unread) c.as_slice-kept.ensures ∙ get_or_from_slice_get kept c.args.k a unread at)

pub returns-clause-near : goal.returns-clause-near
returns-clause-near c = λ a at.
    let kept : List Arc = c.args.files.now.kept in
    let files = c.args.files.now in
    let arcs : List Arc = c.as_slice-kept.result.now in
    let shift = c.unwrap-shift.result in
    let unread : Arc = record { sat = 0; first = 0; last = 0; datum = false; shift = [] } in
    let same : get_or arcs c.args.k unread ≡ a = ap (λ (l : List Arc). get_or l c.args.k unread) c.as_slice-kept.ensures ∙ get_or_from_slice_get kept c.args.k a unread at in
    let near : AreFirstShifts (setting files.screened.boxes arcs files.position c.args.point.now files.signals 0) (get_or arcs c.args.k unread).first a.sat shift =
    MatchOption-at_some _ _ _ c.unwrap-shift.ensures (c.shift_with.ensures.near a (subst (λ (l : List Arc). slice_get l c.args.k ≡ Some a) (sym c.as_slice-kept.ensures) at)) in
    subst (λ (n : ℕ). AreFirstShifts (setting files.screened.boxes kept files.position c.args.point.now files.signals 0) n a.sat shift) (ap (λ (x : Arc). x.first) same)
    (subst (λ (l : List Arc). AreFirstShifts (setting files.screened.boxes l files.position c.args.point.now files.signals 0) (get_or arcs c.args.k unread).first a.sat shift) c.as_slice-kept.ensures near)

pub returns-clause-used : goal.returns-clause-used
returns-clause-used c =
    let kept : List Arc = c.args.files.now.kept in
    let unread : Arc = record { sat = 0; first = 0; last = 0; datum = false; shift = [] } in
    let arc : Arc = get_or kept c.args.k unread in
    let at : slice_get c.as_slice-kept.result.now c.args.k ≡ Some arc =
    subst (λ (l : List Arc). slice_get l c.args.k ≡ Some arc) (sym c.as_slice-kept.ensures) (slice_get-get_or kept c.args.k unread c.requires.inside) in
    (MatchOption-at_some _ _ _ c.unwrap-shift.ensures (c.shift_with.ensures.near arc at)).unused

pub returns-clause-size : goal.returns-clause-size
returns-clause-size c = MatchOption-at_some _ _ _ c.unwrap-shift.ensures c.shift_with.ensures.size

pub invariant_of-from : goal.invariant_of-from
invariant_of-from c =
    let files = c.args.files.now in
    record {
      cut = ∣ subst (λ (arcs : List Arc). IsCutOf files.screened.used arcs) (sym c.as_slice-kept.ensures) c.requires.cut ∣₁;
      few = subst (λ (arcs : List Arc). length arcs ≤ MOST_ARCS) (sym c.as_slice-kept.ensures) c.requires.arcs.few;
      base_in = c.requires.base;
      point_in = c.requires.point;
      base_pseudoranges_hold = ∣ subst (λ (base_pseudoranges : List Pseudorange). AreBasePseudoranges files.screened.boxes files.position base_pseudoranges) (sym c.as_slice.ensures.value) c.requires.base_pseudoranges ∣₁;
      sights_hold = no_sights files.screened.boxes c.args.point.now;
    }
