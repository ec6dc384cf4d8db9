use Rattle.std.proofs.Common.{◌≡◌, false, sym, subst, ◌∙◌, refl}
use Rattle.std.proofs.lemmas.Option.{slice_get-get_or, get_or_from_slice_get}
use Rattle.obs_rows.specs.declared.arcs.Arc.{Arc}
use Rattle.row_build.specs.HeldArcs.{holds_pair}
use Rattle.row_build.specs.Rows.{setting_from}
use Rattle.row_build.specs.Shifts.{AreFirstShifts}
use Rattle.row_build.proofs.ArcLaws.{not_empty, cut_sat}
use Rattle.row_build.proofs.shifts.shift_with.Goals as goal

pub first_shifts-requires-clause-held : goal.first_shifts-requires-clause-held
first_shifts-requires-clause-held c = not_empty c.args.from.now.arcs.now 0 c.args.arc c.args.pair _
    (slice_get-get_or c.args.from.now.arcs.now c.args.arc _ c.requires.arc) (sym c.holds.ensures ∙ c.if-holds.true)

pub first_shifts-requires-clause-used : goal.first_shifts-requires-clause-used
first_shifts-requires-clause-used c = cut_sat c.args.from.now.screened.now.used c.args.from.now.arcs.now c.args.arc c.args.pair _ c.args.from.now.cut
    (slice_get-get_or c.args.from.now.arcs.now c.args.arc _ c.requires.arc)
    (sym c.holds.ensures ∙ c.if-holds.true)

pub returns-then-holds-clause-near : goal.returns-then-holds-clause-near
returns-then-holds-clause-near c = λ a e. subst (λ (b : Arc). AreFirstShifts
    (setting_from c.args.from.now 0) c.args.pair b.sat c.first_shifts.result)
    (get_or_from_slice_get c.args.from.now.arcs.now c.args.arc a _ e) c.first_shifts.ensures.near

pub returns-else-holds-clause-none : goal.returns-else-holds-clause-none
returns-else-holds-clause-none c = λ a e. (
  (λ _. subst (λ (b : Arc). holds_pair b c.args.pair ≡ false) (get_or_from_slice_get c.args.from.now.arcs.now c.args.arc a _ e)
      (sym c.holds.ensures ∙ c.if-holds.false)),
  (λ _. refl),
)
