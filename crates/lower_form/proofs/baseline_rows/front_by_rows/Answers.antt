use Rattle.std.proofs.Common.{◌≡◌, ◌-◌, List, ℤ, Ok, sym, subst}
use Rattle.integer_form.specs.Factors.{stored}
use Rattle.integer_form.specs.Kept.{form_of_table}
use Rattle.lower_form.specs.Fronts.{front_of}
use Rattle.lower_form.specs.FirstRounding.{first_entry}
use Rattle.elimination.proofs.RowStepLaws.{pivot_sizes, pivots_positive}
use Rattle.lower_form.proofs.RowFrontLaws.{front_taken}
use Rattle.lower_form.proofs.baseline_rows.front_by_rows.Goals as goal

pub form_rows-requires-clause-positive : goal.form_rows-requires-clause-positive
form_rows-requires-clause-positive c = pivots_positive (first_entry c.args.normal.now c.args.h) c.pivot_rows.new.pivots.rows c.args.normal.now.columns c.pivot_rows.new.front.d c.pivot_rows.new.front.l 3
    (c.pivot_rows.ensures.rows c.if-not-pivot_rows.false)

pub form_rows-requires-clause-pivots : goal.form_rows-requires-clause-pivots
form_rows-requires-clause-pivots c = pivot_sizes (first_entry c.args.normal.now c.args.h) c.pivot_rows.new.pivots.rows c.args.normal.now.columns c.pivot_rows.new.front.d c.pivot_rows.new.front.l 3
    (c.pivot_rows.ensures.rows c.if-not-pivot_rows.false)

pub returns-clause-taken : goal.returns-clause-taken
returns-clause-taken c = λ e. subst (λ (d : List ℤ). front_of c.args.h c.args.normal.now ≡ Ok (
  stored d c.form_rows.new.front.l c.args.normal.now.columns 0 3,
  form_of_table c.form_rows.new.front.p (c.args.normal.now.columns - 3),
)) (sym c.form_rows.ensures.kept)
    (front_taken c.args.normal.now c.args.h c.pivot_rows.new.pivots.rows c.pivot_rows.new.front.d c.pivot_rows.new.front.l c.form_rows.new.front.l c.form_rows.new.front.p
    c.args.normal.now.columns_from (c.pivot_rows.ensures.rows c.if-not-pivot_rows.false) c.form_rows.ensures.first (c.form_rows.ensures.factors e) (c.form_rows.ensures.small e) (c.form_rows.ensures.form e))
