use Rattle.std.proofs.Common.{◌≡◌, ◌⊎◌, ℕ, ◌-◌, ◌≤◌, pos, arith, sym, ◌∙◌, subst}
use Rattle.quadratic_form.specs.Places.{form_from}
use Rattle.quadratic_form.specs.Tables.{entry, IsZeroOutside}
use Rattle.normal_sum.specs.declared.normal.Normal.{Normal}
use Rattle.integer_form.specs.declared.front_form.FrontForm.{FrontForm}
use Rattle.integer_form.specs.Factors.{stored}
use Rattle.lower_form.proofs.FrontKept.{front_range, fronted, Fronted}
use Rattle.lower_form.proofs.baseline_steps.refill_by_columns.Goals as goal

pub fill_form_table-requires-clause-small : goal.fill_form_table-requires-clause-small
fill_form_table-requires-clause-small c =
    (front_range c.in_ok-h.h c.args.normal.now (
      stored c.lower_front.new.kept c.lower_front.new.factors c.args.normal.now.columns 0 3,
      form_from (entry c.lower_front.new.table) 3
          (c.args.normal.now.columns - 3),
    ) c.in_ok-h.ensures.taken).1

pub fill_form_table-requires-clause-symmetric : goal.fill_form_table-requires-clause-symmetric
fill_form_table-requires-clause-symmetric c = c.args.front.now.symmetric

pub fill_form_table-requires-clause-outside : goal.fill_form_table-requires-clause-outside
fill_form_table-requires-clause-outside c = subst (λ (k : ℕ). IsZeroOutside (k - 3) (k - 3) c.args.front.now.p) c.requires.columns c.args.front.now.nothing_outside

pub invariant_of-front : goal.invariant_of-front
invariant_of-front c =
    let n : Normal = c.args.normal.now in
    let old : FrontForm = c.args.front.now in
    let few : c.in_ok-h.h ≤ 77 = c.in_ok-h.ensures.few in
    let zero : (r i : ℕ) → (3 ≤ i) ⊎ ((r ≤ i) ⊎ (c.args.normal.now.columns ≤ r)) → entry c.lower_front.new.factors r i ≡ pos 0 =
    λ r i a. c.in_ok-h.ensures.outside r i a ∙ c.requires.clean r i a in
    let g : Fronted c.args.normal.now.columns c.in_ok-h.h c.args.normal.now c.first_kept-d.result c.front_factors-l.result c.fill_form_table.new.p =
    fronted c.args.normal.now.columns c.in_ok-h.h c.args.normal.now c.first_kept-d.result c.lower_front.new.kept c.front_factors-l.result c.lower_front.new.factors c.lower_front.new.table
    c.fill_form_table.new.p
    n.columns_to c.in_ok-h.ensures.taken zero c.first_kept-d.ensures c.front_factors-l.ensures.same c.front_factors-l.ensures.outside c.fill_form_table.ensures.form in
    let f : Fronted c.args.front.now.columns c.in_ok-h.h c.args.normal.now c.first_kept-d.result c.front_factors-l.result c.fill_form_table.new.p =
    subst (λ (k : ℕ). Fronted k c.in_ok-h.h c.args.normal.now c.first_kept-d.result c.front_factors-l.result c.fill_form_table.new.p) (sym c.requires.columns) g in
    record {
      columns_from = old.columns_from;
      columns_to = old.columns_to;
      h_in = omega arith;
      factors_in = f.factors_in;
      factors_outside = f.factors_outside;
      symmetric = c.fill_form_table.ensures.symmetric;
      entries_in = c.fill_form_table.ensures.entries;
      nothing_outside = subst (λ (k : ℕ). IsZeroOutside (k - 3) (k - 3) c.fill_form_table.new.p) (sym c.requires.columns) c.fill_form_table.ensures.outside;
    }

pub returns-clause-front : goal.returns-clause-front
returns-clause-front c =
    let n : Normal = c.args.normal.now in
    let zero : (r i : ℕ) → (3 ≤ i) ⊎ ((r ≤ i) ⊎ (c.args.normal.now.columns ≤ r)) → entry c.lower_front.new.factors r i ≡ pos 0 =
    λ r i a. c.in_ok-h.ensures.outside r i a ∙ c.requires.clean r i a in
    let g : Fronted c.args.normal.now.columns c.in_ok-h.h c.args.normal.now c.first_kept-d.result c.front_factors-l.result c.fill_form_table.new.p =
    fronted c.args.normal.now.columns c.in_ok-h.h c.args.normal.now c.first_kept-d.result c.lower_front.new.kept c.front_factors-l.result c.lower_front.new.factors c.lower_front.new.table
    c.fill_form_table.new.p
    n.columns_to c.in_ok-h.ensures.taken zero c.first_kept-d.ensures c.front_factors-l.ensures.same c.front_factors-l.ensures.outside c.fill_form_table.ensures.form in
    let f : Fronted c.args.front.now.columns c.in_ok-h.h c.args.normal.now c.first_kept-d.result c.front_factors-l.result c.fill_form_table.new.p =
    subst (λ (k : ℕ). Fronted k c.in_ok-h.h c.args.normal.now c.first_kept-d.result c.front_factors-l.result c.fill_form_table.new.p) (sym c.requires.columns) g in
    record { columns = c.requires.columns; exponent = c.in_ok-h.ensures.exponent; taken = f.taken }

pub returns-clause-clean : goal.returns-clause-clean
returns-clause-clean c = λ r i a. c.in_ok-h.ensures.outside r i a ∙ c.requires.clean r i a

pub returns-in_err-h-clause-clean : goal.returns-in_err-h-clause-clean
returns-in_err-h-clause-clean c = λ r i a. c.in_err-h.ensures.outside r i a ∙ c.requires.clean r i a
