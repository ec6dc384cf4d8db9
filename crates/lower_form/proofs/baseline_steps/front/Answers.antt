use Rattle.std.proofs.Common.{◌≡◌, ◌⊎◌, ℕ, ◌-◌, ◌≤◌, List, ℤ, pos, arith, ap, ◌∙◌, refl}
use Rattle.quadratic_form.specs.Places.{form_from}
use Rattle.quadratic_form.specs.declared.sizes.TheConstants.{MOST_COLUMNS, MOST_FACTORS}
use Rattle.quadratic_form.specs.Tables.{entry}
use Rattle.quadratic_form.proofs.TableLaws.{zero_entry}
use Rattle.normal_sum.specs.declared.normal.Normal.{Normal}
use Rattle.integer_form.specs.Factors.{stored}
use Rattle.lower_form.proofs.FrontKept.{front_range, fronted, Fronted}
use Rattle.lower_form.proofs.baseline_steps.front.Goals as goal

pub form_table-p-requires-clause-small : goal.form_table-p-requires-clause-small
form_table-p-requires-clause-small c =
    (front_range c.in_ok-h.h c.args.normal.now (
      stored c.lower_front.new.kept c.lower_front.new.factors c.args.normal.now.columns 0 3,
      form_from (entry c.lower_front.new.table) 3
          (c.args.normal.now.columns - 3),
    ) c.in_ok-h.ensures.taken).1

pub invariant_of-result : goal.invariant_of-result
invariant_of-result c =
    let normal : Normal = c.args.normal.now in
    let few : c.in_ok-h.h ≤ 77 = c.in_ok-h.ensures.few in
    let zero : (r i : ℕ) → (3 ≤ i) ⊎ ((r ≤ i) ⊎ (c.args.normal.now.columns ≤ r)) → entry c.lower_front.new.factors r i ≡ pos 0 =
    λ r i a. c.in_ok-h.ensures.outside r i a ∙ ap (λ (t : List (List ℤ)). entry t r i) c.zeros-factors.ensures.zeros ∙ zero_entry MOST_COLUMNS MOST_FACTORS r i in
    let is_fronted : Fronted c.args.normal.now.columns c.in_ok-h.h c.args.normal.now c.first_kept-d.result c.front_factors-l.result c.form_table-p.result =
    fronted c.args.normal.now.columns c.in_ok-h.h c.args.normal.now c.first_kept-d.result c.lower_front.new.kept c.front_factors-l.result c.lower_front.new.factors c.lower_front.new.table
    c.form_table-p.result
    normal.columns_to c.in_ok-h.ensures.taken zero c.first_kept-d.ensures c.front_factors-l.ensures.same c.front_factors-l.ensures.outside c.form_table-p.ensures.form in
    record {
      columns_from = normal.columns_from;
      columns_to = normal.columns_to;
      h_in = omega arith;
      factors_in = is_fronted.factors_in;
      factors_outside = is_fronted.factors_outside;
      symmetric = c.form_table-p.ensures.symmetric;
      entries_in = c.form_table-p.ensures.entries;
      nothing_outside = c.form_table-p.ensures.outside;
    }

pub returns-clause-front : goal.returns-clause-front
returns-clause-front c =
    let normal : Normal = c.args.normal.now in
    let zero : (r i : ℕ) → (3 ≤ i) ⊎ ((r ≤ i) ⊎ (c.args.normal.now.columns ≤ r)) → entry c.lower_front.new.factors r i ≡ pos 0 =
    λ r i a. c.in_ok-h.ensures.outside r i a ∙ ap (λ (t : List (List ℤ)). entry t r i) c.zeros-factors.ensures.zeros ∙ zero_entry MOST_COLUMNS MOST_FACTORS r i in
    let is_fronted : Fronted c.args.normal.now.columns c.in_ok-h.h c.args.normal.now c.first_kept-d.result c.front_factors-l.result c.form_table-p.result =
    fronted c.args.normal.now.columns c.in_ok-h.h c.args.normal.now c.first_kept-d.result c.lower_front.new.kept c.front_factors-l.result c.lower_front.new.factors c.lower_front.new.table
    c.form_table-p.result
    normal.columns_to c.in_ok-h.ensures.taken zero c.first_kept-d.ensures c.front_factors-l.ensures.same c.front_factors-l.ensures.outside c.form_table-p.ensures.form in
    record { columns = refl; exponent = c.in_ok-h.ensures.exponent; taken = is_fronted.taken }
