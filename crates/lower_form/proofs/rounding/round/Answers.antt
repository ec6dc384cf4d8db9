use Rattle.std.proofs.Common.{◌≡◌, ℕ, ◌<◌, ◌≤◌, true, false, arith, ◌∙◌, subst, below_more, rules, List}
use Rattle.quadratic_form.specs.Forms.{Column}
use Rattle.quadratic_form.specs.Elimination.{form_small}
use Rattle.quadratic_form.proofs.Places.{form_same}
use Rattle.quadratic_form.specs.Tables.{entry}
use Rattle.elimination.specs.StepEntries.{is_small}
use Rattle.lower_form.specs.FirstRounding.{first_entry}
use Rattle.elimination.proofs.SmallEntries.{form_all_small, form_wide}
use Rattle.lower_form.proofs.FirstRoundingLaws.{first_form_is}
use Rattle.lower_form.proofs.rounding.round.Goals as goal

pub loop-r-preserved : goal.loop-r-preserved
loop-r-preserved c =
    let r : ℕ = c.loop-r.r in
    let done : c.round_row.result ≡ true = c.if-not-round_row.false in
    record {
      value = λ k m h. below_more (λ (k : ℕ). k ≤ m → m < c.args.normal.now.columns → entry c.round_row.new.table k m ≡ first_entry c.args.normal.now c.args.h k m) r
          (λ k h g l. c.round_row.ensures.others k m (omega arith) ∙ c.loop-r.invariant.value k m h g l) (λ g l. c.round_row.ensures.value done m g l) k h;
      small = λ k m h. below_more (λ (k : ℕ). k ≤ m → m < c.args.normal.now.columns → is_small (first_entry c.args.normal.now c.args.h k m) ≡ true) r
          (λ k h g l. c.loop-r.invariant.small k m h g l) (λ g l. c.round_row.ensures.small done m g l) k h;
    }

pub returns-then-not-round_row-clause-refused : goal.returns-then-not-round_row-clause-refused
returns-then-not-round_row-clause-refused c =
    let from : 4 ≤ c.args.normal.now.columns = search rules in
    let row_refused = c.round_row.ensures.refused c.if-not-round_row.true in
    λ e. subst (λ (a : List Column). form_small a ≡ false) (first_form_is c.args.normal.now c.args.h from)
    (form_wide (first_entry c.args.normal.now c.args.h) 0 c.args.normal.now.columns c.loop-r.r row_refused.0 (omega arith) row_refused.1.0 (omega (arith, row_refused.1.1)) row_refused.1.2)

pub returns-clause-rounded : goal.returns-clause-rounded
returns-clause-rounded c =
    let from : 4 ≤ c.args.normal.now.columns = search rules in
    let last : c.args.normal.now.columns ≤ c.loop-r.r = c.loop-r-test.false in
    λ e. form_same (entry c.loop-r.table) (first_entry c.args.normal.now c.args.h) 0 c.args.normal.now.columns (λ k m a b d. c.loop-r.invariant.value k m (omega arith) b (omega arith))
    ∙ first_form_is c.args.normal.now c.args.h from

pub returns-clause-small : goal.returns-clause-small
returns-clause-small c =
    let from : 4 ≤ c.args.normal.now.columns = search rules in
    let last : c.args.normal.now.columns ≤ c.loop-r.r = c.loop-r-test.false in
    λ e. subst (λ (a : List Column). form_small a ≡ true) (first_form_is c.args.normal.now c.args.h from) (form_all_small (first_entry c.args.normal.now c.args.h) 0 c.args.normal.now.columns
    (λ k m a b d. c.loop-r.invariant.small k m (omega arith) b (omega arith)))
