use Rattle.std.proofs.Common.{◌≡◌, ℕ, ◌+◌, ◌-◌, ◌^◌, ◌<◌, ◌≤◌, List, ℤ, true, unsigned_abs, arith, sym, ap, ◌∙◌, refl, subst, below_more}
use borrow.Author.Tests.{ltb-true}
use Rattle.quadratic_form.specs.Tables.{entry, item, IsZeroOutside}
use Rattle.integer_form.specs.declared.front_form.FrontForm.{FrontForm}
use Rattle.elimination.specs.StepEntries.{is_small}
use Rattle.elimination.specs.RowSteps.{row_entry, HasFactors}
use Rattle.elimination.proofs.RowStepLaws.{has_same}
use Rattle.lower_form.specs.FirstRounding.{first_entry}
use Rattle.lower_form.proofs.baseline_rows.form_rows.Goals as goal

below : (x : ℤ) → is_small x ≡ true → unsigned_abs x < 2 ^ 52
below x e = omega (arith, ltb-true)

pub put_row-requires-clause-entries : goal.put_row-requires-clause-entries
put_row-requires-clause-entries c = λ k h g.
    let done : c.stepped_row.result ≡ true = c.if-not-stepped_row.false in
    below (item c.stepped_row.new.row (3 + k)) (subst (λ (z : ℤ). is_small z ≡ true) (sym (c.stepped_row.ensures.value done (3 + k) (omega arith) (omega arith)))
    (c.stepped_row.ensures.small done 3 (3 + k) (omega arith) (omega arith) (omega arith)))

pub put_row-requires-clause-symmetric : goal.put_row-requires-clause-symmetric
put_row-requires-clause-symmetric c = c.stepped_row.new.front.symmetric

pub put_row-requires-clause-below : goal.put_row-requires-clause-below
put_row-requires-clause-below c = c.stepped_row.new.front.entries_in

pub put_row-requires-clause-outside : goal.put_row-requires-clause-outside
put_row-requires-clause-outside c = subst (λ (k : ℕ). IsZeroOutside (k - 3) (k - 3) c.stepped_row.new.front.p)
    (c.stepped_row.ensures.others.columns ∙ c.loop-r.invariant.columns) c.stepped_row.new.front.nothing_outside

pub invariant_of-front : goal.invariant_of-front
invariant_of-front c =
    let old : FrontForm = c.stepped_row.new.front in
    record {
      columns_from = old.columns_from;
      columns_to = old.columns_to;
      h_in = old.h_in;
      factors_in = old.factors_in;
      factors_outside = old.factors_outside;
      symmetric = c.put_row.ensures.symmetric;
      entries_in = c.put_row.ensures.below;
      nothing_outside = subst (λ (k : ℕ). IsZeroOutside (k - 3) (k - 3) c.put_row.new.p) (sym (c.stepped_row.ensures.others.columns ∙ c.loop-r.invariant.columns)) c.put_row.ensures.outside;
    }

pub loop-r-preserved : goal.loop-r-preserved
loop-r-preserved c =
    let r : ℕ = c.loop-r.r in
    let n : ℕ = c.args.normal.now.columns in
    let q : List (List ℤ) = c.args.pivots.now.rows in
    let e : ℕ → ℕ → ℤ = first_entry c.args.normal.now c.args.h in
    let done : c.stepped_row.result ≡ true = c.if-not-stepped_row.false in
    record {
      form = λ i k h. below_more (λ (i : ℕ). i ≤ k → k < n - 3 → entry c.put_row.new.p i k ≡ row_entry e q n 3 (3 + i) (3 + k)) r
          (λ i h g o. c.put_row.ensures.before i k h ∙ ap (λ (t : List (List ℤ)). entry t i k) c.stepped_row.ensures.others.form ∙ c.loop-r.invariant.form i k h g o)
          (λ g o. c.put_row.ensures.row k g o ∙ c.stepped_row.ensures.value done (3 + k) (omega arith) (omega arith)) i h;
      small = λ m i k a h g. below_more (λ (i : ℕ). 3 ≤ i → i ≤ k → k < n → is_small (row_entry e q n m i k) ≡ true) (3 + r)
          (λ i g h o b. c.loop-r.invariant.small m i k a h g o b) (λ h o b. c.stepped_row.ensures.small done m k a o b) i (omega arith) h;
      factors_are = λ j i a h g. below_more (λ (i : ℕ). 3 ≤ i → HasFactors q c.stepped_row.new.front.l j i) (3 + r)
          (λ i g h. has_same q q c.loop-r.front.l c.stepped_row.new.front.l j i refl refl (c.stepped_row.ensures.others.others i j (omega arith)) (c.loop-r.invariant.factors_are j i a h g))
          (λ h. c.stepped_row.ensures.factors done j a) i (omega arith) h;
      first = λ i m h. c.stepped_row.ensures.others.others i m (omega arith) ∙ c.loop-r.invariant.first i m h;
      kept = c.stepped_row.ensures.others.kept ∙ c.loop-r.invariant.kept;
      columns = c.stepped_row.ensures.others.columns ∙ c.loop-r.invariant.columns;
    }
