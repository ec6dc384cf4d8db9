use Rattle.std.proofs.Common.{◌≡◌, ◌⊎◌, ℕ, ◌-◌, ◌^◌, ◌<◌, ◌≤◌, List, ℤ, pos, Ok, unsigned_abs, slice_index_or, to_z, of_z, arith, sym, ap, ◌∙◌, refl, subst}
use Rattle.std.proofs.lemmas.Int.{ints}
use Rattle.std.specs.Int.{w64, w128}
use Rattle.quadratic_form.specs.Elimination.{steps}
use Rattle.quadratic_form.specs.Places.{form_from}
use Rattle.quadratic_form.specs.declared.sizes.TheConstants.{BASELINE_COLUMNS, MOST_COLUMNS, MOST_FACTORS}
use Rattle.quadratic_form.specs.Tables.{entry, zero_rows, IsZeroOutside}
use Rattle.quadratic_form.proofs.TableLaws.{zero_entry}
use Rattle.integer_form.specs.declared.front_form.FrontForm.{FrontForm}
use Rattle.integer_form.specs.Factors.{stored}
use Rattle.integer_form.specs.Kept.{form_of_table, IsZeroFrom}
use Rattle.whole_math.proofs.Words.{as_w64, as_w128}
use Rattle.elimination.proofs.FinishLaws.{Finished, finished}
use Rattle.elimination.proofs.finished.finish.Goals as goal

-- from what the calls before the form say
facts : (r : FrontForm) (d d' : List ℤ) (l l' t t' : List (List ℤ)) (x : ℤ) →
    ((i c : ℕ) → i < MOST_COLUMNS → c < BASELINE_COLUMNS → entry l i c ≡ entry r.l i c) → IsZeroOutside MOST_COLUMNS BASELINE_COLUMNS l →
    ((i : ℕ) → i < 3 → slice_index_or d i (pos 0) ≡ slice_index_or r.d i (pos 0)) → IsZeroFrom 3 d →
    ((i c : ℕ) → ((c < 3) ⊎ (r.columns - 1 ≤ c)) ⊎ ((i ≤ c) ⊎ (r.columns ≤ i)) → entry l' i c ≡ entry l i c) →
    ((i : ℕ) → (i < 3) ⊎ (r.columns - 1 ≤ i) → slice_index_or d' i (pos 0) ≡ slice_index_or d i (pos 0)) →
    form_from (entry t) 3 (r.columns - 3) ≡ form_of_table r.p (r.columns - 3) →
    steps 3 (r.columns - 1 - 3) (form_from (entry t) 3 (r.columns - 3)) ≡ Ok (stored d' l' r.columns 3 (r.columns - 1 - 3), form_from (entry t') (r.columns - 1) (r.columns - (r.columns - 1))) →
    x ≡ entry t' (r.columns - 1) (r.columns - 1) → Finished r.columns r.d r.l r.p d' l' x
facts r d d' l l' t t' x a b e f g h i j k = subst (λ (z : ℤ). Finished r.columns r.d r.l r.p d' l' z) (sym k)
    (finished r.columns r.d r.l r.p d d' l l' t t'
    (record { from = r.columns_from; to = r.columns_to; front_in = r.factors_in; front_outside = r.factors_outside; factors_same = a; factors_zero = b; kept_same = e; kept_zero = f })
    (record { factors = g; kept = h }) r.entries_in i j)

-- the factors of the baseline's columns stand in a table of zeros
outside : (zeros l : List (List ℤ)) → zeros ≡ zero_rows MOST_COLUMNS MOST_FACTORS → ((i c : ℕ) → (MOST_COLUMNS ≤ i) ⊎ (BASELINE_COLUMNS ≤ c) → entry l i c ≡ entry zeros i c) →
    IsZeroOutside MOST_COLUMNS BASELINE_COLUMNS l
outside zeros l are others i c past = others i c past ∙ ap (λ (t : List (List ℤ)). entry t i c) are ∙ zero_entry MOST_COLUMNS MOST_FACTORS i c

word : (x : ℤ) → unsigned_abs x < 2 ^ 52 → to_z w64 (of_z w64 (to_z w128 (of_z w128 x))) ≡ x
word x h = ap (λ z. to_z w64 (of_z w64 z)) (as_w128 x (omega (arith, h))) ∙ as_w64 x (omega (arith, h))

pub overflow_cast-result : goal.overflow_cast-result
overflow_cast-result c =
    let is_finished : Finished c.args.front.now.columns c.args.front.now.d c.args.front.now.l c.args.front.now.p c.take_steps.new.kept c.take_steps.new.factors c.at.result =
    facts c.args.front.now c.kept_list-d.result c.take_steps.new.kept c.put_factors.new.factors c.take_steps.new.factors c.put_form.new.table c.take_steps.new.table c.at.result
    c.put_factors.ensures.same (outside c.zeros-l.result c.put_factors.new.factors c.zeros-l.ensures.zeros c.put_factors.ensures.others)
    c.kept_list-d.ensures.same c.kept_list-d.ensures.outside c.take_steps.ensures.factors_outside
    c.take_steps.ensures.kept_outside c.put_form.ensures.form c.in-Ok.ensures.taken c.at.ensures.value in
    let last_kept : to_z w128 (of_z w128 c.at.result) ≡ c.at.result = as_w128 c.at.result (omega (arith, is_finished.last)) in
    rw last_kept (omega (arith, ints, is_finished.last))

pub invariant_of-result : goal.invariant_of-result
invariant_of-result c =
    let front : FrontForm = c.args.front.now in
    let is_finished : Finished c.args.front.now.columns c.args.front.now.d c.args.front.now.l c.args.front.now.p c.take_steps.new.kept c.take_steps.new.factors c.at.result =
    facts c.args.front.now c.kept_list-d.result c.take_steps.new.kept c.put_factors.new.factors c.take_steps.new.factors c.put_form.new.table c.take_steps.new.table c.at.result
    c.put_factors.ensures.same (outside c.zeros-l.result c.put_factors.new.factors c.zeros-l.ensures.zeros c.put_factors.ensures.others)
    c.kept_list-d.ensures.same c.kept_list-d.ensures.outside c.take_steps.ensures.factors_outside
    c.take_steps.ensures.kept_outside c.put_form.ensures.form c.in-Ok.ensures.taken c.at.ensures.value in
    let finished_as_word : Finished c.args.front.now.columns c.args.front.now.d c.args.front.now.l c.args.front.now.p c.take_steps.new.kept c.take_steps.new.factors
    (to_z w64 (of_z w64 (to_z w128 (of_z w128 c.at.result)))) =
    subst (λ (z : ℤ). Finished c.args.front.now.columns c.args.front.now.d c.args.front.now.l c.args.front.now.p c.take_steps.new.kept c.take_steps.new.factors z) (sym (word c.at.result is_finished.last)) is_finished in
    record {
      columns_from = front.columns_from;
      columns_to = front.columns_to;
      h_in = front.h_in;
      kept_in = finished_as_word.kept_in;
      kept_outside = finished_as_word.kept_outside;
      factors_in = finished_as_word.factors_in;
      factors_outside = finished_as_word.factors_outside;
      symmetric = front.symmetric;
      entries_in = front.entries_in;
      nothing_outside = front.nothing_outside;
      eliminated = finished_as_word.eliminated;
    }

pub returns-in-Ok-clause-finished : goal.returns-in-Ok-clause-finished
returns-in-Ok-clause-finished c =
    let is_finished : Finished c.args.front.now.columns c.args.front.now.d c.args.front.now.l c.args.front.now.p c.take_steps.new.kept c.take_steps.new.factors c.at.result =
    facts c.args.front.now c.kept_list-d.result c.take_steps.new.kept c.put_factors.new.factors c.take_steps.new.factors c.put_form.new.table c.take_steps.new.table c.at.result
    c.put_factors.ensures.same (outside c.zeros-l.result c.put_factors.new.factors c.zeros-l.ensures.zeros c.put_factors.ensures.others)
    c.kept_list-d.ensures.same c.kept_list-d.ensures.outside c.take_steps.ensures.factors_outside
    c.take_steps.ensures.kept_outside c.put_form.ensures.form c.in-Ok.ensures.taken c.at.ensures.value in
    let finished_as_word : Finished c.args.front.now.columns c.args.front.now.d c.args.front.now.l c.args.front.now.p c.take_steps.new.kept c.take_steps.new.factors
    (to_z w64 (of_z w64 (to_z w128 (of_z w128 c.at.result)))) =
    subst (λ (z : ℤ). Finished c.args.front.now.columns c.args.front.now.d c.args.front.now.l c.args.front.now.p c.take_steps.new.kept c.take_steps.new.factors z) (sym (word c.at.result is_finished.last)) is_finished in
    record { columns = refl; h = refl; p = refl; baseline = finished_as_word.baseline; taken = finished_as_word.eliminated }
