use Rattle.std.proofs.Common.{◌≡◌, ℕ, suc, ◌+◌, ◌-◌, ◌≤◌, ◌^◌, true, false, List, ℤ, pos, ◌-ℤ◌, Result, Ok, unsigned_abs, arith, refl, sym, ap, ◌∙◌, subst}
use Rattle.whole_math.specs.Rounding.{ceil_div}
use Rattle.whole_math.specs.Vectors.{len}
use Rattle.quadratic_form.specs.Forms.{Column}
use Rattle.quadratic_form.specs.Elimination.{factors, kept, next, Factor, Refusal, all_small, form_small}
use Rattle.quadratic_form.specs.Places.{list_from}
use Rattle.quadratic_form.proofs.Places.{list_same, form_same}
use Rattle.quadratic_form.specs.Tables.{entry}
use Rattle.elimination.specs.StepEntries.{is_small, factor_entry, new_entry}
use Rattle.elimination.specs.Stops.{column_at, form_after}
use Rattle.whole_math.proofs.Words.{as_w128}
use Rattle.elimination.proofs.NewEntries.{positive_is}
use Rattle.elimination.proofs.SmallEntries.{list_wide, form_all_small, form_wide, small_entry}
use Rattle.elimination.proofs.NewRows.{word}
use Rattle.elimination.proofs.StepLaws.{step_tests, factors_are, next_is, above, Pivot, pivot_is, factors_small}
use Rattle.elimination.proofs.step.step.Goals as goal

pub returns-then-not-write_factors-clause-refused : goal.returns-then-not-write_factors-clause-refused
returns-then-not-write_factors-clause-refused c =
    let j : ℕ = c.args.j in
    let n : ℕ = (c.args.columns - c.args.j) - 1 in
    let pivot : ℤ = entry c.args.table.now c.args.j c.args.j in
    let is_pivot : Pivot c.args.table.now j c.at-a.result =
    pivot_is c.args.table.now j c.at-a.result c.at-a.ensures.value (c.requires.entries j j (omega arith) (omega arith) c.requires.column) c.if-a-lt-LEAST_PIVOT.false in
    let pivot_is_read : word c.at-a.result ≡ pivot = is_pivot.as_read in
    let divisor : ℕ = unsigned_abs pivot in
    let whole : suc j + n ≡ c.args.columns = omega (arith, c.requires.column) in
    let not_written = c.write_factors.ensures.refused c.if-not-write_factors.true in
    let wide : all_small (factors divisor (list_from (entry c.args.table.now j) (suc j) n)) ≡ false =
    subst (λ (l : List ℤ). all_small l ≡ false) (factors_are c.args.table.now j divisor n) (list_wide (factor_entry c.args.table.now j divisor) (suc j) n not_written.0 (omega (arith, not_written.1.0)) (omega (arith, not_written.1.1))
    (subst (λ (z : ℤ). is_small (factor_entry c.args.table.now j (unsigned_abs z) not_written.0) ≡ false) pivot_is_read not_written.1.2)) in
    step_tests j (column_at c.args.table.now j n) (form_after c.args.table.now j n) false
    (form_small (next divisor (len (list_from (entry c.args.table.now j) (suc j) n)) (list_from (entry c.args.table.now j) (suc j) n) (form_after c.args.table.now j n))) is_pivot.strong wide refl

pub returns-then-not-update-clause-refused : goal.returns-then-not-update-clause-refused
returns-then-not-update-clause-refused c =
    let j : ℕ = c.args.j in
    let n : ℕ = (c.args.columns - c.args.j) - 1 in
    let pivot : ℤ = entry c.args.table.now c.args.j c.args.j in
    let is_pivot : Pivot c.args.table.now j c.at-a.result =
    pivot_is c.args.table.now j c.at-a.result c.at-a.ensures.value (c.requires.entries j j (omega arith) (omega arith) c.requires.column) c.if-a-lt-LEAST_PIVOT.false in
    let pivot_is_read : word c.at-a.result ≡ pivot = is_pivot.as_read in
    let divisor : ℕ = unsigned_abs pivot in
    let whole : suc j + n ≡ c.args.columns = omega (arith, c.requires.column) in
    let fits : all_small (factors divisor (list_from (entry c.args.table.now j) (suc j) n)) ≡ true =
    factors_small c.args.table.now j n c.at-a.result pivot_is_read (λ k h g. c.write_factors.ensures.small c.if-not-write_factors.false k h (omega arith)) in
    let not_updated = c.update.ensures.refused c.if-not-update.true in
    let wide : form_small (next divisor (len (list_from (entry c.args.table.now j) (suc j) n)) (list_from (entry c.args.table.now j) (suc j) n) (form_after c.args.table.now j n)) ≡ false =
    subst (λ (l : List Column). form_small l ≡ false) (next_is c.args.table.now j divisor n)
    (form_wide (new_entry c.args.table.now j divisor (pos n)) (suc j) n not_updated.0 not_updated.1 (omega (arith, not_updated.2.0)) not_updated.2.1 (omega (arith, not_updated.2.2))
    (subst (λ (z : ℤ). is_small (new_entry c.args.table.now j (unsigned_abs z) (pos n) not_updated.0 not_updated.1) ≡ false) pivot_is_read not_updated.2.3)) in
    step_tests j (column_at c.args.table.now j n) (form_after c.args.table.now j n) true false is_pivot.strong fits wide

pub returns-clause-taken : goal.returns-clause-taken
returns-clause-taken c =
    let j : ℕ = c.args.j in
    let n : ℕ = (c.args.columns - c.args.j) - 1 in
    let pivot : ℤ = entry c.args.table.now c.args.j c.args.j in
    let is_pivot : Pivot c.args.table.now j c.at-a.result =
    pivot_is c.args.table.now j c.at-a.result c.at-a.ensures.value (c.requires.entries j j (omega arith) (omega arith) c.requires.column) c.if-a-lt-LEAST_PIVOT.false in
    let pivot_is_read : word c.at-a.result ≡ pivot = is_pivot.as_read in
    let divisor : ℕ = unsigned_abs pivot in
    let whole : suc j + n ≡ c.args.columns = omega (arith, c.requires.column) in
    let fits : all_small (factors divisor (list_from (entry c.args.table.now j) (suc j) n)) ≡ true =
    factors_small c.args.table.now j n c.at-a.result pivot_is_read (λ k h g. c.write_factors.ensures.small c.if-not-write_factors.false k h (omega arith)) in
    let row : ℕ → ℤ = entry c.args.table.now j in
    let fine : form_small (next divisor (len (list_from row (suc j) n)) (list_from row (suc j) n) (form_after c.args.table.now j n)) ≡ true =
    subst (λ (l : List Column). form_small l ≡ true) (next_is c.args.table.now j divisor n)
    (form_all_small (new_entry c.args.table.now j divisor (pos n)) (suc j) n
    (λ r k h l g. subst (λ (z : ℤ). is_small (new_entry c.args.table.now j (unsigned_abs z) (pos n) r k) ≡ true) pivot_is_read
    (c.update.ensures.small c.if-not-update.false r k (omega arith) l (omega arith)))) in
    let pivot_positive : pivot ≡ pos divisor = positive_is pivot (above pivot is_pivot.strong) in
    let kept_fits : word c.kept_of.result ≡ c.kept_of.result = as_w128 c.kept_of.result (omega (arith, c.kept_of.ensures.size)) in
    let kept_is : kept divisor ≡ word c.kept_of.result = sym (kept_fits ∙ c.kept_of.ensures.value ∙ ap (λ z. z -ℤ ceil_div z (2 ^ 20)) (pivot_is_read ∙ pivot_positive)) in
    let same_factors : factors divisor (list_from row (suc j) n) ≡ list_from (λ i. entry c.write_factors.new.factors i j) (suc j) n =
    sym (list_same (λ i. entry c.write_factors.new.factors i j) (factor_entry c.args.table.now j divisor) (suc j) n
    (λ k h g. c.write_factors.ensures.value c.if-not-write_factors.false k (omega arith) (omega arith) ∙ ap (λ z. factor_entry c.args.table.now j (unsigned_abs z) k) pivot_is_read)
    ∙ factors_are c.args.table.now j divisor n) in
    let form_is_next : next divisor (len (list_from row (suc j) n)) (list_from row (suc j) n) (form_after c.args.table.now j n) ≡ form_after c.update.new.table j n =
    sym (form_same (entry c.update.new.table) (new_entry c.args.table.now j divisor (pos n)) (suc j) n
    (λ r k h q g. c.update.ensures.value c.if-not-update.false r k (omega arith) q (omega arith) ∙ ap (λ z. new_entry c.args.table.now j (unsigned_abs z) (pos n) r k) pivot_is_read)
    ∙ next_is c.args.table.now j divisor n) in
    step_tests j (column_at c.args.table.now j n) (form_after c.args.table.now j n) true true is_pivot.strong fits fine
    ∙ answer (kept divisor) _ (factors divisor (list_from row (suc j) n)) _ (next divisor (len (list_from row (suc j) n)) (list_from row (suc j) n) (form_after c.args.table.now j n)) _ kept_is same_factors form_is_next
  where
    answer : (d e : ℤ) (s t : List ℤ) (a b : List Column) → d ≡ e → s ≡ t → a ≡ b → let first_answer : Result (Factor × List Column) Refusal = Ok (record { d = d; l = s }, a) in
        let second_answer : Result (Factor × List Column) Refusal = Ok (record { d = e; l = t }, b) in first_answer ≡ second_answer
    answer d e s t a b f g h = ap (λ (z : ℤ). let changed_answer : Result (Factor × List Column) Refusal = Ok (record { d = z; l = s }, a) in changed_answer) f
        ∙ ap (λ (z : List ℤ). let changed_answer : Result (Factor × List Column) Refusal = Ok (record { d = e; l = z }, a) in changed_answer) g
        ∙ ap (λ (z : List Column). let changed_answer : Result (Factor × List Column) Refusal = Ok (record { d = e; l = t }, z) in changed_answer) h

pub returns-clause-small : goal.returns-clause-small
returns-clause-small c = λ r k h l g. subst (λ (z : ℤ). unsigned_abs z ≤ 2 ^ 52) (sym (c.update.ensures.value c.if-not-update.false r k h l g))
    (small_entry (new_entry c.args.table.now c.args.j (unsigned_abs (word c.at-a.result)) (pos ((c.args.columns - c.args.j) - 1)) r k)
    (c.update.ensures.small c.if-not-update.false r k h l g))
