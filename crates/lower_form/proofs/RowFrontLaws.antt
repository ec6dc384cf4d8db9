-- Rows that are rounded and taken through the steps of the baseline's columns one by one give the front.
use Rattle.std.proofs.Common.{◌≡◌, ℕ, ◌+◌, ◌-◌, ◌<◌, ◌≤◌, Bool, true, false, List, ℤ, Result, Ok, Err, arith, sym, ap, ap₂, ◌∙◌, subst}
use Rattle.quadratic_form.specs.Forms.{Column}
use Rattle.quadratic_form.specs.Elimination.{Factor, Refusal, wide_entry, form_small, steps}
use Rattle.quadratic_form.specs.Places.{form_from}
use Rattle.quadratic_form.specs.Tables.{entry}
use Rattle.normal_sum.specs.declared.normal.Normal.{Normal}
use Rattle.integer_form.specs.Factors.{stored}
use Rattle.integer_form.specs.Kept.{form_of_table}
use Rattle.elimination.specs.StepEntries.{is_small}
use Rattle.elimination.specs.RowSteps.{row_entry, HasFactors, ArePivotRows}
use Rattle.elimination.proofs.SmallEntries.{form_all_small}
use Rattle.elimination.proofs.TableLaws.{form_moved}
use Rattle.elimination.proofs.RowStepLaws.{left_none, RowsTaken, rows_taken, three_steps}
use Rattle.lower_form.specs.FirstRounding.{first_entry, first_form}
use Rattle.lower_form.specs.Fronts.{front_of}
use Rattle.lower_form.proofs.FirstRoundingLaws.{first_form_is}

abbrev Answer : Type 0
Answer = Result (List Factor × List Column) Refusal

pub front_taken : (m : Normal) (h : ℕ) (q : List (List ℤ)) (d : List ℤ) (l f p : List (List ℤ)) → 4 ≤ m.columns → ArePivotRows (first_entry m h) q m.columns d l 3 →
    ((i c : ℕ) → i < 3 → entry f i c ≡ entry l i c) → ((j r : ℕ) → j < 3 → 3 ≤ r → r < m.columns → HasFactors q f j r) →
    ((k r c : ℕ) → k ≤ 3 → 3 ≤ r → r ≤ c → c < m.columns → is_small (row_entry (first_entry m h) q m.columns k r c) ≡ true) →
    ((r c : ℕ) → r ≤ c → c < m.columns - 3 → entry p r c ≡ row_entry (first_entry m h) q m.columns 3 (3 + r) (3 + c)) →
    front_of h m ≡ Ok (stored d f m.columns 0 3, form_of_table p (m.columns - 3))
front_taken m h q d l f p from rows first factor small form =
    ap (λ (b : Bool). elim b as (λ x. Answer) [ true ↦ steps 0 3 (first_form h m) | false ↦ Err wide_entry ]) fine
    ∙ ap (λ (a : List Column). steps 0 3 a) (sym (first_form_is m h from))
    ∙ three_steps (first_entry m h) q m.columns d f taken
    ∙ ap (λ (a : List Column). let x : Answer = Ok (stored d f m.columns 0 3, a) in x) (sym same_form)
  where
    taken : RowsTaken (first_entry m h) q m.columns d f
    taken = rows_taken (first_entry m h) q m.columns d l f from rows first factor small

    fine : form_small (first_form h m) ≡ true
    fine = subst (λ (a : List Column). form_small a ≡ true) (first_form_is m h from) (form_all_small (first_entry m h) 0 m.columns
        (λ r c a b g. subst (λ (z : ℤ). is_small z ≡ true) (left_none q m.columns r c (first_entry m h r c)) (taken.small 0 r c (omega arith) (omega arith) b (omega arith))))

    nothing : (r : ℕ) → 0 + r ≡ r
    nothing r = omega arith

    same_form : form_of_table p (m.columns - 3) ≡ form_from (row_entry (first_entry m h) q m.columns 3) 3 (m.columns - 3)
    same_form = form_moved (entry p) (row_entry (first_entry m h) q m.columns 3) 0 3 (m.columns - 3) (λ r c o g. ap₂ (λ i j. entry p i j) (nothing r) (nothing c) ∙ form r c o g)
