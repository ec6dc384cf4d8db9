-- What the front keeps, from the tables that its steps leave.
use Rattle.std.proofs.Common.{◌≡◌, ◌⊎◌, inl, inr, ⊎_elim, ℕ, ◌-◌, ◌^◌, ◌<◌, ◌≤◌, Bool, true, false, List, ℤ, pos, Ok, Err, unsigned_abs, slice_index_or, arith, sym, ap₂, ◌∙◌, refl, subst}
use Rattle.std.proofs.lemmas.Bool.{cases_lt}
use Rattle.quadratic_form.specs.Forms.{Column}
use Rattle.quadratic_form.specs.Elimination.{Factor, wide_entry, form_small, steps, StepsAnswer}
use Rattle.quadratic_form.specs.LowerSums.{SmallForm}
use Rattle.quadratic_form.specs.Places.{form_from}
use Rattle.quadratic_form.proofs.Ranges.{AllInRange, form_is, steps_range}
use Rattle.quadratic_form.specs.declared.sizes.TheConstants.{MOST_COLUMNS}
use Rattle.quadratic_form.specs.Tables.{entry, IsZeroOutside}
use Rattle.normal_sum.specs.declared.normal.Normal.{Normal}
use Rattle.quadratic_form.specs.Matrices.{EntriesBelow}
use Rattle.quadratic_form.proofs.TableLaws.{zero_small}
use Rattle.integer_form.specs.Factors.{stored}
use Rattle.integer_form.specs.Kept.{form_of_table, IsBelowDiagonal}
use Rattle.integer_form.proofs.StoredPlaces.{stored_same}
use Rattle.lower_form.specs.FirstRounding.{first_form}
use Rattle.lower_form.specs.Fronts.{front_of}
use Rattle.elimination.proofs.KeptLaws.{factors_below}

-- an answer of the front passed the test of the first rounding
pub front_answer : (h : ℕ) (n : Normal) (p : List Factor × List Column) → front_of h n ≡ Ok p → (form_small (first_form h n) ≡ true) × (steps 0 3 (first_form h n) ≡ Ok p)
front_answer h n p e = go (form_small (first_form h n)) refl e
  where
    go : (t : Bool) → form_small (first_form h n) ≡ t → elim t as (λ b. StepsAnswer) [ true ↦ steps 0 3 (first_form h n) | false ↦ Err wide_entry ] ≡ Ok p → (form_small (first_form h n) ≡ true) ×
        (steps 0 3 (first_form h n) ≡ Ok p)
    go true o e = (o, e)
    go false o e = absurd cc

pub front_range : (h : ℕ) (n : Normal) (p : List Factor × List Column) → front_of h n ≡ Ok p → AllInRange p.0 × SmallForm p.1
front_range h n p e = let small_and_stepped : (form_small (first_form h n) ≡ true) × (steps 0 3 (first_form h n) ≡ Ok p) = front_answer h n p e in
    steps_range 0 3 (first_form h n) p small_and_stepped.1 (form_is (first_form h n) small_and_stepped.0)

-- what the front form keeps
pub record Fronted (columns h : ℕ) (n : Normal) (d : List ℤ) (l p : List (List ℤ)) : Type 0 where
  pub factors_in : EntriesBelow (2 ^ 52) l
  pub factors_outside : IsBelowDiagonal columns l
  pub taken : front_of h n ≡ Ok (stored d l columns 0 3, form_of_table p (columns - 3))

-- from what the steps kept in the lists d' and l', and left of the table t
pub fronted : (columns h : ℕ) (n : Normal) (d d' : List ℤ) (l l' t p : List (List ℤ)) → columns ≤ MOST_COLUMNS → front_of h n ≡ Ok (stored d' l' columns 0 3, form_from (entry t) 3 (columns - 3)) →
    ((r i : ℕ) → (3 ≤ i) ⊎ ((r ≤ i) ⊎ (columns ≤ r)) → entry l' r i ≡ pos 0) →
    ((i : ℕ) → i < 3 → slice_index_or d i (pos 0) ≡ slice_index_or d' i (pos 0)) →
    ((r c : ℕ) → r < MOST_COLUMNS → c < 3 → entry l r c ≡ entry l' r c) → IsZeroOutside MOST_COLUMNS 3 l →
    form_of_table p (columns - 3) ≡ form_from (entry t) 3 (columns - 3) → Fronted columns h n d l p
fronted columns h n d d' l l' t p to e z kept factors outside form = record {
  factors_in = λ r c. subst (λ (x : ℤ). unsigned_abs x < 2 ^ 52) (sym (same r c))
      (⊎_elim (λ (a : c < 3). factors_below d' l' columns 0 3 below range.0 r c (omega arith) a) (λ (a : 3 ≤ c). subst (λ (x : ℤ). unsigned_abs x < 2 ^ 52) (sym (z r c (inl a))) zero_small)
      (cases_lt c 3));
  factors_outside = λ r c a. same r c ∙ below r c a;
  taken = e ∙ ap₂ (λ (s : List Factor) (a : List Column). let answer : StepsAnswer = Ok (s, a) in answer) (sym (stored_same d d' l l' columns 0 3 (λ i a b. kept i b) (λ r i a b. same r i))) (sym form);
}
  where
    range : AllInRange (stored d' l' columns 0 3) × SmallForm (form_from (entry t) 3 (columns - 3))
    range = front_range h n (stored d' l' columns 0 3, form_from (entry t) 3 (columns - 3)) e

    below : IsBelowDiagonal columns l'
    below r c a = z r c (inr a)

    past : (r : ℕ) → MOST_COLUMNS ≤ r → columns ≤ r
    past r a = omega arith

    same : (r c : ℕ) → entry l r c ≡ entry l' r c
    same r c = ⊎_elim (λ (a : c < 3). ⊎_elim (λ (b : r < MOST_COLUMNS). factors r c b a) (λ (b : MOST_COLUMNS ≤ r). outside r c (inl b) ∙ sym (z r c (inr (inr (past r b)))))
        (cases_lt r MOST_COLUMNS))
        (λ (a : 3 ≤ c). outside r c (inr a) ∙ sym (z r c (inl a))) (cases_lt c 3)
