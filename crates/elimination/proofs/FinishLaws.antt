-- What the steps of the integer columns keep, from tables that hold what the front left.
use Rattle.std.proofs.Common.{◌≡◌, ◌⊎◌, inl, inr, ⊎_elim, ℕ, zero, suc, ◌+◌, ◌-◌, ◌^◌, ◌<◌, ◌≤◌, List, ℤ, pos, Ok, unsigned_abs, slice_index_or, arith, sym, ap, ◌∙◌, refl, subst}
use Rattle.std.proofs.lemmas.Int.{ints}
use Rattle.std.proofs.lemmas.Bool.{cases_lt}
use Rattle.quadratic_form.specs.Forms.{Column}
use Rattle.quadratic_form.specs.Elimination.{steps, StepsAnswer}
use Rattle.quadratic_form.specs.LowerSums.{Small, SmallList, SmallForm}
use Rattle.quadratic_form.specs.Places.{list_from, form_from}
use Rattle.quadratic_form.proofs.Ranges.{AllInRange, steps_range}
use Rattle.quadratic_form.specs.declared.sizes.TheConstants.{BASELINE_COLUMNS, MOST_COLUMNS}
use Rattle.quadratic_form.specs.Tables.{entry, IsZeroOutside}
use Rattle.quadratic_form.specs.Matrices.{EntriesBelow}
use Rattle.quadratic_form.proofs.TableLaws.{zero_small}
use Rattle.integer_form.specs.Factors.{stored}
use Rattle.integer_form.specs.Kept.{form_of_table, constant_form, IsEliminated, AreKept, IsZeroFrom, IsBelowDiagonal}
use Rattle.integer_form.proofs.StoredPlaces.{stored_same}
use Rattle.elimination.proofs.TableLaws.{small_of_form}
use Rattle.elimination.proofs.KeptLaws.{are_kept, factors_below}

-- ---- small entries as a small form
small : (x : ℤ) → unsigned_abs x < 2 ^ 52 → Small x
small x h = (omega (arith, ints), omega (arith, ints))

small_list : (f : ℕ → ℤ) (j k : ℕ) → ((c : ℕ) → unsigned_abs (f c) < 2 ^ 52) → SmallList (list_from f j k)
small_list f j zero h = tt
small_list f j (suc k) h = (small (f j) (h j), small_list f (suc j) k h)

pub small_form : (e : ℕ → ℕ → ℤ) (j k : ℕ) → ((r c : ℕ) → unsigned_abs (e r c) < 2 ^ 52) → SmallForm (form_from e j k)
small_form e j zero h = tt
small_form e j (suc k) h = (small (e j j) (h j j), small_list (e j) (suc j) k (h j), small_form e (suc j) k h)

-- ---- the tables before the steps: d and l hold what the front kept and its factors, and 0 elsewhere
pub record Started (columns : ℕ) (fd : List ℤ) (fl : List (List ℤ)) (d : List ℤ) (l : List (List ℤ)) : Type 0 where
  pub from : 4 ≤ columns
  pub to : columns ≤ MOST_COLUMNS
  pub front_in : EntriesBelow (2 ^ 52) fl
  pub front_outside : IsBelowDiagonal columns fl
  pub factors_same : (r c : ℕ) → r < MOST_COLUMNS → c < BASELINE_COLUMNS → entry l r c ≡ entry fl r c
  pub factors_zero : IsZeroOutside MOST_COLUMNS BASELINE_COLUMNS l
  pub kept_same : (i : ℕ) → i < 3 → slice_index_or d i (pos 0) ≡ slice_index_or fd i (pos 0)
  pub kept_zero : IsZeroFrom 3 d

-- and what the steps leave as it was
pub record Untouched (columns : ℕ) (d d' : List ℤ) (l l' : List (List ℤ)) : Type 0 where
  pub factors : (r i : ℕ) → ((i < 3) ⊎ (columns - 1 ≤ i)) ⊎ ((r ≤ i) ⊎ (columns ≤ r)) → entry l' r i ≡ entry l r i
  pub kept : (i : ℕ) → (i < 3) ⊎ (columns - 1 ≤ i) → slice_index_or d' i (pos 0) ≡ slice_index_or d i (pos 0)

-- what the form keeps
pub record Finished (columns : ℕ) (fd : List ℤ) (fl : List (List ℤ)) (p : List (List ℤ)) (d : List ℤ) (l : List (List ℤ)) (g : ℤ) : Type 0 where
  pub eliminated : IsEliminated columns d l g p
  pub last : unsigned_abs g < 2 ^ 52
  pub kept_in : AreKept columns d
  pub kept_outside : IsZeroFrom (columns - 1) d
  pub factors_in : EntriesBelow (2 ^ 52) l
  pub factors_outside : IsBelowDiagonal columns l
  pub baseline : stored d l columns 0 3 ≡ stored fd fl columns 0 3

pub finished : (columns : ℕ) (fd : List ℤ) (fl p : List (List ℤ)) (d d' : List ℤ) (l l' t t' : List (List ℤ)) → Started columns fd fl d l → Untouched columns d d' l l' → EntriesBelow (2 ^ 52) p →
    form_from (entry t) 3 (columns - 3) ≡ form_of_table p (columns - 3) →
    steps 3 (columns - 1 - 3) (form_from (entry t) 3 (columns - 3)) ≡ Ok (stored d' l' columns 3 (columns - 1 - 3), form_from (entry t') (columns - 1) (columns - (columns - 1))) →
    Finished columns fd fl p d' l' (entry t' (columns - 1) (columns - 1))
finished columns fd fl p d d' l l' t t' s u q e h = record {
  eliminated = taken;
  last = small_of_form (entry t') (columns - 1) 1 (subst (λ (a : List Column). SmallForm a) (sym last_form) range.1) (columns - 1) (columns - 1) (omega arith) (omega arith) (omega arith);
  kept_in = are_kept d' l' columns range.0;
  kept_outside = λ i a. u.kept i (inr a) ∙ s.kept_zero i (behind columns i s.from a);
  factors_in = λ r c. ⊎_elim (λ (a : c < 3). subst (λ (z : ℤ). unsigned_abs z < 2 ^ 52) (sym (front_factor r c a)) (s.front_in r c))
      (λ (a : 3 ≤ c). ⊎_elim (λ (b : c < 3 + (columns - 4)). factors_below d' l' columns 3 (columns - 4) below range.0 r c a b)
      (λ (b : 3 + (columns - 4) ≤ c). subst (λ (z : ℤ). unsigned_abs z < 2 ^ 52) (sym (u.factors r c (inl (inr (omega arith))) ∙ s.factors_zero r c (inr a))) zero_small)
      (cases_lt c (3 + (columns - 4)))) (cases_lt c 3);
  factors_outside = below;
  baseline = stored_same d' fd l' fl columns 0 3 (λ i a b. u.kept i (inl b) ∙ s.kept_same i b) (λ r i a b. front_factor r i b);
}
  where
    behind : (n i : ℕ) → 4 ≤ n → n - 1 ≤ i → 3 ≤ i
    behind n i a b = omega arith

    count : columns - 1 - 3 ≡ columns - 4
    count = omega arith

    one : columns - (columns - 1) ≡ 1
    one = let enough_columns : 4 ≤ columns = s.from in omega arith

    last_form : form_from (entry t') (columns - 1) 1 ≡ constant_form (entry t' (columns - 1) (columns - 1))
    last_form = refl

    taken : steps 3 (columns - 4) (form_of_table p (columns - 3)) ≡ Ok (stored d' l' columns 3 (columns - 4), constant_form (entry t' (columns - 1) (columns - 1)))
    taken = ap (λ (a : List Column). steps 3 (columns - 4) a) (sym e)
        ∙ subst (λ (k : ℕ). steps 3 k (form_from (entry t) 3 (columns - 3)) ≡ Ok (stored d' l' columns 3 k, form_from (entry t') (columns - 1) (columns - (columns - 1)))) count h
        ∙ ap (λ (k : ℕ). let answer : StepsAnswer = Ok (stored d' l' columns 3 (columns - 4), form_from (entry t') (columns - 1) k) in answer) one

    range : AllInRange (stored d' l' columns 3 (columns - 4)) × SmallForm (constant_form (entry t' (columns - 1) (columns - 1)))
    range = steps_range 3 (columns - 4) (form_of_table p (columns - 3)) (stored d' l' columns 3 (columns - 4), constant_form (entry t' (columns - 1) (columns - 1))) taken
        (small_form (entry p) 0 (columns - 3) q)

    high : (r : ℕ) → (r < MOST_COLUMNS) ⊎ (MOST_COLUMNS ≤ r)
    high r = cases_lt r MOST_COLUMNS

    front_factor : (r c : ℕ) → c < 3 → entry l' r c ≡ entry fl r c
    front_factor r c a = u.factors r c (inl (inl a)) ∙ ⊎_elim (λ (b : r < MOST_COLUMNS). s.factors_same r c b a)
        (λ (b : MOST_COLUMNS ≤ r). s.factors_zero r c (inl b) ∙ sym (s.front_outside r c (inr (past columns r s.to b)))) (high r)
      where
        past : (n r : ℕ) → n ≤ MOST_COLUMNS → MOST_COLUMNS ≤ r → n ≤ r
        past n r a b = omega arith

    below : IsBelowDiagonal columns l'
    below r c a = ⊎_elim (λ (b : c < 3). front_factor r c b ∙ s.front_outside r c a) (λ (b : 3 ≤ c). u.factors r c (inr a) ∙ s.factors_zero r c (inr b)) (cases_lt c 3)
