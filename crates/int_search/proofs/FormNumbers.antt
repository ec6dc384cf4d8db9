-- The numbers of an integer form, as the search reads them.
use Rattle.std.proofs.Common.{◌≡◌, ℕ, zero, suc, ◌+◌, ◌-◌, ◌<◌, ◌≤◌, ◌^◌, List, [], ◌∷◌, ◌++◌, length, get_or, drop, ℤ, pos, ◌*ℤ◌, ◌≤ℤ◌, unsigned_abs, arith, refl, ap, ap₂, sym, ◌∙◌, subst}
use Rattle.whole_math.specs.Vectors.{dot}
use Rattle.quadratic_form.specs.Elimination.{Factor}
use Rattle.quadratic_form.specs.Places.{list_from}
use Rattle.quadratic_form.specs.LowerSums.{lower_sum}
use Rattle.quadratic_form.proofs.Ranges.{steps_range}
use Rattle.quadratic_form.specs.Tables.{entry}
use Rattle.integer_form.specs.declared.form.Form.{Form}
use Rattle.integer_form.specs.Factors.{factor_at, stored}
use Rattle.integer_form.specs.Kept.{constant_form}
use Rattle.integer_form.specs.Forms.{integers_of, columns_of, value_of, factors_of}
use Rattle.integer_form.proofs.FormLaws.{lower_sums_below}
use Rattle.elimination.proofs.FinishLaws.{small_form}
use Rattle.elimination.proofs.TableLaws.{size}
use Rattle.int_search.specs.Suffixes.{IsSearchable, low, rest, weight, no_factor}
use Rattle.int_search.specs.Vectors.{suffix}
use Rattle.int_search.specs.SearchedForm.{search_form}
use Rattle.int_search.proofs.SuffixArrays.{suffix-length}

-- ---- the stored factors
length_stored : (d : List ℤ) (l : List (List ℤ)) (columns j n : ℕ) → length (stored d l columns j n) ≡ n
length_stored d l columns j zero = refl
length_stored d l columns j (suc n) = ap (λ k. suc k) (length_stored d l columns (suc j) n)

pub get_stored : (d : List ℤ) (l : List (List ℤ)) (columns j n i : ℕ) (other : Factor) → i < n →
    get_or (stored d l columns j n) i other ≡ factor_at (get_or d (j + i) (pos 0)) l (j + i) (columns - (j + i) - 1)
get_stored d l columns j zero i other h = absurd (omega arith)
get_stored d l columns j (suc n) zero other h = ap (λ k. factor_at (get_or d k (pos 0)) l k (columns - k - 1)) at
  where
    at : j ≡ j + 0
    at = omega arith
get_stored d l columns j (suc n) (suc i) other h = get_stored d l columns (suc j) n i other (omega arith) ∙ ap (λ k. factor_at (get_or d k (pos 0)) l k (columns - k - 1)) at
  where
    at : suc j + i ≡ j + suc i
    at = omega arith

-- ---- what the entries of p leave is small
g_small : (f : Form) → unsigned_abs f.g < 2 ^ 52
g_small f = size f.g (steps_range 3 (integers_of f) (columns_of f) (factors_of f, constant_form f.g) f.eliminated (small_form (entry f.p) 0 (f.columns - 3) f.entries_in)).1.0

-- ---- the form is one that can be searched
pub searchable : (f : Form) → 4 < f.columns → IsSearchable (search_form f)
unfolding low
searchable f h = record {
  some = omega arith;
  each = length_stored f.d f.l f.columns 3 (integers_of f);
  weights_from = λ k o l. subst (λ (a : Factor). pos 1 ≤ℤ a.d) (sym (get_stored f.d f.l f.columns 3 (integers_of f) k o (at l))) (f.kept_in (3 + k) (omega arith) (let place_below = at l in omega arith)).0;
  weights_to = λ k o l. subst (λ (a : Factor). a.d ≤ℤ pos (2 ^ 52)) (sym (get_stored f.d f.l f.columns 3 (integers_of f) k o (at l))) (f.kept_in (3 + k) (omega arith) (let place_below = at l in omega arith)).1;
  g_in = g_small f;
  below = λ z e. let none_left : 0 ≡ integers_of f - length z = omega arith in subst (λ (j : ℕ). lower_sum f.g (drop j (factors_of f)) z ≤ℤ (pos (2 ^ 60) *ℤ value_of f z)) none_left (lower_sums_below f z e);
}
  where
    at : {k : ℕ} → k < length (factors_of f) → k < integers_of f
    at l = let stored_length = length_stored f.d f.l f.columns 3 (integers_of f) in omega arith

-- ---- what the code reads
pub weight_is : (f : Form) (z : List ℤ) (i : ℕ) → i < integers_of f → integers_of f ≤ length z → weight (search_form f) (suffix z (i + 1) (integers_of f)) ≡ get_or f.d (3 + i) (pos 0)
unfolding weight
weight_is f z i h k =
    let suffix_long : length (suffix z (i + 1) (integers_of f)) ≡ integers_of f - (i + 1) = suffix-length z (i + 1) (integers_of f) k in
    let place_is : integers_of f - 1 - length (suffix z (i + 1) (integers_of f)) ≡ i = omega arith in
    ap (λ j. (get_or (factors_of f) j no_factor).d) place_is ∙ ap (λ a. a.d) (get_stored f.d f.l f.columns 3 (integers_of f) i no_factor h)

pub rest_is : (f : Form) (z : List ℤ) (i : ℕ) → i < integers_of f → integers_of f ≤ length z →
    rest (search_form f) (suffix z (i + 1) (integers_of f)) ≡ dot (list_from (λ r. entry f.l r (3 + i)) (3 + (i + 1)) (integers_of f - (i + 1) + 1)) (suffix z (i + 1) (integers_of f) ++ pos 1 ∷ [])
unfolding rest
rest_is f z i h k =
    let suffix_long : length (suffix z (i + 1) (integers_of f)) ≡ integers_of f - (i + 1) = suffix-length z (i + 1) (integers_of f) k in
    let place_is : integers_of f - 1 - length (suffix z (i + 1) (integers_of f)) ≡ i = omega arith in
    let place_after : suc (3 + i) ≡ 3 + (i + 1) = omega arith in
    let columns_left : f.columns - (3 + i) - 1 ≡ integers_of f - (i + 1) + 1 = omega arith in
    let suffix_with_one : List ℤ = suffix z (i + 1) (integers_of f) ++ pos 1 ∷ [] in
    ap (λ j. dot (get_or (factors_of f) j no_factor).l suffix_with_one) place_is
    ∙ ap (λ (t : Factor). dot t.l suffix_with_one) (get_stored f.d f.l f.columns 3 (integers_of f) i no_factor h)
    ∙ ap₂ (λ j c. dot (list_from (λ r. entry f.l r (3 + i)) j c) suffix_with_one) place_after columns_left
