-- The search in the form's own coordinates, where the map leaves every vector as it is.
use Rattle.std.proofs.Common.{◌≡◌, ◌⊎◌, ⊎_elim, ℕ, ◌<◌, ◌≤◌, List, length, take, ℤ, pos, ◌<ℤ◌, arith, sym, ap, ◌∙◌, subst, Result, Ok, Err, IfOk, MatchResult}
use Rattle.whole_math.specs.Vectors.{len}
use Rattle.whole_math.proofs.Vectors.{len_is}
use Rattle.quadratic_form.specs.Rows.{value}
use Rattle.quadratic_form.specs.TwoLeast.{Before, Less}
use Rattle.quadratic_form.proofs.VectorOrder.{less_never}
use Rattle.quadratic_form.specs.declared.sizes.TheConstants.{MOST_INTEGERS}
use Rattle.integer_form.specs.declared.form.Form.{Form}
use Rattle.integer_form.specs.Forms.{integers_of, columns_of, value_of}
use Rattle.int_search.specs.Order.{IsLess}
use Rattle.int_search.specs.PlainCount.{AreAtMost}
use Rattle.int_search.specs.Images.{image_of}
use Rattle.int_search.specs.SearchedForm.{search_form}
use Rattle.int_search.specs.SearchStates.{search_image}
use Rattle.int_search.specs.Answers.{IsAnswer, IsFault, IsTwoBest, IsVisitedIn, IsPlainCountOver, IsSearchTooWide, IsPlainEnd}
use Rattle.int_search.specs.declared.answer.TwoBest.{TwoBest}
use Rattle.int_search.specs.declared.answer.SearchFault.{SearchFault}
use Rattle.int_search.specs.declared.answer.SearchFault.TheVariants.{Spent, Overwidth}
use Rattle.int_search.proofs.SuffixArrays.{suffix-all}
use Rattle.int_search.proofs.FormNumbers.{searchable}
use Rattle.int_search.proofs.TraceLaws.{stopped_as, outrun_as, finished_as}
use Rattle.int_search.proofs.CountLaws.{outrun_over, finished_within, plain_wide}

-- the map leaves every vector as it is
abbrev pub IsOwn : List (List ℤ) → Type 0
IsOwn map = (n : ℕ) (v : List ℤ) → n ≤ MOST_INTEGERS → length v ≡ n → image_of map n v ≡ v

own_image : (form : Form) (map : List (List ℤ)) (v : List ℤ) → IsOwn map → length v ≡ integers_of form → search_image form map v ≡ v
own_image form map v o e = let few_columns = form.columns_to in o (integers_of form) v (omega arith) e

-- the order by images is that by the vectors themselves
own_less : (form : Form) (map : List (List ℤ)) (v w : List ℤ) → IsOwn map → length v ≡ integers_of form → length w ≡ integers_of form →
    IsLess (search_form form) (search_image form map) v w → Less (columns_of form) v w
own_less form map v w o a b h = subst (λ (x : List ℤ). (value (columns_of form) v <ℤ value (columns_of form) w) ⊎ ((value (columns_of form) v ≡ value (columns_of form) w) × Before x w))
    (own_image form map v o a)
    (subst (λ (x : List ℤ). (value (columns_of form) v <ℤ value (columns_of form) w) ⊎ ((value (columns_of form) v ≡ value (columns_of form) w) × Before (search_image form map v) x))
    (own_image form map w o b) h)

pub length_of : (v : List ℤ) (n : ℕ) → len v ≡ pos n → length v ≡ n
length_of v n e = pos_same (length v) n (sym (len_is v) ∙ e)
  where
    pos_same : (a b : ℕ) → pos a ≡ pos b → a ≡ b
    pos_same a b e = cc

pub plain_found : (form : Form) (map : List (List ℤ)) (budget : ℕ) (b : TwoBest) → IsOwn map → IsAnswer (search_form form) (search_image form map) budget b → IsTwoBest form b
plain_found form map budget b o a = record {
  size = a.size;
  least = record {
    first = ap len one ∙ count a.one a.least.first_size;
    second = ap len two ∙ count a.two a.least.second_size;
    differ = λ e. less_never (columns_of form) a.two (subst (λ (v : List ℤ). Less (columns_of form) v a.two) (sym one ∙ e ∙ two) order);
    order = subst (λ (v : List ℤ). Less (columns_of form) v (take b.size b.second)) (sym one) (subst (λ (v : List ℤ). Less (columns_of form) a.one v) (sym two) order);
    rest = λ v e d f. subst (λ (u : List ℤ). Less (columns_of form) u v) (sym two) (others v (length_of v (integers_of form) e) (λ i. d (i ∙ sym one)) (λ i. f (i ∙ sym two)));
  };
  p1 = a.p1 ∙ ap (value_of form) (sym one);
  p2 = a.p2 ∙ ap (value_of form) (sym two);
  first_small = a.first.small;
  second_small = a.second.small;
}
  where
    one : take b.size b.first ≡ a.one
    one = ap (λ n. take n b.first) a.size ∙ sym (suffix-all b.first (integers_of form)) ∙ a.first.is ∙ own_image form map a.one o a.least.first_size

    two : take b.size b.second ≡ a.two
    two = ap (λ n. take n b.second) a.size ∙ sym (suffix-all b.second (integers_of form)) ∙ a.second.is ∙ own_image form map a.two o a.least.second_size

    count : (v : List ℤ) → length v ≡ integers_of form → len v ≡ pos (integers_of form)
    count v e = len_is v ∙ ap pos e

    order : Less (columns_of form) a.one a.two
    order = own_less form map a.one a.two o a.least.first_size a.least.second_size a.least.ordered

    others : (v : List ℤ) → length v ≡ integers_of form → (v ≡ a.one → ⊥) → (v ≡ a.two → ⊥) → Less (columns_of form) a.two v
    others v e d f = ⊎_elim (λ (i : v ≡ a.one). absurd (d i)) (λ (t : (v ≡ a.two) ⊎ IsLess (search_form form) (search_image form map) a.two v).
        ⊎_elim (λ (i : v ≡ a.two). absurd (f i)) (λ (l : IsLess (search_form form) (search_image form map) a.two v). own_less form map a.two v o a.least.second_size e l) t) (a.least.others v e)

-- ---- the answers of the search, in the form's own terms
pub answer_found : (form : Form) (map : List (List ℤ)) (budget : ℕ) → IsOwn map → (r : Result TwoBest SearchFault) →
    MatchResult r (IsAnswer (search_form form) (search_image form map) budget) (IsFault (search_form form) (search_image form map) budget) → IfOk r (IsTwoBest form)
answer_found form map budget o (Ok b) h = plain_found form map budget b o h
answer_found form map budget o (Err e) h = tt

pub answer_visits : (form : Form) (map : List (List ℤ)) (budget : ℕ) → (r : Result TwoBest SearchFault) →
    MatchResult r (IsAnswer (search_form form) (search_image form map) budget) (IsFault (search_form form) (search_image form map) budget) → IfOk r (IsVisitedIn form budget)
answer_visits form map budget (Ok b) h = subst (λ (p : ℤ). AreAtMost (search_form form) p budget) (sym h.p2) (finished_within (search_form form) (search_image form map) h.one h.two budget h.least h.finished)
answer_visits form map budget (Err e) h = tt

pub answer_spent : (form : Form) (map : List (List ℤ)) (budget : ℕ) → 4 < form.columns → (r : Result TwoBest SearchFault) →
    MatchResult r (IsAnswer (search_form form) (search_image form map) budget) (IsFault (search_form form) (search_image form map) budget) → r ≡ Err Spent → IsPlainCountOver form budget
answer_spent form map budget some (Ok b) h e = absurd cc
answer_spent form map budget some (Err Spent) h e = outrun_over (search_form form) (search_image form map) budget (searchable form some) h
answer_spent form map budget some (Err Overwidth) h e = absurd cc

pub answer_wide : (form : Form) (map : List (List ℤ)) (budget : ℕ) → 4 < form.columns → IsOwn map → (r : Result TwoBest SearchFault) →
    MatchResult r (IsAnswer (search_form form) (search_image form map) budget) (IsFault (search_form form) (search_image form map) budget) → r ≡ Err Overwidth → IsSearchTooWide form budget
answer_wide form map budget some o (Ok b) h e = absurd cc
answer_wide form map budget some o (Err Spent) h e = absurd cc
answer_wide form map budget some o (Err Overwidth) h e = plain_wide form budget some (stopped_as (search_form form) (search_image form map) (λ v. v) budget (searchable form some) (λ v e. own_image form map v o e) h)

-- how the search ends
pub answer_end : (form : Form) (map : List (List ℤ)) (budget : ℕ) → 4 < form.columns → IsOwn map → (r : Result TwoBest SearchFault) →
    MatchResult r (IsAnswer (search_form form) (search_image form map) budget) (IsFault (search_form form) (search_image form map) budget) → IsPlainEnd form budget r
answer_end form map budget some o (Ok b) h = finished_as (search_form form) (search_image form map) (λ v. v) budget (searchable form some) (λ v e. own_image form map v o e) h.finished
answer_end form map budget some o (Err Spent) h = outrun_as (search_form form) (search_image form map) (λ v. v) budget (searchable form some) (λ v e. own_image form map v o e) h
answer_end form map budget some o (Err Overwidth) h = stopped_as (search_form form) (search_image form map) (λ v. v) budget (searchable form some) (λ v e. own_image form map v o e) h
