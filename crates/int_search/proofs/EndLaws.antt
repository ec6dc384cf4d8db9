-- A form has one end with each budget, and a greater budget never loses an answer.
use Rattle.std.proofs.Common.{◌≡◌, inl, inr, ⊎_elim, ℕ, zero, suc, ◌+◌, ◌-◌, ◌<◌, ◌≤◌, ◌^◌, List, [], ◌∷◌, get_or, ℤ, pos, ◌*ℤ◌, arith, refl, sym, ap, ap₂, ◌∙◌, subst, unsigned_abs, Result, Ok, Err}
use Rattle.std.proofs.lemmas.Bool.{cases_lt}
use Rattle.quadratic_form.specs.Forms.{Column}
use Rattle.quadratic_form.specs.Elimination.{Factor, steps, StepsAnswer}
use Rattle.quadratic_form.specs.Places.{list_from, form_from}
use Rattle.quadratic_form.specs.Tables.{entry, item}
use Rattle.integer_form.specs.declared.form.Form.{Form}
use Rattle.integer_form.specs.Forms.{integers_of, columns_of, factors_of}
use Rattle.integer_form.specs.Kept.{constant_form}
use Rattle.integer_form.proofs.FloatLaws.{list_item}
use Rattle.quadratic_form.specs.Maps.{apply}
use Rattle.quadratic_form.proofs.Places.{form_same}
use Rattle.decorrelate.specs.Inverses.{block}
use Rattle.decorrelate.specs.States.{State}
use Rattle.decorrelate.specs.Reducing.{IsReduced, IsStart}
use Rattle.int_search.specs.Suffixes.{SearchForm, no_factor}
use Rattle.int_search.specs.Transformed.{with_constant, half_entry, transformed_entry, transformed_form, IsTransformedSmall}
use Rattle.int_search.specs.VisitedSuffixes.{EndsByItself, IsOverBudget, MeetsTooWide}
use Rattle.int_search.specs.SearchedForm.{search_form}
use Rattle.int_search.specs.Answers.{IsPlainEnd}
use Rattle.int_search.specs.ReducedCounts.{decorrelated, EndsByItselfIn, ReducedEndsByItself, HasAnswer, IsSearchEnd}
use Rattle.int_search.specs.SameEnds.{IsSameEnd}
use Rattle.int_search.specs.declared.answer.TwoBest.{TwoBest}
use Rattle.int_search.specs.declared.answer.SearchFault.{SearchFault}
use Rattle.int_search.specs.declared.answer.SearchFault.TheVariants.{Spent, Overwidth}
use Rattle.int_search.proofs.FormNumbers.{get_stored}
use Rattle.int_search.proofs.TotalLaws.{total_same}
use Rattle.int_search.proofs.TraceLaws.{finished_more, finished_not_outrun, finished_not_stopped}

-- ---- more visits
pub reduced_more : (f : Form) (n m : ℕ) → n ≤ m → ReducedEndsByItself f n → ReducedEndsByItself f m
reduced_more f n m h r = record {
  change = r.change;
  reduced = r.reduced;
  finished = record {
    small = r.finished.small;
    factors = r.finished.factors;
    g = r.finished.g;
    taken = r.finished.taken;
    finished = finished_more _ _ n m h r.finished.finished;
  };
}

pub answers_more : (f : Form) (n m : ℕ) → n ≤ m → HasAnswer f n → HasAnswer f m
answers_more f n m h (inl r) = inl (reduced_more f n m h r)
answers_more f n m h (inr p) = inr (finished_more (search_form f) (λ v. v) n m h p)

-- ---- one end
pub no_fault : (f : Form) (n : ℕ) (e : SearchFault) → HasAnswer f n → (ReducedEndsByItself f n → ⊥) × IsPlainEnd f n (Err e) → ⊥
no_fault f n e (inl r) h = h.0 r
no_fault f n Spent (inr p) h = finished_not_outrun (search_form f) (λ v. v) n p h.1
no_fault f n Overwidth (inr p) h = finished_not_stopped (search_form f) (λ v. v) n n p h.1

pub same_fault : (f : Form) (n : ℕ) (e d : SearchFault) → IsPlainEnd f n (Err e) → IsPlainEnd f n (Err d) → e ≡ d
same_fault f n Spent Spent a b = refl
same_fault f n Spent Overwidth a b = absurd (a.small b)
same_fault f n Overwidth Spent a b = absurd (b.small a)
same_fault f n Overwidth Overwidth a b = refl

pub one_end : (f : Form) (n : ℕ) (r s : Result TwoBest SearchFault) → IsSearchEnd f n r → IsSearchEnd f n s → IsSameEnd r s
one_end f n (Ok b) (Ok c) h k = tt
one_end f n (Ok b) (Err d) h k = no_fault f n d h k
one_end f n (Err e) (Ok c) h k = no_fault f n e k h
one_end f n (Err e) (Err d) h k = same_fault f n e d h.1 k.1

-- ---- forms with the same columns
own_of : List Column → ℤ
own_of [] = pos 0
own_of (c ∷ a) = c.own

others_of : List Column → List ℤ
others_of [] = []
others_of (c ∷ a) = c.others

rest_of : List Column → List Column
rest_of [] = []
rest_of (c ∷ a) = a

-- the entries of a form
entries_at : (d e : ℕ → ℕ → ℤ) (j k r c : ℕ) → form_from d j k ≡ form_from e j k → j ≤ r → r ≤ c → c < j + k → d r c ≡ e r c
unfolding own_of others_of rest_of
entries_at d e j zero r c h l m o = absurd (omega arith)
entries_at d e j (suc k) r c h l m o = ⊎_elim
    (λ (i : j < r). entries_at d e (suc j) k r c (ap rest_of h) (omega arith) m (omega arith))
    (λ (i : r ≤ j). first (omega arith)) (cases_lt j r)
  where
    -- in the first column
    first : r ≡ j → d r c ≡ e r c
    first i = subst (λ (q : ℕ). d q c ≡ e q c) (sym i) (⊎_elim
        (λ (n : j < c). later n)
        (λ (n : c ≤ j). let same : j ≡ c = omega arith in subst (λ (q : ℕ). d j q ≡ e j q) same (ap own_of h)) (cases_lt j c))
      where
        later : j < c → d j c ≡ e j c
        later n =
            let place : suc j + (c - suc j) ≡ c = omega arith in
            let lists : list_from (d j) (suc j) k ≡ list_from (e j) (suc j) k = ap others_of h in
            ap (d j) (sym place) ∙ sym (list_item (d j) (suc j) k (c - suc j) (omega arith)) ∙ ap (λ (s : List ℤ). item s (c - suc j)) lists ∙ list_item (e j) (suc j) k (c - suc j) (omega arith) ∙ ap (e j) place

-- f and g have the same columns
pub record HaveSameColumns (f g : Form) : Type 0 where
  pub columns : f.columns ≡ g.columns
  pub form : columns_of f ≡ columns_of g

same_entries : (f g : Form) (r c : ℕ) → HaveSameColumns f g → r < f.columns - 3 → c < f.columns - 3 → entry f.p r c ≡ entry g.p r c
same_entries f g r c h l m = ⊎_elim (λ (i : r < c). upper r c (omega arith) m) (λ (i : c ≤ r). f.symmetric r c ∙ upper c r i l ∙ g.symmetric c r) (cases_lt r c)
  where
    forms : form_from (entry f.p) 0 (f.columns - 3) ≡ form_from (entry g.p) 0 (f.columns - 3)
    forms = h.form ∙ ap (λ (n : ℕ). form_from (entry g.p) 0 (n - 3)) (sym h.columns)

    upper : (r c : ℕ) → r ≤ c → c < f.columns - 3 → entry f.p r c ≡ entry g.p r c
    upper r c i m = entries_at (entry f.p) (entry g.p) 0 (f.columns - 3) r c forms (omega arith) i (omega arith)

same_integers : (f g : Form) → HaveSameColumns f g → integers_of f ≡ integers_of g
same_integers f g h = ap (λ (n : ℕ). n - 4) h.columns

ok_same : (p q : List Factor × List Column) → (let answer : StepsAnswer = Ok p in answer) ≡ Ok q → p ≡ q
ok_same p q e = cc

abbrev parts_of : Form → List Factor × List Column
parts_of f = (factors_of f, constant_form f.g)

same_steps : (f g : Form) → HaveSameColumns f g → parts_of f ≡ parts_of g
same_steps f g h = ok_same (parts_of f) (parts_of g)
    (sym f.eliminated ∙ ap₂ (λ (n : ℕ) (p : List Column). steps 3 n p) (same_integers f g h) h.form ∙ g.eliminated)

same_factors : (f g : Form) → HaveSameColumns f g → factors_of f ≡ factors_of g
same_factors f g h = ap (λ (p : List Factor × List Column). p.0) (same_steps f g h)

same_last : (f g : Form) → HaveSameColumns f g → f.g ≡ g.g
unfolding own_of
same_last f g h = ap (λ (p : List Factor × List Column). own_of p.1) (same_steps f g h)

search_forms : (a b : ℕ) (x y : List Factor) (g h : ℤ) (p q : List Column) → a ≡ b → x ≡ y → g ≡ h → p ≡ q →
    (let form : SearchForm = record { size = a; factors = x; g = g; p = p } in form) ≡ record { size = b; factors = y; g = h; p = q }
search_forms a b x y g h p q i j k l = ap (λ (z : ℕ). let form : SearchForm = record { size = z; factors = x; g = g; p = p } in form) i
    ∙ ap (λ (z : List Factor). let form : SearchForm = record { size = b; factors = z; g = g; p = p } in form) j
    ∙ ap (λ (z : ℤ). let form : SearchForm = record { size = b; factors = y; g = z; p = p } in form) k
    ∙ ap (λ (z : List Column). let form : SearchForm = record { size = b; factors = y; g = h; p = z } in form) l

same_search : (f g : Form) → HaveSameColumns f g → search_form f ≡ search_form g
same_search f g h = search_forms (integers_of f) (integers_of g) (factors_of f) (factors_of g) f.g g.g (columns_of f) (columns_of g) (same_integers f g h) (same_factors f g h) (same_last f g h) h.form

-- ---- what the reduction reads
same_weight : (f g : Form) (i : ℕ) → HaveSameColumns f g → i < integers_of f → item f.d (3 + i) ≡ item g.d (3 + i)
same_weight f g i h l =
    let below : i < integers_of g = subst (λ (n : ℕ). i < n) (same_integers f g h) l in
    ap (λ (a : Factor). a.d) (sym (get_stored f.d f.l f.columns 3 (integers_of f) i no_factor l) ∙ ap (λ (s : List Factor). get_or s i no_factor) (same_factors f g h)
    ∙ get_stored g.d g.l g.columns 3 (integers_of g) i no_factor below)

same_factor : (f g : Form) (i m : ℕ) → HaveSameColumns f g → i < integers_of f → m < i → entry f.l (3 + i) (3 + m) ≡ entry g.l (3 + i) (3 + m)
same_factor f g i m h l o =
    let below : m < integers_of g = subst (λ (n : ℕ). m < n) (same_integers f g h) (omega arith) in
    let k : ℕ = f.columns - (3 + m) - 1 in
    let lists : list_from (λ r. entry f.l r (3 + m)) (suc (3 + m)) k ≡ list_from (λ r. entry g.l r (3 + m)) (suc (3 + m)) (g.columns - (3 + m) - 1) =
    ap (λ (a : Factor). a.l) (sym (get_stored f.d f.l f.columns 3 (integers_of f) m no_factor (omega arith)) ∙ ap (λ (s : List Factor). get_or s m no_factor) (same_factors f g h)
    ∙ get_stored g.d g.l g.columns 3 (integers_of g) m no_factor below) in
    let same_k : g.columns - (3 + m) - 1 ≡ k = ap (λ (n : ℕ). n - (3 + m) - 1) (sym h.columns) in
    let place : suc (3 + m) + (i - suc m) ≡ 3 + i = omega arith in
    ap (λ (r : ℕ). entry f.l r (3 + m)) (sym place) ∙ sym (list_item (λ r. entry f.l r (3 + m)) (suc (3 + m)) k (i - suc m) (omega arith))
    ∙ ap (λ (s : List ℤ). item s (i - suc m)) (lists ∙ ap (list_from (λ r. entry g.l r (3 + m)) (suc (3 + m))) same_k)
    ∙ list_item (λ r. entry g.l r (3 + m)) (suc (3 + m)) k (i - suc m) (omega arith) ∙ ap (λ (r : ℕ). entry g.l r (3 + m)) place

start_as : (f g : Form) (s : State) → HaveSameColumns f g → IsStart (integers_of f) f.d f.l s → IsStart (integers_of f) g.d g.l s
start_as f g s h k = record {
  weights = λ i l. k.weights i l ∙ same_weight f g i h l;
  factors = λ i m l o. k.factors i m l o ∙ same_factor f g i m h l o;
  map = k.map;
  back = k.back;
}

-- ---- the form in the coordinates of a map
same_halves : (n : ℕ) (map p q : ℕ → ℕ → ℤ) (a j : ℕ) → ((r c : ℕ) → r < n + 1 → c < n + 1 → p r c ≡ q r c) → a < n + 1 → half_entry n map p a j ≡ half_entry n map q a j
same_halves n map p q a j e l = total_same (λ b. with_constant n map b j *ℤ p a b) (λ b. with_constant n map b j *ℤ q a b) 0 (n + 1) (λ b h g. ap (λ z. with_constant n map b j *ℤ z) (e a b l (omega arith)))

same_wholes : (n : ℕ) (map p q : ℕ → ℕ → ℤ) (i j : ℕ) → ((r c : ℕ) → r < n + 1 → c < n + 1 → p r c ≡ q r c) → transformed_entry n map p i j ≡ transformed_entry n map q i j
same_wholes n map p q i j e = total_same (λ a. half_entry n map p a j *ℤ with_constant n map a i) (λ a. half_entry n map q a j *ℤ with_constant n map a i) 0 (n + 1)
    (λ a h g. ap (λ z. z *ℤ with_constant n map a i) (same_halves n map p q a j e (omega arith)))

finished_in_as : (f g : Form) (n : ℕ) (map : List (List ℤ)) → HaveSameColumns f g → EndsByItselfIn f n map → EndsByItselfIn g n map
finished_in_as f g n map h r = record {
  small = subst (λ (k : ℕ). IsTransformedSmall k map g.p) integers (λ i j l m. subst (λ (z : ℤ). unsigned_abs z < 2 ^ 52) (same_wholes (integers_of f) (entry map) (entry f.p) (entry g.p) i j inside) (r.small i j l m));
  factors = r.factors;
  g = r.g;
  taken = sym (ap₂ (λ (k : ℕ) (p : List Column). steps 3 k p) integers transformed) ∙ r.taken;
  finished = subst (λ (k : ℕ). EndsByItself (decorrelated g map r.factors r.g) (apply (block k map)) n) integers
      (subst (λ (s : SearchForm). EndsByItself s (apply (block (integers_of f) map)) n)
      (search_forms (integers_of f) (integers_of g) r.factors r.factors r.g r.g (transformed_form (integers_of f) map f.p) (transformed_form (integers_of g) map g.p) integers refl refl transformed) r.finished);
}
  where
    integers : integers_of f ≡ integers_of g
    integers = same_integers f g h

    inside : (a c : ℕ) → a < integers_of f + 1 → c < integers_of f + 1 → entry f.p a c ≡ entry g.p a c
    inside a c l m = let from = f.columns_from in same_entries f g a c h (omega arith) (omega arith)

    transformed : transformed_form (integers_of f) map f.p ≡ transformed_form (integers_of g) map g.p
    transformed = form_same (transformed_entry (integers_of f) (entry map) (entry f.p)) (transformed_entry (integers_of f) (entry map) (entry g.p)) 0 (integers_of f + 1)
        (λ a c l m o. same_wholes (integers_of f) (entry map) (entry f.p) (entry g.p) a c inside)
        ∙ ap (λ (k : ℕ). transformed_form k map g.p) integers

reduced_as : (f g : Form) (n : ℕ) → HaveSameColumns f g → ReducedEndsByItself f n → ReducedEndsByItself g n
reduced_as f g n h r = record {
  change = r.change;
  reduced = subst (λ (k : ℕ). IsReduced k g.d g.l r.change) (same_integers f g h) (record {
    start = r.reduced.start;
    end = r.reduced.end;
    begins = start_as f g r.reduced.start h r.reduced.begins;
    reduces = r.reduced.reduces;
    map = r.reduced.map;
    back = r.reduced.back;
  });
  finished = finished_in_as f g n r.change.map h r.finished;
}

turned : (f g : Form) → HaveSameColumns f g → HaveSameColumns g f
turned f g h = record { columns = sym h.columns; form = sym h.form }

-- forms with the same columns end alike
pub end_as : (f g : Form) (n : ℕ) (r : Result TwoBest SearchFault) → HaveSameColumns f g → IsSearchEnd f n r → IsSearchEnd g n r
end_as f g n (Ok b) h (inl e) = inl (reduced_as f g n h e)
end_as f g n (Ok b) h (inr e) = inr (subst (λ (s : SearchForm). EndsByItself s (λ v. v) n) (same_search f g h) e)
end_as f g n (Err Spent) h e = (λ r. e.0 (reduced_as g f n (turned f g h) r), subst (λ (s : SearchForm). IsOverBudget s (λ v. v) n) (same_search f g h) e.1)
end_as f g n (Err Overwidth) h e = (λ r. e.0 (reduced_as g f n (turned f g h) r), subst (λ (s : SearchForm). MeetsTooWide s (λ v. v) n) (same_search f g h) e.1)
