-- The search in the coordinates of a map that has an inverse.
use Rattle.std.proofs.Common.{◌≡◌, ◌⊎◌, inl, inr, ⊎_elim, ℕ, ◌+◌, ◌-◌, ◌<◌, ◌≤◌, ◌^◌, List, [], ◌∷◌, length, take, ℤ, pos, ◌<ℤ◌, ◌≤ℤ◌, arith, refl, sym, ap, ◌∙◌, subst, Result, Ok, Err}
use Rattle.whole_math.specs.Vectors.{len}
use Rattle.whole_math.proofs.Vectors.{len_is}
use Rattle.whole_math.proofs.Order.{lins}
use Rattle.quadratic_form.specs.Forms.{Column}
use Rattle.quadratic_form.specs.Elimination.{Factor, steps, StepsAnswer}
use Rattle.quadratic_form.specs.Rows.{value}
use Rattle.quadratic_form.specs.Maps.{apply, Inverse}
use Rattle.quadratic_form.specs.Places.{form_from}
use Rattle.quadratic_form.specs.TwoLeast.{Before, Less, TwoLeast}
use Rattle.quadratic_form.proofs.VectorOrder.{less_never}
use Rattle.quadratic_form.proofs.CarriedSearch.{TwoLeastUnder, carried}
use Rattle.quadratic_form.specs.declared.sizes.TheConstants.{MOST_INTEGERS}
use Rattle.quadratic_form.specs.Tables.{entry}
use Rattle.decorrelate.specs.declared.unimodular.Unimodular.{Unimodular}
use Rattle.decorrelate.specs.Inverses.{block, Undoes}
use Rattle.decorrelate.proofs.InverseLaws.{inverse_of}
use Rattle.integer_form.specs.declared.form.Form.{Form}
use Rattle.integer_form.specs.Forms.{integers_of, columns_of, factors_of, value_of}
use Rattle.integer_form.specs.Kept.{constant_form}
use Rattle.int_search.specs.Transformed.{transformed_form, IsTransformedSmall}
use Rattle.int_search.proofs.MapImageLaws.{image_block, reduced_value}
use Rattle.int_search.proofs.SameMaps.{AreSameInside, form_as, small_as, block_as}
use Rattle.int_search.specs.Suffixes.{SearchForm}
use Rattle.int_search.specs.PlainCount.{AreAtMost, Counts, HasLarge, IsOver, top}
use Rattle.int_search.specs.VisitOrder.{IsReached}
use Rattle.int_search.specs.Order.{IsLess}
use Rattle.int_search.specs.Images.{image_of, IsMap}
use Rattle.int_search.specs.SearchedForm.{search_form}
use Rattle.int_search.specs.SearchStates.{CanSearch, search_image}
use Rattle.int_search.specs.Answers.{IsAnswer, IsFault, IsTwoBest, IsPlainEnd}
use Rattle.int_search.specs.ReducedCounts.{decorrelated, HasCountIn, IsVisitedInMap, EndsByItselfIn, ReducedEndsByItself, IsSearchEnd}
use Rattle.int_search.specs.declared.answer.TwoBest.{TwoBest}
use Rattle.int_search.specs.declared.answer.SearchFault.{SearchFault}
use Rattle.int_search.specs.declared.answer.SearchFault.TheVariants.{Spent, Overwidth}
use Rattle.int_search.specs.VisitedSuffixes.{EndsByItself}
use Rattle.int_search.proofs.FormNumbers.{searchable}
use Rattle.int_search.proofs.CountLaws.{IsTooWide, outrun_over, stopped_wide, finished_within}
use Rattle.int_search.proofs.TraceLaws.{AreSameImages, finished_as, finished_not_outrun, finished_not_stopped}
use Rattle.int_search.proofs.SuffixArrays.{suffix-all}
use Rattle.int_search.proofs.ImageLaws.{image_length}
use Rattle.int_search.proofs.PlainLaws.{length_of}

-- ---- what the search needs of the map
pub reduced_can : (f : Form) (map back : List (List ℤ)) → 4 < f.columns → IsMap map → Undoes (integers_of f) back map → CanSearch f map
reduced_can f map back h m u =
    let few_columns = f.columns_to in
    let row_count : length map ≡ MOST_INTEGERS = m.shape.rows in
    let within : integers_of f ≤ length map = omega arith in
    record {
      some = h;
      map_in = m;
      one_to_one = record {
        entries = λ v e. image_length map (integers_of f) v within;
        apart = λ v w e g i. sym (u v (len_is v ∙ ap pos e))
            ∙ ap (apply (block (integers_of f) back)) (sym (image_block map (integers_of f) v within e) ∙ i ∙ image_block map (integers_of f) w within g) ∙ u w (len_is w ∙ ap pos g);
      };
    }

-- ---- the two least
-- f is the form itself, r the form in the coordinates of u
pub record IsDecorrelated (f r : Form) (u : Unimodular) : Type 0 where
  pub some : 4 < f.columns
  pub size : u.size ≡ integers_of f
  pub integers : integers_of r ≡ integers_of f
  pub form : columns_of r ≡ transformed_form (integers_of f) u.map f.p
  pub rows : length u.map ≡ MOST_INTEGERS

image_is : (f r : Form) (u : Unimodular) (v : List ℤ) → IsDecorrelated f r u → length v ≡ integers_of f → search_image r u.map v ≡ apply (block (integers_of f) u.map) v
image_is f r u v d e =
    let few_columns = f.columns_to in
    let row_count = d.rows in
    ap (λ (k : ℕ). image_of u.map k v) d.integers ∙ image_block u.map (integers_of f) v (omega arith) e

value_is : (f r : Form) (u : Unimodular) (v : List ℤ) → IsDecorrelated f r u → length v ≡ integers_of f → value (columns_of r) v ≡ value_of f (apply (block (integers_of f) u.map) v)
value_is f r u v d e =
    let some_integers = d.some in
    let size_with_constant : integers_of f + 1 ≡ f.columns - 3 = omega arith in
    ap (λ (p : List Column). value p v) d.form ∙ reduced_value (integers_of f) u.map f.p v f.symmetric e ∙ ap (λ (m : ℕ). value (form_from (entry f.p) 0 m) (apply (block (integers_of f) u.map) v)) size_with_constant

image_less : (f r : Form) (u : Unimodular) (v w : List ℤ) → IsDecorrelated f r u → length v ≡ integers_of f → length w ≡ integers_of f → IsLess (search_form r) (search_image r u.map) v w →
    Less (columns_of f) (apply (block (integers_of f) u.map) v) (apply (block (integers_of f) u.map) w)
image_less f r u v w d e g h = ⊎_elim
    (λ (l : value (columns_of r) v <ℤ value (columns_of r) w). inl
    (subst (λ (x : ℤ). x <ℤ value_of f (apply (block (integers_of f) u.map) w)) (value_is f r u v d e) (subst (λ (y : ℤ). value (columns_of r) v <ℤ y) (value_is f r u w d g) l)))
    (λ (l : (value (columns_of r) v ≡ value (columns_of r) w) × Before (search_image r u.map v) (search_image r u.map w)).
    inr (
      sym (value_is f r u v d e) ∙ l.0 ∙ value_is f r u w d g,
      subst (λ (x : List ℤ). Before x (apply (block (integers_of f) u.map) w)) (image_is f r u v d e) (subst (λ (y : List ℤ). Before (search_image r u.map v) y) (image_is f r u w d g) l.1),
    )) h

pub reduced_found : (f r : Form) (u : Unimodular) (budget : ℕ) (b : TwoBest) → IsDecorrelated f r u → IsAnswer (search_form r) (search_image r u.map) budget b → IsTwoBest f b
reduced_found f r u budget b d a = record {
  size = a.size ∙ d.integers;
  least = subst (λ (v : List ℤ). TwoLeast (columns_of f) (pos n) v (take b.size b.second)) (sym one) (subst (λ (w : List ℤ). TwoLeast (columns_of f) (pos n) (apply (block n u.map) a.one) w) (sym two)
      (carried (columns_of f) (pos n) (block n u.map) (block n u.back) a.one a.two inverse under));
  p1 = a.p1 ∙ value_is f r u a.one d e1 ∙ ap (value_of f) (sym one);
  p2 = a.p2 ∙ value_is f r u a.two d e2 ∙ ap (value_of f) (sym two);
  first_small = a.first.small;
  second_small = a.second.small;
}
  where
    n : ℕ
    n = integers_of f

    e1 : length a.one ≡ integers_of f
    e1 = a.least.first_size ∙ d.integers

    e2 : length a.two ≡ integers_of f
    e2 = a.least.second_size ∙ d.integers

    one : take b.size b.first ≡ apply (block (integers_of f) u.map) a.one
    one = ap (λ k. take k b.first) a.size ∙ sym (suffix-all b.first (integers_of r)) ∙ a.first.is ∙ image_is f r u a.one d e1

    two : take b.size b.second ≡ apply (block (integers_of f) u.map) a.two
    two = ap (λ k. take k b.second) a.size ∙ sym (suffix-all b.second (integers_of r)) ∙ a.second.is ∙ image_is f r u a.two d e2

    inverse : Inverse (pos (integers_of f)) (block (integers_of f) u.map) (block (integers_of f) u.back)
    inverse = inverse_of (integers_of f) u.map u.back (subst (λ (k : ℕ). Undoes k u.map u.back) d.size u.onto) (subst (λ (k : ℕ). Undoes k u.back u.map) d.size u.one_to_one)

    order : Less (columns_of f) (apply (block (integers_of f) u.map) a.one) (apply (block (integers_of f) u.map) a.two)
    order = image_less f r u a.one a.two d e1 e2 a.least.ordered

    others : (v : List ℤ) → length v ≡ integers_of f → (v ≡ a.one → ⊥) → (v ≡ a.two → ⊥) → Less (columns_of f) (apply (block (integers_of f) u.map) a.two) (apply (block (integers_of f) u.map) v)
    others v e g h = ⊎_elim (λ (i : v ≡ a.one). absurd (g i)) (λ (t : (v ≡ a.two) ⊎ IsLess (search_form r) (search_image r u.map) a.two v).
        ⊎_elim (λ (i : v ≡ a.two). absurd (h i)) (λ (l : IsLess (search_form r) (search_image r u.map) a.two v). image_less f r u a.two v d e2 e l) t) (a.least.others v (e ∙ sym d.integers))

    under : TwoLeastUnder (columns_of f) (pos (integers_of f)) (block (integers_of f) u.map) a.one a.two
    under = record {
      first = len_is a.one ∙ ap pos e1;
      second = len_is a.two ∙ ap pos e2;
      differ = λ (i : a.one ≡ a.two). less_never (columns_of f) (apply (block (integers_of f) u.map) a.two)
          (subst (λ (v : List ℤ). Less (columns_of f) (apply (block (integers_of f) u.map) v) (apply (block (integers_of f) u.map) a.two)) i order);
      order = order;
      rest = λ (v : List ℤ) (e : len v ≡ pos (integers_of f)) (g : v ≡ a.one → ⊥) (h : v ≡ a.two → ⊥). others v (length_of v (integers_of f) e) g h;
    }

-- ---- what a reduced count rules out
own_of : List Column → ℤ
own_of [] = pos 0
own_of (c ∷ a) = c.own

ok_same : (p q : List Factor × List Column) → (let answer : StepsAnswer = Ok p in answer) ≡ Ok q → p ≡ q
ok_same p q e = cc

forms_same : (a b : ℕ) (x y : List Factor) (g h : ℤ) (p q : List Column) → a ≡ b → x ≡ y → g ≡ h → p ≡ q →
    (let form : SearchForm = record { size = a; factors = x; g = g; p = p } in form) ≡ record { size = b; factors = y; g = h; p = q }
forms_same a b x y g h p q i j k l = ap (λ (z : ℕ). let form : SearchForm = record { size = z; factors = x; g = g; p = p } in form) i
    ∙ ap (λ (z : List Factor). let form : SearchForm = record { size = b; factors = z; g = g; p = p } in form) j
    ∙ ap (λ (z : ℤ). let form : SearchForm = record { size = b; factors = y; g = z; p = p } in form) k
    ∙ ap (λ (z : List Column). let form : SearchForm = record { size = b; factors = y; g = h; p = z } in form) l

search_same : (f r : Form) (u : Unimodular) (n : ℕ) (c : HasCountIn f n u.map) → IsDecorrelated f r u →
    (let answer : StepsAnswer = Ok (c.factors, constant_form c.g) in answer) ≡ Ok (factors_of r, constant_form r.g) →
    search_form r ≡ decorrelated f u.map c.factors c.g
unfolding own_of
search_same f r u n c d e =
    let same_parts : (c.factors, constant_form c.g) ≡ (factors_of r, constant_form r.g) = ok_same (c.factors, constant_form c.g) (factors_of r, constant_form r.g) e in
    forms_same (integers_of r) (integers_of f) (factors_of r) c.factors r.g c.g (columns_of r) (transformed_form (integers_of f) u.map f.p) d.integers
    (sym (ap (λ (p : List Factor × List Column). p.0) same_parts)) (sym (ap (λ (p : List Factor × List Column). own_of p.1) same_parts)) d.form

-- ---- what the search has visited there
pub reduced_visits : (f r : Form) (u : Unimodular) (budget : ℕ) (b : TwoBest) → IsDecorrelated f r u →
    steps 3 (integers_of f) (transformed_form (integers_of f) u.map f.p) ≡ Ok (factors_of r, constant_form r.g) →
    IsAnswer (search_form r) (search_image r u.map) budget b → IsVisitedInMap f budget b u.map
reduced_visits f r u budget b d t a = record {
  factors = factors_of r;
  g = r.g;
  taken = t;
  few = subst (λ (s : SearchForm). AreAtMost s b.p2 budget)
      (forms_same (integers_of r) (integers_of f) (factors_of r) (factors_of r) r.g r.g (columns_of r) (transformed_form (integers_of f) u.map f.p) d.integers refl refl d.form)
      (subst (λ (p : ℤ). AreAtMost (search_form r) p budget) (sym a.p2) (finished_within (search_form r) (search_image r u.map) a.one a.two budget a.least a.finished));
}

-- ---- how the search ends there
same_form : (f r : Form) (u : Unimodular) (factors : List Factor) (g : ℤ) → IsDecorrelated f r u →
    (let answer : StepsAnswer = Ok (factors, constant_form g) in answer) ≡ Ok (factors_of r, constant_form r.g) →
    search_form r ≡ decorrelated f u.map factors g
unfolding own_of
same_form f r u factors g d e =
    let same_parts : (factors, constant_form g) ≡ (factors_of r, constant_form r.g) = ok_same (factors, constant_form g) (factors_of r, constant_form r.g) e in
    forms_same (integers_of r) (integers_of f) (factors_of r) factors r.g g (columns_of r) (transformed_form (integers_of f) u.map f.p) d.integers
    (sym (ap (λ (p : List Factor × List Column). p.0) same_parts)) (sym (ap (λ (p : List Factor × List Column). own_of p.1) same_parts)) d.form

reduced_images : (f r : Form) (u : Unimodular) → IsDecorrelated f r u → AreSameImages (search_form r) (search_image r u.map) (apply (block (integers_of f) u.map))
reduced_images f r u d v e = image_is f r u v d (e ∙ d.integers)

pub reduced_finished : (f r : Form) (u : Unimodular) (budget : ℕ) (b : TwoBest) → IsDecorrelated f r u → 4 < r.columns → IsTransformedSmall (integers_of f) u.map f.p →
    steps 3 (integers_of f) (transformed_form (integers_of f) u.map f.p) ≡ Ok (factors_of r, constant_form r.g) →
    IsAnswer (search_form r) (search_image r u.map) budget b → EndsByItselfIn f budget u.map
reduced_finished f r u budget b d some small t a = record {
  small = small;
  factors = factors_of r;
  g = r.g;
  taken = t;
  finished = subst (λ (s : SearchForm). EndsByItself s (apply (block (integers_of f) u.map)) budget) (same_form f r u (factors_of r) r.g d refl)
      (finished_as (search_form r) (search_image r u.map) (apply (block (integers_of f) u.map)) budget (searchable r some) (reduced_images f r u d) a.finished);
}

pub reduced_unfinished : (f r : Form) (u : Unimodular) (n : ℕ) (fault : SearchFault) (c : EndsByItselfIn f n u.map) → IsDecorrelated f r u → 4 < r.columns →
    (let answer : StepsAnswer = Ok (c.factors, constant_form c.g) in answer) ≡ Ok (factors_of r, constant_form r.g) →
    IsFault (search_form r) (search_image r u.map) n fault → ⊥
reduced_unfinished f r u n fault c d some e = go fault
  where
    finished : EndsByItself (search_form r) (search_image r u.map) n
    finished = finished_as (search_form r) (apply (block (integers_of f) u.map)) (search_image r u.map) n (searchable r some) (λ v i. sym (reduced_images f r u d v i))
        (subst (λ (s : SearchForm). EndsByItself s (apply (block (integers_of f) u.map)) n) (sym (same_form f r u c.factors c.g d e)) c.finished)

    go : (fault : SearchFault) → IsFault (search_form r) (search_image r u.map) n fault → ⊥
    go Spent h = finished_not_outrun (search_form r) (search_image r u.map) n finished h
    go Overwidth h = finished_not_stopped (search_form r) (search_image r u.map) n n finished h

-- it ends by itself, whatever map with these entries it is taken in
pub finished_in : (f : Form) (n : ℕ) (a b : List (List ℤ)) → AreSameInside (integers_of f) (entry a) (entry b) → EndsByItselfIn f n a → EndsByItselfIn f n b
finished_in f n a b e c = record {
  small = small_as (integers_of f) a b f.p e c.small;
  factors = c.factors;
  g = c.g;
  taken = subst (λ (p : List Column). steps 3 (integers_of f) p ≡ Ok (c.factors, constant_form c.g)) form c.taken;
  finished = subst (λ (m : List (List ℤ)). EndsByItself (decorrelated f b c.factors c.g) (apply m) n) (block_as (integers_of f) a b e)
      (subst (λ (s : SearchForm). EndsByItself s (apply (block (integers_of f) a)) n) same c.finished);
}
  where
    form : transformed_form (integers_of f) a f.p ≡ transformed_form (integers_of f) b f.p
    form = form_as (integers_of f) a b f.p e

    same : decorrelated f a c.factors c.g ≡ decorrelated f b c.factors c.g
    same = forms_same (integers_of f) (integers_of f) c.factors c.factors c.g c.g (transformed_form (integers_of f) a f.p) (transformed_form (integers_of f) b f.p) refl refl refl form

pub end_of : (f : Form) (n : ℕ) (r : Result TwoBest SearchFault) → (ReducedEndsByItself f n → ⊥) → IsPlainEnd f n r → IsSearchEnd f n r
end_of f n (Ok b) h p = inr p
end_of f n (Err e) h p = (h, p)

apart : (x y : ℤ) → x <ℤ y → y ≤ℤ x → ⊥
apart x y h g = omega (arith, lins)

pub reduced_fault : (f r : Form) (u : Unimodular) (n : ℕ) (fault : SearchFault) (c : HasCountIn f n u.map) → IsDecorrelated f r u →
    (let answer : StepsAnswer = Ok (c.factors, constant_form c.g) in answer) ≡ Ok (factors_of r, constant_form r.g) →
    4 < r.columns → IsFault (search_form r) (search_image r u.map) n fault → ⊥
reduced_fault f r u n Spent c d e some h = c.counted (subst (λ (s : SearchForm). IsOver s n) (search_same f r u n c d e) (outrun_over (search_form r) (search_image r u.map) n (searchable r some) h))
reduced_fault f r u n Overwidth c d e some h = wide (subst (λ (s : SearchForm). IsTooWide s (search_image r u.map) n) (search_same f r u n c d e) (stopped_wide (search_form r) (search_image r u.map) n (searchable r some) h))
  where
    inside : (pos (2 ^ 62) ≤ℤ top (decorrelated f u.map c.factors c.g)) ⊎ ((s : List ℤ) × (Counts (decorrelated f u.map c.factors c.g) s × HasLarge s × IsReached (decorrelated f u.map c.factors c.g) n s)) → ⊥
    inside (inl w) = apart (top (decorrelated f u.map c.factors c.g)) (pos (2 ^ 62)) c.top_small w
    inside (inr w) = c.entries_small w.0 w.1.0 w.1.1

    wide : IsTooWide (decorrelated f u.map c.factors c.g) (search_image r u.map) n → ⊥
    wide (inl w) = inside w.wide
    wide (inr w) = c.images_small w.vector w.full w.counted (subst HasLarge (image_is f r u w.vector d w.full) w.large)

-- ---- the count is one, whatever map with these entries it is taken in
pub count_as : (f : Form) (n : ℕ) (a b : List (List ℤ)) → AreSameInside (integers_of f) (entry a) (entry b) → HasCountIn f n a → HasCountIn f n b
count_as f n a b e c = record {
  small = small_as (integers_of f) a b f.p e c.small;
  factors = c.factors;
  g = c.g;
  taken = subst (λ (p : List Column). steps 3 (integers_of f) p ≡ Ok (c.factors, constant_form c.g)) form c.taken;
  top_small = subst (λ (s : SearchForm). top s <ℤ pos (2 ^ 62)) same c.top_small;
  entries_small = λ s k l. c.entries_small s (subst (λ (t : SearchForm). Counts t s) (sym same) k) l;
  images_small = λ w q k l. c.images_small w q (subst (λ (t : SearchForm). Counts t w) (sym same) k) (subst (λ (m : List (List ℤ)). HasLarge (apply m w)) (sym (block_as (integers_of f) a b e)) l);
  counted = λ o. c.counted (subst (λ (t : SearchForm). IsOver t n) (sym same) o);
}
  where
    form : transformed_form (integers_of f) a f.p ≡ transformed_form (integers_of f) b f.p
    form = form_as (integers_of f) a b f.p e

    same : decorrelated f a c.factors c.g ≡ decorrelated f b c.factors c.g
    same = forms_same (integers_of f) (integers_of f) c.factors c.factors c.g c.g (transformed_form (integers_of f) a f.p) (transformed_form (integers_of f) b f.p) refl refl refl form
