use Rattle.std.proofs.Common.{◌≡◌, ◌+◌, ◌-◌, ◌<◌, ℕ, List, ℤ, arith, sym, ap₂, ◌∙◌, refl, length, subst, Ok, Err}
use Rattle.quadratic_form.specs.Forms.{Column}
use Rattle.quadratic_form.specs.Elimination.{Factor, Refusal, steps, StepsAnswer}
use Rattle.quadratic_form.specs.declared.sizes.TheConstants.{MOST_INTEGERS}
use Rattle.decorrelate.specs.declared.unimodular.Unimodular.{Unimodular}
use Rattle.decorrelate.specs.Inverses.{Undoes}
use Rattle.decorrelate.specs.Reducing.{IsReduced}
use Rattle.decorrelate.proofs.SameStates.{reduced_same}
use Rattle.integer_form.specs.declared.form.Form.{Form}
use Rattle.integer_form.specs.declared.front_form.FrontForm.{FrontForm}
use Rattle.integer_form.specs.Forms.{integers_of}
use Rattle.integer_form.specs.Kept.{form_of_table, constant_form}
use Rattle.elimination.specs.Finish.{finish_of, IsFinishOf}
use Rattle.int_search.specs.Transformed.{transformed_form, IsTransformed}
use Rattle.int_search.specs.ReducedCounts.{HasCountIn, HasReducedCount, EndsByItselfIn, ReducedEndsByItself}
use Rattle.int_search.proofs.ReducedLaws.{IsDecorrelated, reduced_can, reduced_found, reduced_visits, reduced_fault, count_as, reduced_finished, reduced_unfinished, finished_in}
use Rattle.int_search.proofs.reduced.reduced_best.Goals as goal

-- the map is the one that the reduction of the form leaves
record IsReductionOf (f : Form) (u : Unimodular) : Type 0 where
  size : u.size ≡ integers_of f
  reduced : IsReduced (integers_of f) f.d f.l u

reduction_of : (f : Form) (u : Unimodular) → 4 < f.columns → u.size ≡ (f.columns - 3) - 1 → IsReduced ((f.columns - 3) - 1) f.d f.l u → IsReductionOf f u
reduction_of f u some size reduced = record { size = size ∙ count; reduced = subst (λ (k : ℕ). IsReduced k f.d f.l u) count reduced }
  where
    count : (f.columns - 3) - 1 ≡ integers_of f
    count = omega arith

fewer : (a b n : ℕ) → a ≡ b → b ≡ n + 4 → a - 4 ≡ n
fewer a b n same count = omega arith

more : (f : Form) (a b : ℕ) → 4 < f.columns → a ≡ b → b ≡ integers_of f + 4 → 4 < a
more f a b some same count = omega arith

apart : (p : List Factor × List Column) (r : Refusal) → (let answer : StepsAnswer = Ok p in answer) ≡ Err r → ⊥
apart p r same = cc

-- the steps of the front are those of the form in the coordinates of the map
same_steps : (n : ℕ) (map p : List (List ℤ)) (r : FrontForm) → IsTransformed n map p r → finish_of r ≡ steps 3 n (transformed_form n map p)
same_steps n map p r t = ap₂ (λ (k : ℕ) (a : List Column). steps 3 k a) (fewer r.columns r.columns n refl t.columns) t.form

decorrelated_is : (f r : Form) (front : FrontForm) (u : Unimodular) → 4 < f.columns → u.size ≡ integers_of f → length u.map ≡ MOST_INTEGERS → IsTransformed (integers_of f) u.map f.p front →
    IsFinishOf front r → IsDecorrelated f r u
decorrelated_is f r front u h s m t e = record {
  some = h;
  size = s;
  integers = fewer r.columns front.columns (integers_of f) e.columns t.columns;
  form = ap₂ (λ (a : List (List ℤ)) (k : ℕ). form_of_table a (k - 3)) e.p e.columns ∙ t.form;
  rows = m;
}

-- the count in the map at hand
count : (f : Form) (n : ℕ) (u : Unimodular) → IsReduced (integers_of f) f.d f.l u → HasReducedCount f n → HasCountIn f n u.map
count f n u r h = count_as f n h.change.map u.map (λ i k a b. (reduced_same (integers_of f) f.d f.l h.change u h.reduced r i k a b).0) h.count

-- the search in the map at hand ends by itself
ended : (f : Form) (n : ℕ) (u : Unimodular) → IsReduced (integers_of f) f.d f.l u → ReducedEndsByItself f n → EndsByItselfIn f n u.map
ended f n u r h = finished_in f n h.change.map u.map (λ i k a b. (reduced_same (integers_of f) f.d f.l h.change u h.reduced r i k a b).0) h.finished

pub returns-in_default-clause-end : goal.returns-in_default-clause-end
returns-in_default-clause-end c =
    let change : IsReductionOf c.args.form.now c.reduce-change.result =
    reduction_of c.args.form.now c.reduce-change.result c.requires c.reduce-change.ensures.size c.reduce-change.ensures.reduced in
    λ finished. c.in_default.ensures.form (ended c.args.form.now c.args.budget c.reduce-change.result change.reduced finished).small

pub returns-in_default-finish-clause-end : goal.returns-in_default-finish-clause-end
returns-in_default-finish-clause-end c =
    let change : IsReductionOf c.args.form.now c.reduce-change.result =
    reduction_of c.args.form.now c.reduce-change.result c.requires c.reduce-change.ensures.size c.reduce-change.ensures.reduced in
    let form : Form = c.args.form.now in
    let unimodular : Unimodular = c.reduce-change.result in
    λ finished.
    let is_finished : EndsByItselfIn form c.args.budget unimodular.map = ended form c.args.budget unimodular change.reduced finished in
    let told = c.in_default-finish.ensures.refused in
    apart (is_finished.factors, constant_form is_finished.g) told.0 (sym (same_steps (integers_of form) unimodular.map form.p c.in-Some.front c.in-Some.ensures.form ∙ is_finished.taken) ∙ told.1.0)

pub returns-in_default-clause-found : goal.returns-in_default-clause-found
returns-in_default-clause-found c =
    let change : IsReductionOf c.args.form.now c.reduce-change.result =
    reduction_of c.args.form.now c.reduce-change.result c.requires c.reduce-change.ensures.size c.reduce-change.ensures.reduced in
    λ counted. c.in_default.ensures.form (count c.args.form.now c.args.budget c.reduce-change.result change.reduced counted).small

pub returns-in_default-finish-clause-found : goal.returns-in_default-finish-clause-found
returns-in_default-finish-clause-found c =
    let change : IsReductionOf c.args.form.now c.reduce-change.result =
    reduction_of c.args.form.now c.reduce-change.result c.requires c.reduce-change.ensures.size c.reduce-change.ensures.reduced in
    let form : Form = c.args.form.now in
    let unimodular : Unimodular = c.reduce-change.result in
    λ counted.
    let has_count : HasCountIn form c.args.budget unimodular.map = count form c.args.budget unimodular change.reduced counted in
    let told = c.in_default-finish.ensures.refused in
    apart (has_count.factors, constant_form has_count.g) told.0 (sym (same_steps (integers_of form) unimodular.map form.p c.in-Some.front c.in-Some.ensures.form ∙ has_count.taken) ∙ told.1.0)

pub search-requires : goal.search-requires
search-requires c =
    let change : IsReductionOf c.args.form.now c.reduce-change.result =
    reduction_of c.args.form.now c.reduce-change.result c.requires c.reduce-change.ensures.size c.reduce-change.ensures.reduced in
    let form : IsDecorrelated c.args.form.now c.in-Ok.reduced c.reduce-change.result =
    decorrelated_is c.args.form.now c.in-Ok.reduced c.in-Some.front c.reduce-change.result c.requires change.size c.at.ensures.shape.rows c.in-Some.ensures.form c.in-Ok.ensures.finished in
    let unimodular : Unimodular = c.reduce-change.result in
    reduced_can c.in-Ok.reduced unimodular.map unimodular.back
    (more c.args.form.now c.in-Ok.reduced.columns c.in-Some.front.columns c.requires c.in-Ok.ensures.finished.columns c.in-Some.ensures.form.columns)
    (record { shape = c.at.ensures.shape; entries = unimodular.map_small }) (subst (λ (k : ℕ). Undoes k unimodular.back unimodular.map) (change.size ∙ sym form.integers) unimodular.one_to_one)

pub returns-in-Ok-search-clause-found : goal.returns-in-Ok-search-clause-found
returns-in-Ok-search-clause-found c =
    let change : IsReductionOf c.args.form.now c.reduce-change.result =
    reduction_of c.args.form.now c.reduce-change.result c.requires c.reduce-change.ensures.size c.reduce-change.ensures.reduced in
    let form : IsDecorrelated c.args.form.now c.in-Ok.reduced c.reduce-change.result =
    decorrelated_is c.args.form.now c.in-Ok.reduced c.in-Some.front c.reduce-change.result c.requires change.size c.at.ensures.shape.rows c.in-Some.ensures.form c.in-Ok.ensures.finished in
    reduced_found c.args.form.now c.in-Ok.reduced c.reduce-change.result c.args.budget c.in-Ok-search.best form c.in-Ok-search.ensures

pub returns-in-Ok-search-clause-visits : goal.returns-in-Ok-search-clause-visits
returns-in-Ok-search-clause-visits c =
    let change : IsReductionOf c.args.form.now c.reduce-change.result =
    reduction_of c.args.form.now c.reduce-change.result c.requires c.reduce-change.ensures.size c.reduce-change.ensures.reduced in
    let form : IsDecorrelated c.args.form.now c.in-Ok.reduced c.reduce-change.result =
    decorrelated_is c.args.form.now c.in-Ok.reduced c.in-Some.front c.reduce-change.result c.requires change.size c.at.ensures.shape.rows c.in-Some.ensures.form c.in-Ok.ensures.finished in
    let original : Form = c.args.form.now in
    let unimodular : Unimodular = c.reduce-change.result in
    record {
      change = unimodular;
      reduced = change.reduced;
      visits = reduced_visits original c.in-Ok.reduced unimodular c.args.budget c.in-Ok-search.best form
          (sym (same_steps (integers_of original) unimodular.map original.p c.in-Some.front c.in-Some.ensures.form) ∙ c.in-Ok.ensures.finished.taken) c.in-Ok-search.ensures;
    }

pub returns-in-Err-clause-found : goal.returns-in-Err-clause-found
returns-in-Err-clause-found c =
    let change : IsReductionOf c.args.form.now c.reduce-change.result =
    reduction_of c.args.form.now c.reduce-change.result c.requires c.reduce-change.ensures.size c.reduce-change.ensures.reduced in
    let form : IsDecorrelated c.args.form.now c.in-Ok.reduced c.reduce-change.result =
    decorrelated_is c.args.form.now c.in-Ok.reduced c.in-Some.front c.reduce-change.result c.requires change.size c.at.ensures.shape.rows c.in-Some.ensures.form c.in-Ok.ensures.finished in
    let original : Form = c.args.form.now in
    let unimodular : Unimodular = c.reduce-change.result in
    λ counted.
    let has_count : HasCountIn original c.args.budget unimodular.map = count original c.args.budget unimodular change.reduced counted in
    reduced_fault original c.in-Ok.reduced unimodular c.args.budget _ has_count form
    (sym has_count.taken ∙ sym (same_steps (integers_of original) unimodular.map original.p c.in-Some.front c.in-Some.ensures.form) ∙ c.in-Ok.ensures.finished.taken)
    (more original c.in-Ok.reduced.columns c.in-Some.front.columns c.requires c.in-Ok.ensures.finished.columns c.in-Some.ensures.form.columns) c.in-Err.ensures

pub returns-in-Ok-search-clause-end : goal.returns-in-Ok-search-clause-end
returns-in-Ok-search-clause-end c =
    let change : IsReductionOf c.args.form.now c.reduce-change.result =
    reduction_of c.args.form.now c.reduce-change.result c.requires c.reduce-change.ensures.size c.reduce-change.ensures.reduced in
    let form : IsDecorrelated c.args.form.now c.in-Ok.reduced c.reduce-change.result =
    decorrelated_is c.args.form.now c.in-Ok.reduced c.in-Some.front c.reduce-change.result c.requires change.size c.at.ensures.shape.rows c.in-Some.ensures.form c.in-Ok.ensures.finished in
    let original : Form = c.args.form.now in
    let unimodular : Unimodular = c.reduce-change.result in
    record {
      change = unimodular;
      reduced = change.reduced;
      finished = reduced_finished original c.in-Ok.reduced unimodular c.args.budget c.in-Ok-search.best form
          (more original c.in-Ok.reduced.columns c.in-Some.front.columns c.requires c.in-Ok.ensures.finished.columns c.in-Some.ensures.form.columns) c.in-Some.ensures.form.small
          (sym (same_steps (integers_of original) unimodular.map original.p c.in-Some.front c.in-Some.ensures.form) ∙ c.in-Ok.ensures.finished.taken) c.in-Ok-search.ensures;
    }

pub returns-in-Err-clause-end : goal.returns-in-Err-clause-end
returns-in-Err-clause-end c =
    let change : IsReductionOf c.args.form.now c.reduce-change.result =
    reduction_of c.args.form.now c.reduce-change.result c.requires c.reduce-change.ensures.size c.reduce-change.ensures.reduced in
    let form : IsDecorrelated c.args.form.now c.in-Ok.reduced c.reduce-change.result =
    decorrelated_is c.args.form.now c.in-Ok.reduced c.in-Some.front c.reduce-change.result c.requires change.size c.at.ensures.shape.rows c.in-Some.ensures.form c.in-Ok.ensures.finished in
    let original : Form = c.args.form.now in
    let unimodular : Unimodular = c.reduce-change.result in
    λ finished.
    let is_finished : EndsByItselfIn original c.args.budget unimodular.map = ended original c.args.budget unimodular change.reduced finished in
    reduced_unfinished original c.in-Ok.reduced unimodular c.args.budget _ is_finished form
    (more original c.in-Ok.reduced.columns c.in-Some.front.columns c.requires c.in-Ok.ensures.finished.columns c.in-Some.ensures.form.columns)
    (sym is_finished.taken ∙ sym (same_steps (integers_of original) unimodular.map original.p c.in-Some.front c.in-Some.ensures.form) ∙ c.in-Ok.ensures.finished.taken) c.in-Err.ensures
