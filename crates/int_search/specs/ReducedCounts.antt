-- The reduced count of a form: the count of suffixes in decorrelated coordinates.
use Rattle.std.specs.Prelude.{◌≡◌, ◌⊎◌, ℕ, ◌^◌, List, length, ℤ, pos, ◌<ℤ◌, Result, Ok, Err}
use Rattle.quadratic_form.specs.Elimination.{Factor, steps}
use Rattle.quadratic_form.specs.Maps.{apply}
use Rattle.decorrelate.specs.declared.unimodular.Unimodular.{Unimodular}
use Rattle.decorrelate.specs.Inverses.{block}
use Rattle.decorrelate.specs.Reducing.{IsReduced}
use Rattle.integer_form.specs.declared.form.Form.{Form}
use Rattle.integer_form.specs.Forms.{integers_of}
use Rattle.integer_form.specs.Kept.{constant_form}
use Rattle.int_search.specs.Transformed.{transformed_form, IsTransformedSmall}
use Rattle.int_search.specs.Suffixes.{SearchForm}
use Rattle.int_search.specs.PlainCount.{AreAtMost, Counts, HasLarge, IsOver, top}
use Rattle.int_search.specs.VisitedSuffixes.{EndsByItself}
use Rattle.int_search.specs.Answers.{IsVisitedIn, PlainEndsByItself, IsPlainEnd}
use Rattle.int_search.specs.declared.answer.TwoBest.{TwoBest}
use Rattle.int_search.specs.declared.answer.SearchFault.{SearchFault}

-- the form in the coordinates of a map, with these factors and this last entry
abbrev pub decorrelated : Form → List (List ℤ) → List Factor → ℤ → SearchForm
decorrelated f map factors g = record { size = integers_of f; factors = factors; g = g; p = transformed_form (integers_of f) map f.p }

-- in the coordinates of the map the form has a count of suffixes, and it is at most n
pub record HasCountIn (f : Form) (n : ℕ) (map : List (List ℤ)) : Type 0 where
  -- each entry of its matrix is below 2^52 in size
  pub small : IsTransformedSmall (integers_of f) map f.p
  -- the steps of its integers refuse nothing
  pub factors : List Factor
  pub g : ℤ
  pub taken : steps 3 (integers_of f) (transformed_form (integers_of f) map f.p) ≡ Ok (factors, constant_form g)
  -- the greater value of the rounded point and its neighbour is below 2^62
  pub top_small : top (decorrelated f map factors g) <ℤ pos (2 ^ 62)
  -- each suffix that counts has entries below 2^30 in size, and so has the image of each full vector among them
  pub entries_small : (s : List ℤ) → Counts (decorrelated f map factors g) s → HasLarge s → ⊥
  pub images_small : (w : List ℤ) → length w ≡ integers_of f → Counts (decorrelated f map factors g) w → HasLarge (apply (block (integers_of f) map) w) → ⊥
  pub counted : IsOver (decorrelated f map factors g) n → ⊥

-- the form has a reduced count, and it is at most n; the map is the one that the reduction leaves
pub record HasReducedCount (f : Form) (n : ℕ) : Type 0 where
  pub change : Unimodular
  pub reduced : IsReduced (integers_of f) f.d f.l change
  pub count : HasCountIn f n change.map

-- in the coordinates of the map the form has a search, and it ends by itself within n visits, with nothing too wide
pub record EndsByItselfIn (f : Form) (n : ℕ) (map : List (List ℤ)) : Type 0 where
  pub small : IsTransformedSmall (integers_of f) map f.p
  pub factors : List Factor
  pub g : ℤ
  pub taken : steps 3 (integers_of f) (transformed_form (integers_of f) map f.p) ≡ Ok (factors, constant_form g)
  pub finished : EndsByItself (decorrelated f map factors g) (apply (block (integers_of f) map)) n

-- the same in the coordinates that the reduction leaves
pub record ReducedEndsByItself (f : Form) (n : ℕ) : Type 0 where
  pub change : Unimodular
  pub reduced : IsReduced (integers_of f) f.d f.l change
  pub finished : EndsByItselfIn f n change.map

-- the form has an answer within n visits: one of the two searches ends by itself
abbrev pub HasAnswer : Form → ℕ → Type 0
HasAnswer f n = ReducedEndsByItself f n ⊎ PlainEndsByItself f n

-- how both searches end with a budget of n visits: with an answer where one of them ends by itself, and else as the one in the
-- form's own coordinates
abbrev pub IsSearchEnd : Form → ℕ → Result TwoBest SearchFault → Type 0
IsSearchEnd f n (Ok b) = HasAnswer f n
IsSearchEnd f n (Err e) = (ReducedEndsByItself f n → ⊥) × IsPlainEnd f n (Err e)

-- at most n suffixes in the coordinates of the map have a lower sum of at most 2^60 times the second best value
pub record IsVisitedInMap (f : Form) (n : ℕ) (b : TwoBest) (map : List (List ℤ)) : Type 0 where
  pub factors : List Factor
  pub g : ℤ
  pub taken : steps 3 (integers_of f) (transformed_form (integers_of f) map f.p) ≡ Ok (factors, constant_form g)
  pub few : AreAtMost (decorrelated f map factors g) b.p2 n

-- the same in the coordinates that the reduction leaves
pub record IsVisitedReducedIn (f : Form) (n : ℕ) (b : TwoBest) : Type 0 where
  pub change : Unimodular
  pub reduced : IsReduced (integers_of f) f.d f.l change
  pub visits : IsVisitedInMap f n b change.map

-- the search keeps to n visits, in the form's own coordinates or in those of the reduction
abbrev pub KeepsBudget : Form → ℕ → TwoBest → Type 0
KeepsBudget f n b = IsVisitedIn f n b ⊎ IsVisitedReducedIn f n b
