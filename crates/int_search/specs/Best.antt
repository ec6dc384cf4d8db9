-- The two best vectors of a search so far.
use Rattle.std.specs.Prelude.{◌≡◌, ℕ, List, length, ℤ}
use Rattle.quadratic_form.specs.Rows.{value}
use Rattle.int_search.specs.Suffixes.{SearchForm}
use Rattle.int_search.specs.Order.{IsLess, IsOneToOne}
use Rattle.int_search.specs.Search.{IsOffered}
use Rattle.int_search.specs.Vectors.{Holds}
use Rattle.int_search.specs.declared.best.Best.{Best}

-- b has the images of the vectors one and two, and their values
pub record HoldsBest (f : SearchForm) (image : List ℤ → List ℤ) (b : Best) (one two : List ℤ) : Type 0 where
  pub first : Holds f.size b.first (image one)
  pub second : Holds f.size b.second (image two)
  pub p1 : b.p1 ≡ value f.p one
  pub p2 : b.p2 ≡ value f.p two

-- b has the two best of the vectors one, two and z
pub record TakesOffer (f : SearchForm) (image : List ℤ → List ℤ) (b : Best) (one two z : List ℤ) : Type 0 where
  pub new_one : List ℤ
  pub new_two : List ℤ
  pub best : HoldsBest f image b new_one new_two
  pub offered : IsOffered f image one two z new_one new_two

-- whatever vectors the old best and the array y with the value p stand for
pub record KeepsBest (n : ℕ) (p : ℤ) (y : List ℤ) (old new : Best) : Type 0 where
  pub kept : (f : SearchForm) (image : List ℤ → List ℤ) (one two z : List ℤ) → f.size ≡ n → IsOneToOne f.size image →
      length one ≡ f.size → length two ≡ f.size → length z ≡ f.size → IsLess f image one two →
      HoldsBest f image old one two → Holds f.size y (image z) → p ≡ value f.p z → TakesOffer f image new one two z
