-- What a search keeps from turn to turn.
use Rattle.std.specs.Prelude.{◌≡◌, ◌≢◌, ◌⊎◌, ℕ, ◌<◌, ◌≤◌, List, length, ℤ, ◌≤ℤ◌, All, AllPairs}
use Rattle.std.specs.List.{Contains}
use Rattle.quadratic_form.specs.Rows.{value}
use Rattle.int_search.specs.Suffixes.{SearchForm}
use Rattle.int_search.specs.PlainCount.{rounded, neighbour, top}
use Rattle.int_search.specs.VisitOrder.{IsBefore}
use Rattle.int_search.specs.VisitedSuffixes.{IsLeftOut, IsVisited, IsTooLarge, IsStartTooWide}
use Rattle.int_search.specs.Order.{IsLess}
use Rattle.int_search.specs.Levels.{IsOpen, AreLevels}
use Rattle.int_search.specs.declared.stack.Level.{Level}

-- v is one of the two points with which a search begins, or comes before q
abbrev pub Precedes : SearchForm → List ℤ → List ℤ → Type 0
Precedes f v q = ((v ≡ rounded f f.size) ⊎ (v ≡ neighbour f)) ⊎ IsBefore f v q

-- the two are the rounded point and its neighbour
abbrev pub AreStartPoints : SearchForm → List ℤ → List ℤ → Type 0
AreStartPoints f one two = ((one ≡ rounded f f.size) × (two ≡ neighbour f)) ⊎ ((one ≡ neighbour f) × (two ≡ rounded f f.size))

-- n different suffixes, each visited by definition, none too large, and before all that are open; each other suffix is left out
-- by definition or open; the two best precede all that are open
pub record HasVisitedAll (f : SearchForm) (image : List ℤ → List ℤ) (stack : List Level) (s one two : List ℤ) (n : ℕ) : Type 0 where
  pub suffixes : List (List ℤ)
  pub many : length suffixes ≡ n
  pub different : AllPairs (λ q r. q ≢ r) suffixes
  pub visited : All (IsVisited f) suffixes
  pub first : All (λ t. (q : List ℤ) → IsOpen stack s q → IsBefore f t q) suffixes
  pub small : All (λ t. IsTooLarge f image t → ⊥) suffixes
  pub left : (q : List ℤ) → 0 < length q → length q ≤ f.size → Contains suffixes q ⊎ (IsLeftOut f q ⊎ IsOpen stack s q)
  pub ahead : (q : List ℤ) → IsOpen stack s q → Precedes f one q × Precedes f two q
  pub started : IsStartTooWide f image → ⊥

-- v can no longer change the two best
abbrev pub IsSettled : SearchForm → (List ℤ → List ℤ) → List ℤ → List ℤ → List ℤ → Type 0
IsSettled f image one two v = (v ≡ one) ⊎ ((v ≡ two) ⊎ IsLess f image two v)

-- every full vector is settled or open
pub record IsCovered (f : SearchForm) (image : List ℤ → List ℤ) (stack : List Level) (s one two : List ℤ) : Type 0 where
  pub each : (v : List ℤ) → length v ≡ f.size → IsSettled f image one two v ⊎ IsOpen stack s v

-- a search with these levels above the suffix s, these two best, and this many visits
pub record IsSearch (f : SearchForm) (image : List ℤ → List ℤ) (stack : List Level) (s one two : List ℤ) (visits : ℕ) : Type 0 where
  pub one_size : length one ≡ f.size
  pub two_size : length two ≡ f.size
  pub ordered : IsLess f image one two
  pub bound : value f.p two ≤ℤ top f
  pub levels : AreLevels f stack s
  pub covered : IsCovered f image stack s one two
  pub traced : HasVisitedAll f image stack s one two visits

-- the two best after z is offered
pub record IsOffered (f : SearchForm) (image : List ℤ → List ℤ) (one two z new_one new_two : List ℤ) : Type 0 where
  pub one_size : length new_one ≡ f.size
  pub two_size : length new_two ≡ f.size
  pub ordered : IsLess f image new_one new_two
  pub bound : value f.p new_two ≤ℤ value f.p two
  pub kept : (v : List ℤ) → IsSettled f image one two v → IsSettled f image new_one new_two v
  pub offered : IsSettled f image new_one new_two z
  pub first_from : (new_one ≡ one) ⊎ ((new_one ≡ two) ⊎ (new_one ≡ z))
  pub second_from : (new_two ≡ one) ⊎ ((new_two ≡ two) ⊎ (new_two ≡ z))
