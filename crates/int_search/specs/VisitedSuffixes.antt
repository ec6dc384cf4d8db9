-- Which suffixes a search visits, how many they are, and what of them is too wide, said without the search.
use Rattle.std.specs.Prelude.{◌≡◌, ◌≢◌, ◌⊎◌, ℕ, ◌+◌, ◌<◌, ◌≤◌, ◌^◌, List, length, ℤ, pos, ◌*ℤ◌, ◌<ℤ◌, ◌≤ℤ◌, All, AllPairs}
use Rattle.quadratic_form.specs.Rows.{value}
use Rattle.int_search.specs.Suffixes.{SearchForm, low}
use Rattle.int_search.specs.PlainCount.{rounded, neighbour, top, HasLarge}
use Rattle.int_search.specs.VisitOrder.{IsBefore}

-- q is left out: before it come two different full vectors, and 2^60 times the value of each is below its lower sum
pub record IsLeftOut (f : SearchForm) (q : List ℤ) : Type 0 where
  pub one : List ℤ
  pub two : List ℤ
  pub one_size : length one ≡ f.size
  pub two_size : length two ≡ f.size
  pub differ : one ≢ two
  pub one_before : IsBefore f one q
  pub two_before : IsBefore f two q
  pub one_below : (pos (2 ^ 60) *ℤ value f.p one) <ℤ low f q
  pub two_below : (pos (2 ^ 60) *ℤ value f.p two) <ℤ low f q

-- a search visits each suffix that isn't left out
pub record IsVisited (f : SearchForm) (q : List ℤ) : Type 0 where
  pub some : 0 < length q
  pub most : length q ≤ f.size
  pub kept : IsLeftOut f q → ⊥

-- at most n suffixes are visited
pub record HasVisitsWithin (f : SearchForm) (n : ℕ) : Type 0 where
  pub each : (suffixes : List (List ℤ)) → AllPairs (λ s t. s ≢ t) suffixes → All (IsVisited f) suffixes → length suffixes ≤ n

-- more than n are: there are n + 1 different ones
pub record HasVisitsPast (f : SearchForm) (n : ℕ) : Type 0 where
  pub suffixes : List (List ℤ)
  pub many : length suffixes ≡ n + 1
  pub different : AllPairs (λ s t. s ≢ t) suffixes
  pub visited : All (IsVisited f) suffixes

-- q comes within n visits: fewer than n of the suffixes that are visited come before it
pub record IsWithinVisits (f : SearchForm) (n : ℕ) (q : List ℤ) : Type 0 where
  pub fewer : (suffixes : List (List ℤ)) → AllPairs (λ s t. s ≢ t) suffixes → All (λ t. IsVisited f t × IsBefore f t q) suffixes → length suffixes < n

-- the full vector v has two better: before it come two different full vectors with values below its own
pub record HasTwoBetter (f : SearchForm) (v : List ℤ) : Type 0 where
  pub one : List ℤ
  pub two : List ℤ
  pub one_size : length one ≡ f.size
  pub two_size : length two ≡ f.size
  pub differ : one ≢ two
  pub one_before : IsBefore f one v
  pub two_before : IsBefore f two v
  pub one_below : value f.p one <ℤ value f.p v
  pub two_below : value f.p two <ℤ value f.p v

-- v is a full vector that a search may put among its two best, so it needs it in the coordinates of the answer
pub record IsCandidate (f : SearchForm) (v : List ℤ) : Type 0 where
  pub full : length v ≡ f.size
  pub kept : HasTwoBetter f v → ⊥

-- the suffix q has an entry of 2^30 or more in size, or is a vector with such an entry in the coordinates of the answer, which it needs
abbrev pub IsTooLarge : SearchForm → (List ℤ → List ℤ) → List ℤ → Type 0
IsTooLarge f image q = HasLarge q ⊎ (IsCandidate f q × HasLarge (image q))

-- the greater value of the rounded point and its neighbour is 2^62 or more, or one of these two has a large entry, here or in
-- the coordinates of the answer
pub record IsStartTooWide (f : SearchForm) (image : List ℤ → List ℤ) : Type 0 where
  pub wide : (pos (2 ^ 62) ≤ℤ top f) ⊎ ((v : List ℤ) × (((v ≡ rounded f f.size) ⊎ (v ≡ neighbour f)) × (HasLarge v ⊎ HasLarge (image v))))

-- within n visits the search comes to something too wide
abbrev pub MeetsTooWide : SearchForm → (List ℤ → List ℤ) → ℕ → Type 0
MeetsTooWide f image n = IsStartTooWide f image ⊎ ((q : List ℤ) × (IsVisited f q × IsTooLarge f image q × IsWithinVisits f n q))

-- nothing that the search comes to is too wide, and it ends within n visits
pub record EndsByItself (f : SearchForm) (image : List ℤ → List ℤ) (n : ℕ) : Type 0 where
  pub start : IsStartTooWide f image → ⊥
  pub small : (q : List ℤ) → IsVisited f q → IsTooLarge f image q → ⊥
  pub few : HasVisitsWithin f n

-- the search visits more than n suffixes, and comes to nothing too wide within n visits
pub record IsOverBudget (f : SearchForm) (image : List ℤ → List ℤ) (n : ℕ) : Type 0 where
  pub over : HasVisitsPast f n
  pub small : MeetsTooWide f image n → ⊥
