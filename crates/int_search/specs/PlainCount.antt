-- How many suffixes have a lower sum of at most 2^60 times a value. For the greater value of the rounded point and its neighbour that is the plain count of a form.
use Rattle.std.specs.Prelude.{◌≡◌, ◌≢◌, ℕ, zero, suc, ◌+◌, ◌<◌, ◌≤◌, ◌^◌, List, [], ◌∷◌, length, ℤ, pos, negsuc, ◌+ℤ◌, ◌*ℤ◌, ◌≤ℤ◌, neg_ℤ, unsigned_abs, slice_index_or, All, AllPairs}
use Rattle.std.specs.Int.{int_max}
use Rattle.whole_math.specs.Rounding.{nearest_div}
use Rattle.quadratic_form.specs.Rows.{value}
use Rattle.int_search.specs.Suffixes.{SearchForm, rest, offset, low}

-- the last n entries of the rounded point: from the last integer to the first, each is the nearest to the centre that the later ones give
unfoldable pub rounded : SearchForm → ℕ → List ℤ
rounded f zero = []
rounded f (suc n) = nearest_div (neg_ℤ (rest f (rounded f n))) (2 ^ 30) ∷ rounded f n

-- one to the side on which the centre is: up where the offset is at most 0
abbrev pub side : ℤ → ℤ
side (pos zero) = pos 1
side (pos (suc n)) = negsuc 0
side (negsuc n) = pos 1

abbrev pub first_moved : SearchForm → List ℤ → List ℤ
first_moved f [] = []
first_moved f (x ∷ s) = (x +ℤ side (offset f x s)) ∷ s

-- the rounded point's neighbour: its first entry is one further, to the side of the centre
unfoldable pub neighbour : SearchForm → List ℤ
neighbour f = first_moved f (rounded f f.size)

-- the greater value of the two
unfoldable pub top : SearchForm → ℤ
top f = int_max (value f.p (rounded f f.size)) (value f.p (neighbour f))

-- the lower sum of the suffix s is at most 2^60 times p
pub record IsWithin (f : SearchForm) (p : ℤ) (s : List ℤ) : Type 0 where
  pub some : 0 < length s
  pub most : length s ≤ f.size
  pub within : low f s ≤ℤ (pos (2 ^ 60) *ℤ p)

-- there are at most n such suffixes
pub record AreAtMost (f : SearchForm) (p : ℤ) (n : ℕ) : Type 0 where
  pub each : (suffixes : List (List ℤ)) → AllPairs (λ s t. s ≢ t) suffixes → All (IsWithin f p) suffixes → length suffixes ≤ n

-- s is one of the suffixes of the plain count
abbrev pub Counts : SearchForm → List ℤ → Type 0
Counts f s = IsWithin f (top f) s

-- the plain count is over n: there are n + 1 different suffixes that count
pub record IsOver (f : SearchForm) (n : ℕ) : Type 0 where
  pub suffixes : List (List ℤ)
  pub many : length suffixes ≡ n + 1
  pub different : AllPairs (λ s t. s ≢ t) suffixes
  pub counted : All (Counts f) suffixes

-- an entry is 2^30 or more in size
abbrev pub HasLarge : List ℤ → Type 0
HasLarge s = (i : ℕ) × (2 ^ 30 ≤ unsigned_abs (slice_index_or s i (pos 0)))
