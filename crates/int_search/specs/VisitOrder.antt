-- In which order a search takes suffixes, and what it comes to that is too wide.
use Rattle.std.specs.Prelude.{◌≡◌, ◌≢◌, ◌⊎◌, ℕ, ◌<◌, ◌^◌, List, ◌∷◌, ◌++◌, length, ℤ, pos, ◌<ℤ◌, ◌≤ℤ◌, unsigned_abs, All, AllPairs}
use Rattle.quadratic_form.specs.Rows.{value}
use Rattle.int_search.specs.Suffixes.{SearchForm, offset}
use Rattle.int_search.specs.PlainCount.{rounded, neighbour, top, IsWithin, Counts, HasLarge}

-- s is some entries and then q
pub record IsEndOf (q s : List ℤ) : Type 0 where
  pub front : List ℤ
  pub some : 0 < length front
  pub split : s ≡ front ++ q

-- an offset from the centre comes before another: it is nearer, or as near and above
abbrev pub IsCloser : ℤ → ℤ → Type 0
IsCloser a b = (unsigned_abs a < unsigned_abs b) ⊎ ((unsigned_abs a ≡ unsigned_abs b) × (b <ℤ a))

-- after the same entries at the end, the entry of q is nearer to the centre that they give than that of s, or as near and above it
pub record IsNearer (f : SearchForm) (q s : List ℤ) : Type 0 where
  pub same : List ℤ
  pub near : ℤ
  pub far : ℤ
  pub near_front : List ℤ
  pub far_front : List ℤ
  pub near_split : q ≡ near_front ++ (near ∷ same)
  pub far_split : s ≡ far_front ++ (far ∷ same)
  pub nearer : IsCloser (offset f near same) (offset f far same)

-- q comes before s: s ends with it, or it is nearer
abbrev pub IsBefore : SearchForm → List ℤ → List ℤ → Type 0
IsBefore f q s = IsEndOf q s ⊎ IsNearer f q s

-- of any two vectors one has at least the value p, so p is at most the second least value
pub record IsUpToSecond (f : SearchForm) (p : ℤ) : Type 0 where
  pub each : (v w : List ℤ) → length v ≡ f.size → length w ≡ f.size → v ≢ w → (p ≤ℤ value f.p v) ⊎ (p ≤ℤ value f.p w)

-- A search comes to s before its visit n: fewer than n of the suffixes before s have a lower sum of at most 2^60 times the
-- second least value.
pub record IsReachedBy (f : SearchForm) (n : ℕ) (s : List ℤ) : Type 0 where
  pub fewer : (p : ℤ) → IsUpToSecond f p → (suffixes : List (List ℤ)) → AllPairs (λ q t. q ≢ t) suffixes →
      All (λ q. IsWithin f p q × IsBefore f q s) suffixes → length suffixes < n

-- one of the two points with which a search begins ends with s, or the search comes to s before its visit n
abbrev pub IsReached : SearchForm → ℕ → List ℤ → Type 0
IsReached f n s = ((front : List ℤ) × ((rounded f f.size ≡ front ++ s) ⊎ (neighbour f ≡ front ++ s))) ⊎ IsReachedBy f n s

-- the greater value is 2^62 or more, or a suffix that counts has a large entry and is reached
pub record IsWide (f : SearchForm) (n : ℕ) : Type 0 where
  pub wide : (pos (2 ^ 62) ≤ℤ top f) ⊎ ((s : List ℤ) × (Counts f s × HasLarge s × IsReached f n s))

-- a full vector that counts has a large entry in other coordinates, and is reached
pub record IsWideIn (f : SearchForm) (image : List ℤ → List ℤ) (n : ℕ) : Type 0 where
  pub vector : List ℤ
  pub full : length vector ≡ f.size
  pub counted : Counts f vector
  pub large : HasLarge (image vector)
  pub reached : IsReached f n vector
