-- Integer Gauss transformations: the factors of an integer less the nearest multiples of those of the integers before it.
use Rattle.std.specs.Prelude.{◌≡◌, ℕ, zero, suc, nat_lt, true, false, ◌+◌, ◌-◌, ◌<◌, ◌≤◌, ◌^◌, ℤ, pos, ◌-ℤ◌, ◌*ℤ◌, unsigned_abs}
use Rattle.whole_math.specs.Rounding.{nearest_div}

-- the factors of integer i, and 1 at its own place
abbrev pub with_own : (ℕ → ℕ → ℤ) → ℕ → ℕ → ℤ
with_own l i m = elim (nat_lt m i) [ true ↦ l i m | false ↦ pos (2 ^ 30) ]

-- the factors of integer j + 1 with those up to j, after p Gauss transformations: the first takes a multiple of the factors of integer j,
-- the next one of those of integer j - 1, and so on; each takes as many as leave the least at its own place
unfoldable pub after_gauss : (ℕ → ℕ → ℤ) → ℕ → ℕ → ℕ → ℤ
after_gauss l j zero m = l (j + 1) m
after_gauss l j (suc p) m = elim (nat_lt (j - p) m) [ true ↦ after_gauss l j p m | false ↦ after_gauss l j p m -ℤ (nearest_div (after_gauss l j p (j - p)) (2 ^ 30) *ℤ with_own l (j - p) m) ]

-- how many of integer i are taken
abbrev pub multiple : (ℕ → ℕ → ℤ) → ℕ → ℕ → ℤ
multiple l j i = nearest_div (after_gauss l j (j - i) i) (2 ^ 30)

-- what is left at place m
abbrev pub left_at : (ℕ → ℕ → ℤ) → ℕ → ℕ → ℤ
left_at l j m = after_gauss l j (j + 1) m

-- one Gauss transformation: the entries up to place i less k times those of g
pub record IsGauss (i : ℕ) (k : ℤ) (g old new : ℕ → ℤ) : Type 0 where
  pub taken : (m : ℕ) → m ≤ i → new m ≡ old m -ℤ (k *ℤ g m)
  pub stays : (m : ℕ) → i < m → new m ≡ old m

-- one of them is too large
pub record IsWideGauss (i : ℕ) (k : ℤ) (g old : ℕ → ℤ) : Type 0 where
  pub place : ℕ
  pub within : place ≤ i
  pub wide : 2 ^ 62 ≤ unsigned_abs (old place -ℤ (k *ℤ g place))

-- every value that an entry takes is below 2^62 in size
abbrev pub GaussSmall : (ℕ → ℕ → ℤ) → ℕ → Type 0
GaussSmall l j = (p m : ℕ) → p ≤ j → m ≤ j → unsigned_abs (after_gauss l j (p + 1) m) < 2 ^ 62
