-- What the levels of a search leave open.
use Rattle.std.specs.Prelude.{◌≡◌, ◌⊎◌, ◌-◌, ◌<◌, ◌≤◌, ◌^◌, List, [], ◌∷◌, ◌++◌, length, ℤ, pos, negsuc, ◌+ℤ◌, ◌*ℤ◌, ◌<ℤ◌, ◌≤ℤ◌, unsigned_abs}
use Rattle.int_search.specs.Suffixes.{SearchForm, offset, low}
use Rattle.int_search.specs.PlainCount.{top}
use Rattle.int_search.specs.declared.stack.Level.{Level}

abbrev pub tail_of : List ℤ → List ℤ
tail_of [] = []
tail_of (x ∷ s) = s

-- x is not taken
abbrev pub IsFree : Level → ℤ → Type 0
IsFree a x = (x ≤ℤ a.down) ⊎ (a.up ≤ℤ x)

-- q ends with an entry that is not taken, and s
pub record IsOpenAt (a : Level) (s q : List ℤ) : Type 0 where
  pub head : ℤ
  pub front : List ℤ
  pub split : q ≡ front ++ (head ∷ s)
  pub free : IsFree a head

-- the levels are the latest first, and s is the suffix after the integer of the first
abbrev pub IsOpen : List Level → List ℤ → List ℤ → Type 0
IsOpen [] s q = ⊥
IsOpen (a ∷ r) s q = IsOpenAt a s q ⊎ IsOpen r (tail_of s) q

-- a is a level of the integer before s
pub record IsLevel (f : SearchForm) (a : Level) (s : List ℤ) : Type 0 where
  pub shorter : length s < f.size
  pub up_offset_is : a.up_offset ≡ offset f a.up s
  pub down_offset_is : a.down_offset ≡ offset f a.down s
  pub above : pos 0 ≤ℤ a.up_offset
  pub under : a.down_offset <ℤ pos 0
  pub apart : a.down <ℤ a.up
  -- of the ends none is more than one entry further than the other, so no entry that is taken is further than one that isn't
  pub balanced : unsigned_abs (a.up_offset +ℤ a.down_offset) ≤ 2 ^ 30
  -- and none that is taken is as far and below one that isn't
  pub tied : (negsuc (2 ^ 30 - 1) <ℤ (a.up_offset +ℤ a.down_offset)) ⊎ (a.up_offset ≡ pos 0)
  pub low_is : a.low ≡ low f s
  pub within : low f s ≤ℤ (pos (2 ^ 60) *ℤ top f)
  pub up_size : unsigned_abs a.up ≤ 2 ^ 61
  pub down_size : unsigned_abs a.down ≤ 2 ^ 61
  pub up_offset_size : unsigned_abs a.up_offset ≤ 2 ^ 100
  pub down_offset_size : unsigned_abs a.down_offset ≤ 2 ^ 100

-- the levels below one of the integer before s: each has taken the entry that s has there
abbrev pub AreUnder : SearchForm → List Level → List ℤ → Type 0
AreUnder f [] s = s ≡ []
AreUnder f (b ∷ r) [] = ⊥
AreUnder f (b ∷ r) (x ∷ s) = IsLevel f b s × ((b.down <ℤ x) × (x <ℤ b.up)) × AreUnder f r s

abbrev pub AreLevels : SearchForm → List Level → List ℤ → Type 0
AreLevels f [] s = Unit {0}
AreLevels f (a ∷ r) s = IsLevel f a s × AreUnder f r s

-- b is a with x taken
pub record Takes (a : Level) (x : ℤ) (b : Level) : Type 0 where
  pub was_free : IsFree a x
  pub above : b.down <ℤ x
  pub under : x <ℤ b.up
  pub others : (y : ℤ) → IsFree a y → (y ≡ x) ⊎ IsFree b y
  pub before : (y : ℤ) → IsFree b y → IsFree a y
