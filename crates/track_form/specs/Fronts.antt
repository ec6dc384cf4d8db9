-- The form of a track: the forms of its pairs, each over its own power of 2, brought over one power and added.
use Rattle.std.specs.Prelude.{◌≡◌, ℕ, ◌+◌, ◌-◌, ◌*◌, ◌^◌, ◌<◌, ◌≤◌, List, length, map, All, Any, nat_eq, cond, ℤ, pos, ◌-ℤ◌, ◌*ℤ◌, unsigned_abs}
use Rattle.whole_math.specs.Rounding.{floor_div, ceil_div, nearest_div}
use Rattle.whole_math.specs.Vectors.{sum}
use Rattle.quadratic_form.specs.Forms.{Column, quad}
use Rattle.quadratic_form.specs.Places.{form_from}
use Rattle.quadratic_form.specs.Rows.{value}
use Rattle.whole_math.specs.Rational.{Rational, of_whole, ◌*ʳ◌, ◌≤ʳ◌}

-- the form that a pair's front leaves, by its entries, in units of 2^h
pub record Front : Type 0 where
  pub h : ℕ
  pub at : ℕ → ℕ → ℤ

abbrev pub front_form : ℕ → Front → List Column
front_form n f = form_from f.at 0 n

-- by what the form of a pair is divided, where all are brought over 2^h
abbrev pub part : ℕ → Front → ℕ
part h f = 2 ^ (h - f.h)

-- Over 2^h: an entry off the diagonal is the sum of the pairs' entries, each to the nearest; one on it is the sum of the
-- pairs' entries, each downward, less the order n for each pair
abbrev pub own_entry : ℕ → ℕ → List Front → ℕ → ℤ
own_entry n h fs i = sum (map (λ f. floor_div (f.at i i) (part h f)) fs) -ℤ (pos (length fs) *ℤ pos n)

abbrev pub other_entry : ℕ → List Front → ℕ → ℕ → ℤ
other_entry h fs i j = sum (map (λ f. nearest_div (f.at i j) (part h f)) fs)

abbrev pub track_entry : ℕ → ℕ → List Front → ℕ → ℕ → ℤ
track_entry n h fs i j = cond (nat_eq i j) (own_entry n h fs i) (other_entry h fs i j)

-- of n columns
abbrev pub track_form : ℕ → ℕ → List Front → List Column
track_form n h fs = form_from (track_entry n h fs) 0 n

-- e is the least number with 2^e at least twice the number of pairs, and h is the greatest exponent of a pair and e
pub record AreExponents (fs : List Front) (e h : ℕ) : Type 0 where
  pub enough : 2 * length fs ≤ 2 ^ e
  pub least : (k : ℕ) → 2 * length fs ≤ 2 ^ k → e ≤ k
  pub over : All (λ f. f.h + e ≤ h) fs
  pub attained : Any (λ f. f.h + e ≡ h) fs

-- each entry is below 2^52 in size
abbrev pub IsSmallFront : Front → Type 0
IsSmallFront f = (i j : ℕ) → unsigned_abs (f.at i j) < 2 ^ 52

-- the values of the pairs' forms at v, each in its own unit
abbrev pub fronts_value : ℕ → List Front → List ℤ → ℤ
fronts_value n fs v = sum (map (λ f. pos (2 ^ f.h) *ℤ quad (front_form n f) v) fs)

-- 64 times a pair's sum of squares is at least 2^h times the value of its form at the integers z
abbrev pub BoundsPair : ℕ → List ℤ → Front → Rational → Type 0
BoundsPair n z f g = of_whole (pos (2 ^ f.h) *ℤ value (front_form n f) z) ≤ʳ of_whole (pos 64) *ʳ g

-- a sum of squares is at most u
abbrev pub IsAtMost : Rational → ℤ → Type 0
IsAtMost g u = g ≤ʳ of_whole u

-- T: the sum of the pairs' upper sums in units of 2^h, rounded up
abbrev pub track_top : ℕ → List ℤ → ℤ
track_top h us = ceil_div (sum us) (2 ^ h)
