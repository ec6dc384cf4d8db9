-- The form of a `zero` file: a claimed number and differences.
use Rattle.std.specs.Prelude.{◌≡◌, ℕ, ℤ, ◌<◌, ◌≤◌, List, [], ◌∷◌, ◌++◌, length, codes, All}
use Rattle.decimal_text.specs.Whole.{Spells, size_of}

-- what a file says
pub record Rows : Type 0 where
  pub claim : ℤ
  pub diffs : List ℤ

abbrev pub rows : ℤ → List ℤ → Rows
rows z ds = record { claim = z; diffs = ds }

-- the line is a word and after it a number in its spelling, at most that large
pub record IsNumberLine (word : List ℕ) (most : ℕ) (line : List ℕ) (number : ℤ) : Type 0 where
  pub text : List ℕ
  pub line_is : line ≡ word ++ text
  pub spelled : Spells text number
  pub in_range : size_of number ≤ most

-- each line has its difference
abbrev pub AreDiffLines : List (List ℕ) → List ℤ → Type 0
AreDiffLines [] [] = Unit {0}
AreDiffLines [] (d ∷ ds) = ⊥
AreDiffLines (line ∷ lines) [] = ⊥
AreDiffLines (line ∷ lines) (d ∷ ds) = (length line ≤ 4096) × IsNumberLine (codes "diff ") 1000000000 line d × AreDiffLines lines ds

-- a head, the claimed number, and 1 to 1,000 differences
pub record AreRows (lines : List (List ℕ)) (z : ℤ) (ds : List ℤ) : Type 0 where
  pub second : List ℕ
  pub others : List (List ℕ)
  pub lines_are : lines ≡ codes "zero 1" ∷ second ∷ others
  pub second_short : length second ≤ 4096
  pub claim : IsNumberLine (codes "z ") 10000000 second z
  pub diffs : AreDiffLines others ds
  pub some : 0 < length ds
  pub few : length ds ≤ 1000

-- the lines are a `zero` file
abbrev pub IsZeroFile : List (List ℕ) → Type 0
IsZeroFile lines = (z : ℤ) × (ds : List ℤ) × AreRows lines z ds

-- what holds of the numbers of every file
pub record AreInRange (z : ℤ) (ds : List ℤ) : Type 0 where
  pub claim : size_of z ≤ 10000000
  pub diffs : All (λ d. size_of d ≤ 1000000000) ds
  pub some : 0 < length ds
  pub few : length ds ≤ 1000
