-- The columns of a line, counted from 1. A column past the end of the line is blank.
use Rattle.std.specs.Prelude.{ℕ, zero, suc, ◌-◌, List, [], ◌∷◌, drop, slice_index_or}

-- the byte in a column
abbrev pub column : List ℕ → ℕ → ℕ
column line k = slice_index_or line (k - 1) 32

-- the first bytes of a list, with blanks after its end
unfoldable pub padded : List ℕ → ℕ → List ℕ
padded bs zero = []
padded [] (suc n) = 32 ∷ padded [] n
padded (b ∷ bs) (suc n) = b ∷ padded bs n

-- the bytes in a number of columns from one on
abbrev pub columns : List ℕ → ℕ → ℕ → List ℕ
columns line first count = padded (drop (first - 1) line) count
