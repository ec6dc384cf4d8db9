-- Texts in columns.
use Rattle.std.specs.Prelude.{ℕ, ℤ, ◌-◌, List, ◌++◌, length, replicate}
use Rattle.decimal_text.specs.Write.{fixed_text}

-- a text at the right end of `width` columns, after blanks
unfoldable pub right_in : ℕ → List ℕ → List ℕ
right_in width text = replicate (width - length text) 32 ++ text

-- value/10^places with `places` digits after the point, in `width` columns
unfoldable pub fixed_in : ℕ → ℤ → ℕ → List ℕ
fixed_in width value places = right_in width (fixed_text value places)
