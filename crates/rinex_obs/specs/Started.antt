-- Bytes with which a text goes on after the bytes of a line that has begun.
use Rattle.std.specs.Prelude.{◌≡◌, ℕ, List, [], ◌∷◌, ◌++◌}
use Rattle.std.specs.Str.Lines.{strip_carriage_return}
use Rattle.line_source.specs.Lines.{lines_from}

-- The first line feed among the bytes ends that line, whatever follows them: these stand before it, and those after it.
abbrev pub EndsLine : List ℕ → List ℕ → List ℕ → Type 0
EndsLine bytes front behind = (line more : List ℕ) → lines_from (bytes ++ more) line ≡ strip_carriage_return (line ++ front) ∷ lines_from (behind ++ more) []

-- the bytes belong to that line, whatever follows them
abbrev pub GoesOn : List ℕ → Type 0
GoesOn bytes = (line more : List ℕ) → lines_from (bytes ++ more) line ≡ lines_from more (line ++ bytes)
