-- Texts of one form that begin with the same lines.
use Rattle.std.specs.Prelude.{◌≡◌, ℕ, List, take}
use Rattle.line_source.specs.EndedLines.{ended_lines}

-- No text of this form begins with the lines of this text up to that one. After its last line stands its end: where that
-- is the place, the lines alone are no such text.
abbrev pub NoneBegins : (List ℕ → Type 0) → List ℕ → ℕ → Type 0
NoneBegins IsText text number = (other : List ℕ) → IsText other → take number (ended_lines other) ≡ take number (ended_lines text) → ⊥
