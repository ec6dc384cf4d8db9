-- Up to the line `pairs` of a text some text of the form begins with the lines before the one that is refused.
use Rattle.std.specs.Prelude.{◌≡◌, ◌-◌, ℕ, false, List, ◌++◌, All, take, codes}
use Rattle.line_source.specs.EndedLines.{ended_lines}
use Rattle.cert_lines.specs.TailForms.{begins}

-- the lines before the one of this number, which are counted from 1
abbrev pub lines_before : List ℕ → ℕ → List (List ℕ)
lines_before text number = take (number - 1) (ended_lines text)

-- none of them begins with the word `pairs`
abbrev pub IsUpToPairs : List ℕ → ℕ → Type 0
IsUpToPairs text number = All (λ line. begins (codes "pairs") line ≡ false) (lines_before text number)

-- a text of this form begins with these lines
pub record SomeBegins (IsText : List ℕ → Type 0) (lines : List (List ℕ)) : Type 0 where
  pub other : List ℕ
  pub is : IsText other
  pub more : List (List ℕ)
  pub split : ended_lines other ≡ lines ++ more

-- up to the line `pairs`, one begins with the lines before that one
abbrev pub BeginsBefore : (List ℕ → Type 0) → List ℕ → ℕ → Type 0
BeginsBefore IsText text number = IsUpToPairs text number → SomeBegins IsText (lines_before text number)
