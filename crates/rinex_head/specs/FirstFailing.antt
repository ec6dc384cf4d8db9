-- The first failing line of a text, by the form of a file alone.
use Rattle.std.specs.Prelude.{◌≡◌, ◌≢◌, ◌<◌, ℕ, ◌+◌, List, [], ◌∷◌, ◌++◌, length, All, Ok}
use Rattle.rinex_head.specs.LineRules.{Rules, text_gives}

-- a line as a text has it: bytes, none of them a line feed
abbrev pub IsLine : List ℕ → Type 0
IsLine line = All (λ b. (b < 256) × (b ≢ 10)) line

-- some file begins with these lines, and the others are lines of a text
pub record IsBegun (IsFile : List (List ℕ) → Type 0) (front : List (List ℕ)) : Type 0 where
  pub more : List (List ℕ)
  pub are_lines : All IsLine more
  pub file : IsFile (front ++ more)

-- the same, where any numbers may stand in the others
pub record Begins (IsFile : List (List ℕ) → Type 0) (front : List (List ℕ)) : Type 0 where
  pub more : List (List ℕ)
  pub file : IsFile (front ++ more)

-- none begins with these and the next one, or, at the end of the text, these alone are none
abbrev pub IsStuck : (List (List ℕ) → Type 0) → List (List ℕ) → List (List ℕ) → Type 0
IsStuck IsFile front [] = IsFile front → ⊥
IsStuck IsFile front (line ∷ lines) = Begins IsFile (front ++ line ∷ []) → ⊥

-- The lines before that line begin a file, and with it none does, whatever follows. After the last line stands the end.
pub record IsFirstFailing (IsFile : List (List ℕ) → Type 0) (lines : List (List ℕ)) (number : ℕ) : Type 0 where
  pub front : List (List ℕ)
  pub rest : List (List ℕ)
  pub split : lines ≡ front ++ rest
  pub numbered : number ≡ length front + 1
  pub begun : IsBegun IsFile front
  pub stuck : IsStuck IsFile front rest

-- the lines are a file of these rules
abbrev pub IsFileOf : {S F : Type 0} → Rules S F → List (List ℕ) → Type 0
IsFileOf {S} {F} rules lines = (whole : F) × (text_gives rules lines ≡ Ok whole)
