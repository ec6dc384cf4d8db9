-- Which files were opened: each name with the id that was answered.
use Rattle.std.specs.Prelude.{◌≡◌, ℕ, List, [], ◌∷◌, ◌++◌, map, take, Some, IfSome}
use Rattle.std.specs.declared.option.Option.{Option}
use Rattle.std.specs.Io.KnownBytes.{IsAtEnd}
use Rattle.line_source.specs.Givens.{Given, WasReadToEnd}

abbrev pub names_of : List (List ℕ × ℕ) → List (List ℕ)
names_of openings = map (λ opening. opening.0) openings

-- the file under this name was opened, and no other
abbrev pub OpensIt : List ℕ → List (List ℕ × ℕ) → List (List ℕ × ℕ) → Type 0
OpensIt name before now = (id : ℕ) × (now ≡ before ++ (name, id) ∷ [])

-- The files under a first part of these names were opened, each name once and in this order, and no other.
abbrev pub OpensFirst : List (List ℕ) → List (List ℕ × ℕ) → List (List ℕ × ℕ) → Type 0
OpensFirst names before now = (n : ℕ) × (names_of now ≡ names_of before ++ take n names)

-- what was opened, the bytes of each id that no read has given yet, and what was given
pub record Unread : Type 0 where
  pub openings : List (List ℕ × ℕ)
  pub bytes : ℕ → Option (List ℕ)
  pub given : List Given

abbrev pub unread : List (List ℕ × ℕ) → (ℕ → Option (List ℕ)) → List Given → Unread
unread openings bytes given = record { openings = openings; bytes = bytes; given = given }

-- The file that was opened last is the one under this name, and of it no byte is left: its last read met the end.
pub record IsReadToEnd (told : List ℕ → Option (List ℕ)) (left : Unread) (name : List ℕ) : Type 0 where
  pub earlier : List (List ℕ × ℕ)
  pub id : ℕ
  pub last : left.openings ≡ earlier ++ (name, id) ∷ []
  pub at_end : IsAtEnd (left.bytes id)
  pub whole : IfSome (told name) (λ text. left.bytes id ≡ Some [])
  pub met : WasReadToEnd left.given name
