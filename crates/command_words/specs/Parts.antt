-- How the words after the command are parted: ordinary words, and options with their values.
use Rattle.std.specs.Prelude.{◌≡◌, ℕ, ◌==◌, Bool, true, not, IsTrue, List, [], ◌∷◌, ◌++◌}
use Rattle.command_words.specs.declared.settings.Setting.{Setting}
use Rattle.command_words.specs.declared.settings.Given.{Given}
use Rattle.command_words.specs.Settings.{name_of, IsValue}

-- `-` alone, or any word that doesn't begin with it
abbrev pub is_ordinary : List ℕ → Bool
is_ordinary [] = true
is_ordinary (b ∷ []) = true
is_ordinary (b ∷ c ∷ bs) = not (b == 45)

-- an ordinary word; `--name` with the value in the word after it; `--name=value`
pub data Piece : Type 0 where
  Plain : List ℕ → Piece
  Apart : Setting → List ℕ → ℕ → Piece
  Joined : Setting → List ℕ → ℕ → Piece

abbrev pub IsPiece : Piece → Type 0
IsPiece (Plain word) = IsTrue (is_ordinary word)
IsPiece (Apart s value n) = IsValue s value n
IsPiece (Joined s value n) = IsValue s value n

abbrev pub words_of_piece : Piece → List (List ℕ)
words_of_piece (Plain word) = word ∷ []
words_of_piece (Apart s value n) = (45 ∷ 45 ∷ name_of s) ∷ value ∷ []
words_of_piece (Joined s value n) = (45 ∷ 45 ∷ (name_of s ++ 61 ∷ value)) ∷ []

abbrev pub plain_of_piece : Piece → List (List ℕ)
plain_of_piece (Plain word) = word ∷ []
plain_of_piece (Apart s value n) = []
plain_of_piece (Joined s value n) = []

abbrev pub given_of_piece : Piece → List Given
given_of_piece (Plain word) = []
given_of_piece (Apart s value n) = record { setting = s; number = n } ∷ []
given_of_piece (Joined s value n) = record { setting = s; number = n } ∷ []

abbrev pub ArePieces : List Piece → Type 0
ArePieces [] = Unit {0}
ArePieces (p ∷ pieces) = IsPiece p × ArePieces pieces

abbrev pub words_of : List Piece → List (List ℕ)
words_of [] = []
words_of (p ∷ pieces) = words_of_piece p ++ words_of pieces

abbrev pub plain_of : List Piece → List (List ℕ)
plain_of [] = []
plain_of (p ∷ pieces) = plain_of_piece p ++ plain_of pieces

abbrev pub given_of : List Piece → List Given
given_of [] = []
given_of (p ∷ pieces) = given_of_piece p ++ given_of pieces

-- after the pieces stands nothing, or `--` and then ordinary words, whatever they are
abbrev pub IsBehind : List (List ℕ) → List (List ℕ) → Type 0
IsBehind [] further = further ≡ []
IsBehind (word ∷ words) further = (word ≡ 45 ∷ 45 ∷ []) × (words ≡ further)

-- the words are pieces and what stands after them, with these ordinary words and these options
pub record AreParted (words plain : List (List ℕ)) (given : List Given) : Type 0 where
  pub pieces : List Piece
  pub behind : List (List ℕ)
  pub further : List (List ℕ)
  pub words_are : words ≡ words_of pieces ++ behind
  pub are_pieces : ArePieces pieces
  pub is_behind : IsBehind behind further
  pub plain_are : plain ≡ plain_of pieces ++ further
  pub given_are : given ≡ given_of pieces
