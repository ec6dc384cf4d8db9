-- What the reads of files gave, one opening after the other.
use Rattle.std.specs.Prelude.{◌≡◌, ◌⊎◌, ℕ, ◌<◌, ◌==◌, nat_lt, Bool, true, false, if◌then◌else◌, List, [], ◌∷◌, ◌++◌, length, take, drop, map, None, Some}
use Rattle.std.specs.declared.option.Option.{Option}
use Rattle.std.specs.Str.{bytes_eq}
use Rattle.line_source.specs.declared.transfer.TheConstants.{MAX_FILE}

-- A file that was opened: its name, the id that was answered, the bytes that its reads gave so far, and whether the last of them
-- gave none into a piece with room, which means the end of the file.
pub record Given : Type 0 where
  pub name : List ℕ
  pub id : ℕ
  pub bytes : List ℕ
  pub ended : Bool

abbrev pub given_of : List ℕ → ℕ → List ℕ → Bool → Given
given_of name id bytes ended = record { name = name; id = id; bytes = bytes; ended = ended }

-- a file that was just opened
abbrev pub begun : List ℕ → ℕ → Given
begun name id = given_of name id [] false

-- it gave these bytes then, into a piece of that length
abbrev pub after_read : List ℕ → ℕ → Given → Given
after_read bytes room g = given_of g.name g.id (g.bytes ++ bytes) (if nat_lt 0 room then length bytes == 0 else false)

abbrev pub has_id : ℕ → List Given → Bool
has_id id [] = false
has_id id (g ∷ gs) = if g.id == id then true else has_id id gs

-- A read gives bytes of the file that was last opened under its id.
unfoldable pub after_reading : ℕ → List ℕ → ℕ → List Given → List Given
after_reading id bytes room [] = []
after_reading id bytes room (g ∷ gs) = if has_id id gs then g ∷ after_reading id bytes room gs else (if g.id == id then after_read bytes room g ∷ gs else g ∷ gs)

abbrev pub names_given : List Given → List (List ℕ)
names_given gs = map (λ (g : Given). g.name) gs

-- The files under a first part of these names were opened, each name once and in this order, and no other.
pub record GivesFirst (names : List (List ℕ)) (before now : List Given) : Type 0 where
  pub more : List Given
  pub now_is : now ≡ before ++ more
  pub count : ℕ
  pub names_are : names_given more ≡ take count names

-- the file under this name alone was opened, and gave all of this text, to its end
pub record GivesWhole (name text : List ℕ) (before now : List Given) : Type 0 where
  pub id : ℕ
  pub now_is : now ≡ before ++ given_of name id text true ∷ []

-- the file under this name alone was opened, and gave more bytes than a file may have
pub record GivesTooMany (name : List ℕ) (before now : List Given) : Type 0 where
  pub id : ℕ
  pub bytes : List ℕ
  pub ended : Bool
  pub now_is : now ≡ before ++ given_of name id bytes ended ∷ []
  pub many : MAX_FILE < length bytes

-- the file that was opened last is the one under this name, and its last read met the end
pub record WasReadToEnd (given : List Given) (name : List ℕ) : Type 0 where
  pub earlier : List Given
  pub id : ℕ
  pub text : List ℕ
  pub last : given ≡ earlier ++ given_of name id text true ∷ []

-- ---- what is known of the texts that were given
-- each opening of this name gave these bytes
abbrev pub AllGave : List ℕ → List ℕ → List Given → Type 0
AllGave name bytes [] = Unit {0}
AllGave name bytes (g ∷ gs) = (g.name ≡ name → g.bytes ≡ bytes) × AllGave name bytes gs

abbrev pub all_gave : List ℕ → List ℕ → List Given → Bool
all_gave name bytes [] = true
all_gave name bytes (g ∷ gs) = if bytes_eq g.name name then (if bytes_eq g.bytes bytes then all_gave name bytes gs else false) else all_gave name bytes gs

-- the bytes that were given under a name, where all its openings gave the same
abbrev pub given_under : List Given → List ℕ → Option (List ℕ)
given_under [] name = None
given_under (g ∷ gs) name = if bytes_eq g.name name then (if all_gave name g.bytes gs then Some g.bytes else None) else given_under gs name

abbrev pub or_else : Option (List ℕ) → Option (List ℕ) → Option (List ℕ)
or_else None other = other
or_else (Some text) other = Some text

-- The text under a name: what is told of it, or else what was given under that name between two states.
abbrev pub known_text : (List ℕ → Option (List ℕ)) → List Given → List Given → List ℕ → Option (List ℕ)
known_text told before now name = or_else (told name) (given_under (drop (length before) now) name)

-- Each text that is known under a name is told, or is what all openings of that name gave between two states.
abbrev pub IsKnownFrom : (List ℕ → Option (List ℕ)) → (List ℕ → Option (List ℕ)) → List Given → List Given → Type 0
IsKnownFrom known told before now = (name bytes : List ℕ) → known name ≡ Some bytes
    → (told name ≡ Some bytes) ⊎ ((more : List Given) → now ≡ before ++ more → AllGave name bytes more)
