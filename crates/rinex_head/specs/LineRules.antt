-- A text is read a line at a time. The rules say what a line must be in its place, and what is expected after it.
use Rattle.std.specs.Prelude.{◌≡◌, ◌⊎◌, ℕ, ◌+◌, nat_lt, List, [], ◌∷◌, length, Result, Ok, Err, if◌then◌else◌}
use Rattle.line_source.specs.Lines.{Reading, IsTooLong, IsAtEnd}
use Rattle.rinex_head.specs.declared.place.What.{What}
use Rattle.rinex_head.specs.declared.place.What.TheVariants.{LongLine}
use Rattle.rinex_head.specs.declared.place.Flaw.{Flaw}
use Rattle.rinex_head.specs.declared.place.At.{At}
use Rattle.rinex_head.specs.declared.place.TextFault.{TextFault}
use Rattle.rinex_head.specs.declared.place.TextFault.TheVariants.{Refused, NoMemory}
use Rattle.rinex_head.specs.Places.{and_then, flawed, place, at_line}

-- S is what can be expected next in a text, with all that was read so far; F is what a whole text gives
pub record Rules (S F : Type 0) : Type 0 where
  pub start : S
  pub admit : S → List ℕ → Result S Flaw
  pub finish : S → Result F Flaw

-- a line that is too long is refused before its content
abbrev pub admitted : {S F : Type 0} → Rules S F → S → List ℕ → Result S Flaw
admitted rules s line = if nat_lt 4096 (length line) then flawed 1 LongLine else rules.admit s line

-- What the lines give where s is expected and n lines stand before them: each must be admitted, and the end after the last.
unfoldable pub walk : {S F : Type 0} → Rules S F → List (List ℕ) → ℕ → S → Result F At
walk rules [] n s = at_line (n + 1) (rules.finish s)
walk rules (line ∷ lines) n s = and_then (at_line (n + 1) (admitted rules s line)) (λ next. walk rules lines (n + 1) next)

-- what a text of these lines gives, or its first failing place
abbrev pub text_gives : {S F : Type 0} → Rules S F → List (List ℕ) → Result F At
text_gives rules lines = walk rules lines 0 rules.start

-- what a reader's other lines give where s is expected
abbrev pub rest_gives : {S F : Type 0} → Rules S F → Reading → S → Result F At
rest_gives rules reading s = walk rules reading.left reading.given s

-- The text is refused so. Running out of memory says nothing of the text.
abbrev pub FailsBy : {F : Type 0} → Result F At → TextFault → Type 0
FailsBy given (Refused at) = given ≡ Err at
FailsBy given NoMemory = Unit {0}

-- what holds where a text is refused, and of the place
abbrev pub OnRefusal : {X : Type 0} → Result X TextFault → Type 0 → Type 0
OnRefusal (Err (Refused at)) P = P
OnRefusal _ P = Unit {0}

abbrev pub IfRefused : {X : Type 0} → Result X TextFault → (At → Type 0) → Type 0
IfRefused (Err (Refused at)) P = P at
IfRefused _ P = Unit {0}

-- A part of a text was read where s was expected. After it next is expected, by what was read in it.
abbrev pub Reads : {S F X : Type 0} → Rules S F → Reading → Reading → S → (X → S) → Result X TextFault → Type 0
Reads rules old new s next (Ok x) = rest_gives rules old s ≡ rest_gives rules new (next x)
Reads rules old new s next (Err fault) = FailsBy (rest_gives rules old s) fault

-- the same for a part that takes no memory
abbrev pub ReadsFree : {S F X : Type 0} → Rules S F → Reading → Reading → S → (X → S) → Result X At → Type 0
ReadsFree rules old new s next (Ok x) = rest_gives rules old s ≡ rest_gives rules new (next x)
ReadsFree rules old new s next (Err at) = rest_gives rules old s ≡ Err at

-- The rest of a text was read: what it gives, seen by view.
abbrev pub Gives : {F X : Type 0} → Result F At → (X → F) → Result X TextFault → Type 0
Gives given view (Ok x) = given ≡ Ok (view x)
Gives given view (Err fault) = FailsBy given fault

-- the next line is too long
abbrev pub IsLongLine : Reading → Reading → At → Type 0
IsLongLine old new at = (number : ℕ) × IsTooLong old new number × (at ≡ place number 1 LongLine)

-- the next line is too long, or there is none and this one is missing
abbrev pub HasNoLine : Reading → Reading → What → At → Type 0
HasNoLine old new missing at = IsLongLine old new at ⊎ (IsAtEnd old new × (at ≡ place (old.given + 1) 1 missing))
