-- A text that is taken in pieces, and what stands between two of them.
use Rattle.std.specs.Prelude.{◌≡◌, ℕ, nat_lt, List, ◌++◌, length, Result, Ok, Err, IfOk, if◌then◌else◌}
use Rattle.line_source.specs.Lines.{lines_from, lines_of}
use Rattle.obs_store.specs.declared.file.ObsFile.{ObsFile}
use Rattle.rinex_head.specs.declared.place.At.{At}
use Rattle.rinex_head.specs.declared.place.Flaw.{Flaw}
use Rattle.rinex_head.specs.declared.place.TextFault.{TextFault}
use Rattle.rinex_head.specs.declared.place.TextFault.TheVariants.{Refused, NoMemory}
use Rattle.rinex_head.specs.declared.place.What.TheVariants.{LongLine}
use Rattle.rinex_head.specs.declared.system.System.{System}
use Rattle.rinex_head.specs.Places.{at_line, flawed}
use Rattle.rinex_head.specs.LineRules.{walk, Gives, OnRefusal, IfRefused}
use Rattle.rinex_head.specs.FirstFailing.{IsFirstFailing}
use Rattle.rinex_obs.specs.ObsRules.{Expected, admit, obs_rules, obs_of}
use Rattle.rinex_obs.specs.ObsForm.{IsObsFile, HasObsFile}

-- what a line gives where s is expected: the rules of every system, in which a line may be too long
abbrev pub line_gives : Expected → List ℕ → Result Expected Flaw
line_gives s line = if nat_lt 4096 (length line) then flawed 1 LongLine else admit s line

-- What a text gives by what follows, where n lines of it were read, a line has begun after them, and s is expected.
abbrev pub gives_with : System → ℕ → List ℕ → Expected → List ℕ → Result ObsFile At
gives_with system n line s more = walk (obs_rules system) (lines_from more line) n s

-- a line of that number gives what stands next, or is refused by this
abbrev pub Takes : {S : Type 0} → Result S Flaw → ℕ → S → Result (Unit {0}) TextFault → Type 0
Takes given number next (Ok u) = given ≡ Ok next
Takes given number next (Err (Refused at)) = at_line number given ≡ Err at
Takes given number next (Err NoMemory) = Unit {0}

-- the same of bytes with which a text goes on
abbrev pub TakesAll : List ℕ → (List ℕ → Result ObsFile At) → (List ℕ → Result ObsFile At) → Result (Unit {0}) TextFault → Type 0
TakesAll bytes old new (Ok u) = (more : List ℕ) → old (bytes ++ more) ≡ new more
TakesAll bytes old new (Err (Refused at)) = (more : List ℕ) → old (bytes ++ more) ≡ Err at
TakesAll bytes old new (Err NoMemory) = Unit {0}

-- this number of bytes was taken, and whatever follows the text, the answer is this
pub record IsFed (system : System) (gives : List ℕ → Result ObsFile At) (taken : ℕ) (text : List ℕ) : Type 0 where
  pub counted : length text ≡ taken
  pub gives_so : (more : List ℕ) → obs_of system (lines_of (text ++ more)) ≡ gives more

-- the answer of a reader of observation files to a text
pub record IsAnswerTo (system : System) (text : List ℕ) (result : Result ObsFile TextFault) : Type 0 where
  pub ok : IfOk result (λ file. IsObsFile system (lines_of text) file)
  pub only : IfOk result (λ file. (other : ObsFile) → IsObsFile system (lines_of text) other → other ≡ file)
  pub refused : OnRefusal result (HasObsFile system (lines_of text) → ⊥)
  pub first : IfRefused result (λ at. IsFirstFailing (HasObsFile system) (lines_of text) at.line)
  pub exact : Gives (obs_of system (lines_of text)) (λ file. file) result
