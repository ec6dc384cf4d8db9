-- For which texts a taker stands that knows the format by the first line.
use Rattle.std.specs.Prelude.{◌≡◌, ℕ, List, ◌∷◌, ◌++◌, length, Result, IfOk}
use Rattle.std.proofs.Props.{props}
use Rattle.line_source.specs.Lines.{lines_of}
use Rattle.obs_store.specs.declared.file.ObsFile.{ObsFile}
use Rattle.rinex_head.specs.declared.place.At.{At}
use Rattle.rinex_head.specs.declared.place.TextFault.{TextFault}
use Rattle.rinex_head.specs.declared.system.System.{System}
use Rattle.rinex_head.specs.declared.system.System.TheVariants.{Gps}
use Rattle.rinex_head.specs.FirstFailing.{IsFirstFailing}
use Rattle.rinex_head.specs.LineRules.{Gives, OnRefusal, IfRefused}
use Rattle.rinex_obs.specs.Fed.{StandsFor}
use Rattle.rinex_obs.specs.ObsRules.{obs_of}
use Rattle.rinex_obs.specs.Started.{GoesOn}
use Rattle.rinex2_obs.specs.Obs2Rules.{obs2_of}
use Rattle.job_answers.specs.declared.taker.Source.{Source}
use Rattle.job_answers.specs.declared.taker.Source.TheVariants as source
use Rattle.job_answers.specs.Formats.{any_of, IsObservation, HasObservation}

-- What is kept is of this number of bytes; a line that has begun has no end, and a feed reads GPS.
abbrev pub IsKeptOf : Source → ℕ → Type 0
IsKeptOf (source.FirstLine line) taken = (length line ≡ taken) × GoesOn line
IsKeptOf (source.Three feed) taken = (feed.taken ≡ taken) × (feed.system ≡ Gps)
IsKeptOf (source.Two bytes) taken = length bytes.items ≡ taken
IsKeptOf source.NoMemory taken = Unit {0}

pub IsKeptOf-prop : (s : Source) (taken : ℕ) → IsProp (IsKeptOf s taken)
IsKeptOf-prop (source.FirstLine line) taken = Prim.hlevel props
IsKeptOf-prop (source.Three feed) taken = Prim.hlevel props
IsKeptOf-prop (source.Two bytes) taken = Prim.hlevel props
IsKeptOf-prop source.NoMemory taken = Prim.hlevel props

abbrev pub HasNoMemory : Source → Type 0
HasNoMemory (source.FirstLine line) = ⊥
HasNoMemory (source.Three feed) = ⊥
HasNoMemory (source.Two bytes) = ⊥
HasNoMemory source.NoMemory = Unit {0}

-- Whatever follows the text, this is its first line.
abbrev pub IsFirstOf : List ℕ → List ℕ → Type 0
IsFirstOf first text = (more : List ℕ) → (others : List (List ℕ)) × (lines_of (text ++ more) ≡ first ∷ others)

-- Whatever follows the text, its lines are read so for GPS.
abbrev pub IsReadBy : (List (List ℕ) → Result ObsFile At) → List ℕ → Type 0
IsReadBy reads text = (more : List ℕ) → any_of Gps (lines_of (text ++ more)) ≡ reads (lines_of (text ++ more))

-- the text is a line without an end; a feed stands for it, or it is kept; after running out of memory there is none
abbrev pub StandsForText : Source → List ℕ → Type 0
StandsForText (source.FirstLine line) text = text ≡ line
StandsForText (source.Three feed) text = StandsFor feed.system feed.state feed.taken text × IsReadBy (λ lines. obs_of Gps lines) text
StandsForText (source.Two bytes) text = (text ≡ bytes.items) × IsReadBy obs2_of text
StandsForText source.NoMemory text = ⊥

-- the answer to a text: its observation file, or the first place at which it has none
pub record IsAnswer (system : System) (text : List ℕ) (result : Result ObsFile TextFault) : Type 0 where
  pub ok : IfOk result (λ file. IsObservation system (lines_of text) file)
  pub only : IfOk result (λ file. (other : ObsFile) → IsObservation system (lines_of text) other → other ≡ file)
  pub refused : OnRefusal result (HasObservation system (lines_of text) → ⊥)
  pub first : IfRefused result (λ at. IsFirstFailing (HasObservation system) (lines_of text) at.line)
  pub exact : Gives (any_of system (lines_of text)) (λ file. file) result
