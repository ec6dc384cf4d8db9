-- For which texts a feed stands.
use Rattle.std.specs.Prelude.{ℕ, ◌+◌, ◌≤◌, List, length, Result, Err}
use Rattle.std.proofs.Props.{props}
use Rattle.obs_store.specs.declared.file.ObsFile.{ObsFile}
use Rattle.rinex_head.specs.declared.place.At.{At}
use Rattle.rinex_head.specs.declared.system.System.{System}
use Rattle.rinex_obs.specs.declared.feed.OpenText.{OpenText}
use Rattle.rinex_obs.specs.declared.feed.FeedState.{FeedState}
use Rattle.rinex_obs.specs.declared.feed.FeedState.TheVariants as state
use Rattle.rinex_obs.specs.Opened.{expected_in}
use Rattle.rinex_obs.specs.Feeding.{gives_with, IsFed}

-- its lines and the one that has begun are among the bytes that were taken
abbrev pub LinesWithin : FeedState → ℕ → Type 0
LinesWithin (state.Open t) taken = t.number + length t.line ≤ taken
LinesWithin (state.Refused at) taken = Unit {0}
LinesWithin state.NoMemory taken = Unit {0}

pub LinesWithin-prop : (s : FeedState) (taken : ℕ) → IsProp (LinesWithin s taken)
LinesWithin-prop (state.Open t) taken = Prim.hlevel props
LinesWithin-prop (state.Refused at) taken = Prim.hlevel props
LinesWithin-prop state.NoMemory taken = Prim.hlevel props

abbrev pub gives_behind : System → OpenText → List ℕ → Result ObsFile At
gives_behind system t more = gives_with system t.number t.line (expected_in t.file) more

-- The texts of this length whose answer is, whatever follows them, the one of the state. After running out of
-- memory there is none.
abbrev pub StandsFor : System → FeedState → ℕ → List ℕ → Type 0
StandsFor system (state.Open t) taken text = IsFed system (gives_behind system t) taken text
StandsFor system (state.Refused at) taken text = IsFed system (λ more. Err at) taken text
StandsFor system state.NoMemory taken text = ⊥

abbrev pub HasNoMemory : FeedState → Type 0
HasNoMemory (state.Open t) = ⊥
HasNoMemory (state.Refused at) = ⊥
HasNoMemory state.NoMemory = Unit {0}
