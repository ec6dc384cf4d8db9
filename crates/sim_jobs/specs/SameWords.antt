-- Two observation files of one receiver, of sessions of the same words.
use Rattle.std.specs.Prelude.{◌≡◌, ℕ, List, length, All}
use Rattle.sim_session.specs.declared.signals.Signals.{Signals}
use Rattle.sim_session.specs.declared.signals.Tracking.{Tracking}
use Rattle.sim_session.specs.ObservationText.{observation_text}
use Rattle.sim_session.specs.Observations.{step_of}

-- signals of this number of satellites at each of this number of epochs
abbrev pub AreSized : ℕ → ℕ → List (List Signals) → Type 0
AreSized epochs sats signals = (length signals ≡ epochs) × All (λ s. length s ≡ sats) signals

-- Both are texts of signals of as many satellites at as many epochs: header, tags and satellites are the same, and they
-- differ in codes and phases alone.
pub record DifferInSignals (epochs sats : ℕ) (t : Tracking) (one other : List ℕ) : Type 0 where
  pub of_one : List (List Signals)
  pub of_other : List (List Signals)
  pub one_sized : AreSized epochs sats of_one
  pub other_sized : AreSized epochs sats of_other
  pub one_is : one ≡ observation_text t (step_of epochs) of_one
  pub other_is : other ≡ observation_text t (step_of epochs) of_other
