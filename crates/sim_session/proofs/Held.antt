-- What is said of one list or number, said of an equal one.
use Rattle.std.proofs.Common.{◌≡◌, ℕ, zero, suc, ◌+◌, List, [], ◌∷◌, length, ℤ, All, refl, ap, ◌∙◌, add-one}
use Rattle.std.proofs.lemmas.List.{length_push}
use Rattle.std.proofs.lemmas.List.Elements.{All-nil, All-cons}
use Rattle.eph_store.specs.declared.ephemeris.Eph.{Eph}
use Rattle.sim_session.specs.Values.{first_of}
use Rattle.orbit_model.specs.Elements.{Constants}
use Rattle.sim_session.specs.declared.signals.Signals.{Signals}
use Rattle.sim_session.specs.declared.signals.Tracking.{Tracking}
use Rattle.sim_session.specs.Satellites.{AreSatellites}
use Rattle.sim_session.specs.Observed.{IsObserved}
use Rattle.sim_session.specs.Limits.{IsOnTime}
use Rattle.sim_session.specs.Observations.{IsObservationText}

pub observed_is : (world : Constants) (tag : ℕ) (point : List ℤ) (clock : ℤ) (eph given : Eph) (cycles taken : List ℤ) (s : Signals) → eph ≡ given → cycles ≡ taken →
    IsObserved world tag point clock eph cycles s → IsObserved world tag point clock given taken s
observed_is world tag point clock eph given cycles taken s e f is = rw (← e, ← f) is

pub on_time : (system k : ℕ) (es : List Eph) → AreSatellites system k es → All IsOnTime es
on_time system k [] h = All-nil IsOnTime
on_time system k (e ∷ es) h = All-cons IsOnTime e es h.0.toe (on_time system (k + 1) es h.2)

pub length-first_of : (f : ℕ → List ℤ) (n : ℕ) → length (first_of f n) ≡ n
length-first_of f zero = refl
length-first_of f (suc n) = length_push (first_of f n) (f n) ∙ ap (λ (m : ℕ). m + 1) (length-first_of f n) ∙ add-one n

pub text_along : (epochs : ℕ) (t u : Tracking) (v w : Constants) (p q : List ℤ) (k l : ℤ) (es fs : List Eph) (cs ds : List (List ℤ)) (text : List ℕ) →
    t ≡ u → v ≡ w → p ≡ q → k ≡ l → es ≡ fs → cs ≡ ds →
    IsObservationText epochs t v p k es cs text → IsObservationText epochs u w q l fs ds text
text_along epochs t u v w p q k l es fs cs ds text a b e f g h is = rw (← a, ← b, ← e, ← f, ← g, ← h) is
