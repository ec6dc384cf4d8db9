-- Where no satellite's digits are odd, no phase lost lock.
use Rattle.std.proofs.Common.{◌≡◌, ℕ, zero, suc, ◌<◌, ◌≤◌, ◌==◌, ◌&&◌, ◌||◌, Bool, true, false, refl, ap, ap₂, subst, arith, List, [], ◌∷◌, length, get_or, Option, None, Some, IfSome}
use Rattle.std.specs.Prelude.{find, slice_index_or}
use Rattle.std.specs.List.{All, list_any}
use Rattle.std.proofs.lemmas.List.Elements.{All-head, All-tail}
use Rattle.obs_rows.specs.Signals.{is_phase, fine_signals}
use Rattle.obs_store.specs.declared.values.Value.{Value}
use Rattle.obs_store.specs.declared.values.SatObs.{SatObs}
use Rattle.obs_store.specs.declared.series.Epoch.{Epoch}
use Rattle.obs_store.specs.declared.kinds.ObsType.{ObsType}
use Rattle.obs_store.specs.Kinds.{slot_of}
use Rattle.obs_store.specs.Locks.{IsEvenLock, HaveEvenLocks}
use Rattle.screening.specs.declared.amounts.SignalTypes.{SignalTypes}
use Rattle.screening.specs.Amounts.{value_in, value_of, sat_in}
use Rattle.screening.specs.Marks.{is_lost, is_phase_lost, lost_phase, lost_at}

abbrev HasEvenLocks : SatObs → Type 0
HasEvenLocks s = All IsEvenLock s.values

found_even : (p : SatObs → Bool) (sats : List SatObs) → HaveEvenLocks sats → IfSome (find p sats) HasEvenLocks
found_even p [] even = tt
found_even p (s ∷ sats) even = go (p s) refl (found_even p sats (All-tail HasEvenLocks s sats even))
  where
    go : (b : Bool) → p s ≡ b → IfSome (find p sats) HasEvenLocks → IfSome (find p (s ∷ sats)) HasEvenLocks
    go true is later = rw is (All-head HasEvenLocks s sats even)
    go false is later = rw is later

value_even : (values : List (Option Value)) (k : ℕ) → All IsEvenLock values → IsEvenLock (slice_index_or values k None)
value_even [] k even = tt
value_even (v ∷ values) zero even = All-head IsEvenLock v values even
value_even (v ∷ values) (suc k) even = value_even values k (All-tail IsEvenLock v values even)

even_is : (value : Option Value) → IsEvenLock value → is_lost value ≡ false
even_is None even = refl
even_is (Some v) even = even

kind_even : (sat : SatObs) (kind : Option ObsType) → HasEvenLocks sat → is_lost (value_in sat kind) ≡ false
kind_even sat None even = refl
kind_even sat (Some kind) even = even_is (slice_index_or sat.values (slot_of kind) None) (value_even sat.values (slot_of kind) even)

phase_even : (types : SignalTypes) (sat : SatObs) (s : ℕ) → HasEvenLocks sat → is_phase_lost types sat s ≡ false
phase_even types sat s even = go (is_phase s) (kind_even sat (slice_index_or types.kinds s None) even)
  where
    go : (b : Bool) → is_lost (value_of types sat s) ≡ false → (b && is_lost (value_of types sat s)) ≡ false
    go true is = is
    go false is = refl

any_even : (types : SignalTypes) (sat : SatObs) (ss : List ℕ) → HasEvenLocks sat → list_any (is_phase_lost types sat) ss ≡ false
any_even types sat [] even = refl
any_even types sat (s ∷ ss) even = ap₂ (λ x y. x || y) (phase_even types sat s even) (any_even types sat ss even)

sat_even : (types : SignalTypes) (sat : Option SatObs) → IfSome sat HasEvenLocks → lost_phase types sat ≡ false
sat_even types None even = refl
sat_even types (Some sat) even = any_even types sat (fine_signals types.signals) even

epoch_even : (types : SignalTypes) (number : ℕ) (e : Epoch) → HaveEvenLocks e.sats → list_any (lost_at types number) (e ∷ []) ≡ false
epoch_even types number e even = ap (λ x. x || false) (sat_even types (sat_in number e.sats) (found_even (λ s. s.number == number) e.sats even))

-- the one epoch of a list
pub only_even : (types : SignalTypes) (number : ℕ) (epochs : List Epoch) (only : Epoch) → 1 ≤ length epochs → length epochs < 2 → only ≡ get_or epochs 0 only → HaveEvenLocks only.sats
    → list_any (lost_at types number) epochs ≡ false
only_even types number [] only some few is even = refl
only_even types number (e ∷ []) only some few is even = epoch_even types number e (subst (λ (x : Epoch). HaveEvenLocks x.sats) is even)
only_even types number (e ∷ next ∷ epochs) only some few is even = absurd (omega (arith, few))
