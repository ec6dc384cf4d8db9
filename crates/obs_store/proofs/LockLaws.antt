-- Where no stored digit is odd, none of a satellite's is.
use Rattle.std.proofs.Common.{◌≡◌, ◌==◌, false, List, [], ◌∷◌, take, drop, Option, None, Some, slice_set}
use Rattle.std.specs.Prelude.{◌%◌}
use Rattle.std.specs.List.{All, list_any}
use Rattle.std.proofs.lemmas.Bool.{or_parts}
use Rattle.std.proofs.lemmas.List.Elements.{All-nil, All-cons, All-head, All-tail, All-set, All-take, All-drop, All-replicate}
use Rattle.obs_store.specs.declared.values.Value.{Value}
use Rattle.obs_store.specs.declared.values.SatObs.{SatObs}
use Rattle.obs_store.specs.declared.stored.StoredSat.{StoredSat}
use Rattle.obs_store.specs.declared.stored.StoredValue.{StoredValue}
use Rattle.obs_store.specs.Kinds.{slot_of, slot_count}
use Rattle.obs_store.specs.Missing.{missing_values}
use Rattle.obs_store.specs.Stored.{value_in, values_with, first_satellite, satellites_in}
use Rattle.obs_store.specs.Locks.{IsEvenLock, HaveEvenLocks}

abbrev IsStoredEven : StoredValue → Type 0
IsStoredEven v = (v.lock % 2 == 1) ≡ false

none_odd : (vs : List StoredValue) → list_any (λ v. v.lock % 2 == 1) vs ≡ false → All IsStoredEven vs
none_odd [] none = All-nil IsStoredEven
none_odd (v ∷ vs) none =
    let parts = or_parts (v.lock % 2 == 1) (list_any (λ (u : StoredValue). u.lock % 2 == 1) vs) none in
    All-cons IsStoredEven v vs parts.0 (none_odd vs parts.1)

-- values that are set one after another
even_with : (values : List (Option Value)) (vs : List StoredValue) → All IsEvenLock values → All IsStoredEven vs → All IsEvenLock (values_with values vs)
even_with values [] even all = even
even_with values (v ∷ vs) even all =
    even_with (slice_set values (slot_of v.kind) (Some (value_in v))) vs
    (All-set IsEvenLock values (slot_of v.kind) (Some (value_in v)) (All-head IsStoredEven v vs all) even) (All-tail IsStoredEven v vs all)

even_sats : (sats : List StoredSat) (values : List StoredValue) → All IsStoredEven values → HaveEvenLocks (satellites_in sats values)
even_sats [] values all = All-nil (λ (s : SatObs). All IsEvenLock s.values)
even_sats (s ∷ sats) values all =
    All-cons (λ (t : SatObs). All IsEvenLock t.values) (first_satellite s values) (satellites_in sats (drop s.count values))
    (even_with missing_values (take s.count values) (All-replicate IsEvenLock slot_count None tt) (All-take IsStoredEven s.count values all))
    (even_sats sats (drop s.count values) (All-drop IsStoredEven s.count values all))

pub none_lost : (sats : List StoredSat) (values : List StoredValue) → list_any (λ v. v.lock % 2 == 1) values ≡ false → HaveEvenLocks (satellites_in sats values)
none_lost sats values none = even_sats sats values (none_odd values none)
