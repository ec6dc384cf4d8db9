-- The satellites that stored values are read as.
use Rattle.std.proofs.Common.{◌≡◌, ◌≢◌, ⊎_elim, ℕ, ℤ, FitsSigned, true≢false, zero, suc, ◌+◌, ◌-◌, ◌<◌, ◌≤◌, ◌==◌, true, false, ◌||◌, List, [], ◌∷◌, ◌++◌, length, take, drop, get_or, refl, sym, ap, ◌∙◌, arith, Option, None, Some, length-append, length-take, find, replicate, slice_get, slice_index, slice_set, add-one}
use Rattle.std.specs.List.{list_any}
use Rattle.std.specs.Int.{w64, cast_signed, cast_unsigned, to_le_bytes}
use Rattle.std.proofs.Math.Facts.{Fits-lt-pow, Fits-of_z}
use Rattle.std.proofs.lemmas.Bool.{eq-eqb, or_parts, cases_eq}
use Rattle.std.proofs.lemmas.Int.{to_z-of_z}
use Rattle.std.proofs.lemmas.Nat.{from_le_bytes-to_le_bytes_8}
use Rattle.std.proofs.lemmas.List.Elements.{All-push}
use Rattle.std.proofs.lemmas.List.Quantifiers.{all_pairs_push}
use Rattle.std.proofs.Math.Seq.{take-length, drop-nil}
use Rattle.std.proofs.lemmas.List.Sums.{sum_by-append, sum_by-cons, sum_by_more, sum_by_more_le}
use Rattle.std.proofs.lemmas.List.{take-append-le, drop-append-le, append-nil, drop_more, length-drop, length-set, take_more, get_or-set_same, get_or-set_other, set-get_or}
use Rattle.obs_store.specs.declared.values.Value.{Value}
use Rattle.obs_store.specs.declared.values.SatObs.{SatObs}
use Rattle.obs_store.specs.declared.stored.StoredSat.{StoredSat}
use Rattle.obs_store.specs.declared.stored.StoredValue.{StoredValue}
use Rattle.obs_store.specs.declared.kinds.ObsType.{ObsType}
use Rattle.obs_store.specs.Kinds.{slot_of, slot_count, kept_types}
use Rattle.obs_store.specs.Satellites.{has_satellite, IsNumber, AreSatellites}
use Rattle.obs_store.specs.Seen.{numbers_of}
use Rattle.obs_store.specs.Missing.{missing_values}
use Rattle.obs_store.specs.Stored.{amount_in, value_in, values_with, first_satellite, satellites_in, count_of, AreStored, AreStoredBehind}

-- values that are set one after another
pub values_with-append : (values : List (Option Value)) (xs ys : List StoredValue) → values_with values (xs ++ ys) ≡ values_with (values_with values xs) ys
values_with-append values [] ys = refl
values_with-append values (x ∷ xs) ys = values_with-append (slice_set values (slot_of x.kind) (Some (value_in x))) xs ys

pub as_many_stored : (sats : List StoredSat) (values : List StoredValue) → length (satellites_in sats values) ≡ length sats
as_many_stored [] values = refl
as_many_stored (s ∷ sats) values = ap suc (as_many_stored sats (drop s.count values))

pub number_stored : (sats : List StoredSat) (values : List StoredValue) (k : ℕ) (d : StoredSat) → k < length sats → slice_index (numbers_of (satellites_in sats values)) k ≡ (get_or sats k d).number
number_stored [] values k d inside = absurd (omega arith)
number_stored (s ∷ sats) values zero d inside = refl
number_stored (s ∷ sats) values (suc k) d inside = number_stored sats (drop s.count values) k d (omega arith)

pub has_stored : (number : ℕ) (sats : List StoredSat) (values : List StoredValue) → list_any (λ s. number == s.number) sats ≡ has_satellite number (satellites_in sats values)
has_stored number [] values = refl
has_stored number (s ∷ sats) values = ap (λ b. (number == s.number) || b) (has_stored number sats (drop s.count values))

drop_drop : (m n : ℕ) (values : List StoredValue) → drop n (drop m values) ≡ drop (m + n) values
drop_drop zero n values = let same : n ≡ 0 + n = omega arith in ap (λ k. drop k values) same
drop_drop (suc m) n [] = drop-nil n ∙ sym (drop-nil (suc m + n))
drop_drop (suc m) n (v ∷ values) = let same : suc (m + n) ≡ suc m + n = omega arith in drop_drop m n values ∙ ap (λ k. drop k (v ∷ values)) same

tail_is : (first : ℕ) (values : List StoredValue) → take (length values - first) (drop first values) ≡ drop first values
tail_is first values = ap (λ n. take n (drop first values)) (sym (length-drop first values)) ∙ take-length (drop first values)

count_of-cons : (s : StoredSat) (sats : List StoredSat) → count_of (s ∷ sats) ≡ s.count + count_of sats
count_of-cons s sats = sum_by-cons (λ (t : StoredSat). t.count) s sats

-- one satellite more, whose values stand after the others
pub satellites_in-push : (sats : List StoredSat) (values added : List StoredValue) (s : StoredSat) → count_of sats ≡ length values → length added ≡ s.count
    → satellites_in (sats ++ s ∷ []) (values ++ added) ≡ satellites_in sats values ++ first_satellite s added ∷ []
satellites_in-push [] [] added s all more = refl
satellites_in-push [] (v ∷ values) added s all more = absurd (omega arith)
satellites_in-push (t ∷ sats) values added s all more =
    let few : t.count ≤ length values = omega (arith, count_of-cons t sats, all) in
    let rest : count_of sats ≡ length (drop t.count values) = simp length-drop (omega (arith, count_of-cons t sats, all)) in
    rw (take-append-le t.count values added few, drop-append-le t.count values added few)
    (ap (λ l. first_satellite t values ∷ l) (satellites_in-push sats (drop t.count values) added s rest more))

-- no number of these is that one
none_of : (n : ℕ) (sats : List SatObs) → has_satellite n sats ≡ false → (k : ℕ) (d : SatObs) → k < length sats → (get_or sats k d).number ≡ n → ⊥
none_of n [] none k d inside same = absurd (omega arith)
none_of n (s ∷ sats) none zero d inside same = absurd (true≢false (sym (eq-eqb n s.number (sym same)) ∙ (or_parts _ _ none).0))
none_of n (s ∷ sats) none (suc k) d inside same = none_of n sats (or_parts _ _ none).1 k d (omega arith) same

pub satellites_push : (sats : List SatObs) (s : SatObs) → AreSatellites sats → 1 ≤ s.number → s.number ≤ 36 → has_satellite s.number sats ≡ false → AreSatellites (sats ++ s ∷ [])
satellites_push sats s are from to fresh = record {
  numbers = All-push IsNumber sats s are.numbers (from, to);
  once = all_pairs_push (λ (t u : SatObs). t.number ≢ u.number) sats s are.once (none_of s.number sats fresh);
}

-- what is stored after others is read after them
pub stored_push : (sats sats' : List StoredSat) (values values' : List StoredValue) (s : SatObs) (count : ℕ) → count_of sats ≡ length values
    → sats' ≡ sats ++ record { number = s.number; count = count } ∷ [] → AreStoredBehind values values' count s.values → satellites_in sats' values' ≡ satellites_in sats values ++ s ∷ []
stored_push sats sats' values values' s count all is stored =
    let stored_sat : StoredSat = record { number = s.number; count = count } in
    let whole : take count stored.added ≡ stored.added = ap (λ n. take n stored.added) (sym stored.as_many) ∙ take-length stored.added in
    let same : first_satellite stored_sat stored.added ≡ s =
    ap (λ (l : List (Option Value)). let sat : SatObs = record { number = s.number; values = l } in sat)
    (ap (values_with missing_values) whole ∙ stored.values_are) in
    rw (is, stored.new_are) (satellites_in-push sats values stored.added stored_sat all stored.as_many ∙ ap (λ (o : SatObs). satellites_in sats values ++ o ∷ []) same)

pub are_stored_push : (sats sats' : List StoredSat) (values values' : List StoredValue) (s : SatObs) (count : ℕ) → AreStored sats values
    → sats' ≡ sats ++ record { number = s.number; count = count } ∷ [] → AreStoredBehind values values' count s.values
    → 1 ≤ s.number → s.number ≤ 36 → has_satellite s.number (satellites_in sats values) ≡ false → AreStored sats' values'
are_stored_push sats sats' values values' s count are is stored from to fresh =
    let stored_sat : StoredSat = record { number = s.number; count = count } in
    let one : count_of (stored_sat ∷ []) ≡ count + 0 = count_of-cons stored_sat [] in
    let more : count_of (sats ++ stored_sat ∷ []) ≡ count_of sats + count_of (stored_sat ∷ []) = sum_by-append (λ (u : StoredSat). u.count) sats (stored_sat ∷ []) in
    record {
      all = rw (is, stored.new_are) (omega (arith, are.all, one, more, length-append values stored.added, stored.as_many));
      satellites = rw (stored_push sats sats' values values' s count are.all is stored) (satellites_push (satellites_in sats values) s are.satellites from to fresh);
    }

-- ---- one satellite among them

pub get_stored : (sats : List StoredSat) (values : List StoredValue) (k : ℕ) (d : StoredSat) → k < length sats
    → slice_get (satellites_in sats values) k ≡ Some (first_satellite (get_or sats k d) (drop (count_of (take k sats)) values))
get_stored [] values k d inside = absurd (omega arith)
get_stored (s ∷ sats) values zero d inside = refl
get_stored (s ∷ sats) values (suc k) d inside =
    get_stored sats (drop s.count values) k d (omega arith)
    ∙ ap (λ l. Some (first_satellite (get_or sats k d) l)) (drop_drop s.count (count_of (take k sats)) values)
    ∙ ap (λ n. Some (first_satellite (get_or sats k d) (drop n values))) (sym (count_of-cons s (take k sats)))

-- its values are among those that are stored
pub stored_inside : (sats : List StoredSat) (values : List StoredValue) (k first : ℕ) (d : StoredSat) → k < length sats → count_of sats ≡ length values → first ≡ count_of (take k sats)
    → (get_or sats k d).count ≤ length (take (length values - first) (drop first values))
stored_inside sats values k first d inside all is = simp (length-take, length-drop) (omega (arith, sum_by_more_le (λ (s : StoredSat). s.count) sats k d inside))

-- it is read from them
pub read_stored : (sats : List StoredSat) (values : List StoredValue) (k first : ℕ) (d : StoredSat) (s : SatObs) → k < length sats → first ≡ count_of (take k sats)
    → s ≡ first_satellite (get_or sats k d) (take (length values - first) (drop first values)) → slice_get (satellites_in sats values) k ≡ Some s
read_stored sats values k first d s inside is read =
    get_stored sats values k d inside
    ∙ ap (λ n. Some (first_satellite (get_or sats k d) (drop n values))) (sym is)
    ∙ ap (λ l. Some (first_satellite (get_or sats k d) l)) (sym (tail_is first values))
    ∙ ap (λ (t : SatObs). Some t) (sym read)

pub count_more : (sats : List StoredSat) (k first : ℕ) (d : StoredSat) → k < length sats → first ≡ count_of (take k sats) → first + (get_or sats k d).count ≡ count_of (take (k + 1) sats)
count_more sats k first d inside is = omega (arith, sum_by_more (λ (s : StoredSat). s.count) sats k d inside)

-- a search that has passed k of them
abbrev pub find_from : ℕ → List StoredSat → List StoredValue → Option SatObs
find_from number sats values = find (λ s. s.number == number) (satellites_in sats values)

pub found_here : (number k first : ℕ) (sats : List StoredSat) (values : List StoredValue) (d : StoredSat) → k < length sats → ((get_or sats k d).number == number) ≡ true
    → find_from number (drop k sats) (drop first values) ≡ Some (first_satellite (get_or sats k d) (drop first values))
found_here number k first sats values d inside is = rw (drop_more sats k d inside, is) refl

pub found_later : (number k first : ℕ) (sats : List StoredSat) (values : List StoredValue) (d : StoredSat) → k < length sats → ((get_or sats k d).number == number) ≡ false
    → find_from number (drop k sats) (drop first values) ≡ find_from number (drop (k + 1) sats) (drop (first + (get_or sats k d).count) values)
found_later number k first sats values d inside is =
    rw (drop_more sats k d inside, is) (ap (λ l. find_from number (drop (k + 1) sats) l) (drop_drop first (get_or sats k d).count values))

-- ---- the values of one satellite

-- an amount is read as it was stored
pub amount_stored : (z : ℤ) → FitsSigned w64 z → amount_in (to_le_bytes w64 (cast_unsigned w64 z)) ≡ z
amount_stored z fits = ap (cast_signed w64) (from_le_bytes-to_le_bytes_8 (cast_unsigned w64 z) (Fits-lt-pow (Fits-of_z fits))) ∙ to_z-of_z w64 z fits

length_with : (values : List (Option Value)) (vs : List StoredValue) → length (values_with values vs) ≡ length values
length_with values [] = refl
length_with values (v ∷ vs) =
    length_with (slice_set values (slot_of v.kind) (Some (value_in v))) vs ∙ length-set values (slot_of v.kind) (Some (value_in v))

-- with one stored value more the value in a slot is that one, if it belongs there
value_put : (xs : List StoredValue) (k slot : ℕ) (d : StoredValue) → k < length xs → slot < slot_count → slot_of (get_or xs k d).kind ≡ slot
    → Some (value_in (get_or xs k d)) ≡ get_or (values_with missing_values (take (k + 1) xs)) slot None
value_put xs k slot d inside small same =
    let before : List (Option Value) = values_with missing_values (take k xs) in
    let many : length before ≡ slot_count = length_with missing_values (take k xs) in
    rw (take_more xs k d inside, values_with-append missing_values (take k xs) (get_or xs k d ∷ []), same)
    (sym (get_or-set_same before slot (Some (value_in (get_or xs k d))) None (omega (arith, many, small))))

-- and else the same as before
value_kept : (xs : List StoredValue) (k slot : ℕ) (d : StoredValue) → k < length xs → slot_of (get_or xs k d).kind ≢ slot
    → get_or (values_with missing_values (take k xs)) slot None ≡ get_or (values_with missing_values (take (k + 1) xs)) slot None
value_kept xs k slot d inside other =
    rw (take_more xs k d inside, values_with-append missing_values (take k xs) (get_or xs k d ∷ []))
    (sym (get_or-set_other (values_with missing_values (take k xs)) (slot_of (get_or xs k d).kind) slot (Some (value_in (get_or xs k d))) None (λ e. other (sym e))))

missing_at : (n k : ℕ) → get_or (let values : List (Option Value) = replicate n None in values) k None ≡ None
missing_at zero k = refl
missing_at (suc n) zero = refl
missing_at (suc n) (suc k) = missing_at n k

pub none_yet : (xs : List StoredValue) (slot : ℕ) → None ≡ get_or (values_with missing_values (take 0 xs)) slot None
none_yet xs slot = sym (missing_at slot_count slot)

pub value_next : (xs : List StoredValue) (k slot : ℕ) (d : StoredValue) (found next : Option Value) → k < length xs → slot < slot_count
    → found ≡ get_or (values_with missing_values (take k xs)) slot None
    → (slot_of (get_or xs k d).kind ≡ slot → next ≡ Some (value_in (get_or xs k d))) → (slot_of (get_or xs k d).kind ≢ slot → next ≡ found)
    → next ≡ get_or (values_with missing_values (take (k + 1) xs)) slot None
value_next xs k slot d found next inside small before put kept = ⊎_elim
    (λ same. put same ∙ value_put xs k slot d inside small same)
    (λ other. kept other ∙ before ∙ value_kept xs k slot d inside other) (cases_eq (slot_of (get_or xs k d).kind) slot)

-- types whose slots are the numbers from n on
abbrev AreFrom : ℕ → List ObsType → Type 0
AreFrom n [] = Unit {0}
AreFrom n (kind ∷ kinds) = (slot_of kind ≡ n) × AreFrom (n + 1) kinds

slot_from : (n : ℕ) (kinds : List ObsType) (k : ℕ) (d : ObsType) → AreFrom n kinds → k < length kinds → slot_of (get_or kinds k d) ≡ n + k
slot_from n [] k d are inside = absurd (omega arith)
slot_from n (kind ∷ kinds) zero d are inside = omega (arith, are.0)
slot_from n (kind ∷ kinds) (suc k) d are inside = omega (arith, slot_from (n + 1) kinds k d are.1 (omega arith))

pub slot_at : (k : ℕ) (d : ObsType) → k < slot_count → slot_of (get_or kept_types k d) ≡ k
slot_at k d inside =
    let slot_is : slot_of (get_or kept_types k d) ≡ 0 + k =
    slot_from 0 kept_types k d (
      refl,
      (
        refl,
        (
          refl,
          (
            refl,
            (
              refl,
              (
                refl,
                (
                  refl,
                  (
                    refl,
                    (
                      refl,
                      (
                        refl,
                        (
                          refl,
                          (
                            refl,
                            (refl, (refl, (refl, (refl, (refl, (refl, (refl, (refl, (refl, (refl, (refl, (refl, (refl, (refl, tt)))))))))))))),
                          ),
                        ),
                      ),
                    ),
                  ),
                ),
              ),
            ),
          ),
        ),
      ),
    ) inside in
    omega (arith, slot_is)

-- the first k values, and none in the others' places
pub first_values : ℕ → ℕ → List (Option Value) → List (Option Value)
first_values k left values = take k values ++ replicate left None

pub first_set : (k left : ℕ) (values : List (Option Value)) (v d : Option Value) → k + suc left ≡ length values → get_or values k d ≡ v
    → slice_set (first_values k (suc left) values) k v ≡ first_values (suc k) left values
unfolding first_values
first_set k left [] v d all is = absurd (omega arith)
first_set zero left (x ∷ values) v d all is = rw (← is) refl
first_set (suc k) left (x ∷ values) v d all is = ap (λ l. x ∷ l) (first_set k left values v d (omega arith) is)

pub first_missing : (k left : ℕ) (values : List (Option Value)) (d : Option Value) → k + suc left ≡ length values → get_or values k d ≡ None
    → first_values k (suc left) values ≡ first_values (suc k) left values
unfolding first_values
first_missing k left [] d all is = absurd (omega arith)
first_missing zero left (x ∷ values) d all is = rw is refl
first_missing (suc k) left (x ∷ values) d all is = ap (λ l. x ∷ l) (first_missing k left values d (omega arith) is)

pub all_values : (k : ℕ) (values : List (Option Value)) → k ≡ length values → first_values k 0 values ≡ values
unfolding first_values
all_values k values is = rw is (append-nil (take (length values) values) ∙ take-length values)

-- ---- storing them one by one

-- the values so far of all slots
abbrev pub so_many : ℕ → List (Option Value) → List (Option Value)
so_many k values = first_values k (slot_count - k) values

pub none_stored : (values : List (Option Value)) → values_with missing_values [] ≡ so_many 0 values
unfolding first_values
none_stored values = refl

pub stored_some : (now new : List StoredValue) (k : ℕ) (values : List (Option Value)) (v : StoredValue) (d : Option Value) → values_with missing_values now ≡ so_many k values
    → k < slot_count → length values ≡ slot_count → new ≡ now ++ v ∷ [] → slot_of v.kind ≡ k → get_or values k d ≡ Some (value_in v) → values_with missing_values new ≡ so_many (k + 1) values
stored_some now new k values v d stored inside all is slot value =
    rw is (values_with-append missing_values now (v ∷ [])) ∙ ap (λ l. slice_set l (slot_of v.kind) (Some (value_in v))) stored ∙ one_set
  where
    before : 26 - k ≡ suc (25 - k)
    before = omega arith

    behind : 26 - (k + 1) ≡ 25 - k
    behind = omega arith

    one_set : slice_set (so_many k values) (slot_of v.kind) (Some (value_in v)) ≡ so_many (k + 1) values
    one_set = rw (slot, before, behind, add-one) (first_set k (25 - k) values (Some (value_in v)) d (omega arith) value)

pub stored_none : (now : List StoredValue) (k : ℕ) (values : List (Option Value)) (d : Option Value) → values_with missing_values now ≡ so_many k values
    → k < slot_count → length values ≡ slot_count → get_or values k d ≡ None → values_with missing_values now ≡ so_many (k + 1) values
stored_none now k values d stored inside all value =
    stored ∙ rw (before, behind, add-one) (first_missing k (25 - k) values d (omega arith) value)
  where
    before : 26 - k ≡ suc (25 - k)
    before = omega arith

    behind : 26 - (k + 1) ≡ 25 - k
    behind = omega arith

pub all_stored : (now : List StoredValue) (k : ℕ) (values : List (Option Value)) → values_with missing_values now ≡ so_many k values → k ≡ slot_count
    → length values ≡ slot_count → values_with missing_values now ≡ values
all_stored now k values stored is all = stored ∙ rw is (all_values 26 values (sym all))

-- one value is set

pub set_some : (now new : List StoredValue) (v : StoredValue) (kind : ObsType) (value : Value) → new ≡ now ++ v ∷ [] → v.kind ≡ kind → value_in v ≡ value
    → values_with missing_values new ≡ slice_set (values_with missing_values now) (slot_of kind) (Some value)
set_some now new v kind value is same there =
    let values : List (Option Value) = values_with missing_values now in
    rw is (values_with-append missing_values now (v ∷ []))
    ∙ ap (λ (k : ObsType). slice_set values (slot_of k) (Some (value_in v))) same
    ∙ ap (λ (x : Value). slice_set values (slot_of kind) (Some x)) there

other_slot : (values : List (Option Value)) (vs : List StoredValue) (slot : ℕ) → list_any (λ v. slot_of v.kind == slot) vs ≡ false
    → get_or (values_with values vs) slot None ≡ get_or values slot None
other_slot values [] slot none = refl
other_slot values (v ∷ vs) slot none =
    let parts = or_parts _ _ none in
    let other : slot ≢ slot_of v.kind = λ e. true≢false (sym (eq-eqb (slot_of v.kind) slot (sym e)) ∙ parts.0) in
    other_slot (slice_set values (slot_of v.kind) (Some (value_in v))) vs slot parts.1 ∙ get_or-set_other values (slot_of v.kind) slot (Some (value_in v)) None other

pub set_none : (now : List StoredValue) (kind : ObsType) → list_any (λ v. slot_of v.kind == slot_of kind) now ≡ false
    → values_with missing_values now ≡ slice_set (values_with missing_values now) (slot_of kind) None
set_none now kind none =
    let values : List (Option Value) = values_with missing_values now in
    let missing : get_or values (slot_of kind) None ≡ None = other_slot missing_values now (slot_of kind) none ∙ missing_at slot_count (slot_of kind) in
    sym (ap (λ (x : Option Value). slice_set values (slot_of kind) x) (sym missing) ∙ set-get_or values (slot_of kind) None)
