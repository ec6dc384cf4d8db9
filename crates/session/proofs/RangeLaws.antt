-- The arcs of a run that goes on are those of a session.
use Rattle.std.proofs.Common.{◌≡◌, ℕ, zero, suc, ◌+◌, ◌<◌, ◌≤◌, ◌^◌, ◌⊎◌, inl, inr, ⊎_elim, true, false, Bool, cond, nat_eq, List, [], ◌∷◌, length, get_or, Some, All, arith, sym, ap, ◌∙◌, refl, subst}
use Rattle.std.specs.Prelude.{slice_get, is_some, find, ◌==◌, ◌&&◌, nat_le, pos}
use Rattle.std.proofs.lemmas.Option.{slice_get-get_or, slice_get_within, get_or_from_slice_get}
use Rattle.std.proofs.lemmas.Bool.Decides.{nat_tests}
use Rattle.std.proofs.lemmas.Bool.{false≢true, and_from, le-leb, eqb-true}
use Rattle.std.proofs.lemmas.List.Sums.{sum_by-cons}
use Rattle.obs_rows.specs.declared.arcs.Arc.{Arc}
use Rattle.obs_rows.specs.Ranges.{IsBelow}
use Rattle.obs_rows.specs.declared.units.TheConstants.{MOST_FREE_ARCS}
use Rattle.obs_rows.specs.CountedSignals.{phase_bands}
use Rattle.obs_rows.specs.Unused.{IsZeroOff, HasUsedShifts}
use Rattle.obs_rows.specs.Arcs.{free_count, IsArcInRange, AreArcs}
use Rattle.obs_rows.specs.declared.used.UsedSat.{UsedSat}
use Rattle.obs_rows.specs.declared.used.UsedPair.{UsedPair}
use Rattle.obs_rows.specs.declared.limits.TheConstants.{MOST_PAIRS, MOST_ARCS}
use Rattle.slip_arcs.specs.Used.{entry_in, is_used}
use Rattle.slip_arcs.specs.Runs.{IsArc, run_of}
use Rattle.slip_arcs.specs.Linked.{AreNeighbours, IsCutOf}
use Rattle.slip_arcs.proofs.Kept.{kept_each}
use Rattle.screening.specs.Entries.{IsSatNumber, AreNumbered}
use Rattle.row_build.specs.HeldArcs.{holds_pair}
use Rattle.row_build.proofs.ArcLaws.{held_ends}
use Rattle.round_steps.specs.Shifts.{AreSameArcs, AreShiftsBelow, without_shifts}
use Rattle.round_steps.specs.Counts.{holds, held, AreFew, AreMany}
use Rattle.round_steps.proofs.ShiftLaws.{length_same, free_same, three_below}
use Rattle.session.proofs.CutLaws.{Like, like, later_is_free}

-- ---- the numbers of satellites
sat_numbered : (sats : List UsedSat) (sat : ℕ) → All (λ u. IsSatNumber u.sat) sats → is_some (entry_in sats sat) ≡ true → IsSatNumber sat
sat_numbered [] sat h e = absurd (false≢true e)
sat_numbered (u ∷ us) sat h e = go (nat_eq u.sat sat) refl (λ r. sat_numbered us sat (λ k d i. h (suc k) d (omega arith)) r) e
  where
    go : (b : Bool) → nat_eq u.sat sat ≡ b → (is_some (entry_in us sat) ≡ true → IsSatNumber sat) → is_some (cond b (Some u) (find (λ (v : UsedSat). v.sat == sat) us)) ≡ true → IsSatNumber sat
    go true q ih r = subst IsSatNumber (eqb-true _ _ q) (h 0 u (omega arith))
    go false q ih r = ih r

record IsUsedWell (used : List UsedPair) (sat i : ℕ) : Type 0 where
  number : IsSatNumber sat
  inside : i < length used

used_well : (used : List UsedPair) (sat i : ℕ) → All AreNumbered used → is_used used sat i ≡ true → IsUsedWell used sat i
used_well [] sat i h e = absurd (false≢true e)
used_well (p ∷ ps) sat zero h e = record { number = sat_numbered p.sats.items sat (h 0 p (omega arith)) e; inside = omega arith }
used_well (p ∷ ps) sat (suc i) h e =
    let rest_used_well : IsUsedWell ps sat i = used_well ps sat i (λ k d j. h (suc k) d (omega arith)) e in
    let inside_rest : i < length ps = rest_used_well.inside in
    record { number = rest_used_well.number; inside = omega arith }

arc_in_range : (used : List UsedPair) (kept : List Arc) → IsCutOf used kept → length used ≤ MOST_PAIRS → All AreNumbered used → (k : ℕ) (a : Arc)
    → slice_get kept k ≡ Some a → All (IsBelow (2 ^ 40)) a.shift → IsArcInRange a
arc_in_range used kept c few numbered k a is shifts =
    let is_arc : IsArc c.bands c.jump used (run_of a) = (kept_each c.bands c.jump c.least used kept c.short k a c.kept is).0 in
    let is_used_well : IsUsedWell used a.sat a.last = used_well used a.sat a.last numbered (is_arc.run.used_in a.last is_arc.run.order (omega arith)) in
    record { sat_from = is_used_well.number.0; sat_to = is_used_well.number.1; order = is_arc.run.order; last_in = below a.last (length used) is_used_well.inside few; shifts_in = shifts }
  where
    below : (n m : ℕ) → n < m → m ≤ MOST_PAIRS → n < MOST_PAIRS
    below n m h g = omega arith

-- ---- a pair with four arcs
few_or : (n : ℕ) (arcs : List Arc) → AreFew n arcs ⊎ ((number : ℕ) × (4 ≤ held arcs number))
few_or zero arcs = inl (λ k h. absurd (omega arith))
few_or (suc n) arcs = ⊎_elim (λ (f : AreFew n arcs). one (held arcs n) refl f (compare (held arcs n))) (λ g. inr g) (few_or n arcs)
  where
    compare : (h : ℕ) → (h < 4) ⊎ (4 ≤ h)
    compare h = grind arith

    split : (k : ℕ) → k < suc n → (k < n) ⊎ (k ≡ n)
    split k h = grind arith

    one : (h : ℕ) → held arcs n ≡ h → AreFew n arcs → (h < 4) ⊎ (4 ≤ h) → AreFew (suc n) arcs ⊎ ((number : ℕ) × (4 ≤ held arcs number))
    one h e f (inl l) = inl (λ k i. ⊎_elim (λ (j : k < n). f k j) (λ (q : k ≡ n). subst (λ (m : ℕ). held arcs m < 4) (sym q) (subst (λ (m : ℕ). m < 4) (sym e) l)) (split k i))
    one h e f (inr g) = inr (n, subst (λ (m : ℕ). 4 ≤ m) (sym e) g)

some_pair : (n : ℕ) (arcs : List Arc) → (AreFew n arcs → ⊥) → (number : ℕ) × (4 ≤ held arcs number)
some_pair n arcs h = ⊎_elim (λ (f : AreFew n arcs). absurd (h f)) (λ g. g) (few_or n arcs)

record Holder (arcs : List Arc) (number : ℕ) : Type 0 where
  place : ℕ
  arc : Arc
  arc_is : slice_get arcs place ≡ Some arc
  holds_it : holds number arc ≡ true

pub with_first : (x : Arc) (xs : List Arc) (number : ℕ) → held (x ∷ xs) number ≡ cond (holds number x) 1 0 + held xs number
with_first x xs number = sum_by-cons (λ (a : Arc). cond (holds number a) 1 0) x xs

abbrev later_holder : (x : Arc) (xs : List Arc) (number : ℕ) → Holder xs number → Holder (x ∷ xs) number
later_holder x xs number h = record { place = suc h.place; arc = h.arc; arc_is = h.arc_is; holds_it = h.holds_it }

one_holder : (arcs : List Arc) (number : ℕ) → 1 ≤ held arcs number → Holder arcs number
one_holder [] number h = absurd (omega arith)
one_holder (x ∷ xs) number h = go (holds number x) refl (λ l. one_holder xs number l)
  where
    less : (n m : ℕ) → n ≡ 0 + m → 1 ≤ n → 1 ≤ m
    less n m e g = omega arith

    go : (b : Bool) → holds number x ≡ b → (1 ≤ held xs number → Holder xs number) → Holder (x ∷ xs) number
    go true e ih = record { place = 0; arc = x; arc_is = refl; holds_it = e }
    go false e ih = later_holder x xs number (ih (less (held (x ∷ xs) number) (held xs number) (with_first x xs number ∙ ap (λ (b : Bool). cond b 1 0 + held xs number) e) h))

record TwoHolders (arcs : List Arc) (number : ℕ) : Type 0 where
  first : Holder arcs number
  second : Holder arcs number
  order : first.place < second.place

two_holders : (arcs : List Arc) (number : ℕ) → 2 ≤ held arcs number → TwoHolders arcs number
two_holders [] number h = absurd (omega arith)
two_holders (x ∷ xs) number h = go (holds number x) refl (λ l. two_holders xs number l)
  where
    less : (n m : ℕ) → n ≡ 0 + m → 2 ≤ n → 2 ≤ m
    less n m e g = omega arith

    one_less : (n m : ℕ) → n ≡ 1 + m → 2 ≤ n → 1 ≤ m
    one_less n m e g = omega arith

    positive : (n : ℕ) → 0 < suc n
    positive n = omega arith

    both_more : (a b : ℕ) → a < b → suc a < suc b
    both_more a b h = omega arith

    total : (b : Bool) → holds number x ≡ b → held (x ∷ xs) number ≡ cond b 1 0 + held xs number
    total b e = with_first x xs number ∙ ap (λ (b : Bool). cond b 1 0 + held xs number) e

    go : (b : Bool) → holds number x ≡ b → (2 ≤ held xs number → TwoHolders xs number) → TwoHolders (x ∷ xs) number
    go true e ih = record {
      first = record { place = 0; arc = x; arc_is = refl; holds_it = e };
      second = later_holder x xs number (one_holder xs number (one_less (held (x ∷ xs) number) (held xs number) (total true e) h));
      order = positive (one_holder xs number (one_less (held (x ∷ xs) number) (held xs number) (total true e) h)).place;
    }
    go false e ih =
        let rest_holders : TwoHolders xs number = ih (less (held (x ∷ xs) number) (held xs number) (total false e) h) in
        record { first = later_holder x xs number rest_holders.first; second = later_holder x xs number rest_holders.second; order = both_more rest_holders.first.place rest_holders.second.place rest_holders.order }

neighbours : (arcs : List Arc) (number : ℕ) (t : TwoHolders arcs number) → AreNeighbours arcs t.second.place t.first.place
neighbours arcs number t =
    let second_within_ends = held_ends t.second.arc number t.second.holds_it in
    let first_within_ends = held_ends t.first.arc number t.first.holds_it in
    record { one = t.second.arc; other = t.first.arc; one_is = t.second.arc_is; other_is = t.first.arc_is; share = (number, second_within_ends.0, second_within_ends.1, first_within_ends.0, first_within_ends.1) }

-- ---- the arcs of a session
pub able : (used : List UsedPair) (kept : List Arc) (taken : ℕ) → IsCutOf used kept → length used ≤ MOST_PAIRS → All AreNumbered used
    → AreShiftsBelow (2 ^ 40) kept → (AreFew taken kept → ⊥) → (AreMany kept → ⊥) → AreArcs kept
able used kept taken c few numbered shifts not_few not_many =
    let pair_held : (number : ℕ) × (4 ≤ held kept number) = some_pair taken kept not_few in
    let holders : TwoHolders kept pair_held.0 = two_holders kept pair_held.0 (half (held kept pair_held.0) pair_held.1) in
    record {
      some = two holders.first.place holders.second.place (length kept) holders.order (slice_get_within kept holders.second.place holders.second.arc holders.second.arc_is);
      few = most (length kept) MOST_ARCS (λ h. not_many (inr h));
      some_free = later_is_free kept holders.first.place holders.second.place holders.order c.datums (neighbours kept pair_held.0 holders);
      few_free = most (free_count kept) MOST_FREE_ARCS (λ h. not_many (inl h));
      ranges = λ k d i. arc_in_range used kept c few numbered k (get_or kept k d) (slice_get-get_or kept k d i) (shifts k d i);
    }
  where
    half : (n : ℕ) → 4 ≤ n → 2 ≤ n
    half n h = omega arith

    two : (k m n : ℕ) → k < m → m < n → 2 ≤ n
    two k m n h g = omega arith

    most : (n m : ℕ) → (m < n → ⊥) → n ≤ m
    most n m h = grind arith

in_range_along : (a b : Arc) → without_shifts b ≡ without_shifts a → IsArcInRange a → All (IsBelow (2 ^ 40)) b.shift → IsArcInRange b
in_range_along a b e r s =
    let sat : a.sat ≡ b.sat = sym (ap (λ (x : Arc). x.sat) e) in
    let first : a.first ≡ b.first = sym (ap (λ (x : Arc). x.first) e) in
    let last : a.last ≡ b.last = sym (ap (λ (x : Arc). x.last) e) in
    record {
      sat_from = subst (λ (n : ℕ). 1 ≤ n) sat r.sat_from;
      sat_to = subst (λ (n : ℕ). n ≤ 36) sat r.sat_to;
      order = subst (λ (n : ℕ). n ≤ b.last) first (subst (λ (n : ℕ). a.first ≤ n) last r.order);
      last_in = subst (λ (n : ℕ). n < MOST_PAIRS) last r.last_in;
      shifts_in = s;
    }

-- shifts don't matter, but for their size
pub arcs_along : (xs ys : List Arc) → AreSameArcs xs ys → AreArcs xs → AreShiftsBelow (2 ^ 40) ys → AreArcs ys
arcs_along xs ys e h s = record {
  some = subst (λ (n : ℕ). 2 ≤ n) (sym (length_same xs ys e)) h.some;
  few = subst (λ (n : ℕ). n ≤ MOST_ARCS) (sym (length_same xs ys e)) h.few;
  some_free = subst (λ (n : ℕ). 1 ≤ n) (sym (free_same xs ys e)) h.some_free;
  few_free = subst (λ (n : ℕ). n ≤ MOST_FREE_ARCS) (sym (free_same xs ys e)) h.few_free;
  ranges = λ k d i.
      let like_arc : Like xs k (get_or ys k d) = like ys xs (sym e) k (get_or ys k d) (slice_get-get_or ys k d i) in
      in_range_along like_arc.arc (get_or ys k d) (sym like_arc.same) (subst IsArcInRange (at xs k like_arc.arc like_arc.arc_is) (h.ranges k like_arc.arc (slice_get_within xs k like_arc.arc like_arc.arc_is))) (s k d i);
}
  where
    at : (xs : List Arc) (k : ℕ) (a : Arc) → slice_get xs k ≡ Some a → get_or xs k a ≡ a
    at xs k a e = get_or_from_slice_get xs k a a e

-- an arc's first pair is one of the pairs
pub first_inside : (used : List UsedPair) (kept : List Arc) (k : ℕ) (a : Arc) → IsCutOf used kept → All AreNumbered used → slice_get kept k ≡ Some a → a.first < length used
first_inside used kept k a c numbered is =
    let is_arc : IsArc c.bands c.jump used (run_of a) = (kept_each c.bands c.jump c.least used kept c.short k a c.kept is).0 in
    let is_used_well : IsUsedWell used a.sat a.first = used_well used a.sat a.first numbered (is_arc.run.used_in a.first (omega arith) is_arc.run.order) in
    is_used_well.inside

low : (f : ℕ) → nat_le f f ≡ true
low f = grind (arith, nat_tests)

-- an arc holds its first pair
pub holds_first : (kept : List Arc) (k : ℕ) (a : Arc) → AreArcs kept → slice_get kept k ≡ Some a → holds_pair a a.first ≡ true
holds_first kept k a h is = ends a.first a.last (subst IsArcInRange (get_or_from_slice_get kept k a a is) (h.ranges k a (slice_get_within kept k a is))).order
  where
    ends : (f l : ℕ) → f ≤ l → (nat_le f f && nat_le f l) ≡ true
    ends f l h = and_from (nat_le f f) (nat_le f l) (low f) (le-leb f l h)

-- ---- arcs with no shifts
pub no_shifts : (kept : List Arc) → All (λ a. a.shift ≡ pos 0 ∷ pos 0 ∷ pos 0 ∷ []) kept → AreShiftsBelow (2 ^ 40) kept
no_shifts kept h k d i = subst (All (IsBelow (2 ^ 40))) (sym (h k d i)) (three_below (pos 0) (pos 0) (pos 0) (2 ^ 40) (omega arith) (omega arith) (omega arith))

zeros_off : (places : List ℕ) → IsZeroOff places (pos 0 ∷ pos 0 ∷ pos 0 ∷ [])
zeros_off places zero e = refl
zeros_off places (suc zero) e = refl
zeros_off places (suc (suc zero)) e = refl
zeros_off places (suc (suc (suc k))) e = refl

pub none_unused : (ss : List ℕ) (kept : List Arc) → All (λ a. a.shift ≡ pos 0 ∷ pos 0 ∷ pos 0 ∷ []) kept → All (HasUsedShifts ss) kept
none_unused ss kept h k d i = subst (IsZeroOff (phase_bands ss)) (sym (h k d i)) (zeros_off (phase_bands ss))
