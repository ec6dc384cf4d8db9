-- The used satellites of a pair, one number more.
use Rattle.std.proofs.Common.{◌≡◌, ℕ, zero, suc, ◌+◌, ◌<◌, ◌≤◌, ◌⊎◌, inl, inr, ⊎_elim, Bool, false, ◌||◌, ◌==◌, List, [], ◌∷◌, ◌++◌, length, refl, sym, ap, ap₂, ◌∙◌, subst, arith, append_assoc}
use Rattle.std.proofs.lemmas.Bool.{eqb-false, or_parts}
use Rattle.std.proofs.lemmas.List.{append-nil, map-append, length_push}
use Rattle.std.proofs.lemmas.List.Elements.{All-push}
use Rattle.std.proofs.lemmas.List.Folds.{list_any-append}
use Rattle.std.proofs.lemmas.List.Quantifiers.{all_pairs_push}
use Rattle.obs_store.specs.declared.series.Epoch.{Epoch}
use Rattle.obs_rows.specs.UsedSats.{IsSmall}
use Rattle.obs_rows.specs.declared.used.UsedSat.{UsedSat}
use Rattle.obs_rows.specs.declared.limits.TheConstants.{MOST_SATELLITES}
use Rattle.screening.specs.declared.sv_pair.SvPair.{SvPair}
use Rattle.screening.specs.Observed.{phases_of}
use Rattle.screening.specs.Marks.{Passed, lost_lock}
use Rattle.screening.specs.Sightings.{Setting, ObservedSat, IsObservedSat, MayBeLeftOut}
use Rattle.screening.specs.Screening.{IsUsedSat, AreUsedSats, IsEntry, IsEntryAt, IsLeftOut, AreEnoughBelow, is_among}
use Rattle.screening.specs.Gathering.{IsPassedOver, IsAdded, AreGathered}

pub added_of : (s : Setting) (base rover : Epoch) (epochs : Passed) (pair sat : ℕ) (sats sats' : List UsedSat) (boxes boxes' : List SvPair) (u : UsedSat) (b : SvPair) (lost : Bool) →
    IsEntryAt s base rover pair sat b → length sats < MOST_SATELLITES → u.sat ≡ b.sat → u.phase ≡ phases_of b.observed → u.lost ≡ lost → lost ≡ lost_lock s.types sat epochs → IsSmall u →
    sats' ≡ sats ++ u ∷ [] → boxes' ≡ boxes ++ b ∷ [] → IsAdded s base rover epochs pair sat sats sats' boxes boxes'
added_of s base rover epochs pair sat sats sats' boxes boxes' u b lost at room named phase mark is small more grow =
    let entry_stands : IsEntry s base rover b = at.entry in
    let sat_is : u.sat ≡ sat = named ∙ at.sat_is in
    record {
      room = room;
      used = u;
      entry = b;
      sats_grow = more;
      boxes_grow = grow;
      named = sat_is;
      is_used = record {
        sighting = entry_stands.sighting;
        seen = subst (λ (n : ℕ). IsObservedSat s base rover n entry_stands.sighting) (sym named) entry_stands.seen;
        kept = entry_stands.kept;
        phase = phase ∙ ap phases_of entry_stands.observed;
        lost = mark ∙ is ∙ ap (λ (n : ℕ). lost_lock s.types n epochs) (sym sat_is);
      };
      small = small;
      is_entry = at;
    }

pub gathered_none : (s : Setting) (base rover : Epoch) (epochs : Passed) (pair : ℕ) (before : List SvPair) → AreGathered s base rover epochs pair 1 before [] before
gathered_none s base rover epochs pair before = record {
  few = omega arith;
  rising = λ i j d less inside. absurd (omega (arith, inside));
  below = λ k d inside. absurd (omega (arith, inside));
  each = λ k d inside. absurd (omega (arith, inside));
  small = λ k d inside. absurd (omega (arith, inside));
  others = λ sat g less is none. absurd (too_low sat less is.number.0);
  added = [];
  boxes_are = sym (append-nil before);
  places = refl;
  entries = λ k d inside. absurd (omega (arith, inside));
  of_pair = λ k d inside. absurd (omega (arith, inside));
}
  where
    too_low : (sat : ℕ) → sat < 1 → 1 ≤ sat → ⊥
    too_low sat h k = omega (arith, h, k)

below_or_at : (a n : ℕ) → a < n + 1 → (a < n) ⊎ (a ≡ n)
below_or_at zero zero h = inr refl
below_or_at zero (suc n) h = inl (omega arith)
below_or_at (suc a) zero h = absurd (omega (arith, h))
below_or_at (suc a) (suc n) h = ⊎_elim (λ (l : a < n). inl (omega (arith, l))) (λ (e : a ≡ n). inr (ap suc e)) (below_or_at a n (omega (arith, h)))

passed_over : (s : Setting) (base rover : Epoch) (epochs : Passed) (pair n : ℕ) (before : List SvPair) (sats : List UsedSat) (boxes : List SvPair) →
    (MOST_SATELLITES ≤ length sats) ⊎ IsLeftOut s base rover n → AreGathered s base rover epochs pair n before sats boxes → AreGathered s base rover epochs pair (n + 1) before sats boxes
passed_over s base rover epochs pair n before sats boxes reason g = record {
  few = g.few;
  rising = g.rising;
  below = λ k d inside. let is_below = g.below k d inside in omega (arith, is_below);
  each = g.each;
  small = g.small;
  others = λ sat seen less is none. ⊎_elim (λ (lower : sat < n). g.others sat seen lower is none) (λ (here : sat ≡ n). at_n sat seen here is reason) (below_or_at sat n less);
  added = g.added;
  boxes_are = g.boxes_are;
  places = g.places;
  entries = g.entries;
  of_pair = g.of_pair;
}
  where
    at_n : (sat : ℕ) (seen : ObservedSat) → sat ≡ n → IsObservedSat s base rover sat seen → (MOST_SATELLITES ≤ length sats) ⊎ IsLeftOut s base rover n → MayBeLeftOut s base.tag.0 seen ⊎ AreEnoughBelow sat sats
    at_n sat seen here is (inl full) =
        let few = g.few in
        let whole : length sats ≡ MOST_SATELLITES = omega (arith, full, few) in
        inr (whole, λ k d inside. let is_below = g.below k d inside in omega (arith, is_below, here))
    at_n sat seen here is (inr out) = inl (out seen (subst (λ (m : ℕ). IsObservedSat s base rover m seen) here is))

added_one : (s : Setting) (base rover : Epoch) (epochs : Passed) (pair n : ℕ) (before : List SvPair) (sats : List UsedSat) (boxes : List SvPair) (u : UsedSat) (b : SvPair)
    → length sats < MOST_SATELLITES → u.sat ≡ n →
    IsUsedSat s base rover epochs u → IsSmall u → IsEntryAt s base rover pair n b → AreGathered s base rover epochs pair n before sats boxes → AreGathered s base rover epochs pair
    (n + 1) before (sats ++ u ∷ []) (boxes ++ b ∷ [])
added_one s base rover epochs pair n before sats boxes u b room named used small at g = record {
  few = let pushed_length = length_push sats u in omega (arith, pushed_length, room);
  rising = all_pairs_push (λ (v w : UsedSat). v.sat < w.sat) sats u g.rising (λ k d inside. let is_below = g.below k d inside in omega (arith, is_below, named));
  below = All-push (λ (v : UsedSat). v.sat < n + 1) sats u (λ k d inside. let is_below = g.below k d inside in omega (arith, is_below)) (omega (arith, named));
  each = All-push (IsUsedSat s base rover epochs) sats u g.each used;
  small = All-push IsSmall sats u g.small small;
  others = λ sat seen less is none.
      let split : (is_among sat sats || ((u.sat == sat) || false)) ≡ false = sym (list_any-append (λ (v : UsedSat). v.sat == sat) sats (u ∷ [])) ∙ none in
      let apart : u.sat ≡ sat → ⊥ = eqb-false u.sat sat (or_parts (u.sat == sat) false (or_parts (is_among sat sats) ((u.sat == sat) || false) split).1).0 in
      ⊎_elim (λ (lower : sat < n). inl (earlier sat seen lower is (or_parts (is_among sat sats) ((u.sat == sat) || false) split).0))
      (λ (here : sat ≡ n). absurd (apart (named ∙ sym here))) (below_or_at sat n less);
  added = g.added ++ b ∷ [];
  boxes_are = ap (λ (xs : List SvPair). xs ++ b ∷ []) g.boxes_are ∙ append_assoc before g.added (b ∷ []);
  places = map-append (λ (x : SvPair). (x.pair, x.sat)) g.added (b ∷ []) ∙ ap₂ (λ (xs ys : List (ℕ × ℕ)). xs ++ ys) g.places (one_place b.pair pair b.sat u.sat at.pair_is (at.sat_is ∙ sym named))
      ∙ sym (map-append (λ (v : UsedSat). (pair, v.sat)) sats (u ∷ []));
  entries = All-push (IsEntry s base rover) g.added b g.entries at.entry;
  of_pair = All-push (λ (x : SvPair). x.pair ≡ pair) g.added b g.of_pair at.pair_is;
}
  where
    one_place : (p p' t t' : ℕ) → p ≡ p' → t ≡ t' → (let left_place : List (ℕ × ℕ) = (p, t) ∷ [] in let right_place : List (ℕ × ℕ) = (p', t') ∷ [] in left_place ≡ right_place)
    one_place p p' t t' e f = rw (e, f) refl

    earlier : (sat : ℕ) (seen : ObservedSat) → sat < n → IsObservedSat s base rover sat seen → is_among sat sats ≡ false → MayBeLeftOut s base.tag.0 seen
    earlier sat seen lower is none = ⊎_elim (λ (out : MayBeLeftOut s base.tag.0 seen). out)
        (λ (enough : AreEnoughBelow sat sats). absurd (let number_at_least = enough.0 in omega (arith, number_at_least, room))) (g.others sat seen lower is none)

pub gathered_next : (s : Setting) (base rover : Epoch) (epochs : Passed) (pair n : ℕ) (before : List SvPair) (sats sats' : List UsedSat) (boxes boxes' : List SvPair) →
    AreGathered s base rover epochs pair n before sats boxes → IsPassedOver s base rover n sats sats' boxes boxes' ⊎ IsAdded s base rover epochs pair n sats sats' boxes boxes' →
    AreGathered s base rover epochs pair (n + 1) before sats' boxes'
gathered_next s base rover epochs pair n before sats sats' boxes boxes' g (inl over) = rw (over.sats_stay, over.boxes_stay) (passed_over s base rover epochs pair n before sats boxes over.reason g)
gathered_next s base rover epochs pair n before sats sats' boxes boxes' g (inr a) =
    rw (a.sats_grow, a.boxes_grow) (added_one s base rover epochs pair n before sats boxes a.used a.entry a.room a.named a.is_used a.small a.is_entry g)

-- all numbers are done
pub used_sats : (s : Setting) (base rover : Epoch) (epochs : Passed) (pair : ℕ) (before : List SvPair) (sats : List UsedSat) (boxes : List SvPair) →
    AreGathered s base rover epochs pair 37 before sats boxes → AreUsedSats s base rover epochs sats
used_sats s base rover epochs pair before sats boxes g = record {
  few = g.few;
  rising = g.rising;
  each = g.each;
  others = λ sat seen is none. g.others sat seen (in_range sat is.number.1) is none;
}
  where
    in_range : (sat : ℕ) → sat ≤ 36 → sat < 37
    in_range sat h = omega (arith, h)
