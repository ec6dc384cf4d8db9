-- What an arc and its datum say decides whether the arc has the cycles that it was made with.
use Rattle.std.proofs.Common.{◌≡◌, ℕ, zero, suc, ◌<◌, ◌≤◌, ◌↔◌, true, false, Bool, not, IsTrue, Some, List, [], ◌∷◌, ℤ, length, get_or, arith, refl, subst}
use Rattle.std.specs.Prelude.{slice_get}
use Rattle.std.proofs.lemmas.Option.{slice_get_within, slice_get-get_or, get_or_from_slice_get}
use Rattle.obs_rows.specs.declared.arcs.Arc.{Arc}
use Rattle.obs_rows.specs.Arcs.{is_free}
use Rattle.sim_jobs.specs.Matches.{IsDatumOf, AgreesWith, HasTruth, HaveTruth, AreMarked}
use Rattle.sim_jobs.proofs.Links.{one_datum}

-- an arc has one datum
pub by_datum : (truth : List (List ℤ)) (arcs : List Arc) (ss : List ℕ) (z : List ℤ) (k d : ℕ) (a e : Arc) (b : Bool) → AreMarked arcs
    → IsDatumOf arcs k d e → IsTrue b ↔ AgreesWith truth arcs ss z k a e → IsTrue b ↔ HasTruth truth arcs ss z k a
by_datum truth arcs ss z k d a e b marked is agrees = (
  λ on. record { place = d; datum = e; is_datum = is; agrees = agrees.0 on },
  λ has. agrees.1 (subst (λ (t : Arc). AgreesWith truth arcs ss z k a t) (one_datum arcs k has.place d has.datum e marked.datums has.is_datum is) has.agrees),
)

-- the same of the entries at the places of the arc and its datum
pub by_entry : (truth : List (List ℤ)) (arcs : List Arc) (ss : List ℕ) (z : List ℤ) (k d : ℕ) (a p q : Arc) (b : Bool) → AreMarked arcs
    → d < length arcs → ((e : Arc) → slice_get arcs d ≡ Some e → IsDatumOf arcs k d e) → slice_get arcs k ≡ Some a
    → IsTrue b ↔ AgreesWith truth arcs ss z k (get_or arcs k p) (get_or arcs d q) → IsTrue b ↔ HasTruth truth arcs ss z k a
by_entry truth arcs ss z k d a p q b marked inside datum is agrees =
    let datum_arc : Arc = get_or arcs d q in
    by_datum truth arcs ss z k d a datum_arc b marked (datum datum_arc (slice_get-get_or arcs d q inside))
    (subst (λ (t : Arc). IsTrue b ↔ AgreesWith truth arcs ss z k t datum_arc) (get_or_from_slice_get arcs k a p is) agrees)

there : (arcs : List Arc) (k : ℕ) → k < length arcs → (a : Arc) × (slice_get arcs k ≡ Some a)
there [] k inside = absurd (omega arith)
there (x ∷ xs) zero inside = (x, refl)
there (x ∷ xs) (suc k) inside = there xs k (omega arith)

true_at : (a : Arc) (b : Bool) (P : Type 0) → (IsTrue a.datum → IsTrue b) → (IsTrue (is_free a) → IsTrue b ↔ P) → (IsTrue (is_free a) → P) → IsTrue b
true_at a b P datum free has = by_flag a.datum datum free has
  where
    by_flag : (flag : Bool) → (IsTrue flag → IsTrue b) → (IsTrue (not flag) → IsTrue b ↔ P) → (IsTrue (not flag) → P) → IsTrue b
    by_flag true datum free has = datum refl
    by_flag false datum free has = (free refl).1 (has refl)

-- where all have theirs, so has arc k
pub one_has : (truth : List (List ℤ)) (arcs : List Arc) (ss : List ℕ) (z : List ℤ) (k : ℕ) (b : Bool) → k < length arcs → ((a : Arc) → slice_get arcs k ≡ Some a → IsTrue a.datum → IsTrue b)
    → ((a : Arc) → slice_get arcs k ≡ Some a → IsTrue (is_free a) → IsTrue b ↔ HasTruth truth arcs ss z k a) → HaveTruth truth arcs ss z → IsTrue b
one_has truth arcs ss z k b inside datum free all =
    let here = there arcs k inside in
    true_at here.0 b (HasTruth truth arcs ss z k here.0) (datum here.0 here.1) (free here.0 here.1) (all k here.0 here.1)

-- where the first n have theirs and there are no more, all have
pub all_have : (truth : List (List ℤ)) (arcs : List Arc) (ss : List ℕ) (z : List ℤ) (n : ℕ) → length arcs ≤ n
    → ((k : ℕ) (a : Arc) → k < n → slice_get arcs k ≡ Some a → IsTrue (is_free a) → HasTruth truth arcs ss z k a) → HaveTruth truth arcs ss z
all_have truth arcs ss z n whole first k a is free = let inside = slice_get_within arcs k a is in first k a (omega (arith, inside)) is free
