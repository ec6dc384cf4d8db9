-- The datums of the arcs that are kept so far, and that these are the first of their linked sets.
use Rattle.std.proofs.Common.{◌≡◌, ℕ, ◌+◌, ◌<◌, ◌≤◌, ◌⊎◌, ◌↔◌, max, true, false, Some, List, [], ◌∷◌, ◌++◌, length, All, IsTrue, arith, refl, sym, subst, inr, ⊎_elim}
use Rattle.std.specs.Prelude.{slice_get, nat_le}
use Rattle.std.proofs.lemmas.Bool.{cases_lt, cases_Bool, le-leb, leb-true}
use Rattle.std.proofs.lemmas.List.Elements.{All-push}
use Rattle.std.proofs.lemmas.Option.{slice_get_within}
use Rattle.whole_math.proofs.Lists.{push_get, push_before, last_push}
use Rattle.obs_rows.specs.declared.arcs.Arc.{Arc}
use Rattle.slip_arcs.specs.Runs.{Run, is_long, no_shift, IsAdded}
use Rattle.slip_arcs.specs.Linked.{HaveDatums}
use Rattle.slip_arcs.proofs.Chains.{AreRising, IsFresh, share_first, chain_stays}

-- the arcs begin by pair at and end before reach, in order, and just those that are fresh are datums
pub record Marked (at : ℕ) (arcs : List Arc) (reach : ℕ) : Type 0 where
  pub shifts : All (λ a. a.shift ≡ no_shift) arcs
  pub order : (k : ℕ) (a : Arc) → slice_get arcs k ≡ Some a → (a.first ≤ a.last) × (a.first ≤ at) × (a.last < reach)
  pub rising : AreRising arcs
  pub datums : (k : ℕ) (a : Arc) → slice_get arcs k ≡ Some a → IsTrue a.datum ↔ IsFresh arcs k a
  pub reached : (reach ≡ 0) ⊎ ((m : ℕ) × (b : Arc) × (slice_get arcs m ≡ Some b) × (reach ≡ b.last + 1))

pub marked_next : (at : ℕ) (arcs : List Arc) (reach : ℕ) → Marked at arcs reach → Marked (at + 1) arcs reach
marked_next at arcs reach marked =
    record {
      shifts = marked.shifts;
      order = λ k a is. let in_order = marked.order k a is in (in_order.0, omega arith, in_order.2);
      rising = marked.rising;
      datums = marked.datums;
      reached = marked.reached;
    }

-- an arc is fresh among more arcs where it was before
fresh_old : (arcs : List Arc) (y : Arc) (k : ℕ) (a : Arc) → slice_get arcs k ≡ Some a → IsFresh arcs k a → IsFresh (arcs ++ y ∷ []) k a
fresh_old arcs y k a is fresh m b before found =
    let inside = slice_get_within arcs k a is in
    ⊎_elim (λ (old : slice_get arcs m ≡ Some b). fresh m b before old) (λ (new : (m ≡ length arcs) × (y ≡ b)). absurd (let here = new.0 in omega arith)) (push_get arcs y b m found)

fresh_back : (arcs : List Arc) (y : Arc) (k : ℕ) (a : Arc) → IsFresh (arcs ++ y ∷ []) k a → IsFresh arcs k a
fresh_back arcs y k a fresh m b before found = fresh m b before (push_before arcs y b m found)

abbrev new_arc : ℕ → ℕ → ℕ → ℕ → Arc
new_arc reach sat at last = record { sat = sat; first = at; last = last; datum = nat_le reach at; shift = no_shift }

-- the new arc is a datum just where it is fresh
new_datum : (at : ℕ) (arcs : List Arc) (reach sat last : ℕ) → Marked at arcs reach
    → IsTrue (nat_le reach at) ↔ IsFresh (arcs ++ new_arc reach sat at last ∷ []) (length arcs) (new_arc reach sat at last)
new_datum at arcs reach sat last marked = (
  λ is m b before found.
      let within : reach ≤ at = leb-true reach at is in
      ⊎_elim (λ (old : slice_get arcs m ≡ Some b). let in_order = marked.order m b old in let ends_below_reach : b.last < reach = in_order.2 in omega arith)
      (λ (new : (m ≡ length arcs) × (new_arc reach sat at last ≡ b)). absurd (let here = new.0 in omega arith)) (push_get arcs (new_arc reach sat at last) b m found),
  λ fresh.
      le-leb reach at
      (⊎_elim (λ (none : reach ≡ 0). omega arith)
      (λ (some : (m : ℕ) × (b : Arc) × (slice_get arcs m ≡ Some b) × (reach ≡ b.last + 1)).
      let ends_before : some.1.last < at = fresh some.0 some.1 (slice_get_within arcs some.0 some.1 some.2) (push_before arcs (new_arc reach sat at last) some.1 some.0 some.2) in
      let reach_is = some.3 in
      omega arith)
      marked.reached),
)

marked_push : (at : ℕ) (arcs : List Arc) (reach sat last : ℕ) → at ≤ last → Marked at arcs reach → Marked at (arcs ++ new_arc reach sat at last ∷ []) (max reach (last + 1))
marked_push at arcs reach sat last order marked =
    let added_arc : Arc = new_arc reach sat at last in
    record {
      shifts = All-push (λ a. a.shift ≡ no_shift) arcs added_arc marked.shifts refl;
      order = λ k a is.
          ⊎_elim (λ (old : slice_get arcs k ≡ Some a). let in_order = marked.order k a old in (in_order.0, in_order.1, omega arith))
          (λ (new : (k ≡ length arcs) × (added_arc ≡ a)). subst (λ (b : Arc). (b.first ≤ b.last) × (b.first ≤ at) × (b.last < max reach (last + 1))) new.1 (order, omega arith, omega arith))
          (push_get arcs added_arc a k is);
      rising = λ m k b a before first second.
          ⊎_elim
          (λ (old : slice_get arcs k ≡ Some a).
          let inside = slice_get_within arcs k a old in
          ⊎_elim (λ (older : slice_get arcs m ≡ Some b). marked.rising m k b a before older old) (λ (new : (m ≡ length arcs) × (added_arc ≡ b)). absurd (let here = new.0 in omega arith))
          (push_get arcs added_arc b m first))
          (λ (new : (k ≡ length arcs) × (added_arc ≡ a)).
          subst (λ (c : Arc). b.first ≤ c.first) new.1
          (⊎_elim (λ (older : slice_get arcs m ≡ Some b). (marked.order m b older).1)
          (λ (same : (m ≡ length arcs) × (added_arc ≡ b)). absurd (let here = new.0 in let there = same.0 in omega arith)) (push_get arcs added_arc b m first)))
          (push_get arcs added_arc a k second);
      datums = λ k a is.
          ⊎_elim
          (λ (old : slice_get arcs k ≡ Some a).
          let datum_just_fresh = marked.datums k a old in
          (λ on. fresh_old arcs added_arc k a old (datum_just_fresh.0 on), λ fresh. datum_just_fresh.1 (fresh_back arcs added_arc k a fresh)))
          (λ (new : (k ≡ length arcs) × (added_arc ≡ a)).
          subst (λ (n : ℕ). IsTrue a.datum ↔ IsFresh (arcs ++ added_arc ∷ []) n a) (sym new.0)
          (subst (λ (c : Arc). IsTrue c.datum ↔ IsFresh (arcs ++ added_arc ∷ []) (length arcs) c) new.1 (new_datum at arcs reach sat last marked)))
          (push_get arcs added_arc a k is);
      reached = inr
          (⊎_elim (λ (less : reach < last + 1). (length arcs, added_arc, last_push arcs added_arc, omega arith))
          (λ (more : last + 1 ≤ reach).
          ⊎_elim (λ (none : reach ≡ 0). absurd (omega arith))
          (λ (some : (m : ℕ) × (b : Arc) × (slice_get arcs m ≡ Some b) × (reach ≡ b.last + 1)).
          (some.0, some.1, push_before arcs added_arc some.1 some.0 some.2, let reach_is = some.3 in omega arith)) marked.reached)
          (cases_lt reach (last + 1)));
    }

pub marked_add : (least at : ℕ) (arcs arcs' : List Arc) (short short' reach reach' sat last : ℕ) → at ≤ last
    → IsAdded least (record { sat = sat; first = at; last = last }) arcs arcs' short short' reach reach' → Marked at arcs reach → Marked at arcs' reach'
marked_add least at arcs arcs' short short' reach reach' sat last order added marked =
    let run : Run = record { sat = sat; first = at; last = last } in
    ⊎_elim
    (λ (long : is_long least run ≡ true).
    let new = added.long long in
    subst (λ (n : ℕ). Marked at arcs' n) (sym new.2) (subst (λ (l : List Arc). Marked at l (max reach (last + 1))) (sym new.0) (marked_push at arcs reach sat last order marked)))
    (λ (brief : is_long least run ≡ false).
    let new = added.brief brief in
    subst (λ (n : ℕ). Marked at arcs' n) (sym new.2) (subst (λ (l : List Arc). Marked at l reach) (sym new.0) marked))
    (cases_Bool (is_long least run))

-- of all that are linked to it a datum is the first, and only a datum is
pub have_datums : (at : ℕ) (arcs : List Arc) (reach : ℕ) → Marked at arcs reach → HaveDatums arcs
have_datums at arcs reach marked k a is =
    let datum_just_fresh = marked.datums k a is in (
      λ on n linked. chain_stays arcs k a marked.rising is (datum_just_fresh.0 on) linked.0 k n (omega arith) linked.1,
      λ first.
          datum_just_fresh.1
          (λ m b before found.
          ⊎_elim (λ (less : b.last < a.first). less)
          (λ (more : a.first ≤ b.last).
          let near = share_first arcs k m a b marked.rising (marked.order k a is).0 is found before more in
          let behind : k ≤ m = first m (m ∷ [], (near, refl)) in
          absurd (omega arith))
          (cases_lt b.last a.first)),
    )
