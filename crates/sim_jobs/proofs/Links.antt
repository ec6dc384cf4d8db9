-- The datum of an arc's linked set is the last datum at or before the arc, and there is no other in the set.
use Rattle.std.proofs.Common.{◌≡◌, ℕ, zero, suc, ◌<◌, ◌≤◌, ◌⊎◌, true, false, IsTrue, Some, List, [], ◌∷◌, ◌++◌, length, arith, refl, sym, ◌∙◌, ap, subst, inl, inr, ⊎_elim}
use Rattle.std.specs.Prelude.{slice_get}
use Rattle.std.proofs.lemmas.Bool.{cases_lt, cases_eq}
use Rattle.std.proofs.lemmas.Option.{none-some, same_Some}
use Rattle.obs_rows.specs.declared.arcs.Arc.{Arc}
use Rattle.slip_arcs.specs.Linked.{AreNeighbours, IsChain, AreLinked, HaveDatums}
use Rattle.slip_arcs.proofs.Chains.{IsFresh, share_first, chain_stays}
use Rattle.sim_jobs.specs.Matches.{IsDatumOf, AreMarked}

-- ---- links go both ways, and one after another
neighbours_back : (arcs : List Arc) (k m : ℕ) → AreNeighbours arcs k m → AreNeighbours arcs m k
neighbours_back arcs k m near =
    let share_of_both = near.share in
    record { one = near.other; other = near.one; one_is = near.other_is; other_is = near.one_is; share = (share_of_both.0, share_of_both.3, share_of_both.4, share_of_both.1, share_of_both.2) }

chain_append : (arcs : List Arc) (k : ℕ) (path : List ℕ) (m : ℕ) (more : List ℕ) (n : ℕ) → IsChain arcs k path m → IsChain arcs m more n → IsChain arcs k (path ++ more) n
chain_append arcs k [] m more n first second = subst (λ (j : ℕ). IsChain arcs j more n) (sym first) second
chain_append arcs k (j ∷ path) m more n first second = (first.0, chain_append arcs j path m more n first.1 second)

pub linked_through : (arcs : List Arc) (k m n : ℕ) → AreLinked arcs k m → AreLinked arcs m n → AreLinked arcs k n
linked_through arcs k m n first second = (first.0 ++ second.0, chain_append arcs k first.0 m second.0 n first.1 second.1)

pub linked_next : (arcs : List Arc) (k m : ℕ) → AreNeighbours arcs k m → AreLinked arcs k m
linked_next arcs k m near = (m ∷ [], (near, refl))

linked_same : (arcs : List Arc) (k : ℕ) → AreLinked arcs k k
linked_same arcs k = ([], refl)

chain_back : (arcs : List Arc) (k : ℕ) (path : List ℕ) (n : ℕ) → IsChain arcs k path n → AreLinked arcs n k
chain_back arcs k [] n chain = ([], sym chain)
chain_back arcs k (m ∷ path) n chain = linked_through arcs n m k (chain_back arcs m path n chain.1) (linked_next arcs m k (neighbours_back arcs k m chain.0))

pub linked_back : (arcs : List Arc) (k n : ℕ) → AreLinked arcs k n → AreLinked arcs n k
linked_back arcs k n linked = chain_back arcs k linked.0 n linked.1

-- ---- one datum at most
first_datum : (arcs : List Arc) (k d : ℕ) (e : Arc) → HaveDatums arcs → IsDatumOf arcs k d e → (n : ℕ) → AreLinked arcs k n → d ≤ n
first_datum arcs k d e datums is n linked = (datums d e is.is).0 is.datum n (linked_through arcs d k n (linked_back arcs k d is.linked) linked)

pub one_place : (arcs : List Arc) (k c d : ℕ) (b e : Arc) → HaveDatums arcs → IsDatumOf arcs k c b → IsDatumOf arcs k d e → c ≡ d
one_place arcs k c d b e datums one other =
    let low : c ≤ d = first_datum arcs k c b datums one d other.linked in
    let high : d ≤ c = first_datum arcs k d e datums other c one.linked in
    omega arith

-- a linked set has no two datums
pub one_datum : (arcs : List Arc) (k c d : ℕ) (b e : Arc) → HaveDatums arcs → IsDatumOf arcs k c b → IsDatumOf arcs k d e → b ≡ e
one_datum arcs k c d b e datums one other =
    let same : c ≡ d = one_place arcs k c d b e datums one other in
    same_Some b e (sym one.is ∙ ap (λ (n : ℕ). slice_get arcs n) same ∙ other.is)

-- ---- the last datum before an arc is linked with it
there_from : (arcs : List Arc) (n k : ℕ) (a : Arc) → slice_get arcs k ≡ Some a → n ≤ k → (b : Arc) × (slice_get arcs n ≡ Some b)
there_from [] n k a is low = absurd (none-some a is)
there_from (x ∷ xs) zero k a is low = (x, refl)
there_from (x ∷ xs) (suc n) zero a is low = absurd (omega arith)
there_from (x ∷ xs) (suc n) (suc k) a is low = there_from xs n k a is (omega arith)

-- an earlier arc that ends no earlier than this begins
pub record Reaches (arcs : List Arc) (k : ℕ) (a : Arc) : Type 0 where
  pub place : ℕ
  pub arc : Arc
  pub before : place < k
  pub is : slice_get arcs place ≡ Some arc
  pub reaches : a.first ≤ arc.last

-- of the first n arcs one reaches arc k, or none does
reaches_or_not : (arcs : List Arc) (n k : ℕ) (a : Arc) → slice_get arcs k ≡ Some a → n ≤ k → Reaches arcs k a ⊎ ((m : ℕ) (b : Arc) → m < n → slice_get arcs m ≡ Some b → b.last < a.first)
reaches_or_not arcs zero k a is low = inr (λ m b less at. absurd (omega arith))
reaches_or_not arcs (suc n) k a is low =
    let here = there_from arcs n k a is (omega arith) in
    ⊎_elim (λ (found : Reaches arcs k a). inl found)
    (λ (none : (m : ℕ) (b : Arc) → m < n → slice_get arcs m ≡ Some b → b.last < a.first).
    ⊎_elim
    (λ (less : here.0.last < a.first).
    inr (λ m b before at.
    ⊎_elim (λ (earlier : m < n). none m b earlier at)
    (λ (more : n ≤ m).
    let same : n ≡ m = omega arith in
    let one : here.0 ≡ b = same_Some here.0 b (sym here.1 ∙ ap (λ (i : ℕ). slice_get arcs i) same ∙ at) in
    subst (λ (c : Arc). c.last < a.first) one less)
    (cases_lt m n)))
    (λ (more : a.first ≤ here.0.last). inl (record { place = n; arc = here.0; before = omega arith; is = here.1; reaches = more }))
    (cases_lt here.0.last a.first))
    (reaches_or_not arcs n k a is (omega arith))

-- an arc that is no datum is reached by an earlier one
reached : (arcs : List Arc) (k : ℕ) (a : Arc) → AreMarked arcs → slice_get arcs k ≡ Some a → a.datum ≡ false → Reaches arcs k a
reached arcs k a marked is free =
    ⊎_elim (λ (found : Reaches arcs k a). found)
    (λ (none : IsFresh arcs k a).
    let arc_is_datum : IsTrue a.datum = (marked.datums k a is).1 (λ n linked. chain_stays arcs k a marked.order.rising is none linked.0 k n (omega arith) linked.1) in
    absurd (cc (arc_is_datum, free)))
    (reaches_or_not arcs k k a is (omega arith))

-- a chain from arc k back to the datum d, over at most `bound` arcs
linked_to : (bound : ℕ) (arcs : List Arc) (d k : ℕ) (e a : Arc) → AreMarked arcs → slice_get arcs d ≡ Some e → IsTrue e.datum → slice_get arcs k ≡ Some a → d ≤ k → k ≤ bound
    → ((j : ℕ) (b : Arc) → d < j → j ≤ k → slice_get arcs j ≡ Some b → b.datum ≡ false) → AreLinked arcs k d
linked_to zero arcs d k e a marked at datum is low high none = subst (λ (n : ℕ). AreLinked arcs k n) (let same : k ≡ d = omega arith in same) (linked_same arcs k)
linked_to (suc bound) arcs d k e a marked at datum is low high none =
    ⊎_elim (λ (same : d ≡ k). subst (λ (n : ℕ). AreLinked arcs k n) (sym same) (linked_same arcs k))
    (λ (other : d ≡ k → ⊥).
    let less : d < k = omega arith in
    let reaches_arc : Reaches arcs k a = reached arcs k a marked is (none k a less (omega arith) is) in
    let place_before : ℕ = reaches_arc.place in
    let near : AreNeighbours arcs k place_before = share_first arcs k place_before a reaches_arc.arc marked.order.rising (marked.order.forward k a is) is reaches_arc.is reaches_arc.before reaches_arc.reaches in
    let below : d ≤ place_before =
    ⊎_elim
    (λ (earlier : place_before < d).
    let rise : e.first ≤ a.first = marked.order.rising d k e a less at is in
    let reach : a.first ≤ reaches_arc.arc.last = reaches_arc.reaches in
    let with : AreNeighbours arcs d place_before = share_first arcs d place_before e reaches_arc.arc marked.order.rising (marked.order.forward d e at) at reaches_arc.is earlier (omega (arith, rise, reach)) in
    let first : d ≤ place_before = (marked.datums d e at).0 datum place_before (linked_next arcs d place_before with) in
    first)
    (λ (more : d ≤ place_before). more) (cases_lt place_before d) in
    let before : place_before < k = reaches_arc.before in
    linked_through arcs k place_before d (linked_next arcs k place_before near) (linked_to bound arcs d place_before e reaches_arc.arc marked at datum reaches_arc.is below (omega (arith, before))
    (λ j b from to found. none j b from (omega (arith, before)) found)))
    (cases_eq d k)

-- the last datum at or before arc k is the datum of its linked set
pub last_datum : (arcs : List Arc) (d k : ℕ) (e : Arc) → AreMarked arcs → k < length arcs → d ≤ k → e.datum ≡ true → ((j : ℕ) (b : Arc) → d < j → j ≤ k → slice_get arcs j ≡ Some b → b.datum ≡ false)
    → slice_get arcs d ≡ Some e → IsDatumOf arcs k d e
last_datum arcs d k e marked inside low datum none at =
    let here = there_at arcs k inside in
    record { is = at; datum = datum; linked = linked_to k arcs d k e here.0 marked at datum here.1 low (omega arith) none }
  where
    there_at : (xs : List Arc) (n : ℕ) → n < length xs → (b : Arc) × (slice_get xs n ≡ Some b)
    there_at [] n within = absurd (omega arith)
    there_at (x ∷ xs) zero within = (x, refl)
    there_at (x ∷ xs) (suc n) within = there_at xs n (omega arith)
