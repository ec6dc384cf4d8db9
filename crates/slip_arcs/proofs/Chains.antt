-- Chains of arcs whose beginnings rise: from an arc before which all end no chain leads to an earlier one.
use Rattle.std.proofs.Common.{◌≡◌, ℕ, ◌<◌, ◌≤◌, Some, List, [], ◌∷◌, arith, sym, ◌∙◌, ap, subst, ⊎_elim}
use Rattle.std.specs.Prelude.{slice_get}
use Rattle.std.proofs.lemmas.Bool.{cases_lt, cases_eq}
use Rattle.std.proofs.lemmas.Option.{same_Some}
use Rattle.obs_rows.specs.declared.arcs.Arc.{Arc}
use Rattle.slip_arcs.specs.Linked.{AreNeighbours, IsChain}

-- no arc begins before an earlier one
abbrev pub AreRising : List Arc → Type 0
AreRising arcs = (m k : ℕ) (b a : Arc) → m < k → slice_get arcs m ≡ Some b → slice_get arcs k ≡ Some a → b.first ≤ a.first

-- all earlier arcs end before arc k
abbrev pub IsFresh : List Arc → ℕ → Arc → Type 0
IsFresh arcs k a = (m : ℕ) (b : Arc) → m < k → slice_get arcs m ≡ Some b → b.last < a.first

-- an earlier arc that ends no earlier than this one begins shares its first pair
pub share_first : (arcs : List Arc) (k m : ℕ) (a b : Arc) → AreRising arcs → a.first ≤ a.last → slice_get arcs k ≡ Some a → slice_get arcs m ≡ Some b → m < k → a.first ≤ b.last → AreNeighbours arcs k m
share_first arcs k m a b rising forward is also before reaches = record {
  one = a;
  other = b;
  one_is = is;
  other_is = also;
  share = (a.first, omega arith, forward, rising m k b a before also is, reaches);
}

-- from a fresh arc no chain leads to an earlier one
pub chain_stays : (arcs : List Arc) (k : ℕ) (a : Arc) → AreRising arcs → slice_get arcs k ≡ Some a → IsFresh arcs k a → (path : List ℕ) (j n : ℕ) → k ≤ j → IsChain arcs j path n → k ≤ n
chain_stays arcs k a rising is fresh [] j n from chain = let chain_ends = chain in omega arith
chain_stays arcs k a rising is fresh (m ∷ ms) j n from chain =
    let near = chain.0 in
    let share = near.share in
    let low : a.first ≤ near.one.first =
    ⊎_elim (λ (same : k ≡ j).
    let one : Some a ≡ Some near.one = sym is ∙ ap (λ (i : ℕ). slice_get arcs i) same ∙ near.one_is in
    subst (λ (b : Arc). a.first ≤ b.first) (same_Some a near.one one) (omega arith))
    (λ (other : k ≡ j → ⊥). rising k j a near.one (omega arith) is near.one_is) (cases_eq k j) in
    let next : k ≤ m =
    ⊎_elim (λ (less : m < k).
    let ends_before : near.other.last < a.first = fresh m near.other less near.other_is in
    let one_starts_by = share.1 in
    let other_reaches = share.4 in
    absurd (omega arith)) (λ (more : k ≤ m). more) (cases_lt m k) in
    chain_stays arcs k a rising is fresh ms m n next chain.1
