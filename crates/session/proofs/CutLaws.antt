-- Arcs that are the same but for their shifts are cut of the same pairs; and where two arcs share a pair, one is free.
use Rattle.std.proofs.Common.{◌≡◌, ℕ, zero, suc, ◌+◌, ◌<◌, ◌≤◌, true, false, Bool, not, cond, IsTrue, List, [], ◌∷◌, map, Some, arith, sym, ap, ◌∙◌, refl, subst}
use Rattle.std.specs.Prelude.{slice_get, ◌↔◌}
use Rattle.std.proofs.lemmas.List.Sums.{sum_by-cons}
use Rattle.obs_rows.specs.declared.arcs.Arc.{Arc}
use Rattle.obs_rows.specs.Arcs.{is_free, free_count}
use Rattle.obs_rows.specs.declared.used.UsedPair.{UsedPair}
use Rattle.slip_arcs.specs.Runs.{Run, run_of, AreKept}
use Rattle.slip_arcs.specs.Linked.{SharePair, AreNeighbours, IsChain, AreLinked, IsFirstLinked, HaveDatums, IsCutOf}
use Rattle.round_steps.specs.Shifts.{without_shifts, AreSameArcs}
use Rattle.std.proofs.lemmas.Option.{same_Some}

-- the arc of number k in the one list has its like in the other
pub record Like (arcs : List Arc) (k : ℕ) (a : Arc) : Type 0 where
  pub arc : Arc
  pub arc_is : slice_get arcs k ≡ Some arc
  pub same : without_shifts arc ≡ without_shifts a

pub like : (xs ys : List Arc) → AreSameArcs xs ys → (k : ℕ) (a : Arc) → slice_get xs k ≡ Some a → Like ys k a
like [] ys e k a h = absurd cc
like (x ∷ xs) [] e k a h = absurd cc
like (x ∷ xs) (y ∷ ys) e zero a h = record {
  arc = y;
  arc_is = refl;
  same = heads (without_shifts y) (without_shifts x) (map without_shifts ys) (map without_shifts xs) e ∙ ap without_shifts (same_Some x a h);
}
  where
    heads : (p q : Arc) (ps qs : List Arc) → p ∷ ps ≡ q ∷ qs → p ≡ q
    heads p q ps qs e = cc
like (x ∷ xs) (y ∷ ys) e (suc k) a h =
    let like_arc : Like ys k a = like xs ys (tails (without_shifts y) (without_shifts x) (map without_shifts ys) (map without_shifts xs) e) k a h in
    record { arc = like_arc.arc; arc_is = like_arc.arc_is; same = like_arc.same }
  where
    tails : (p q : Arc) (ps qs : List Arc) → p ∷ ps ≡ q ∷ qs → ps ≡ qs
    tails p q ps qs e = cc

-- ---- links
same_first : (a b : Arc) → without_shifts b ≡ without_shifts a → a.first ≡ b.first
same_first a b e = sym (ap (λ (x : Arc). x.first) e)

same_last : (a b : Arc) → without_shifts b ≡ without_shifts a → a.last ≡ b.last
same_last a b e = sym (ap (λ (x : Arc). x.last) e)

share_along : (a b c d : Arc) → without_shifts c ≡ without_shifts a → without_shifts d ≡ without_shifts b → SharePair a b → SharePair c d
share_along a b c d e g (i, af, al, bf, bl) =
    (i, subst (λ (n : ℕ). n ≤ i) (same_first a c e) af, subst (λ (n : ℕ). i ≤ n) (same_last a c e) al, subst (λ (n : ℕ). n ≤ i) (same_first b d g) bf, subst (λ (n : ℕ). i ≤ n) (same_last b d g) bl)

neighbours_along : (xs ys : List Arc) → AreSameArcs xs ys → (k m : ℕ) → AreNeighbours xs k m → AreNeighbours ys k m
neighbours_along xs ys e k m h =
    let like_one : Like ys k h.one = like xs ys e k h.one h.one_is in
    let like_other : Like ys m h.other = like xs ys e m h.other h.other_is in
    record { one = like_one.arc; other = like_other.arc; one_is = like_one.arc_is; other_is = like_other.arc_is; share = share_along h.one h.other like_one.arc like_other.arc like_one.same like_other.same h.share }

chain_along : (xs ys : List Arc) → AreSameArcs xs ys → (k : ℕ) (path : List ℕ) (n : ℕ) → IsChain xs k path n → IsChain ys k path n
chain_along xs ys e k [] n h = h
chain_along xs ys e k (m ∷ ms) n h = (neighbours_along xs ys e k m h.0, chain_along xs ys e m ms n h.1)

linked_along : (xs ys : List Arc) → AreSameArcs xs ys → (k n : ℕ) → AreLinked xs k n → AreLinked ys k n
linked_along xs ys e k n h = (h.0, chain_along xs ys e k h.0 n h.1)

first_along : (xs ys : List Arc) → AreSameArcs xs ys → (k : ℕ) → IsFirstLinked xs k → IsFirstLinked ys k
first_along xs ys e k h n l = h n (linked_along ys xs (sym e) k n l)

datum_along : (a b : Arc) → without_shifts b ≡ without_shifts a → a.datum ≡ b.datum
datum_along a b e = sym (ap (λ (x : Arc). x.datum) e)

pub datums_along : (xs ys : List Arc) → AreSameArcs xs ys → HaveDatums xs → HaveDatums ys
datums_along xs ys e h k b g =
    let like_arc : Like xs k b = like ys xs (sym e) k b g in
    let same_datum : b.datum ≡ like_arc.arc.datum = datum_along b like_arc.arc like_arc.same in
    let is_first_linked : IsTrue like_arc.arc.datum ↔ IsFirstLinked xs k = h k like_arc.arc like_arc.arc_is in
    (λ t. first_along xs ys e k (is_first_linked.0 (subst IsTrue same_datum t)), λ f. subst IsTrue (sym same_datum) (is_first_linked.1 (first_along ys xs (sym e) k f)))

-- ---- runs
runs_without : (arcs : List Arc) → map run_of (map without_shifts arcs) ≡ map run_of arcs
runs_without [] = refl
runs_without (a ∷ arcs) = ap (λ (l : List Run). run_of a ∷ l) (runs_without arcs)

runs_along : (xs ys : List Arc) → AreSameArcs xs ys → map run_of ys ≡ map run_of xs
runs_along xs ys e = sym (runs_without ys) ∙ ap (map run_of) e ∙ runs_without xs

pub kept_along : (bands : List ℕ) (jump least short : ℕ) (used : List UsedPair) (xs ys : List Arc) → AreSameArcs xs ys → AreKept bands jump least used xs short → AreKept bands jump least used ys short
kept_along bands jump least short used xs ys e h = record { runs = h.runs; all = h.all; kept_are = runs_along xs ys e ∙ h.kept_are; short_is = h.short_is }

-- shifts don't matter to a cut
pub cut_along : (used : List UsedPair) (xs ys : List Arc) → AreSameArcs xs ys → IsCutOf used xs → IsCutOf used ys
cut_along used xs ys e h = record {
  bands = h.bands;
  jump = h.jump;
  least = h.least;
  short = h.short;
  kept = kept_along h.bands h.jump h.least h.short used xs ys e h.kept;
  datums = datums_along xs ys e h.datums;
}

-- ---- free arcs
free_at : (arcs : List Arc) (k : ℕ) (a : Arc) → slice_get arcs k ≡ Some a → a.datum ≡ false → 1 ≤ free_count arcs
free_at [] k a h d = absurd cc
free_at (x ∷ xs) zero a h d =
    let count_of : Arc → ℕ = λ y. cond (is_free y) 1 0 in
    let count_splits : free_count (x ∷ xs) ≡ cond (not x.datum) 1 0 + free_count xs = sum_by-cons count_of x xs in
    let not_datum : x.datum ≡ false = ap (λ (y : Arc). y.datum) (same_Some x a h) ∙ d in
    more (free_count (x ∷ xs)) (free_count xs) (count_splits ∙ ap (λ (t : Bool). cond (not t) 1 0 + free_count xs) not_datum)
  where
    more : (n m : ℕ) → n ≡ 1 + m → 1 ≤ n
    more n m e = omega arith
free_at (x ∷ xs) (suc k) a h d =
    let count_of : Arc → ℕ = λ y. cond (is_free y) 1 0 in
    let count_splits : free_count (x ∷ xs) ≡ cond (not x.datum) 1 0 + free_count xs = sum_by-cons count_of x xs in
    more (free_count (x ∷ xs)) (free_count xs) (cond (not x.datum) 1 0) count_splits (free_at xs k a h d)
  where
    more : (n m c : ℕ) → n ≡ c + m → 1 ≤ m → 1 ≤ n
    more n m c e h = omega arith

-- of two arcs that share a pair the later is free
pub later_is_free : (arcs : List Arc) (k m : ℕ) → k < m → HaveDatums arcs → AreNeighbours arcs m k → 1 ≤ free_count arcs
later_is_free arcs k m l h n = free_at arcs m n.one n.one_is (no_datum n.one.datum (λ t. apart ((h m n.one n.one_is).0 t k (k ∷ [], (n, refl)))))
  where
    apart : m ≤ k → ⊥
    apart g = omega arith

    no_datum : (b : Bool) → (IsTrue b → ⊥) → b ≡ false
    no_datum true g = absurd (g refl)
    no_datum false g = refl
