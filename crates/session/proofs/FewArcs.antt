-- At most 54,000 arcs are kept: at most fifteen begin in each pair.
use Rattle.std.proofs.Common.{◌≡◌, ℕ, zero, suc, ◌+◌, ◌*◌, ◌<◌, ◌≤◌, true, false, Bool, cond, List, [], ◌∷◌, length, get_or, All, arith, refl, zero-add, sym}
use Rattle.std.specs.Prelude.{nat_le, nat_lt, ◌&&◌, count_by}
use Rattle.std.proofs.lemmas.Bool.Decides.{nat_tests}
use Rattle.std.proofs.lemmas.List.Elements.{All-head, All-tail}
use Rattle.std.proofs.lemmas.List.Sums.{sum_by-cons}
use Rattle.std.proofs.lemmas.Option.{slice_get-get_or}
use Rattle.obs_rows.specs.declared.arcs.Arc.{Arc}
use Rattle.obs_rows.specs.declared.used.UsedPair.{UsedPair}
use Rattle.obs_rows.specs.UsedSats.{IsInRange}
use Rattle.obs_rows.specs.declared.limits.TheConstants.{MOST_PAIRS, MOST_KEPT_ARCS, MOST_SATELLITES}
use Rattle.slip_arcs.specs.Linked.{IsCutOf}
use Rattle.slip_arcs.proofs.Kept.{kept_each}
use Rattle.screening.specs.Entries.{AreNumbered}
use Rattle.row_build.specs.HeldArcs.{holds_pair, arcs_from, arcs_at}
use Rattle.row_build.proofs.FewRows.{held_few}
use Rattle.session.proofs.RangeLaws.{first_inside}

-- the arc begins before pair n
abbrev begins_before : ℕ → Arc → Bool
begins_before n a = nat_lt a.first n

abbrev one_if : Bool → ℕ
one_if b = cond b 1 0

abbrev IsOrdered : Arc → Type 0
IsOrdered a = a.first ≤ a.last

with_first : (p : Arc → Bool) (x : Arc) (xs : List Arc) → count_by p (x ∷ xs) ≡ one_if (p x) + count_by p xs
with_first p x xs = sum_by-cons (λ (a : Arc). one_if (p a)) x xs

-- an arc that begins before pair n + 1 begins before pair n or holds it
one_more : (f l n : ℕ) → f ≤ l → one_if (nat_lt f (suc n)) ≤ one_if (nat_lt f n) + one_if (nat_le f n && nat_le n l)
one_more f l n h = grind (arith, nat_tests)

longer : (b : Bool) (m : ℕ) (xs : List ℕ) → length (cond b (m ∷ xs) xs) ≡ one_if b + length xs
longer true m xs = after (length xs)
  where
    after : (n : ℕ) → suc n ≡ 1 + n
    after n = omega arith
longer false m xs = sym (zero-add (length xs))

more_begin : (arcs : List Arc) (n m : ℕ) → All IsOrdered arcs → count_by (begins_before (suc n)) arcs ≤ count_by (begins_before n) arcs + length (arcs_from m arcs n)
more_begin [] n m h = omega arith
more_begin (a ∷ arcs) n m h =
    let rest : count_by (begins_before (suc n)) arcs ≤ count_by (begins_before n) arcs + length (arcs_from (m + 1) arcs n) = more_begin arcs n (m + 1) (All-tail IsOrdered a arcs h) in
    let here : one_if (begins_before (suc n) a) ≤ one_if (begins_before n a) + one_if (holds_pair a n) = one_more a.first a.last n (All-head IsOrdered a arcs h) in
    let later : count_by (begins_before (suc n)) (a ∷ arcs) ≡ one_if (begins_before (suc n) a) + count_by (begins_before (suc n)) arcs = with_first (begins_before (suc n)) a arcs in
    let before : count_by (begins_before n) (a ∷ arcs) ≡ one_if (begins_before n a) + count_by (begins_before n) arcs = with_first (begins_before n) a arcs in
    let held : length (arcs_from m (a ∷ arcs) n) ≡ one_if (holds_pair a n) + length (arcs_from (m + 1) arcs n) = longer (holds_pair a n) m (arcs_from (m + 1) arcs n) in
    omega arith

none_begin : (arcs : List Arc) → count_by (begins_before 0) arcs ≡ 0
none_begin [] = refl
none_begin (a ∷ arcs) =
    let rest : count_by (begins_before 0) arcs ≡ 0 = none_begin arcs in
    let here : one_if (begins_before 0 a) ≡ 0 = none a.first in
    let all : count_by (begins_before 0) (a ∷ arcs) ≡ one_if (begins_before 0 a) + count_by (begins_before 0) arcs = with_first (begins_before 0) a arcs in
    omega arith
  where
    none : (f : ℕ) → one_if (nat_lt f 0) ≡ 0
    none f = grind (arith, nat_tests)

all_begin : (arcs : List Arc) (n : ℕ) → All (λ a. a.first < n) arcs → count_by (begins_before n) arcs ≡ length arcs
all_begin [] n h = refl
all_begin (a ∷ arcs) n h =
    let rest : count_by (begins_before n) arcs ≡ length arcs = all_begin arcs n (All-tail (λ b. b.first < n) a arcs h) in
    let here : one_if (begins_before n a) ≡ 1 = one a.first n (All-head (λ b. b.first < n) a arcs h) in
    let all : count_by (begins_before n) (a ∷ arcs) ≡ one_if (begins_before n a) + count_by (begins_before n) arcs = with_first (begins_before n) a arcs in
    omega arith
  where
    one : (f n : ℕ) → f < n → one_if (nat_lt f n) ≡ 1
    one f n h = grind (arith, nat_tests)

few_begin : (used : List UsedPair) (kept : List Arc) (n : ℕ) → IsCutOf used kept → All IsInRange used → All IsOrdered kept → n ≤ length used → count_by (begins_before n) kept ≤ MOST_SATELLITES * n
few_begin used kept zero c r o h = let none_begins : count_by (begins_before 0) kept ≡ 0 = none_begin kept in omega arith
few_begin used kept (suc n) c r o h =
    let before : count_by (begins_before n) kept ≤ MOST_SATELLITES * n = few_begin used kept n c r o (omega arith) in
    let held : length (arcs_at kept n) ≤ MOST_SATELLITES = held_few used kept n c r (omega arith) in
    let more : count_by (begins_before (suc n)) kept ≤ count_by (begins_before n) kept + length (arcs_at kept n) = more_begin kept n 0 o in
    omega arith

pub kept_few : (used : List UsedPair) (kept : List Arc) → IsCutOf used kept → All IsInRange used → All AreNumbered used → length used ≤ MOST_PAIRS → length kept ≤ MOST_KEPT_ARCS
kept_few used kept c r numbered few =
    let ordered : All IsOrdered kept = λ k d i. (kept_each c.bands c.jump c.least used kept c.short k (get_or kept k d) c.kept (slice_get-get_or kept k d i)).0.run.order in
    let inside : All (λ a. a.first < length used) kept = λ k d i. first_inside used kept k (get_or kept k d) c numbered (slice_get-get_or kept k d i) in
    let all : count_by (begins_before (length used)) kept ≡ length kept = all_begin kept (length used) inside in
    let begun : count_by (begins_before (length used)) kept ≤ MOST_SATELLITES * length used = few_begin used kept (length used) c r ordered (omega arith) in
    omega arith
