-- The chosen record, one record more.
use Rattle.std.proofs.Common.{◌≡◌, ℕ, ◌<◌, ◌≤◌, ◌+◌, List, [], ◌∷◌, ◌++◌, length, get_or, take, refl, sym, ap, ◌∙◌, arith, append_assoc, Some, None, Option, MatchOption, Bor, All}
use Rattle.std.proofs.lemmas.List.Elements.{All-push, All-append}
use Rattle.std.proofs.lemmas.List.{take_more}
use Rattle.eph_store.specs.declared.ephemeris.Eph.{Eph}
use Rattle.eph_store.specs.Chosen.{distance, IsCandidate, IsChosenRecord, HasNoCandidate}

-- what is known of the records so far: the best, and how far it is; or none, and how far one may be
abbrev pub BestSoFar : Option (Bor Eph) → ℕ → List Eph → ℕ → ℕ → Type 0
BestSoFar best limit xs sat tag =
    MatchOption best ((limit ≡ 72000000000) × HasNoCandidate xs sat tag) (λ e. (limit ≡ distance tag e.now) × IsChosenRecord xs sat tag e.now)

chosen_stays : (xs : List Eph) (sat tag : ℕ) (e y : Eph) → IsChosenRecord xs sat tag e → (IsCandidate sat tag y → distance tag e < distance tag y) → IsChosenRecord (xs ++ y ∷ []) sat tag e
chosen_stays xs sat tag e y c far = record {
  front = c.front;
  rest = c.rest ++ y ∷ [];
  stands = ap (λ (zs : List Eph). zs ++ y ∷ []) c.stands ∙ append_assoc c.front (e ∷ c.rest) (y ∷ []);
  candidate = c.candidate;
  nearest = c.nearest;
  latest = All-push (λ f. IsCandidate sat tag f → distance tag e < distance tag f) c.rest y c.latest far;
}

pub best_stays : (best : Option (Bor Eph)) (limit : ℕ) (xs : List Eph) (sat tag : ℕ) (y : Eph) → BestSoFar best limit xs sat tag
    → (y.sat ≡ sat → distance tag y ≤ limit → ⊥) → BestSoFar best limit (xs ++ y ∷ []) sat tag
best_stays None limit xs sat tag y (is, none) far = (is, All-push (λ f. IsCandidate sat tag f → ⊥) xs y none (λ c. far c.named (rw is c.near)))
best_stays (Some e) limit xs sat tag y (is, chosen) far =
    (is, chosen_stays xs sat tag e.now y chosen (λ c. by c.named (far c.named)))
  where
    by : y.sat ≡ sat → (distance tag y ≤ limit → ⊥) → distance tag e.now < distance tag y
    by named not = let not_nearer : (distance tag y ≤ distance tag e.now) → ⊥ = rw (← is) not in omega (arith, not_nearer)

within_two_hours : (best : Option (Bor Eph)) (limit : ℕ) (xs : List Eph) (sat tag : ℕ) → BestSoFar best limit xs sat tag → limit ≤ 72000000000
within_two_hours None limit xs sat tag (is, none) = omega arith
within_two_hours (Some e) limit xs sat tag (is, chosen) = let is_near = chosen.candidate.near in omega (arith, is, is_near)

-- no candidate is nearer than the best so far
no_nearer : (best : Option (Bor Eph)) (limit : ℕ) (xs : List Eph) (sat tag d : ℕ) → BestSoFar best limit xs sat tag → d ≤ limit → All (λ f. IsCandidate sat tag f → d ≤ distance tag f) xs
no_nearer None limit xs sat tag d (is, none) le = λ k e inside c. absurd (none k e inside c)
no_nearer (Some e) limit xs sat tag d (is, chosen) le =
    let none_nearer : Eph → Type 0 = λ f. IsCandidate sat tag f → d ≤ distance tag f in
    let before : All none_nearer chosen.front = λ k z inside c. let is_nearer = chosen.nearest k z inside c in omega (arith, is_nearer, is, le) in
    let behind : All none_nearer chosen.rest = λ k z inside c. let at_least_as_near = chosen.latest k z inside c in omega (arith, at_least_as_near, is, le) in
    let here : All none_nearer (e.now ∷ []) = All-push none_nearer [] e.now (λ k z inside. absurd (omega (arith, inside))) (λ c. omega (arith, is, le)) in
    let both : All none_nearer ((e.now ∷ []) ++ chosen.rest) = All-append none_nearer (e.now ∷ []) chosen.rest here behind in
    let whole : All none_nearer (chosen.front ++ e.now ∷ chosen.rest) = All-append none_nearer chosen.front (e.now ∷ chosen.rest) before both in
    rw chosen.stands whole

pub best_is_new : (best : Option (Bor Eph)) (limit : ℕ) (xs : List Eph) (sat tag : ℕ) (y : Eph) → BestSoFar best limit xs sat tag → y.sat ≡ sat
    → distance tag y ≤ limit → IsChosenRecord (xs ++ y ∷ []) sat tag y
best_is_new best limit xs sat tag y so_far named near = record {
  front = xs;
  rest = [];
  stands = refl;
  candidate = record { named = named; near = let limit_at_most = within_two_hours best limit xs sat tag so_far in omega (arith, limit_at_most, near) };
  nearest = no_nearer best limit xs sat tag (distance tag y) so_far near;
  latest = λ k z inside. absurd (omega (arith, inside));
}

-- at the end the records so far are all
pub best_of_all : (best : Option (Bor Eph)) (limit n : ℕ) (xs ys : List Eph) (sat tag : ℕ) → ys ≡ xs → BestSoFar best limit ys sat tag
    → MatchOption best (HasNoCandidate xs sat tag) (λ e. IsChosenRecord xs sat tag e.now)
best_of_all None limit n xs ys sat tag e (is, none) = rw (← e) none
best_of_all (Some b) limit n xs ys sat tag e (is, chosen) = rw (← e) chosen

one_more : (xs : List Eph) (i : ℕ) (y : Eph) → i < length xs → y ≡ get_or xs i y → take i xs ++ y ∷ [] ≡ take (i + 1) xs
one_more xs i y inside is = ap (λ (z : Eph). take i xs ++ z ∷ []) is ∙ sym (take_more xs i y inside)

pub step_stays : (best next : Option (Bor Eph)) (limit later i : ℕ) (xs : List Eph) (sat tag : ℕ) (y : Eph) → next ≡ best → later ≡ limit → i < length xs → y ≡ get_or xs i y →
    BestSoFar best limit (take i xs) sat tag → (y.sat ≡ sat → distance tag y ≤ limit → ⊥) → BestSoFar next later (take (i + 1) xs) sat tag
step_stays best next limit later i xs sat tag y same alike inside is so_far far =
    rw (same, alike, ← one_more xs i y inside is) (best_stays best limit (take i xs) sat tag y so_far far)

pub step_new : (best next : Option (Bor Eph)) (b : Bor Eph) (limit later i : ℕ) (xs : List Eph) (sat tag : ℕ) → next ≡ Some b → later ≡ distance tag b.now → i < length xs → b.now ≡ get_or xs i b.now →
    BestSoFar best limit (take i xs) sat tag → b.now.sat ≡ sat → distance tag b.now ≤ limit → BestSoFar next later (take (i + 1) xs) sat tag
step_new best next b limit later i xs sat tag new away inside is so_far named near =
    rw (new, ← one_more xs i b.now inside is) (away, best_is_new best limit (take i xs) sat tag b.now so_far named near)
