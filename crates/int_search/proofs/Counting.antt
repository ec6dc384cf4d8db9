-- Different suffixes that all stand in a list are at most as many as the list has.
use Rattle.std.proofs.Common.{◌≡◌, ◌≢◌, ◌⊎◌, inl, inr, ℕ, zero, suc, ◌+◌, ◌<◌, ◌≤◌, List, [], ◌∷◌, length, get_or, ℤ, arith, refl, sym, ◌∙◌, All}
use Rattle.std.specs.List.{AllPairs, Contains}

-- q is one of the list
abbrev IsOneOf : List (List ℤ) → List ℤ → Type 0
IsOneOf [] q = ⊥
IsOneOf (x ∷ xs) q = (x ≡ q) ⊎ IsOneOf xs q

one_at : (xs : List (List ℤ)) (q : List ℤ) (k : ℕ) → k < length xs → get_or xs k q ≡ q → IsOneOf xs q
one_at [] q k h e = absurd (omega arith)
one_at (x ∷ xs) q zero h e = inl e
one_at (x ∷ xs) q (suc k) h e = inr (one_at xs q k (omega arith) e)

pub contains_first : (xs : List (List ℤ)) (q : List ℤ) → Contains (q ∷ xs) q
contains_first xs q = (0, omega arith, refl)

pub contains_later : (xs : List (List ℤ)) (x q : List ℤ) → Contains xs q → Contains (x ∷ xs) q
contains_later xs x q c = (suc c.0, (let place_below = c.1 in omega arith), c.2)

-- the list without that place
without : (ys : List (List ℤ)) (q : List ℤ) → IsOneOf ys q → List (List ℤ)
without [] q m = absurd m
without (y ∷ ys) q (inl e) = ys
without (y ∷ ys) q (inr m) = y ∷ without ys q m

length-without : (ys : List (List ℤ)) (q : List ℤ) (m : IsOneOf ys q) → length (without ys q m) + 1 ≡ length ys
unfolding without
length-without [] q m = absurd m
length-without (y ∷ ys) q (inl e) = omega arith
length-without (y ∷ ys) q (inr m) = let one_shorter = length-without ys q m in omega arith

still_there : (ys : List (List ℤ)) (q r : List ℤ) (m : IsOneOf ys q) → (q ≡ r → ⊥) → IsOneOf ys r → IsOneOf (without ys q m) r
unfolding without
still_there [] q r m d n = absurd m
still_there (y ∷ ys) q r (inl e) d (inl g) = absurd (d (sym e ∙ g))
still_there (y ∷ ys) q r (inl e) d (inr n) = n
still_there (y ∷ ys) q r (inr m) d (inl g) = inl g
still_there (y ∷ ys) q r (inr m) d (inr n) = inr (still_there ys q r m d n)

at_most : (xs ys : List (List ℤ)) → AllPairs (λ s t. s ≢ t) xs → All (IsOneOf ys) xs → length xs ≤ length ys
at_most [] ys d e = omega arith
at_most (x ∷ xs) ys d e =
    let is_one_of : IsOneOf ys x = e 0 x (omega arith) in
    let one_fewer : length (without ys x is_one_of) + 1 ≡ length ys = length-without ys x is_one_of in
    let fewer_left : length xs ≤ length (without ys x is_one_of) = at_most xs (without ys x is_one_of) (λ i j q l h. d (suc i) (suc j) q (omega arith) (omega arith))
    (λ k q h. still_there ys x (get_or xs k q) is_one_of (d 0 (suc k) q (omega arith) (omega arith)) (e (suc k) q (omega arith))) in
    omega arith

pub contained_most : (qs ss : List (List ℤ)) → AllPairs (λ q r. q ≢ r) qs → All (Contains ss) qs → length qs ≤ length ss
contained_most qs ss d w = at_most qs ss d (λ k q h. one (get_or qs k q) (w k q h))
  where
    one : (q : List ℤ) → Contains ss q → IsOneOf ss q
    one q c = one_at ss q c.0 c.1 c.2
