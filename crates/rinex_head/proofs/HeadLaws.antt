-- What a blank at the end of a text is to `trimmed`.
use Rattle.std.proofs.Common.{◌≡◌, ◌≢◌, ℕ, zero, suc, ◌-◌, ◌<◌, ◌≤◌, ◌==◌, Bool, true, false, List, [], ◌∷◌, ◌++◌, length, take, drop, get_or, nat_le, refl, sym, ap, ◌∙◌, arith, min, subst, inl, inr}
use Rattle.std.proofs.lemmas.Bool.Decides.{nat_tests, eqb_tells}
use Rattle.std.proofs.lemmas.List.{length-drop}
use Rattle.std.proofs.Math.Seq.{take-suc, take-length}
use Rattle.rinex_head.specs.Head.{trimmed, front_of}

trimmed-blank : (xs : List ℕ) → trimmed (xs ++ 32 ∷ []) ≡ trimmed xs
unfolding trimmed
trimmed-blank [] = refl
trimmed-blank (x ∷ xs) = ap (front_of x) (trimmed-blank xs)

front_of-more : (x b : ℕ) (xs : List ℕ) → front_of x (xs ++ b ∷ []) ≡ x ∷ (xs ++ b ∷ [])
front_of-more x b [] = refl
front_of-more x b (y ∷ ys) = refl

trimmed-kept : (xs : List ℕ) (b : ℕ) → (b == 32) ≡ false → trimmed (xs ++ b ∷ []) ≡ xs ++ b ∷ []
unfolding trimmed
trimmed-kept [] b other = rw other refl
trimmed-kept (x ∷ xs) b other = ap (front_of x) (trimmed-kept xs b other) ∙ front_of-more x b xs

apart : (b : ℕ) → b ≢ 32 → (b == 32) ≡ false
apart b other = elim (eqb_tells b 32) [ inl p ↦ absurd (other p.1) | inr p ↦ p.0 ]

last_apart : (xs : List ℕ) (d : ℕ) → 1 ≤ length xs → xs ≡ take (length xs - 1) xs ++ get_or xs (length xs - 1) d ∷ []
last_apart xs d some =
    let less : length xs - 1 < length xs = omega arith in
    let count : suc (length xs - 1) ≡ length xs = omega arith in
    let whole : take (suc (length xs - 1)) xs ≡ xs = rw count (take-length xs) in
    sym whole ∙ take-suc xs (length xs - 1) d less

-- a blank at the end goes
pub trimmed_shorter : (xs : List ℕ) (d : ℕ) → 1 ≤ length xs → get_or xs (length xs - 1) d ≡ 32 → trimmed xs ≡ trimmed (take (length xs - 1) xs)
trimmed_shorter xs d some blank =
    ap trimmed (last_apart xs d some) ∙ ap (λ b. trimmed (take (length xs - 1) xs ++ b ∷ [])) blank ∙ trimmed-blank (take (length xs - 1) xs)

-- and another byte stays
pub trimmed_whole : (xs : List ℕ) (d : ℕ) → 1 ≤ length xs → get_or xs (length xs - 1) d ≢ 32 → trimmed xs ≡ xs
trimmed_whole xs d some other =
    ap trimmed (last_apart xs d some) ∙ trimmed-kept (take (length xs - 1) xs) (get_or xs (length xs - 1) d) (apart (get_or xs (length xs - 1) d) other) ∙ sym (last_apart xs d some)

pub trimmed_none : (xs : List ℕ) → length xs < 1 → trimmed xs ≡ xs
unfolding trimmed
trimmed_none [] short = refl
trimmed_none (x ∷ xs) short = absurd (omega arith)

-- no more bytes are there than the text has
pub take-min : (n : ℕ) (xs : List ℕ) → take (min (length xs) n) xs ≡ take n xs
take-min zero xs = let none : min (length xs) 0 ≡ 0 = omega arith in rw none refl
take-min (suc n) [] = let none : min 0 (suc n) ≡ 0 = omega arith in rw none refl
take-min (suc n) (x ∷ xs) = let more : min (suc (length xs)) (suc n) ≡ suc (min (length xs) n) = omega arith in rw more (ap (λ l. x ∷ l) (take-min n xs))

drop_past : (n : ℕ) (xs : List ℕ) → length xs ≤ n → drop n xs ≡ []
drop_past zero [] few = refl
drop_past zero (x ∷ xs) few = absurd (omega arith)
drop_past (suc n) [] few = refl
drop_past (suc n) (x ∷ xs) few = drop_past n xs (omega arith)

nothing : (k : ℕ) → take {A = ℕ} k [] ≡ []
nothing zero = refl
nothing (suc k) = refl

-- the bytes from a to b, as far as there are any
pub slice_is : (a b m n : ℕ) (xs : List ℕ) → a ≤ b → m ≡ min (length xs) a → n ≡ min (length xs) b → take (n - m) (drop m xs) ≡ take (b - a) (drop a xs)
slice_is a b m n xs order from to = by_length (nat_le a (length xs)) refl
  where
    by_length : (t : Bool) → nat_le a (length xs) ≡ t → take (n - m) (drop m xs) ≡ take (b - a) (drop a xs)
    by_length true is =
        let inside : a ≤ length xs = grind (arith, nat_tests) in
        let start : m ≡ a = omega arith in
        let count : n - m ≡ min (length (drop a xs)) (b - a) = omega (arith, length-drop a xs) in
        rw count (subst (λ k. take (min (length (drop a xs)) (b - a)) (drop k xs) ≡ take (b - a) (drop a xs)) (sym start) (take-min (b - a) (drop a xs)))
    by_length false is =
        let outside : length xs < a = grind (arith, nat_tests) in
        let none : n - m ≡ 0 = omega arith in
        rw (none, drop_past a xs (omega arith)) (sym (nothing (b - a)))
