-- Fields of a written line, and the bytes in its columns.
use Rattle.std.proofs.Common.{◌≡◌, ℕ, zero, suc, ◌+◌, ◌^◌, ◌<◌, true, false, ◌==◌, List, [], ◌∷◌, ◌++◌, length, drop, get_or, Ok, Some, refl, ap, subst, ◌∙◌, arith}
use Rattle.std.proofs.lemmas.Bool.{and_parts}
use Rattle.std.proofs.lemmas.Bool.Decides.{nat_tests}
use Rattle.std.proofs.lemmas.List.{append-nil}
use Rattle.decimal_text.specs.Whole.{is_digit, are_digits}
use Rattle.decimal_text.specs.Write.{last_digits}
use Rattle.decimal_text.specs.Fixed.{without_blanks}
use Rattle.decimal_text.proofs.Numbers.{digits_are}
use Rattle.rinex_head.specs.Columns.{padded}
use Rattle.rinex_head.specs.Fields.{digits_of, whole_of}
use Rattle.sim_jobs.proofs.Digits.{last_digits-digits, last_digits-value}

not_blank : (d : ℕ) → is_digit d ≡ true → (d == 32) ≡ false
not_blank d is = grind (arith, nat_tests)

pub no_blanks : (ds : List ℕ) → are_digits ds ≡ true → without_blanks ds ≡ ds
no_blanks [] is = refl
no_blanks (d ∷ ds) is = rw (not_blank d (and_parts (is_digit d) (are_digits ds) is).0) refl

-- the digits of a number are read as it
pub whole_digits : (first k n : ℕ) → n < 10 ^ suc k → whole_of first (last_digits (suc k) n) ≡ Ok (Some n)
whole_digits first k n few =
    let digits : are_digits (last_digits (suc k) n) ≡ true = last_digits-digits (suc k) n in
    ap (digits_of first) (no_blanks (last_digits (suc k) n) digits)
    ∙ rw digits (ap (λ (m : ℕ). Ok (Some m)) (digits_are (last_digits (suc k) n) ∙ last_digits-value (suc k) n few))

-- after a piece
pub drop-behind : (xs ys : List ℕ) (k j : ℕ) → k ≡ length xs + j → drop k (xs ++ ys) ≡ drop j ys
drop-behind [] ys k j is = let same : k ≡ j = omega arith in ap (λ (i : ℕ). drop i ys) same
drop-behind (x ∷ xs) ys zero j is = absurd (omega arith)
drop-behind (x ∷ xs) ys (suc k) j is = drop-behind xs ys k j (omega arith)

pub get-behind : (xs ys : List ℕ) (k j d : ℕ) → k ≡ length xs + j → get_or (xs ++ ys) k d ≡ get_or ys j d
get-behind [] ys k j d is = let same : k ≡ j = omega arith in ap (λ (i : ℕ). get_or ys i d) same
get-behind (x ∷ xs) ys zero j d is = absurd (omega arith)
get-behind (x ∷ xs) ys (suc k) j d is = get-behind xs ys k j d (omega arith)

pub padded-front : (xs ys : List ℕ) (n : ℕ) → n ≡ length xs → padded (xs ++ ys) n ≡ xs
unfolding padded
padded-front [] ys zero is = refl
padded-front [] ys (suc n) is = absurd (omega arith)
padded-front (x ∷ xs) ys zero is = absurd (omega arith)
padded-front (x ∷ xs) ys (suc n) is = ap (λ (l : List ℕ). x ∷ l) (padded-front xs ys n (omega arith))

pub padded-whole : (xs : List ℕ) (n : ℕ) → n ≡ length xs → padded xs n ≡ xs
padded-whole xs n is = subst (λ (l : List ℕ). padded l n ≡ xs) (append-nil xs) (padded-front xs [] n is)
