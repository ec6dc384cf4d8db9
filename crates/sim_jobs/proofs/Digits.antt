-- Digits as they are written.
use Rattle.std.proofs.Common.{◌≡◌, ℕ, zero, suc, ◌+◌, ◌-◌, ◌*◌, ◌/◌, ◌%◌, ◌^◌, ◌<◌, true, nat_le, List, [], ◌∷◌, ◌++◌, length, refl, sym, ap, ◌∙◌, arith, rules, pow-suc, add-mul}
use Rattle.std.proofs.lemmas.Bool.{and_parts}
use Rattle.std.specs.Prelude.{decimal}
use Rattle.std.proofs.lemmas.Bool.Decides.{nat_tests}
use Rattle.std.proofs.lemmas.Fmt.{digits_decimal, digits_value-decimal}
use Rattle.std.proofs.lemmas.Str.Parse.{IsNumeralModel, numerals_by_fold}
use Rattle.std.proofs.Math.Nat.{div-div-eq-div-mul, div-eq_of_lt, mul_assoc, mul_comm}
use Rattle.decimal_text.specs.Whole.{is_digit, are_digits, number_from, digit_sum}
use Rattle.decimal_text.specs.Write.{last_digits}
use Rattle.decimal_text.proofs.Numbers.{digits_are, number_from-sum, number_from-append}
use Rattle.sim_jobs.specs.Printed.{are_printed}

own : IsNumeralModel (λ ds. are_digits ds ≡ true) (number_from 0)
own = numerals_by_fold _ (search rules) number_from (search rules)

pub decimal_digits : (n : ℕ) → n < 2 ^ 64 → are_digits (decimal n) ≡ true
decimal_digits n small = digits_decimal own n small

pub decimal_value : (n : ℕ) → n < 2 ^ 64 → digit_sum (decimal n) ≡ n
decimal_value n small = sym (digits_are (decimal n)) ∙ digits_value-decimal own n small

digit : (m : ℕ) → is_digit (48 + m % 10) ≡ true
digit m = grind (arith, nat_tests)

pub length-last_digits : (k n : ℕ) → length (last_digits k n) ≡ k
length-last_digits zero n = refl
length-last_digits (suc k) n = omega (arith, length-last_digits k n)

pub last_digits-digits : (k n : ℕ) → are_digits (last_digits k n) ≡ true
last_digits-digits zero n = refl
last_digits-digits (suc k) n = rw (digit (n / 10 ^ k)) (last_digits-digits k n)

-- a number is its digits above the last k, and the last k
pub last_digits-sum : (k n : ℕ) → n / 10 ^ k * 10 ^ k + digit_sum (last_digits k n) ≡ n
last_digits-sum zero n = omega arith
last_digits-sum (suc k) n =
    let above : n / 10 ^ suc k ≡ n / 10 ^ k / 10 = ap (λ (m : ℕ). n / m) (power k) ∙ sym (div-div-eq-div-mul n (10 ^ k) 10) in
    rw (above, power k, length-last_digits k n) (put_together (n / 10 ^ k) (10 ^ k) (digit_sum (last_digits k n)) ∙ last_digits-sum k n)
  where
    power : (k : ℕ) → 10 ^ suc k ≡ 10 ^ k * 10
    power k = pow-suc 10 k

    split : (q p : ℕ) → (q / 10 * 10 + q % 10) * p ≡ q / 10 * (p * 10) + q % 10 * p
    split q p = omega (arith, add-mul (q / 10 * 10) (q % 10) p, mul_assoc (q / 10) 10 p, mul_comm 10 p)

    put_together : (q p s : ℕ) → q / 10 * (p * 10) + ((48 + q % 10 - 48) * p + s) ≡ q * p + s
    put_together q p s =
        let back : 48 + q % 10 - 48 ≡ q % 10 = omega arith in
        let whole : q / 10 * 10 + q % 10 ≡ q = omega arith in
        rw back (omega (arith, split q p, ap (λ (m : ℕ). m * p) whole))

-- so a number of at most k digits is its last k
pub last_digits-value : (k n : ℕ) → n < 10 ^ k → digit_sum (last_digits k n) ≡ n
last_digits-value k n few =
    let none : n / 10 ^ k ≡ 0 = div-eq_of_lt few in
    let whole = last_digits-sum k n in
    omega (arith, rw none at whole)

pub digits_printed : (ds : List ℕ) → are_digits ds ≡ true → are_printed ds ≡ true
digits_printed [] is = refl
digits_printed (d ∷ ds) is = rw (printed d (and_parts (is_digit d) (are_digits ds) is).0) (digits_printed ds (and_parts (is_digit d) (are_digits ds) is).1)
  where
    printed : (d : ℕ) → is_digit d ≡ true → nat_le 32 d ≡ true
    printed d is = grind (arith, nat_tests)

pub printed_digits : (k n : ℕ) → are_printed (last_digits k n) ≡ true
printed_digits k n = digits_printed (last_digits k n) (last_digits-digits k n)

pub sum-append : (xs ys : List ℕ) → digit_sum (xs ++ ys) ≡ digit_sum xs * 10 ^ length ys + digit_sum ys
sum-append xs ys =
    sym (digits_are (xs ++ ys)) ∙ number_from-append 0 xs ys ∙ number_from-sum (number_from 0 xs) ys ∙ ap (λ (n : ℕ). n * 10 ^ length ys + digit_sum ys) (digits_are xs)
