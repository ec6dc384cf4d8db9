-- How large the number of digits is.
use Rattle.std.proofs.Common.{◌≡◌, ℕ, ◌+◌, ◌-◌, ◌*◌, ◌^◌, ◌<◌, ◌≤◌, true, List, [], ◌∷◌, length, get_or, arith, pow-suc, lit<}
use Rattle.std.proofs.Math.Nat.{mul-le-mul_right, pow-le-pow_right}
use Rattle.decimal_text.specs.Whole.{are_digits, digit_sum, number_from}
use Rattle.decimal_text.proofs.Numbers.{number_from-ge, digits_are, first_digit}

bound : (d p s : ℕ) → d ≤ 9 → s < p → d * p + s < 10 * p
bound d p s small less = let most : d * p ≤ 9 * p = mul-le-mul_right p small in omega arith

digits_small : (ds : List ℕ) → are_digits ds ≡ true → digit_sum ds < 10 ^ length ds
digits_small [] h = lit< tt
digits_small (d ∷ ds) h =
    let first = first_digit d ds h in
    let whole : (d - 48) * 10 ^ length ds + digit_sum ds < 10 * 10 ^ length ds = bound (d - 48) (10 ^ length ds) (digit_sum ds) first.0 (digits_small ds first.1) in
    rw pow-suc (omega arith)

pub value_small : (ds : List ℕ) → are_digits ds ≡ true → length ds ≤ 18 → number_from 0 ds < 10 ^ 18
value_small ds h few =
    let small : digit_sum ds < 10 ^ length ds = digits_small ds h in
    let most : 10 ^ length ds ≤ 10 ^ 18 = pow-le-pow_right (lit< tt) few in
    rw (digits_are ds) (omega arith)

-- one digit more is no more than the whole number
pub one_more_digit : (n : ℕ) (rest : List ℕ) → 1 ≤ length rest → 10 * n + (get_or rest 0 0 - 48) ≤ number_from n rest
one_more_digit n [] some = absurd (omega arith)
one_more_digit n (b ∷ bs) some = number_from-ge (10 * n + (b - 48)) bs
