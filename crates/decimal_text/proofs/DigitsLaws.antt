-- Powers of ten, and one more digit that is written.
use Rattle.std.proofs.Common.{◌≡◌, ℕ, zero, suc, ◌+◌, ◌-◌, ◌/◌, ◌%◌, ◌^◌, ◌<◌, List, [], ◌∷◌, ◌++◌, ap, ◌∙◌, arith, lit<}
use Rattle.std.proofs.lemmas.List.{append_assoc}
use Rattle.std.proofs.Math.Nat.{one-le-pow}
use Rattle.decimal_text.specs.Write.{last_digits}

pub ten_to_pos : (p n : ℕ) → p ≡ 10 ^ n → 0 < p
ten_to_pos p n is = let least = one-le-pow n 10 (lit< tt) in omega (arith, least, is)

pub digits_step : (left n p : ℕ) (xs ys total : List ℕ) → 0 < left → p ≡ 10 ^ (left - 1) → xs ++ last_digits left n ≡ total → ys ≡ xs ++ (48 + n / p % 10) ∷ [] → ys ++ last_digits (left - 1) n ≡ total
digits_step zero n p xs ys total some power is more = absurd (omega arith)
digits_step (suc k) n p xs ys total some power is more =
    let back : suc k - 1 ≡ k = omega arith in
    let same : p ≡ 10 ^ k = power ∙ ap (λ j. 10 ^ j) back in
    rw (back, more, same, append_assoc) is
