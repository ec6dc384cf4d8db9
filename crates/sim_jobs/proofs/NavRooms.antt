-- The numbers of made satellites have room in their columns.
use Rattle.std.proofs.Common.{◌≡◌, ℕ, ℤ, pos, negsuc, zero, suc, ◌*◌, ◌^◌, ◌≤◌, ◌<◌, ◌+ℤ◌, ◌*ℤ◌, ◌≤ℤ◌, ◌⊎◌, inl, inr, unsigned_abs, Bool, true, false, nat_le, lit<, refl, sym, ap, ◌∙◌, arith}
use Rattle.std.proofs.lemmas.Nat.{mul-le}
use Rattle.std.proofs.lemmas.Int.{ints, unsigned_abs-mul}
use Rattle.std.proofs.lemmas.Bool.Decides.{nat_tests}
use Rattle.std.proofs.Math.Nat.{pow-le-pow_right, mul-le-mul_right}
use Rattle.whole_math.specs.Rational.{◌≈◌}
use Rattle.eph_store.specs.Decimals.{decimal, with_exponent, value_of}
use Rattle.decimal_text.specs.Whole.{size_of}
use Rattle.decimal_text.specs.declared.exponent.Dec.{Dec}
use Rattle.decimal_text.proofs.Numbers.{size_is}
use Rattle.sim_session.specs.Numbers.{IsNormal}
use Rattle.sim_jobs.proofs.NavNumbers.{HasRoom}
use Rattle.sim_jobs.proofs.OneSpelling.{ten, at_least}

sized : (z : ℤ) → negsuc 98 ≤ℤ z → z ≤ℤ pos 99 → size_of z < 10 ^ 2
sized (pos n) low high = omega (arith, ints)
sized (negsuc n) low high = omega (arith, ints)

-- a positive exponent would make the number too large
no_positive : (mant n : ℤ) (m p : ℕ) → 10 ^ 12 ≤ size_of mant → unsigned_abs n < 10 ^ 6 → (mant *ℤ pos (10 ^ m)) *ℤ pos (10 ^ p) ≡ n *ℤ pos 1 → ⊥
no_positive mant n m p low small same =
    let left : unsigned_abs ((mant *ℤ pos (10 ^ m)) *ℤ pos (10 ^ p)) ≡ unsigned_abs mant * 10 ^ m * 10 ^ p =
    unsigned_abs-mul (mant *ℤ pos (10 ^ m)) (pos (10 ^ p)) ∙ ap (λ (x : ℕ). x * 10 ^ p) (unsigned_abs-mul mant (pos (10 ^ m))) in
    let right : unsigned_abs (n *ℤ pos 1) ≡ unsigned_abs n * 1 = unsigned_abs-mul n (pos 1) in
    let sizes : unsigned_abs ((mant *ℤ pos (10 ^ m)) *ℤ pos (10 ^ p)) ≡ unsigned_abs (n *ℤ pos 1) = ap unsigned_abs same in
    let one = at_least (unsigned_abs mant) (10 ^ m) (ten m) in
    let two = at_least (unsigned_abs mant * 10 ^ m) (10 ^ p) (ten p) in
    let abs = size_is mant in
    omega arith

not_far : (m : ℕ) → (33 ≤ m → ⊥) → m < 33
not_far m fails = by_test (nat_le 33 m) refl
  where
    by_test : (t : Bool) → nat_le 33 m ≡ t → m < 33
    by_test true is = absurd (fails (grind (arith, nat_tests)))
    by_test false is = grind (arith, nat_tests)

-- and one of more than 33 digits after the point too small
few_places : (mant n : ℤ) (m p : ℕ) → 10 ^ 12 ≤ size_of mant → size_of mant < 10 ^ 13 → p ≤ 20 → mant *ℤ pos (10 ^ p) ≡ n *ℤ pos (10 ^ suc m) → m < 33
few_places mant n m p low high places same = by (unsigned_abs n) refl
  where
    sizes : unsigned_abs mant * 10 ^ p ≡ unsigned_abs n * 10 ^ suc m
    sizes = sym (unsigned_abs-mul mant (pos (10 ^ p))) ∙ ap unsigned_abs same ∙ unsigned_abs-mul n (pos (10 ^ suc m))

    above : (m : ℕ) → 33 ≤ m → 10 ^ 34 ≤ 10 ^ suc m
    above m far = let more : 34 ≤ suc m = omega arith in pow-le-pow_right (lit< tt) more

    left : unsigned_abs mant * 10 ^ p ≤ 10 ^ 13 * 10 ^ 20
    left = let abs = size_is mant in mul-le (unsigned_abs mant) (10 ^ p) (10 ^ 13) (10 ^ 20) (omega arith) (pow-le-pow_right (lit< tt) places)

    some : 10 ^ 12 ≤ unsigned_abs mant * 10 ^ p
    some = let abs = size_is mant in let more = at_least (unsigned_abs mant) (10 ^ p) (ten p) in omega arith

    far_fails : (a : ℕ) → unsigned_abs n ≡ a → 1 ≤ a → 33 ≤ m → ⊥
    far_fails a is one far =
        let more : 1 * 10 ^ suc m ≤ a * 10 ^ suc m = mul-le-mul_right (10 ^ suc m) one in
        let size : unsigned_abs mant * 10 ^ p ≡ a * 10 ^ suc m = sizes ∙ ap (λ (x : ℕ). x * 10 ^ suc m) is in
        let power_at_least = above m far in
        let product_at_most = left in
        omega arith

    nothing : unsigned_abs n ≡ 0 → ⊥
    nothing is =
        let size : unsigned_abs mant * 10 ^ p ≡ 0 * 10 ^ suc m = sizes ∙ ap (λ (x : ℕ). x * 10 ^ suc m) is in
        let product_at_least = some in
        omega arith

    by : (a : ℕ) → unsigned_abs n ≡ a → m < 33
    by zero is = absurd (nothing is)
    by (suc a) is = not_far m (far_fails (suc a) is (omega arith))

power_room : (mant exp n : ℤ) (p : ℕ) → ((10 ^ 12 ≤ size_of mant) × (size_of mant < 10 ^ 13)) ⊎ ((mant ≡ pos 0) × (exp ≡ negsuc 11)) →
    with_exponent mant exp ≈ decimal n p → unsigned_abs n < 10 ^ 6 → p ≤ 20 → size_of (exp +ℤ pos 12) < 10 ^ 2
power_room mant exp n p (inr (none, is)) same small places = rw is (omega arith)
power_room mant (pos m) n p (inl (low, high)) same small places = absurd (no_positive mant n m p low small same)
power_room mant (negsuc m) n p (inl (low, high)) same small places =
    let few = few_places mant n m p low high places same in
    sized (negsuc m +ℤ pos 12) (omega (arith, ints)) (omega (arith, ints))

digits_room : (mant exp : ℤ) → ((10 ^ 12 ≤ size_of mant) × (size_of mant < 10 ^ 13)) ⊎ ((mant ≡ pos 0) × (exp ≡ negsuc 11)) → size_of mant < 10 ^ 13
digits_room mant exp (inl (low, high)) = high
digits_room mant exp (inr (none, is)) = rw none (omega arith)

pub room : (d : Dec) (n : ℤ) (p : ℕ) → IsNormal d → value_of d ≈ decimal n p → unsigned_abs n < 10 ^ 6 → p ≤ 20 → HasRoom d
room d n p normal value small places = record { digits = digits_room d.mant d.exp normal; power = power_room d.mant d.exp n p normal value small places }
