-- A number that fits a word is the word's value.
use Rattle.std.proofs.Common.{◌≡◌, ℕ, ◌+◌, ◌*◌, ◌^◌, ◌<◌, ◌≤◌, ℤ, ◌+ℤ◌, unsigned_abs, arith, to_z, of_z}
use Rattle.std.proofs.lemmas.Int.{ints}
use Rattle.std.specs.Int.{w128}
use Rattle.quadratic_form.specs.declared.sizes.TheConstants.{MOST_FORM_COLUMNS}

pub sum_word : (x y : ℤ) (c : ℕ) → c < MOST_FORM_COLUMNS → unsigned_abs x ≤ c * 2 ^ 82 → unsigned_abs y ≤ 2 ^ 82 → to_z w128 (of_z w128 (x +ℤ y)) ≡ x +ℤ y
sum_word x y c inside first second = omega (arith, ints)

pub sum_size : (x y : ℤ) (c : ℕ) → unsigned_abs x ≤ c * 2 ^ 82 → unsigned_abs y ≤ 2 ^ 82 → unsigned_abs (x +ℤ y) ≤ (c + 1) * 2 ^ 82
sum_size x y c first second = omega (arith, ints)

pub wide_sum_word : (x y : ℤ) (c : ℕ) → c < MOST_FORM_COLUMNS → unsigned_abs x ≤ c * 2 ^ 118 → unsigned_abs y ≤ 2 ^ 118 → to_z w128 (of_z w128 (x +ℤ y)) ≡ x +ℤ y
wide_sum_word x y c inside first second = omega (arith, ints)

pub wide_sum_size : (x y : ℤ) (c : ℕ) → unsigned_abs x ≤ c * 2 ^ 118 → unsigned_abs y ≤ 2 ^ 118 → unsigned_abs (x +ℤ y) ≤ (c + 1) * 2 ^ 118
wide_sum_size x y c first second = omega (arith, ints)
