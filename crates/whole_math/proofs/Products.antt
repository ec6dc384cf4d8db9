-- The size of a product of two numbers whose sizes are powers of two.
use Rattle.std.proofs.Common.{ℕ, ◌+◌, ◌^◌, ◌≤◌, ℤ, ◌*ℤ◌, unsigned_abs, arith, sym, subst, lit<}
use Rattle.std.proofs.Math.Nat.{pow-le-pow_right}
use Rattle.std.proofs.lemmas.Nat.{pow-add}
use Rattle.whole_math.proofs.Order.{abs_mul_le}

pub product_size : (x y : ℤ) (a b : ℕ) → unsigned_abs x ≤ 2 ^ a → unsigned_abs y ≤ 2 ^ b → unsigned_abs (x *ℤ y) ≤ 2 ^ (a + b)
product_size x y a b h k = subst (λ (n : ℕ). unsigned_abs (x *ℤ y) ≤ n) (sym (pow-add 2 a b)) (abs_mul_le x y (2 ^ a) (2 ^ b) h k)

pub product_fits : (x y : ℤ) (a b : ℕ) → unsigned_abs x ≤ 2 ^ a → unsigned_abs y ≤ 2 ^ b → a + b ≤ 126 → unsigned_abs (x *ℤ y) ≤ 2 ^ 126
product_fits x y a b h k l =
    let small : unsigned_abs (x *ℤ y) ≤ 2 ^ (a + b) = product_size x y a b h k in
    let most : 2 ^ (a + b) ≤ 2 ^ 126 = pow-le-pow_right (lit< tt) l in
    omega (arith, small, most)
