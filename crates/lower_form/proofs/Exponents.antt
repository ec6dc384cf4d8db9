-- Every form has one least power of 2 that serves.
use Rattle.std.proofs.Common.{◌≡◌, ◌⊎◌, inl, inr, ◌+◌, ◌^◌, ◌<◌, ◌≤◌, ℕ, zero, suc, ℤ, pos, negsuc, ◌*ℤ◌, ◌<ℤ◌, ◌≤ℤ◌, unsigned_abs, List, [], ◌∷◌, arith}
use Rattle.std.proofs.Math.Pow.{pow_mono}
use Rattle.std.proofs.lemmas.Int.{ints}
use Rattle.quadratic_form.specs.Forms.{Column}
use Rattle.quadratic_form.specs.Lowering.{OwnBelow, IsExponent}

below_power : (n : ℕ) → n < 2 ^ n
below_power zero = omega arith
below_power (suc n) = let smaller_below = below_power n in omega arith

-- what is below a power is below each greater one
greater : (z : ℤ) (h k : ℕ) → h ≤ k → z <ℤ pos (2 ^ (50 + h)) → z <ℤ pos (2 ^ (50 + k))
greater z h k le below =
    let more : 50 + h ≤ 50 + k = omega arith in
    let power : 2 ^ (50 + h) ≤ 2 ^ (50 + k) = pow_mono more in
    by_size z (2 ^ (50 + h)) (2 ^ (50 + k)) power below
  where
    by_size : (z : ℤ) (a b : ℕ) → a ≤ b → z <ℤ pos a → z <ℤ pos b
    by_size z a b power below = omega (arith, ints)

later : (c : List Column) (h k : ℕ) → h ≤ k → OwnBelow h c → OwnBelow k c
later [] h k le below = tt
later (a ∷ c) h k le below = (greater (pos 63 *ℤ a.own) h k le below.0, later c h k le below.1)

-- the size of a number serves it
own_serves : (z : ℤ) → z <ℤ pos (2 ^ (50 + unsigned_abs z))
own_serves z =
    let power : 2 ^ unsigned_abs z ≤ 2 ^ (50 + unsigned_abs z) = pow_mono (omega arith) in
    by_size z (2 ^ (50 + unsigned_abs z)) (omega (arith, below_power (unsigned_abs z), power))
  where
    by_size : (z : ℤ) (b : ℕ) → unsigned_abs z < b → z <ℤ pos b
    by_size (pos n) b h = omega (arith, ints)
    by_size (negsuc n) b h = omega (arith, ints)

some_serves : (c : List Column) → (h : ℕ) × OwnBelow h c
some_serves [] = (0, tt)
some_serves (a ∷ c) =
    let z = pos 63 *ℤ a.own in
    let rest = some_serves c in
    let exponent = unsigned_abs z + rest.0 in
    (exponent, (greater z (unsigned_abs z) exponent (omega arith) (own_serves z), later c rest.0 exponent (omega arith) rest.1))

either : (c : List Column) (h : ℕ) → OwnBelow h c ⊎ (OwnBelow h c → ⊥)
either [] h = inl tt
either (a ∷ c) h = by_own (below_or_not (pos 63 *ℤ a.own) (pos (2 ^ (50 + h)))) (either c h)
  where
    below_or_not : (x y : ℤ) → (x <ℤ y) ⊎ ((x <ℤ y) → ⊥)
    below_or_not x y = elim (test x y) [ inl p ↦ inl p | inr p ↦ inr (λ q. omega (arith, ints, p, q)) ]
      where
        test : (x y : ℤ) → (x <ℤ y) ⊎ (y ≤ℤ x)
        test x y = grind (arith, ints)

    by_own : ((pos 63 *ℤ a.own) <ℤ pos (2 ^ (50 + h))) ⊎ (((pos 63 *ℤ a.own) <ℤ pos (2 ^ (50 + h))) → ⊥) → OwnBelow h c ⊎ (OwnBelow h c → ⊥) → OwnBelow h (a ∷ c) ⊎ (OwnBelow h (a ∷ c) → ⊥)
    by_own (inl p) (inl q) = inl (p, q)
    by_own (inl p) (inr q) = inr (λ both. q both.1)
    by_own (inr p) q = inr (λ both. p both.0)

least_up_to : (c : List Column) (n : ℕ) → OwnBelow n c → (h : ℕ) × IsExponent h c
least_up_to c zero below = (0, record { enough = below; least = λ k is. omega arith })
least_up_to c (suc n) below = by_test (either c n) (λ one. least_up_to c n one)
  where
    by_test : OwnBelow n c ⊎ (OwnBelow n c → ⊥) → (OwnBelow n c → (h : ℕ) × IsExponent h c) → (h : ℕ) × IsExponent h c
    by_test (inl one) rest = rest one
    by_test (inr none) rest = (suc n, record { enough = below; least = λ k is. elim (up_or_down k) [ inl p ↦ p | inr p ↦ absurd (none (later c k n p is)) ] })
      where
        up_or_down : (k : ℕ) → (suc n ≤ k) ⊎ (k ≤ n)
        up_or_down k = grind arith

pub has_exponent : (c : List Column) → (h : ℕ) × IsExponent h c
has_exponent c = let some = some_serves c in least_up_to c some.0 some.1

pub exponent_unique : (h k : ℕ) (c : List Column) → IsExponent h c → IsExponent k c → h ≡ k
exponent_unique h k c a b = let left_at_most : h ≤ k = a.least k b.enough in let right_at_most : k ≤ h = b.least h a.enough in omega (arith, left_at_most, right_at_most)
