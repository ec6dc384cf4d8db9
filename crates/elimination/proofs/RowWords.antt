-- Entries of 64 bits, as words.
use Rattle.std.proofs.Common.{◌≡◌, ◌^◌, ◌≤◌, ℤ, pos, ◌<ℤ◌, unsigned_abs, arith, to_z, of_z, sym, ap, ◌∙◌, subst}
use Rattle.std.proofs.lemmas.Int.{ints}
use Rattle.std.specs.Int.{w64, w128}
use Rattle.whole_math.proofs.Words.{as_w64}

abbrev pub word : ℤ → ℤ
word x = to_z w64 (of_z w64 x)

-- a small number
pub short : (x : ℤ) → unsigned_abs x ≤ 2 ^ 52 → word x ≡ x
short x h = omega (arith, ints)

abbrev pub widened : ℤ → ℤ
widened x = to_z w128 (of_z w128 (to_z w64 (of_z w64 x)))

pub widened_is : (x : ℤ) → unsigned_abs x ≤ 2 ^ 62 → widened x ≡ x
widened_is x h = ap (λ z. to_z w128 (of_z w128 z)) (as_w64 x h) ∙ as_wide x h
  where
    as_wide : (x : ℤ) → unsigned_abs x ≤ 2 ^ 62 → to_z w128 (of_z w128 x) ≡ x
    as_wide x h = omega (arith, ints)

-- a small entry that is read
pub read : (x y : ℤ) → x ≡ y → unsigned_abs y ≤ 2 ^ 52 → word x ≡ y
read x y e h = ap (λ z. word z) e ∙ as_w64 y (omega arith)

pub read_size : (x y : ℤ) → x ≡ y → unsigned_abs y ≤ 2 ^ 52 → unsigned_abs (word x) ≤ 2 ^ 52
read_size x y e h = subst (λ (z : ℤ). unsigned_abs z ≤ 2 ^ 52) (sym (read x y e h)) h

pub read_positive : (x y : ℤ) → x ≡ y → unsigned_abs y ≤ 2 ^ 52 → pos 0 <ℤ y → pos 0 <ℤ word x
read_positive x y e h p = subst (λ (z : ℤ). pos 0 <ℤ z) (sym (read x y e h)) p

-- and widened
pub wide : (x : ℤ) → unsigned_abs x ≤ 2 ^ 52 → widened x ≡ x
wide x h = widened_is x (omega arith)

pub wide_size : (x : ℤ) → unsigned_abs x ≤ 2 ^ 52 → unsigned_abs (widened x) ≤ 2 ^ 52
wide_size x h = subst (λ (z : ℤ). unsigned_abs z ≤ 2 ^ 52) (sym (wide x h)) h

pub wide_positive : (x : ℤ) → unsigned_abs x ≤ 2 ^ 52 → pos 0 <ℤ x → pos 0 <ℤ widened x
wide_positive x h p = subst (λ (z : ℤ). pos 0 <ℤ z) (sym (wide x h)) p
