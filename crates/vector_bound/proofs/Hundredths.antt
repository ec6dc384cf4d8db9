-- Units and hundredths of a millimetre as words of 64 bits.
use Rattle.std.proofs.Common.{◌≡◌, ◌^◌, ◌≤◌, ℤ, pos, ◌≤ℤ◌, unsigned_abs, arith, sym, subst}
use Rattle.std.proofs.lemmas.Int.{ints}
use Rattle.whole_math.proofs.Words.{as_w64}
use Rattle.vector_bound.specs.VectorBounds.{IsInHundredths}
use Rattle.vector_bound.proofs.LeastReach.{short, short_word}

pub from_zero : (x : ℤ) → pos 1 ≤ℤ x → pos 0 ≤ℤ x
from_zero x h = omega (arith, ints, h)

pub short_units : (x : ℤ) → pos 1 ≤ℤ x → x ≤ℤ pos (2 ^ 30) → short x ≡ x
short_units x from to = short_word x (from_zero x from) to

pub short_small : (y : ℤ) → unsigned_abs y ≤ 2 ^ 60 → short y ≡ y
short_small y size = as_w64 y (omega (arith, size))

pub in_words : (x y : ℤ) → pos 1 ≤ℤ x → x ≤ℤ pos (2 ^ 30) → unsigned_abs y ≤ 2 ^ 60 → IsInHundredths (short x) y → IsInHundredths x (short y)
in_words x y from to size is =
    subst (λ (k : ℤ). IsInHundredths x k) (sym (short_small y size)) (subst (λ (k : ℤ). IsInHundredths k y) (short_units x from to) is)

-- what `in_hundredths` requires
pub short_from : (x : ℤ) → pos 1 ≤ℤ x → x ≤ℤ pos (2 ^ 30) → pos 0 ≤ℤ short x
short_from x from to = subst (λ (k : ℤ). pos 0 ≤ℤ k) (sym (short_units x from to)) (from_zero x from)

pub short_to : (x : ℤ) → pos 1 ≤ℤ x → x ≤ℤ pos (2 ^ 30) → short x ≤ℤ pos (2 ^ 30)
short_to x from to = subst (λ (k : ℤ). k ≤ℤ pos (2 ^ 30)) (sym (short_units x from to)) to
