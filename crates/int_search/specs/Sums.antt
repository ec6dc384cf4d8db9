-- Sums over places.
use Rattle.std.specs.Prelude.{ℕ, zero, suc, ℤ, pos, ◌+ℤ◌}

-- f a + .. + f (a + k - 1)
abbrev pub total : (ℕ → ℤ) → ℕ → ℕ → ℤ
total f a zero = pos 0
total f a (suc k) = f a +ℤ total f (suc a) k
