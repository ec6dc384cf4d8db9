-- The mask's rule over whole numbers, at a place on a grid of 2^-17 m.
use Rattle.std.specs.Prelude.{ℕ, ◌*◌, ◌^◌, ℤ, pos, ◌+ℤ◌, ◌-ℤ◌, ◌*ℤ◌, ◌≤ℤ◌}
use Rattle.whole_math.specs.Rounding.{floor_div}

-- the coordinate on the grid just above lo, which is in units of 2^-36 m
abbrev pub grid : ℤ → ℤ
grid lo = floor_div lo (2 ^ 19) +ℤ pos 1

-- how far it lies from a coordinate in units of 0.1 mm: in units of 2^-17 / 625 m, where both are whole
abbrev pub offset : ℤ → ℤ → ℤ
offset lo coordinate = (pos 625 *ℤ grid lo) -ℤ (pos 8192 *ℤ coordinate)

abbrev pub dot3 : ℤ → ℤ → ℤ → ℤ → ℤ → ℤ → ℤ
dot3 a b c p q r = ((a *ℤ p) +ℤ (b *ℤ q)) +ℤ (c *ℤ r)

-- 0 ≤ d · p, and mask² |d|² |p|² ≤ (1000 d · p)²
abbrev pub IsAboveWhole : ℕ → ℤ → ℤ → ℤ → ℤ → ℤ → ℤ → Type 0
IsAboveWhole mask a b c p q r =
    (pos 0 ≤ℤ dot3 a b c p q r)
    × (((pos (mask * mask) *ℤ dot3 a b c a b c) *ℤ dot3 p q r p q r) ≤ℤ ((pos 1000 *ℤ dot3 a b c p q r) *ℤ (pos 1000 *ℤ dot3 a b c p q r)))
