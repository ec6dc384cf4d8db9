-- What the form of one pair adds to the form of a track.
use Rattle.std.specs.Prelude.{ℕ, nat_eq, cond, ℤ, pos, ◌-ℤ◌}
use Rattle.whole_math.specs.Rounding.{floor_div, nearest_div}

-- an entry over m: on the diagonal downward, less the order n, and off it to the nearest
abbrev pub part_at : ℕ → ℕ → (ℕ → ℕ → ℤ) → ℕ → ℕ → ℤ
part_at n m at i j = cond (nat_eq i j) (floor_div (at i i) m -ℤ pos n) (nearest_div (at i j) m)
