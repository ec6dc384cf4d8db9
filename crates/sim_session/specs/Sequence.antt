-- The sequence of draws from a seed.
use Rattle.std.specs.Prelude.{ℕ, ℤ, zero, suc, pos, ◌+◌, ◌*◌, ◌/◌, ◌%◌, ◌^◌, ◌-ℤ◌}

-- the state after a draw: a linear congruence modulo 2^64
abbrev pub next_state : ℕ → ℕ
next_state s = (s * 6364136223846793005 + 1442695040888963407) % 2 ^ 64

-- the state after n draws
abbrev pub state_after : ℕ → ℕ → ℕ
state_after seed zero = seed
state_after seed (suc n) = next_state (state_after seed n)

-- draw number n, counted from 0: the upper 31 bits of the state after it
abbrev pub draw : ℕ → ℕ → ℕ
draw seed n = state_after seed (n + 1) / 2 ^ 33

-- the same as a whole number from -most to most
abbrev pub drawn_within : ℕ → ℕ → ℕ → ℤ
drawn_within most seed n = pos (draw seed n % (2 * most + 1)) -ℤ pos most
