-- The places of a turn at j: j itself, the next one, and the others.
use Rattle.std.proofs.Common.{◌≡◌, ◌≢◌, ◌⊎◌, ℕ, ◌+◌, arith}

pub three_places : (i j : ℕ) → (i ≡ j) ⊎ ((i ≡ j + 1) ⊎ ((i ≢ j) × (i ≢ j + 1)))
three_places i j = grind arith
