-- A whole number between two opposite bounds.
use Rattle.std.specs.Prelude.{ℤ, neg_ℤ, ◌≤ℤ◌}

-- |x| ≤ b
abbrev pub Within : ℤ → ℤ → Type 0
Within b x = (neg_ℤ b ≤ℤ x) × (x ≤ℤ b)
