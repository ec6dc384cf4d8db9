-- What a tail's vectors keep.
use Rattle.std.proofs.Common.{◌<◌, ◌≤◌, ℕ, ℤ, List, All, arith}
use Rattle.obs_rows.specs.Ranges.{IsBelow, IsWithin}

-- what is below is at most
pub at_most : (m : ℕ) (zs : List ℤ) → All (IsBelow m) zs → All (IsWithin m) zs
at_most m zs all = λ k d inside. weaker (all k d inside)
  where
    weaker : {n : ℕ} → n < m → n ≤ m
    weaker h = omega (arith, h)
