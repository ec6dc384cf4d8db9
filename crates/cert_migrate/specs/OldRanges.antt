-- The ranges of the numbers of a certificate of version 1.
use Rattle.std.specs.Prelude.{ℕ, ℤ, pos, ◌^◌, ◌≤ℤ◌, ◌==◌, Bool, List, All, codes}
use Rattle.std.specs.List.{list_any}
use Rattle.obs_rows.specs.Ranges.{IsWithin}

-- from 0 to 2^20
abbrev pub IsOldRadius : ℤ → Type 0
IsOldRadius n = (pos 0 ≤ℤ n) × (n ≤ℤ pos (2 ^ 20))

-- coordinates in 0.1 mm, each at most 7,000 km in size
abbrev pub IsOldPoint : List ℤ → Type 0
IsOldPoint p = All (IsWithin 70_000_000_000) p

-- the letters of the codes on L1 and on L2
abbrev pub is_old_l1 : ℕ → Bool
is_old_l1 letter = list_any (λ x. x == letter) (codes "CWXSL")

abbrev pub is_old_l2 : ℕ → Bool
is_old_l2 letter = list_any (λ x. x == letter) (codes "WXLSC")
