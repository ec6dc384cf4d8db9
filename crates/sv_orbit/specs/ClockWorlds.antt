-- The constants of the two systems.
use Rattle.std.specs.Prelude.{ℤ, pos, neg_ℤ, ◌≡◌, ◌⊎◌}

-- μ in m³/s² and F in 10^-19 s/√m: those of GPS or those of Galileo
abbrev pub IsWorld : ℤ → ℤ → Type 0
IsWorld mu rel = ((mu ≡ pos 398600500000000) × (rel ≡ neg_ℤ (pos 4442807633))) ⊎ ((mu ≡ pos 398600441800000) × (rel ≡ neg_ℤ (pos 4442807309)))
