-- The direction boxes of a row.
use Rattle.std.specs.Prelude.{◌≡◌, List, ℤ, map}
use Rattle.signal_travel.specs.declared.spread.Spread.{Spread}

-- the boxes have the centres and the radii of these spreads
abbrev pub HasDirection : List Spread → List ℤ → List ℤ → Type 0
HasDirection spreads u ru = (u ≡ map (λ s. s.centre) spreads) × (ru ≡ map (λ s. s.radius) spreads)
