-- The true anomaly of a place on an ellipse.
use Rattle.whole_math.specs.Rational.{Rational, ◌≈◌, ◌-ʳ◌, ◌*ʳ◌}
use Rattle.trig_box.specs.AnglePairs.{Pair}
use Rattle.orbit_model.specs.Solution.{one}

-- v is the pair of the true anomaly, where p is that of the eccentric anomaly, e the eccentricity and w the root of 1 - e²:
-- cos v (1 - e cos E) = cos E - e, sin v (1 - e cos E) = w sin E
abbrev pub IsTrueAnomaly : Rational → Rational → Pair → Pair → Type 0
IsTrueAnomaly e w p v = (v.cos *ʳ (one -ʳ e *ʳ p.cos) ≈ p.cos -ʳ e) × (v.sin *ʳ (one -ʳ e *ʳ p.cos) ≈ w *ʳ p.sin)
