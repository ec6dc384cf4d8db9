-- What it is for a place that is seen from a point to have a mean direction over a displacement.
use Rattle.orbit_model.specs.SeenPlaces.{Position, IsMeanDirection}

pub record HasMeanDirection (seen point move : Position) : Type 0 where
  pub direction : Position
  pub is : IsMeanDirection seen point move direction
