-- The numbers of a turn of two: a and b are kept of their pivots, and r is left of the factor between them.
use Rattle.std.specs.Prelude.{◌≡◌, ◌<◌, ◌≤◌, ◌^◌, ℤ, unsigned_abs}
use Rattle.decorrelate.specs.States.{IsWeight}
use Rattle.decorrelate.specs.Turning.{new_first, new_second, new_between, IsTurnable}
use Rattle.decorrelate.specs.declared.turn_numbers.TurnNumbers.{TurnNumbers}

pub record AreNumbersOf (a b r : ℤ) (t : TurnNumbers) : Type 0 where
  pub turnable : IsTurnable a b r
  pub rest_is : t.rest ≡ r
  pub rest_small : unsigned_abs t.rest ≤ 2 ^ 30
  pub first_is : t.first ≡ new_first a b r
  pub first_weight : IsWeight t.first
  pub second_is : t.second ≡ new_second a b (new_first a b r)
  pub second_weight : IsWeight t.second
  pub between_is : t.between ≡ new_between a r (new_first a b r)
  pub between_small : unsigned_abs t.between < 2 ^ 52
