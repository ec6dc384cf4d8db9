-- What is printed of a satellite's box: its coordinates in micrometres and its clock in 10^-15 s, rounded outward.
use Rattle.std.specs.Prelude.{◌≡◌, ℕ, ◌^◌, ℤ, pos, ◌-ℤ◌, ◌*ℤ◌, ◌≤ℤ◌, List, [], ◌∷◌, ◌++◌, codes}
use Rattle.std.specs.Fmt.{signed_decimal}
use Rattle.whole_math.specs.Rounding.{floor_div, ceil_div}
use Rattle.whole_math.specs.Rational.{Rational, ◌≤ʳ◌}
use Rattle.iv_core.specs.declared.Iv.{Iv}
use Rattle.eph_store.specs.Decimals.{decimal}
use Rattle.orbit_model.specs.Solution.{Quantities}
use Rattle.sv_orbit.specs.declared.place.SvBox.{SvBox}

pub record Ends : Type 0 where
  pub low : ℤ
  pub high : ℤ

-- the greatest whole number of 10^-places that is no more than each number of the box, and the least that is no less
abbrev pub ends_of : {k : ℕ} → ℕ → Iv k → Ends
ends_of {k} places b = record { low = floor_div (b.lo *ℤ pos (10 ^ places)) (2 ^ k); high = ceil_div (b.hi *ℤ pos (10 ^ places)) (2 ^ k) }

-- a number lies between the ends, which are in 10^-places
abbrev pub IsBetweenEnds : ℕ → Ends → Rational → Type 0
IsBetweenEnds places e q = (decimal e.low places ≤ʳ q) × (q ≤ʳ decimal e.high places)

abbrev pub AreApart : ℕ → Ends → Type 0
AreApart most e = (e.high -ℤ e.low) ≤ℤ pos most

-- a place in 10^-6 m and a clock in 10^-15 s
pub record OrbitNumbers : Type 0 where
  pub x : Ends
  pub y : Ends
  pub z : Ends
  pub clock : Ends

-- the numbers hold the place and the clock of the quantities
pub record HoldsQuantities (n : OrbitNumbers) (q : Quantities) : Type 0 where
  pub x : IsBetweenEnds 6 n.x q.x
  pub y : IsBetweenEnds 6 n.y q.y
  pub z : IsBetweenEnds 6 n.z q.z
  pub clock : IsBetweenEnds 15 n.clock q.clock

pub record AreNarrow (n : OrbitNumbers) : Type 0 where
  pub x : AreApart 5 n.x
  pub y : AreApart 5 n.y
  pub z : AreApart 5 n.z
  pub clock : AreApart 2 n.clock

abbrev pub ends_line : List ℕ → Ends → List ℕ
ends_line name e = name ++ (codes " " ++ (signed_decimal e.low ++ (codes " " ++ (signed_decimal e.high ++ codes "\n"))))

abbrev pub orbit_lines : OrbitNumbers → List ℕ
orbit_lines n = ends_line (codes "x") n.x ++ (ends_line (codes "y") n.y ++ (ends_line (codes "z") n.z ++ ends_line (codes "clock") n.clock))

abbrev pub no_record_line : List ℕ
no_record_line = codes "no record\n"

-- the numbers are those of the box
pub record AreNumbersOf (b : SvBox) (n : OrbitNumbers) : Type 0 where
  pub first : Iv 36
  pub second : Iv 36
  pub third : Iv 36
  pub place : b.place ≡ first ∷ second ∷ third ∷ []
  pub x : n.x ≡ ends_of 6 first
  pub y : n.y ≡ ends_of 6 second
  pub z : n.z ≡ ends_of 6 third
  pub clock : n.clock ≡ ends_of 15 b.clock

-- the lines of a box's numbers come after the text
pub record AppendsOrbit (b : SvBox) (old new : List ℕ) : Type 0 where
  pub numbers : OrbitNumbers
  pub are : AreNumbersOf b numbers
  pub new_is : new ≡ old ++ orbit_lines numbers
