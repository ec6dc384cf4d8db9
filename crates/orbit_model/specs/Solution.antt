-- A satellite's place and clock by the user algorithm of IS-GPS-200, as a set of equations over rationals.
use Rattle.std.specs.Prelude.{pos}
use Rattle.whole_math.specs.Rational.{Rational, ◌≈◌, of_whole, ◌+ʳ◌, ◌-ʳ◌, ◌*ʳ◌, two_to_minus, IsAtMostInSize, IsNearRoot}
use Rattle.trig_box.specs.AnglePairs.{Pair, IsAnglePair, double, SolvesKepler}
use Rattle.orbit_model.specs.Elements.{Elements, Constants, earth_rate}

abbrev pub one : Rational
one = of_whole (pos 1)

-- p and q stand for equal pairs
abbrev pub ArePairs : Pair → Pair → Type 0
ArePairs p q = (p.cos ≈ q.cos) × (p.sin ≈ q.sin)

-- the pair of the sum of two angles
abbrev pub turned : Pair → Pair → Pair
turned p q = record { cos = p.cos *ʳ q.cos -ʳ p.sin *ʳ q.sin; sin = p.sin *ʳ q.cos +ʳ p.cos *ʳ q.sin }

-- a harmonic correction: s sin + c cos
abbrev pub harmonic : Rational → Rational → Pair → Rational
harmonic s c p = s *ʳ p.sin +ʳ c *ʳ p.cos

-- p is a k-pair of x; Ω has k = 7, every other angle 5
abbrev pub IsPairOf5 : Rational → Pair → Type 0
IsPairOf5 x p = IsAnglePair 5 x p.cos p.sin

abbrev pub IsPairOf7 : Rational → Pair → Type 0
IsPairOf7 x p = IsAnglePair 7 x p.cos p.sin

-- the quantities of the algorithm, by their names in the standard
pub record Quantities : Type 0 where
  -- t and tk: GPS time of sending, and from the reference epoch; Δt
  pub t : Rational
  pub tk : Rational
  pub clock : Rational
  -- A, a near-root of μ, n0, n, M
  pub axis : Rational
  pub root_mu : Rational
  pub computed_motion : Rational
  pub motion : Rational
  pub mean : Rational
  -- E and its pair, a near-root of 1 - e², the pairs of ν, ω, Φ, 2Φ
  pub eccentric : Rational
  pub eccentric_pair : Pair
  pub root_rest : Rational
  pub true_pair : Pair
  pub perigee_pair : Pair
  pub latitude_pair : Pair
  pub twice_pair : Pair
  -- δu, δr, δi; the pairs of δu and u; r, i and its pair
  pub latitude_change : Rational
  pub radius_change : Rational
  pub inclination_change : Rational
  pub change_pair : Pair
  pub corrected_pair : Pair
  pub radius : Rational
  pub inclination : Rational
  pub inclination_pair : Pair
  -- x', y'; Ω and its pair; x, y, z
  pub plane_x : Rational
  pub plane_y : Rational
  pub node : Rational
  pub node_pair : Pair
  pub x : Rational
  pub y : Rational
  pub z : Rational

-- the equations, in the order of table 20-IV; sent is the satellite's clock time of sending
pub record IsSatelliteSolution (world : Constants) (eph : Elements) (sent : Rational) (q : Quantities) : Type 0 where
  -- A = (√A)²
  pub semi_major_axis : q.axis ≈ eph.root_a *ʳ eph.root_a
  -- n0 = √(μ / A³)
  pub root_of_mu : IsNearRoot q.root_mu world.mu
  pub computed_mean_motion : q.computed_motion *ʳ (q.axis *ʳ eph.root_a) ≈ q.root_mu
  -- t = tsv - Δt, and tk = t - toe
  pub time_of_sending : q.t ≈ sent -ʳ q.clock
  pub time_from_epoch : q.tk ≈ q.t -ʳ eph.toe
  -- n = n0 + Δn
  pub corrected_mean_motion : q.motion ≈ q.computed_motion +ʳ eph.dn
  -- M = M0 + n tk
  pub mean_anomaly : q.mean ≈ eph.m0 +ʳ q.motion *ʳ q.tk
  -- M = E - e sin E
  pub kepler : SolvesKepler q.mean eph.ecc q.eccentric q.eccentric_pair.cos q.eccentric_pair.sin
  -- cos ν = (cos E - e) / (1 - e cos E), sin ν = √(1 - e²) sin E / (1 - e cos E)
  pub root_of_rest : IsNearRoot q.root_rest (one -ʳ eph.ecc *ʳ eph.ecc)
  pub true_anomaly_cos : q.true_pair.cos *ʳ (one -ʳ eph.ecc *ʳ q.eccentric_pair.cos) ≈ q.eccentric_pair.cos -ʳ eph.ecc
  pub true_anomaly_sin : q.true_pair.sin *ʳ (one -ʳ eph.ecc *ʳ q.eccentric_pair.cos) ≈ q.root_rest *ʳ q.eccentric_pair.sin
  -- Φ = ν + ω
  pub perigee : IsPairOf5 eph.peri q.perigee_pair
  pub argument_of_latitude : ArePairs q.latitude_pair (turned q.true_pair q.perigee_pair)
  pub twice_the_argument : ArePairs q.twice_pair (double q.latitude_pair)
  -- δu = Cus sin 2Φ + Cuc cos 2Φ, and the like
  pub latitude_correction : q.latitude_change ≈ harmonic eph.cus eph.cuc q.twice_pair
  pub radius_correction : q.radius_change ≈ harmonic eph.crs eph.crc q.twice_pair
  pub inclination_correction : q.inclination_change ≈ harmonic eph.cis eph.cic q.twice_pair
  -- u = Φ + δu
  pub change_of_latitude : IsPairOf5 q.latitude_change q.change_pair
  pub corrected_latitude : ArePairs q.corrected_pair (turned q.latitude_pair q.change_pair)
  -- r = A (1 - e cos E) + δr
  pub corrected_radius : q.radius ≈ q.axis *ʳ (one -ʳ eph.ecc *ʳ q.eccentric_pair.cos) +ʳ q.radius_change
  -- i = i0 + δi + IDOT tk
  pub corrected_inclination : q.inclination ≈ eph.incl +ʳ q.inclination_change +ʳ eph.incl_rate *ʳ q.tk
  -- x' = r cos u, y' = r sin u
  pub position_in_plane_x : q.plane_x ≈ q.radius *ʳ q.corrected_pair.cos
  pub position_in_plane_y : q.plane_y ≈ q.radius *ʳ q.corrected_pair.sin
  -- Ω = Ω0 + (Ωdot - Ωe) tk - Ωe toe
  pub corrected_node : q.node ≈ eph.node +ʳ (eph.node_rate -ʳ earth_rate) *ʳ q.tk -ʳ earth_rate *ʳ eph.toe_second
  pub node_of_angle : IsPairOf7 q.node q.node_pair
  pub inclination_of_angle : IsPairOf5 q.inclination q.inclination_pair
  -- x = x' cos Ω - y' cos i sin Ω, y = x' sin Ω + y' cos i cos Ω, z = y' sin i
  pub earth_fixed_x : q.x ≈ q.plane_x *ʳ q.node_pair.cos -ʳ q.plane_y *ʳ q.inclination_pair.cos *ʳ q.node_pair.sin
  pub earth_fixed_y : q.y ≈ q.plane_x *ʳ q.node_pair.sin +ʳ q.plane_y *ʳ q.inclination_pair.cos *ʳ q.node_pair.cos
  pub earth_fixed_z : q.z ≈ q.plane_y *ʳ q.inclination_pair.sin
  -- Δt = af0 + af1 (t - toc) + af2 (t - toc)² + F e √A sin E
  pub clock_correction : q.clock ≈ eph.af0 +ʳ eph.af1 *ʳ (q.t -ʳ eph.toc) +ʳ
      eph.af2 *ʳ ((q.t -ʳ eph.toc) *ʳ (q.t -ʳ eph.toc)) +ʳ world.relativity *ʳ eph.ecc *ʳ eph.root_a *ʳ q.eccentric_pair.sin

-- the record with af0 + share af2 for af0
abbrev pub with_share : Elements → Rational → Elements
with_share eph share = record eph { af0 = eph.af0 +ʳ eph.af2 *ʳ share }

-- a near solution: a solution of the record whose af0 has changed by a share of af2, of at most 2^-44 s² in size. So each line holds
-- exactly, but for 2^-44 s² times |af2| in the clock's; where af2 is 0 it is a solution
pub record IsNearSolution (world : Constants) (eph : Elements) (sent : Rational) (q : Quantities) : Type 0 where
  pub share : Rational
  pub small : IsAtMostInSize (two_to_minus 44) share
  pub solves : IsSatelliteSolution world (with_share eph share) sent q

-- there is a near solution
pub record HasNearSolution (world : Constants) (eph : Elements) (sent : Rational) : Type 0 where
  pub quantities : Quantities
  pub is : IsNearSolution world eph sent quantities
