-- The ranges in which solutions exist, and what it is to have one.
use Rattle.std.specs.Prelude.{ℕ, ◌<◌, ◌^◌, pos}
use Rattle.std.proofs.Common.{lit<}
use Rattle.whole_math.specs.Rational.{Rational, ◌≤ʳ◌, of_whole, ◌-ʳ◌, ◌*ʳ◌, IsAtMostInSize}
use Rattle.orbit_model.specs.Elements.{Elements, Constants}
use Rattle.orbit_model.specs.Solution.{Quantities, IsSatelliteSolution}

-- F e √A
abbrev pub relativity_of : Constants → Elements → Rational
relativity_of world eph = world.relativity *ʳ eph.ecc *ʳ eph.root_a

-- n / d
abbrev pub fraction : ℕ → (d : ℕ) → 0 < d → Rational
fraction n d h = record { num = pos n; den = d; positive = h }

-- the ranges of a usable record's numbers and of a system's constants, at a time of sending near its epochs
pub record AreUsable (world : Constants) (eph : Elements) (sent : Rational) : Type 0 where
  pub mu_low : of_whole (pos 398600441800000) ≤ʳ world.mu
  pub mu_high : world.mu ≤ʳ of_whole (pos 398600500000000)
  pub relativity : IsAtMostInSize (fraction 4442807633 (10 ^ 19) (lit< tt)) world.relativity
  pub root_low : of_whole (pos 4500) ≤ʳ eph.root_a
  pub root_high : eph.root_a ≤ʳ of_whole (pos 6000)
  pub ecc_low : of_whole (pos 0) ≤ʳ eph.ecc
  pub ecc_high : eph.ecc ≤ʳ fraction 3125 (10 ^ 5) (lit< tt)
  pub m0 : IsAtMostInSize (fraction 65 10 (lit< tt)) eph.m0
  pub peri : IsAtMostInSize (fraction 65 10 (lit< tt)) eph.peri
  pub node : IsAtMostInSize (fraction 65 10 (lit< tt)) eph.node
  pub incl : IsAtMostInSize (fraction 65 10 (lit< tt)) eph.incl
  pub dn : IsAtMostInSize (fraction 1 (10 ^ 7) (lit< tt)) eph.dn
  pub node_rate : IsAtMostInSize (fraction 1 (10 ^ 7) (lit< tt)) eph.node_rate
  pub incl_rate : IsAtMostInSize (fraction 1 (10 ^ 8) (lit< tt)) eph.incl_rate
  pub cuc : IsAtMostInSize (fraction 1 (10 ^ 3) (lit< tt)) eph.cuc
  pub cus : IsAtMostInSize (fraction 1 (10 ^ 3) (lit< tt)) eph.cus
  pub cic : IsAtMostInSize (fraction 1 (10 ^ 3) (lit< tt)) eph.cic
  pub cis : IsAtMostInSize (fraction 1 (10 ^ 3) (lit< tt)) eph.cis
  pub af0 : IsAtMostInSize (fraction 1 (10 ^ 2) (lit< tt)) eph.af0
  pub af1 : IsAtMostInSize (fraction 1 (10 ^ 7) (lit< tt)) eph.af1
  pub af2 : IsAtMostInSize (fraction 1 (10 ^ 12) (lit< tt)) eph.af2
  pub toe_second : IsAtMostInSize (of_whole (pos 604800)) eph.toe_second
  pub from_toe : IsAtMostInSize (of_whole (pos 7202)) (sent -ʳ eph.toe)
  pub from_toc : IsAtMostInSize (of_whole (pos 14402)) (sent -ʳ eph.toc)

pub record HasSolution (world : Constants) (eph : Elements) (sent : Rational) : Type 0 where
  pub quantities : Quantities
  pub is : IsSatelliteSolution world eph sent quantities
