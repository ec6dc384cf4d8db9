-- The satellites' records.
use Rattle.std.specs.Prelude.{◌≡◌, ℕ, ◌+◌, ◌==◌, if◌then◌else◌, List, [], ◌∷◌, ℤ, pos, negsuc, ◌-ℤ◌, ◌*ℤ◌, slice_index_or}
use Rattle.whole_math.specs.Rational.{◌≈◌, of_whole}
use Rattle.eph_store.specs.Decimals.{decimal, value_of}
use Rattle.eph_store.specs.declared.ephemeris.Eph.{Eph}
use Rattle.sim_session.specs.Numbers.{IsNormal}

-- the mean anomaly of satellite k + 1, and the longitude below which it flies at the reference time, in tenths of a radian
abbrev pub anomalies : List ℤ
anomalies = pos 0 ∷ pos 8 ∷ negsuc 7 ∷ pos 8 ∷ negsuc 7 ∷ pos 0 ∷ pos 0 ∷ pos 4 ∷ negsuc 3 ∷ pos 4 ∷ negsuc 3 ∷ pos 8 ∷ negsuc 7 ∷ pos 4 ∷ negsuc 3 ∷ []

abbrev pub longitudes : List ℤ
longitudes = pos 0 ∷ pos 6 ∷ negsuc 5 ∷ negsuc 5 ∷ pos 6 ∷ pos 6 ∷ negsuc 5 ∷ pos 3 ∷ negsuc 2 ∷ negsuc 2 ∷ pos 3 ∷ pos 0 ∷ pos 0 ∷ pos 6 ∷ negsuc 5 ∷ []

abbrev pub anomaly : ℕ → ℤ
anomaly k = slice_index_or anomalies k (pos 0)

-- the node in hundredths of a radian: the longitude less 0.6 times the anomaly
abbrev pub node : ℕ → ℤ
node k = (pos 10 *ℤ slice_index_or longitudes k (pos 0)) -ℤ (pos 6 *ℤ anomaly k)

-- the square root of the semi-major axis in tenths of √m: that of Galileo for its letter, E, else that of GPS
abbrev pub root_a_tenths : ℕ → ℤ
root_a_tenths letter = if letter == 69 then pos 54406 else pos 51536

-- the record of satellite k + 1 of the system with that letter: its times are 2024-01-01 00:00:00
pub record IsSatellite (letter k : ℕ) (e : Eph) : Type 0 where
  pub sat : e.sat ≡ k + 1
  pub toc : e.toc.0 ≡ 13881024000000000
  pub toe : e.toe.0 ≡ 13881024000000000
  pub toe_second : e.toe_second ≡ 86400
  pub root_a : value_of e.root_a ≈ decimal (root_a_tenths letter) 1
  pub ecc : value_of e.ecc ≈ decimal (pos (k + 1)) 3
  pub m0 : value_of e.m0 ≈ decimal (anomaly k) 1
  pub node : value_of e.node ≈ decimal (node k) 2
  pub incl : value_of e.incl ≈ decimal (pos 96) 2
  pub peri : value_of e.peri ≈ of_whole (pos 0)
  pub dn : value_of e.dn ≈ decimal (pos 45) 10
  pub node_rate : value_of e.node_rate ≈ decimal (negsuc 7) 9
  pub incl_rate : value_of e.incl_rate ≈ of_whole (pos 0)
  pub cuc : value_of e.cuc ≈ decimal (pos 1) 6
  pub cus : value_of e.cus ≈ of_whole (pos 0)
  pub cic : value_of e.cic ≈ of_whole (pos 0)
  pub cis : value_of e.cis ≈ of_whole (pos 0)
  pub crc : value_of e.crc ≈ of_whole (pos 200)
  pub crs : value_of e.crs ≈ of_whole (pos 0)
  pub af0 : value_of e.af0 ≈ decimal (pos (k + 1)) 5
  pub af1 : value_of e.af1 ≈ decimal (pos 1) 12
  pub af2 : value_of e.af2 ≈ of_whole (pos 0)

-- its numbers have 13 digits each
pub record AreNormal (e : Eph) : Type 0 where
  pub af0 : IsNormal e.af0
  pub af1 : IsNormal e.af1
  pub af2 : IsNormal e.af2
  pub crs : IsNormal e.crs
  pub dn : IsNormal e.dn
  pub m0 : IsNormal e.m0
  pub cuc : IsNormal e.cuc
  pub ecc : IsNormal e.ecc
  pub cus : IsNormal e.cus
  pub root_a : IsNormal e.root_a
  pub cic : IsNormal e.cic
  pub node : IsNormal e.node
  pub cis : IsNormal e.cis
  pub incl : IsNormal e.incl
  pub crc : IsNormal e.crc
  pub peri : IsNormal e.peri
  pub node_rate : IsNormal e.node_rate
  pub incl_rate : IsNormal e.incl_rate

-- the records of satellites k + 1, k + 2 and so on
abbrev pub AreSatellites : ℕ → ℕ → List Eph → Type 0
AreSatellites letter k [] = Unit {0}
AreSatellites letter k (e ∷ es) = IsSatellite letter k e × AreNormal e × AreSatellites letter (k + 1) es
