-- What a broadcast record and a system's constants say, as rationals.
use Rattle.std.specs.Prelude.{ℕ, ◌^◌, ℤ, pos, ◌-ℤ◌, ◌*ℤ◌, neg_ℤ, ◌==◌, if◌then◌else◌}
use Rattle.std.proofs.Common.{lit<}
use Rattle.whole_math.specs.Rational.{Rational, of_whole}
use Rattle.eph_store.specs.Decimals.{value_of, decimal}
use Rattle.eph_store.specs.declared.ephemeris.Eph.{Eph}

-- the numbers of a record in its own units: √m, radians, metres, seconds and radians per second
pub record Elements : Type 0 where
  pub root_a : Rational
  pub ecc : Rational
  pub m0 : Rational
  pub dn : Rational
  pub peri : Rational
  pub node : Rational
  pub node_rate : Rational
  pub incl : Rational
  pub incl_rate : Rational
  pub cuc : Rational
  pub cus : Rational
  pub crc : Rational
  pub crs : Rational
  pub cic : Rational
  pub cis : Rational
  pub af0 : Rational
  pub af1 : Rational
  pub af2 : Rational
  -- seconds of GPS time, not cut off at the week's end
  pub toc : Rational
  pub toe : Rational
  -- toe as a second of its week
  pub toe_second : Rational

-- μ in m³/s² and F in s/√m
pub record Constants : Type 0 where
  pub mu : Rational
  pub relativity : Rational

-- the Earth's rate of turn Ωe in radians per second: 7.2921151467 · 10^-5
abbrev pub earth_rate : Rational
earth_rate = record { num = pos 72921151467; den = 10 ^ 15; positive = lit< tt }

-- the clock time of the satellite at which it sent what was received at the tag, in ticks of 100 ns, with a code of that many mm:
-- tag - code / c, with c = 299792458 m/s
abbrev pub sent_at : ℕ → ℤ → Rational
sent_at tag code = record { num = (pos tag *ℤ pos 149896229) -ℤ (code *ℤ pos 5000); den = 1498962290000000; positive = lit< tt }

-- ---- of a record and of a system
-- ticks of 100 ns in seconds
abbrev pub seconds : ℕ → Rational
seconds n = record { num = pos n; den = 10000000; positive = lit< tt }

-- the numbers of a record as written, with times in seconds of GPS time
abbrev pub elements_of : Eph → Elements
elements_of e = record {
  root_a = value_of e.root_a;
  ecc = value_of e.ecc;
  m0 = value_of e.m0;
  dn = value_of e.dn;
  peri = value_of e.peri;
  node = value_of e.node;
  node_rate = value_of e.node_rate;
  incl = value_of e.incl;
  incl_rate = value_of e.incl_rate;
  cuc = value_of e.cuc;
  cus = value_of e.cus;
  crc = value_of e.crc;
  crs = value_of e.crs;
  cic = value_of e.cic;
  cis = value_of e.cis;
  af0 = value_of e.af0;
  af1 = value_of e.af1;
  af2 = value_of e.af2;
  toc = seconds e.toc.0;
  toe = seconds e.toe.0;
  toe_second = of_whole (pos e.toe_second);
}

-- μ = 398600500000000 m³/s² and F = -4.442807633 · 10^-10 s/√m
abbrev pub gps : Constants
gps = record { mu = of_whole (pos 398600500000000); relativity = decimal (neg_ℤ (pos 4442807633)) 19 }

-- μ = 398600441800000 m³/s² and F = -4.442807309 · 10^-10 s/√m
abbrev pub galileo : Constants
galileo = record { mu = of_whole (pos 398600441800000); relativity = decimal (neg_ℤ (pos 4442807309)) 19 }

-- those of Galileo for its letter, E, else those of GPS
abbrev pub world_of : ℕ → Constants
world_of system = if system == 69 then galileo else gps
