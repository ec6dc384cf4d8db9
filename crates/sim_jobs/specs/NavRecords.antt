-- The records of made satellites as a navigation file gives them.
use Rattle.std.specs.Prelude.{List, map}
use Rattle.eph_store.specs.declared.ephemeris.Eph.{Eph}
use Rattle.eph_store.specs.declared.record.Raw.{Raw}
use Rattle.sim_session.specs.Navigation.{zero_number, second_number, week_number}

-- the numbers of a satellite, the second 86400 of week 2295, and the health 0
abbrev pub raw_of : Eph → Raw
raw_of e = record {
  sat = e.sat;
  toc = e.toc;
  af0 = e.af0;
  af1 = e.af1;
  af2 = e.af2;
  crs = e.crs;
  dn = e.dn;
  m0 = e.m0;
  cuc = e.cuc;
  ecc = e.ecc;
  cus = e.cus;
  root_a = e.root_a;
  cic = e.cic;
  node = e.node;
  cis = e.cis;
  incl = e.incl;
  crc = e.crc;
  peri = e.peri;
  node_rate = e.node_rate;
  incl_rate = e.incl_rate;
  week = week_number;
  toe_s = second_number;
  health = zero_number;
}

abbrev pub raws_of : List Eph → List Raw
raws_of es = map raw_of es
