-- Usable records and the records that they stand for.
use Rattle.std.specs.Prelude.{◌≡◌, ℕ, List, [], ◌∷◌, ◌⊎◌}
use Rattle.eph_store.specs.declared.record.Raw.{Raw}
use Rattle.eph_store.specs.declared.ephemeris.Eph.{Eph}
use Rattle.eph_store.specs.Profile.{IsHealthy, IsTimeOf, IsUsable, toe_tick}

-- the usable record holds the numbers of that record; its type holds their ranges
pub record IsEphOf (raw : Raw) (e : Eph) : Type 0 where
  pub healthy : IsHealthy raw
  pub sat : e.sat ≡ raw.sat
  pub toc : e.toc ≡ raw.toc
  pub week : ℕ
  pub time : IsTimeOf raw week e.toe_second
  pub toe : e.toe.0 ≡ toe_tick week e.toe_second
  pub af0 : e.af0 ≡ raw.af0
  pub af1 : e.af1 ≡ raw.af1
  pub af2 : e.af2 ≡ raw.af2
  pub crs : e.crs ≡ raw.crs
  pub dn : e.dn ≡ raw.dn
  pub m0 : e.m0 ≡ raw.m0
  pub cuc : e.cuc ≡ raw.cuc
  pub ecc : e.ecc ≡ raw.ecc
  pub cus : e.cus ≡ raw.cus
  pub root_a : e.root_a ≡ raw.root_a
  pub cic : e.cic ≡ raw.cic
  pub node : e.node ≡ raw.node
  pub cis : e.cis ≡ raw.cis
  pub incl : e.incl ≡ raw.incl
  pub crc : e.crc ≡ raw.crc
  pub peri : e.peri ≡ raw.peri
  pub node_rate : e.node_rate ≡ raw.node_rate
  pub incl_rate : e.incl_rate ≡ raw.incl_rate

-- the usable ones of the records, in order
abbrev pub AreFit : List Raw → List Eph → Type 0
AreFit [] [] = Unit {0}
AreFit [] (e ∷ es) = ⊥
AreFit (r ∷ rs) [] = (IsUsable r → ⊥) × AreFit rs []
AreFit (r ∷ rs) (e ∷ es) = (IsUsable r × IsEphOf r e × AreFit rs es) ⊎ ((IsUsable r → ⊥) × AreFit rs (e ∷ es))
