-- The profile of a usable record: the ranges of its numbers, and their order.
use Rattle.std.specs.Prelude.{◌≡◌, ℕ, ◌+◌, ◌*◌, ◌≤◌, pos, List, [], ◌∷◌, ◌++◌, length, All}
use Rattle.std.specs.Int.{abs_diff}
use Rattle.eph_store.specs.declared.record.Raw.{Raw}
use Rattle.eph_store.specs.declared.fields.Field.{Field}
use Rattle.eph_store.specs.declared.fields.Field.TheVariants.{Week, Toe, Toc, RootA, Ecc, M0, Peri, Node, Incl, Dn, NodeRate, InclRate, Cuc, Cus, Cic, Cis, Crc, Crs, Af0, Af1, Af2}
use Rattle.eph_store.specs.Decimals.{IsFromTo, IsWithin, IsWhole}

-- the record names that week and that second of it as the ephemeris' time
pub record IsTimeOf (raw : Raw) (week : ℕ) (second : ℕ) : Type 0 where
  pub week_is : IsWhole raw.week week
  pub week_in : week ≤ 9_999
  pub second_is : IsWhole raw.toe_s second
  pub second_in : second ≤ 604_799

-- the tick of a second of a week
abbrev pub toe_tick : ℕ → ℕ → ℕ
toe_tick week second = (week * 604_800 + second) * 10_000_000

-- the clock's time is at most 7,200 s from the ephemeris' time
pub record IsTocNear (raw : Raw) : Type 0 where
  pub week : ℕ
  pub second : ℕ
  pub time : IsTimeOf raw week second
  pub near : abs_diff raw.toc.0 (toe_tick week second) ≤ 72_000_000_000

-- the number lies in its range; all ends are included
abbrev pub InRange : Field → Raw → Type 0
InRange Week r = (n : ℕ) × (n ≤ 9_999) × IsWhole r.week n
InRange Toe r = (n : ℕ) × (n ≤ 604_799) × IsWhole r.toe_s n
InRange Toc r = IsTocNear r
InRange RootA r = IsFromTo (pos 4500) (pos 6000) 0 r.root_a
InRange Ecc r = IsFromTo (pos 0) (pos 3125) 5 r.ecc
InRange M0 r = IsWithin 65 1 r.m0
InRange Peri r = IsWithin 65 1 r.peri
InRange Node r = IsWithin 65 1 r.node
InRange Incl r = IsWithin 65 1 r.incl
InRange Dn r = IsWithin 1 7 r.dn
InRange NodeRate r = IsWithin 1 7 r.node_rate
InRange InclRate r = IsWithin 1 8 r.incl_rate
InRange Cuc r = IsWithin 1 3 r.cuc
InRange Cus r = IsWithin 1 3 r.cus
InRange Cic r = IsWithin 1 3 r.cic
InRange Cis r = IsWithin 1 3 r.cis
InRange Crc r = IsWithin 10_000 0 r.crc
InRange Crs r = IsWithin 10_000 0 r.crs
InRange Af0 r = IsWithin 1 2 r.af0
InRange Af1 r = IsWithin 1 7 r.af1
InRange Af2 r = IsWithin 1 12 r.af2

-- the profile's order
abbrev pub fields_in_order : List Field
fields_in_order = Week ∷ Toe ∷ Toc ∷ RootA ∷ Ecc ∷ M0 ∷ Peri ∷ Node ∷ Incl ∷ Dn ∷ NodeRate ∷ InclRate ∷ Cuc ∷ Cus ∷ Cic ∷ Cis ∷ Crc ∷ Crs ∷ Af0 ∷ Af1 ∷ Af2 ∷ []

abbrev pub IsHealthy : Raw → Type 0
IsHealthy r = r.health.mant ≡ pos 0

-- health 0, and each number in its range
pub record IsUsable (raw : Raw) : Type 0 where
  pub healthy : IsHealthy raw
  pub profile : All (λ f. InRange f raw) fields_in_order

-- of these fields the first that is out of its range, counted from 1
pub record IsFirstOut (raw : Raw) (fields : List Field) (number : ℕ) : Type 0 where
  pub front : List Field
  pub field : Field
  pub rest : List Field
  pub order : fields ≡ front ++ field ∷ rest
  pub counted : number ≡ length front + 1
  pub before : All (λ f. InRange f raw) front
  pub out : InRange field raw → ⊥
