-- The records of a navigation file.
use Rattle.std.specs.Prelude.{List}
use Rattle.eph_store.specs.declared.record.Raw.{Raw}
use Rattle.eph_store.specs.declared.ephemeris.Eph.{Eph}

-- all records, and the usable ones
pub record Records : Type 0 where
  pub all : List Raw
  pub fit : List Eph
