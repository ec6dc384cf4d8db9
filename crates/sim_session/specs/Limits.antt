-- What the code takes of a record.
use Rattle.std.specs.Prelude.{◌≡◌}
use Rattle.eph_store.specs.declared.ephemeris.Eph.{Eph}

-- its ephemeris' time is 2024-01-01 00:00:00
abbrev pub IsOnTime : Eph → Type 0
IsOnTime e = e.toe.0 ≡ 13881024000000000
