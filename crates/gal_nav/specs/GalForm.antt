-- A navigation file, for its records of Galileo, and what its lines give.
use Rattle.std.specs.Prelude.{ℕ, List, Result}
use Rattle.eph_store.specs.declared.record.Raw.{Raw}
use Rattle.rinex_head.specs.declared.place.At.{At}
use Rattle.rinex_head.specs.declared.system.System.TheVariants.{Galileo}
use Rattle.rinex_nav.specs.NavForm
use Rattle.rinex_nav.specs.NavRules

-- the lines are a header and a body, and its records of Galileo are these
abbrev pub IsNavFile : List (List ℕ) → List Raw → Type 0
IsNavFile lines records = NavForm.IsNavFile Galileo lines records

-- the lines are those of some file
abbrev pub HasNavFile : List (List ℕ) → Type 0
HasNavFile lines = NavForm.HasNavFile Galileo lines

-- the records that a text of these lines has, or its first failing place
abbrev pub nav_of : List (List ℕ) → Result (List Raw) At
nav_of lines = NavRules.nav_of Galileo lines
