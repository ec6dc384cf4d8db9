-- A line that names the place of a number that is too large, in any form of text.
use Rattle.std.specs.Prelude.{ℕ, List, Result, Ok, None, Some}
use Rattle.std.specs.declared.option.Option.{Option}
use Rattle.integer_form.specs.declared.faults.Place.{Place}
use Rattle.rinex_head.specs.declared.place.Flaw.{Flaw}
use Rattle.rinex_head.specs.declared.place.What.TheVariants.{BadLine}
use Rattle.rinex_head.specs.Places.{and_then, flawed}
use Rattle.cert_lines.specs.TailForms.{name_in}
use Rattle.cert_data.specs.Places.{place_of_name}

abbrev pub at_place : Option Place → Result Place Flaw
at_place None = flawed 1 BadLine
at_place (Some place) = Ok place

-- the place whose name stands after these words
abbrev pub place_in : List ℕ → List ℕ → Result Place Flaw
place_in words line = and_then (name_in words line) (λ name. at_place (place_of_name name))
