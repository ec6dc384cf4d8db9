-- The lines of the header: the first one, with a version, the kind `N` and in column 41 the letter of the system or `M`, and the last one.
use Rattle.std.specs.Prelude.{ℕ, ◌||◌, ◌==◌, Bool, List, Result, Ok, codes, if◌then◌else◌}
use Rattle.std.specs.Str.{bytes_eq}
use Rattle.rinex_head.specs.declared.head.Version.{Version}
use Rattle.rinex_head.specs.declared.place.Flaw.{Flaw}
use Rattle.rinex_head.specs.declared.place.What.TheVariants.{Kind}
use Rattle.rinex_head.specs.declared.system.System.{System}
use Rattle.rinex_head.specs.Systems.{letter_of}
use Rattle.rinex_head.specs.Places.{and_then, flawed}
use Rattle.rinex_head.specs.Head.{version_in, label_of}

abbrev pub of_kind : System → Version → Result (Unit {0}) Flaw
of_kind system v = if v.kind == 78 then (if (v.system == letter_of system) || (v.system == 77) then Ok tt else flawed 41 Kind) else flawed 21 Kind

unfoldable pub first_line_of : System → List ℕ → Result (Unit {0}) Flaw
first_line_of system bytes = and_then (version_in bytes) (λ v. of_kind system v)

-- the line ends the header
abbrev pub ends_header : List ℕ → Bool
ends_header bytes = bytes_eq (label_of bytes) (codes "END OF HEADER")
