-- What stands in a line of the header.
use Rattle.std.specs.Prelude.{ℕ, ◌==◌, nat_le, Bool, true, List, Result, Ok, Err, None, Some, if◌then◌else◌}
use Rattle.std.specs.declared.option.Option.{Option}
use Rattle.rinex_head.specs.declared.place.Flaw.{Flaw}
use Rattle.rinex_head.specs.declared.place.What.TheVariants.{TimeSystem, HalfCycle}
use Rattle.rinex_head.specs.declared.system.System.{System}
use Rattle.rinex_head.specs.Systems.{letter_of, names_time, scaled}
use Rattle.rinex_head.specs.Places.{and_then, flawed}
use Rattle.rinex_head.specs.Columns.{column, columns}
use Rattle.rinex_head.specs.Fields.{whole_of}
use Rattle.obs_fields.specs.declared.labels.Label.{Label}
use Rattle.obs_fields.specs.declared.labels.Label.TheVariants as label
use Rattle.obs_fields.specs.declared.layout.Layout.{Layout}
use Rattle.obs_fields.specs.declared.layout.Layout.TheVariants.{Rinex2, Rinex3}
use Rattle.obs_fields.specs.Labels.{label_in}
use Rattle.obs_fields.specs.Offsets.{position_in, delta_in}
use Rattle.obs_fields.specs.declared.header_lines.HeaderLine.{HeaderLine}
use Rattle.obs_fields.specs.declared.header_lines.HeaderLine.TheVariants as header

-- A list of types is that of the system: in RINEX 3 column 1 has its letter. RINEX 2 has one list for all systems.
abbrev pub begins_types : Layout → System → List ℕ → Bool
begins_types Rinex2 system line = true
begins_types Rinex3 system line = column line 1 == letter_of system

-- a wavelength factor: blank, 0 or 1; 2 is that of half cycles
abbrev pub factor_of : ℕ → Result (Option ℕ) Flaw → Result (Unit {0}) Flaw
factor_of first (Ok None) = Ok tt
factor_of first (Ok (Some n)) = if nat_le n 1 then Ok tt else flawed first HalfCycle
factor_of first (Err flaw) = flawed first HalfCycle

abbrev pub factor_in : List ℕ → ℕ → Result (Unit {0}) Flaw
factor_in line first = factor_of first (whole_of first (columns line first 6))

-- in RINEX 2 the wavelength factors of L1 and of L2, in RINEX 3 a scale factor, which must be of another system
abbrev pub factors_in : Layout → System → List ℕ → Result (Unit {0}) Flaw
factors_in Rinex2 system line = and_then (factor_in line 1) (λ u. factor_in line 7)
factors_in Rinex3 system line = if column line 1 == letter_of system then flawed 1 (scaled system) else Ok tt

abbrev pub line_of_label : Layout → System → List ℕ → Label → Result HeaderLine Flaw
line_of_label layout system line label.End = Ok header.End
line_of_label layout system line label.Position = and_then (position_in line) (λ p. Ok (header.Position p))
line_of_label layout system line label.Delta = and_then (delta_in line) (λ d. Ok (header.Delta d))
line_of_label layout system line label.Types = Ok (if begins_types layout system line then header.Types else header.Skipped)
line_of_label layout system line label.Factor = and_then (factors_in layout system line) (λ u. Ok header.Skipped)
line_of_label layout system line label.FirstObs = if names_time system (columns line 49 3) then Ok header.Skipped else flawed 49 TimeSystem
line_of_label layout system line label.Comment = Ok header.Skipped
line_of_label layout system line label.Other = Ok header.Skipped

unfoldable pub header_line_of : Layout → System → List ℕ → Result HeaderLine Flaw
header_line_of layout system line = line_of_label layout system line (label_in layout line)
