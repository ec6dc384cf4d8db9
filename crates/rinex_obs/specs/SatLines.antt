-- The line of a satellite in an epoch.
use Rattle.std.specs.Prelude.{ℕ, false, List, Result, Ok, None, Some, if◌then◌else◌}
use Rattle.std.specs.declared.option.Option.{Option}
use Rattle.obs_store.specs.declared.values.Value.{Value}
use Rattle.obs_store.specs.declared.values.SatObs.{SatObs}
use Rattle.obs_store.specs.Missing.{missing_values}
use Rattle.obs_store.specs.Satellites.{satellite_of, has_satellite}
use Rattle.rinex_head.specs.declared.place.Flaw.{Flaw}
use Rattle.rinex_head.specs.declared.place.What.TheVariants.{Twice}
use Rattle.rinex_head.specs.declared.system.System.{System}
use Rattle.rinex_head.specs.Places.{and_then, flawed}
use Rattle.obs_fields.specs.declared.layout.Layout.TheVariants.{Rinex3}
use Rattle.obs_fields.specs.declared.types.KeptType.{KeptType}
use Rattle.obs_fields.specs.SatFields.{satellite_at, values_in}

-- the satellite that was found, if any, with these values
abbrev pub found_with : Option ℕ → List (Option Value) → Option SatObs
found_with None values = None
found_with (Some number) values = Some (satellite_of number values)

abbrev pub with_values : List KeptType → List SatObs → List ℕ → Option ℕ → Result (Option SatObs) Flaw
with_values kept sats line None = Ok None
with_values kept sats line (Some number) =
    if has_satellite number sats then flawed 1 Twice
    else and_then (values_in Rinex3 0 kept line missing_values) (λ values. Ok (Some (satellite_of number values)))

-- the satellite of the system after these ones of its epoch, or nothing at one of another system
unfoldable pub satellite_line_of : System → List KeptType → List SatObs → List ℕ → Result (Option SatObs) Flaw
satellite_line_of system kept sats line = and_then (satellite_at system false line 1) (λ number. with_values kept sats line number)
