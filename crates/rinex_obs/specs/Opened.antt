-- What is expected after the lines that were read.
use Rattle.std.specs.Prelude.{List}
use Rattle.obs_store.specs.declared.series.Epoch.{Epoch}
use Rattle.obs_fields.specs.OpenHeaders.{expected_in_header}
use Rattle.obs_fields.specs.declared.header.Header.{Header}
use Rattle.rinex_obs.specs.declared.open_body.Part.{Part}
use Rattle.rinex_obs.specs.declared.open_body.Part.TheVariants as part
use Rattle.rinex_obs.specs.declared.open_body.OpenBody.{OpenBody}
use Rattle.rinex_obs.specs.declared.open_file.OpenFile.{OpenFile}
use Rattle.rinex_obs.specs.declared.open_file.OpenFile.TheVariants as file
use Rattle.rinex_obs.specs.ObsRules.{Expected, Head, Body, Sats, Skip}

-- an epoch or an event, or a line of the one that has begun
abbrev pub in_body : Header → List Epoch → Part → Expected
in_body h epochs part.Between = Body h epochs
in_body h epochs (part.Epoch e) = Sats h epochs e.tag e.power e.sats e.left
in_body h epochs (part.Event changes left) = Skip h epochs changes left

abbrev pub expected_in_body : OpenBody → Expected
expected_in_body b = in_body b.header b.epochs b.part

abbrev pub expected_in : OpenFile → Expected
expected_in (file.Header h) = Head (expected_in_header h)
expected_in (file.Body b) = expected_in_body b
