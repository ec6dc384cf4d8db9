-- What the command `list` ends with.
use Rattle.std.specs.Prelude.{◌≡◌, ℕ, List, []}
use Rattle.line_source.specs.Lines.{lines_of}
use Rattle.obs_store.specs.declared.file.ObsFile.{ObsFile}
use Rattle.rinex_head.specs.declared.system.System.TheVariants.{Gps}
use Rattle.job_answers.specs.Formats.{any_of, IsObservation, HasObservation}
use Rattle.report_text.specs.List.{list_text}
use Rattle.job_answers.specs.declared.status.Status.TheVariants.{Done}
use Rattle.job_answers.specs.Endings.{Ending, ending}
use Rattle.job_answers.specs.TextJobs.{TextJob, form_job}

-- the text stands for an observation file of GPS, in either format, of which this is listed
pub record EndsByObs (text : List ℕ) (end : Ending) : Type 0 where
  pub file : ObsFile
  pub is : IsObservation Gps (lines_of text) file
  pub end_is : end ≡ ending Done (list_text file) []

abbrev pub list_job : TextJob
list_job = form_job (any_of Gps) (HasObservation Gps) EndsByObs
