-- A job on the three files of a session: what it ends with by them.
use Rattle.std.specs.Prelude.{◌≡◌, ◌⊎◌, ℕ, List, [], ◌∷◌, Result, Err}
use Rattle.std.specs.declared.option.Option.{Option}
use Rattle.std.specs.Io.KnownBytes.{Appends}
use Rattle.obs_store.specs.declared.file.ObsFile.{ObsFile}
use Rattle.eph_store.specs.File.{Records}
use Rattle.rinex_head.specs.Systems.{system_of}
use Rattle.rinex_nav.specs.NavForm.{HasNavFile}
use Rattle.obs_rows.specs.declared.options.Options.{Options}
use Rattle.obs_rows.specs.BandSets.{bands_of}
use Rattle.epoch_pair.specs.Beginnings.{HasPosition, HaveSignals, AreSparse}
use Rattle.epoch_pair.specs.declared.faults.PairWhat.{PairWhat}
use Rattle.epoch_pair.specs.declared.faults.SessionFault.{SessionFault}
use Rattle.epoch_pair.specs.declared.faults.SessionFault.TheVariants.{Refused}
use Rattle.job_answers.specs.declared.status.Status.{Status}
use Rattle.job_answers.specs.Statuses.{IsVerdictStatus}
use Rattle.job_answers.specs.Formats.{HasObservation}
use Rattle.job_answers.specs.Endings.{Ending, IsAdmitted}
use Rattle.job_answers.specs.Delivered.{SinkChange}
use Rattle.job_answers.specs.Commands.{Command}
use Rattle.job_answers.specs.SessionFiles.{IsObsOf, AreFilesOf, EndsBySession}
use Rattle.job_answers.specs.Refusals.{pair_line, IsPairRefused}

-- what a command answers of a session's files, with these options
abbrev pub SessionAnswers : Type 1
SessionAnswers = Options → ObsFile → ObsFile → Records → Ending → Type 0

-- the files have this answer, which is a verdict
pub record AreAnswered (answers : SessionAnswers) (options : Options) (base rover : ObsFile) (nav : Records) (end : Ending) : Type 0 where
  pub verdict : IsVerdictStatus end.status
  pub answer : answers options base rover nav end

abbrev pub EndsOnFiles : SessionAnswers → Options → ObsFile → ObsFile → Records → Ending → Type 0
EndsOnFiles answers options base rover nav end = AreAnswered answers options base rover nav end ⊎ IsPairRefused base rover options end

-- what it ends with, by what is reported of its files
abbrev pub SessionEnds : SessionAnswers → (List ℕ → Option (List ℕ)) → List ℕ → List ℕ → List ℕ → Options → Ending → Type 0
SessionEnds answers text_of base rover nav options end = EndsBySession (system_of options.system) text_of base rover nav (EndsOnFiles answers options) end

-- a line about the two observation files together
abbrev pub IsPairLine : List ℕ → Type 0
IsPairLine line = (what : PairWhat) × (line ≡ pair_line what)

-- what holds of the cause where the two are refused
abbrev pub IfPairRefused : {X : Type 0} → Result X SessionFault → (PairWhat → Type 0) → Type 0
IfPairRefused (Err (Refused what)) P = P what
IfPairRefused _ P = Unit {0}

-- all files are there and admitted, and the two aren't refused
pub record AreAdmitted (text_of : List ℕ → Option (List ℕ)) (base rover nav : List ℕ) (options : Options) : Type 0 where
  pub base_is : IsAdmitted text_of base (HasObservation (system_of options.system))
  pub rover_is : IsAdmitted text_of rover (HasObservation (system_of options.system))
  pub nav_is : IsAdmitted text_of nav (HasNavFile (system_of options.system))
  pub position : (base_file : ObsFile) → IsObsOf (system_of options.system) text_of base base_file → HasPosition base_file
  pub signals : (base_file rover_file : ObsFile) → IsObsOf (system_of options.system) text_of base base_file → IsObsOf (system_of options.system) text_of rover rover_file → HaveSignals (bands_of options.bands) base_file rover_file
  pub sparse : (base_file rover_file : ObsFile) → IsObsOf (system_of options.system) text_of base base_file → IsObsOf (system_of options.system) text_of rover rover_file → AreSparse options.gap base_file rover_file

-- what a run of it with status 0 or 1 says: out has gained its answer on the files
pub record SaysOfSession (answers : SessionAnswers) (text_of : List ℕ → Option (List ℕ)) (base rover nav : List ℕ) (options : Options) (status : Status) (out : SinkChange) : Type 0 where
  pub base_file : ObsFile
  pub rover_file : ObsFile
  pub records : Records
  pub are_files : AreFilesOf (system_of options.system) text_of base rover nav base_file rover_file records
  pub end : Ending
  pub answer : answers options base_file rover_file records end
  pub status_is : end.status ≡ status
  pub printed : Appends out.old out.new end.out

-- The command on the files of these names. Observations may be in either format of RINEX, where the system has both.
abbrev pub session_command : SessionAnswers → List ℕ → List ℕ → List ℕ → Options → Command
session_command answers base rover nav options = record {
  file_words = base ∷ rover ∷ nav ∷ [];
  Ends = λ text_of. SessionEnds answers text_of base rover nav options;
  IsLine = IsPairLine;
  IsReadable = λ text_of. AreAdmitted text_of base rover nav options;
  Says = λ text_of. SaysOfSession answers text_of base rover nav options;
}
