-- A run of the program, whatever the job.
use Rattle.std.specs.Prelude.{◌≡◌, ◌≢◌, ◌⊎◌, ℕ, List, [], All}
use Rattle.line_source.specs.Causes.{Rose}
use Rattle.line_source.specs.Openings.{OpensFirst}
use Rattle.line_source.specs.Givens.{GivesFirst}
use Rattle.job_answers.specs.declared.status.Status.{Status}
use Rattle.job_answers.specs.declared.status.Status.TheVariants.{ReadFault, WriteFault, Usage, NoMemory}
use Rattle.job_answers.specs.Statuses.{number_of, IsVerdictStatus}
use Rattle.job_answers.specs.Texts.{no_memory_line}
use Rattle.job_answers.specs.Endings.{Ending, ending}
use Rattle.job_answers.specs.Delivered.{SinkChange, GainsWhole, IsDelivered}
use Rattle.job_answers.specs.Commands.{KnownTexts, Command}
use Rattle.job_answers.specs.Works.{FileWork}
use Rattle.command_words.specs.declared.jobs.Job.{Job}
use Rattle.command_words.specs.Words.{IsJob}
use Rattle.baseline_app.specs.Commands.{command_of}
use Rattle.baseline_app.specs.Jobs.{IsAnswer}

-- A run: the words end in a status with two texts, which are written.
pub record IsRun (words : List (List ℕ)) (work : FileWork) (result : Status) (out err : SinkChange) : Type 0 where
  pub end : Ending
  pub answer : IsAnswer words work end
  pub written : IsDelivered end result out err

-- the command's two texts were written whole, with status 0 or 1
pub record EndsWell (command : Command) (text_of : KnownTexts) (result : Status) (out err : SinkChange) : Type 0 where
  pub end : Ending
  pub ends : command.Ends text_of end
  pub verdict : IsVerdictStatus result
  pub same : result ≡ end.status
  pub out_whole : GainsWhole out end.out
  pub err_whole : GainsWhole err end.err

-- that, or out of memory, or a sink's count rose
abbrev pub IsComplete : Command → KnownTexts → Status → SinkChange → SinkChange → Type 0
IsComplete command text_of result out err = EndsWell command text_of result out err ⊎ ((result ≡ NoMemory) ⊎ ((result ≡ WriteFault) × (Rose out.before out.now ⊎ Rose err.before err.now)))

-- What a run of a job does with its files: a first part of them is opened, each once and in this order, and there is no read fault
-- where all are sure. What an answer, a refusal and a read fault say of them is a part of how the job ends (`EndsOver`).
pub record UsesFiles (work : FileWork) (names : List (List ℕ)) (result : Status) : Type 0 where
  pub opened : OpensFirst names work.openings work.left.openings
  pub given : GivesFirst names work.given work.left.given
  pub sure : All work.sure names → result ≢ ReadFault

-- A run whose status the process ends with, as a number: all that is promised of a run, of this one. `same` says that the files are the same.
pub record IsStarted (words : List (List ℕ)) (work : FileWork) (same : Type 0) (result : ℕ) (out err : SinkChange) : Type 0 where
  pub status : Status
  pub number : result ≡ number_of status
  pub run : IsRun words work status out err
  pub files : (job : Job) → IsJob words job → UsesFiles work (command_of job).file_words status
  pub untouched : ((job : Job) → IsJob words job → (command_of job).file_words ≡ []) → same
  pub read : status ≡ ReadFault → Rose work.faults work.faults_now
  pub write : status ≡ WriteFault → Rose out.before out.now ⊎ Rose err.before err.now
  pub steady : IsVerdictStatus status → (out.now ≡ out.before) × (err.now ≡ err.before)
  pub usage : status ≡ Usage → (job : Job) → IsJob words job → ⊥
  pub output : (job : Job) → IsJob words job → IsVerdictStatus status → (command_of job).Says work.text_of status out
  pub complete : (job : Job) → IsJob words job → (command_of job).IsReadable work.text_of
      → All work.sure (command_of job).file_words ⊎ (Rose work.faults work.faults_now → ⊥) → IsComplete (command_of job) work.text_of status out err

-- where the words couldn't be had, memory is out
pub record HasNoWords (result : ℕ) (out err : SinkChange) : Type 0 where
  pub status : Status
  pub number : result ≡ number_of status
  pub written : IsDelivered (ending NoMemory [] no_memory_line) status out err
