-- A job on one file: what it ends with by the file's text.
use Rattle.std.specs.Prelude.{◌≡◌, ◌⊎◌, ℕ, ◌≤◌, List, [], ◌∷◌, length, Some, Result, Err}
use Rattle.std.specs.declared.option.Option.{Option}
use Rattle.std.specs.Io.KnownBytes.{Appends}
use Rattle.line_source.specs.Lines.{lines_of}
use Rattle.line_source.specs.declared.transfer.TheConstants.{MAX_FILE}
use Rattle.rinex_head.specs.declared.place.At.{At}
use Rattle.rinex_head.specs.FirstFailing.{IsFirstFailing}
use Rattle.job_answers.specs.declared.status.Status.{Status}
use Rattle.job_answers.specs.declared.status.Status.TheVariants.{Refused}
use Rattle.job_answers.specs.Statuses.{IsVerdictStatus}
use Rattle.job_answers.specs.Texts.{refusal_line}
use Rattle.job_answers.specs.Endings.{Ending, ending, IsTextOf, EndsByFile}
use Rattle.job_answers.specs.Delivered.{SinkChange}
use Rattle.job_answers.specs.Commands.{Command}

-- Which texts it takes, at which place it refuses another one, and what it answers of one that it takes.
pub record TextJob : Type 1 where
  pub IsFile : List ℕ → Type 0
  pub refuses : List ℕ → At → Type 0
  pub answers : List ℕ → Ending → Type 0

-- where a text is refused that is none of a form: at the first line at which that shows, where the rules of the form say
pub record IsFormRefused {F : Type 0} (gives : List (List ℕ) → Result F At) (IsFile : List (List ℕ) → Type 0) (text : List ℕ) (at : At) : Type 0 where
  pub first : IsFirstFailing IsFile (lines_of text) at.line
  pub gives_is : gives (lines_of text) ≡ Err at

-- a job on the texts of a form
abbrev pub form_job : {F : Type 0} → (List (List ℕ) → Result F At) → (List (List ℕ) → Type 0) → (List ℕ → Ending → Type 0) → TextJob
form_job gives IsFile answers = record { IsFile = λ text. IsFile (lines_of text); refuses = IsFormRefused gives IsFile; answers = answers }

-- the text has this answer, which is a verdict
pub record IsAnswered (job : TextJob) (text : List ℕ) (end : Ending) : Type 0 where
  pub verdict : IsVerdictStatus end.status
  pub answer : job.answers text end

-- the text isn't taken, and is refused at this place
pub record IsRefusedAt (job : TextJob) (text : List ℕ) (at : At) : Type 0 where
  pub none : job.IsFile text → ⊥
  pub place : job.refuses text at

pub record IsTextRefused (job : TextJob) (name text : List ℕ) (end : Ending) : Type 0 where
  pub at : At
  pub refused : IsRefusedAt job text at
  pub end_is : end ≡ ending Refused [] (refusal_line name at)

abbrev pub EndsOnText : TextJob → List ℕ → List ℕ → Ending → Type 0
EndsOnText job name text end = IsAnswered job text end ⊎ IsTextRefused job name text end

-- what it ends with, by what is reported of its file
abbrev pub TextEnds : TextJob → (List ℕ → Option (List ℕ)) → List ℕ → Ending → Type 0
TextEnds job text_of name end = EndsByFile text_of name (EndsOnText job name) end

-- the text of its file is known, and is taken
pub record IsTextAdmitted (job : TextJob) (text_of : List ℕ → Option (List ℕ)) (name : List ℕ) : Type 0 where
  pub text : List ℕ
  pub told_is : text_of name ≡ Some text
  pub fits : length text ≤ MAX_FILE
  pub file : job.IsFile text

-- what a run of it with status 0 or 1 says: out has gained its answer on the file's text
pub record SaysOfText (job : TextJob) (text_of : List ℕ → Option (List ℕ)) (name : List ℕ) (status : Status) (out : SinkChange) : Type 0 where
  pub text : List ℕ
  pub is : IsTextOf text_of name text
  pub end : Ending
  pub answer : job.answers text end
  pub status_is : end.status ≡ status
  pub printed : Appends out.old out.new end.out

-- the command on the file of that name: no line is about several files
abbrev pub text_command : TextJob → List ℕ → Command
text_command job name = record {
  file_words = name ∷ [];
  Ends = λ text_of. TextEnds job text_of name;
  IsLine = λ line. ⊥;
  IsReadable = λ text_of. IsTextAdmitted job text_of name;
  Says = λ text_of. SaysOfText job text_of name;
}
