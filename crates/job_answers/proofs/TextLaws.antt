-- The statuses of a job on one file, and what it says.
use Rattle.std.proofs.Common.{◌≢◌, inl, inr, ℕ, List, Option, refl, ap, subst}
use Rattle.std.specs.Io.KnownBytes.{Appends}
use Rattle.job_answers.specs.declared.status.Status.{Status}
use Rattle.job_answers.specs.declared.status.Status.TheVariants.{Done, Declined, Usage, Refused, ReadFault, WriteFault, NoMemory}
use Rattle.job_answers.specs.Statuses.{IsVerdictStatus, IsJobStatus}
use Rattle.job_answers.specs.Endings.{Ending}
use Rattle.job_answers.specs.Delivered.{SinkChange}
use Rattle.job_answers.specs.TextJobs.{TextJob, EndsOnText, TextEnds, IsTextAdmitted, SaysOfText}
use Rattle.job_answers.proofs.EndingLaws.{admitted_ends, job_status_at, file_status}

-- a verdict's status is one of a job
pub job_of_verdict : (s : Status) → IsVerdictStatus s → IsJobStatus s
job_of_verdict Done is = tt
job_of_verdict Declined is = tt
job_of_verdict Usage is = absurd is
job_of_verdict Refused is = absurd is
job_of_verdict ReadFault is = absurd is
job_of_verdict WriteFault is = absurd is
job_of_verdict NoMemory is = absurd is

on_text_status : (job : TextJob) (name text : List ℕ) (end : Ending) → EndsOnText job name text end → IsJobStatus end.status
on_text_status job name text end (inl answered) = job_of_verdict end.status answered.verdict
on_text_status job name text end (inr refused) = job_status_at end _ refused.end_is tt

pub text_status : (job : TextJob) (text_of : List ℕ → Option (List ℕ)) (name : List ℕ) (end : Ending) → TextEnds job text_of name end → IsJobStatus end.status
text_status job text_of name end ends = file_status text_of name (EndsOnText job name) end (λ text. on_text_status job name text end) ends

-- a file that is there and taken has a verdict
pub text_verdict : (job : TextJob) (text_of : List ℕ → Option (List ℕ)) (name : List ℕ) (end : Ending) → IsTextAdmitted job text_of name → end.status ≢ ReadFault
    → TextEnds job text_of name end → IsVerdictStatus end.status
text_verdict job text_of name end file no_fault ends =
    elim (admitted_ends text_of name (λ lines. Unit {0}) (EndsOnText job name) end (record { text = file.text; told_is = file.told_is; fits = file.fits; file = tt }) no_fault ends) [
      | inl answered ↦ answered.verdict
      | inr refused ↦ absurd (refused.refused.none file.file)
    ]

-- what is written of a verdict is its answer on the file's text
pub text_says : (job : TextJob) (text_of : List ℕ → Option (List ℕ)) (name : List ℕ) (end : Ending) (out : SinkChange) → TextEnds job text_of name end
    → IsVerdictStatus end.status → Appends out.old out.new end.out → SaysOfText job text_of name end.status out
text_says job text_of name end out (inl by_text) verdict written = elim (by_text.ends_so) [
  | inl answered ↦ record { text = by_text.text; is = by_text.is; end = end; answer = answered.answer; status_is = refl; printed = written }
  | inr refused ↦ absurd (subst IsVerdictStatus (ap (λ (e : Ending). e.status) refused.end_is) verdict)
]
text_says job text_of name end out (inr (inl large)) verdict written = absurd (subst IsVerdictStatus (ap (λ (e : Ending). e.status) large.end_is) verdict)
text_says job text_of name end out (inr (inr fault)) verdict written = absurd (subst IsVerdictStatus (ap (λ (e : Ending). e.status) fault) verdict)
