-- What each command keeps: which statuses its endings have, and that what is written of a verdict is what it says.
use Rattle.std.proofs.Common.{◌≢◌, ℕ, List}
use Rattle.std.specs.Io.KnownBytes.{Appends}
use Rattle.obs_rows.specs.declared.options.Options.{Options}
use Rattle.job_answers.specs.declared.status.Status.TheVariants.{ReadFault}
use Rattle.job_answers.specs.Statuses.{IsVerdictStatus, IsJobStatus}
use Rattle.job_answers.specs.Endings.{Ending}
use Rattle.job_answers.specs.Delivered.{SinkChange}
use Rattle.job_answers.specs.Commands.{KnownTexts, Command}
use Rattle.job_answers.specs.TextJobs.{TextJob, text_command}
use Rattle.job_answers.specs.SessionJobs.{SessionAnswers, session_command}
use Rattle.job_answers.proofs.TextLaws.{text_status, text_verdict, text_says}
use Rattle.job_answers.proofs.SessionLaws.{session_status, session_verdict, session_says}

-- Each of its statuses is one of a job, and with readable files and no read fault it has a verdict.
pub record IsLawful (command : Command) : Type 0 where
  pub status : (text_of : KnownTexts) (end : Ending) → command.Ends text_of end → IsJobStatus end.status
  pub verdict : (text_of : KnownTexts) (end : Ending) → command.IsReadable text_of → end.status ≢ ReadFault → command.Ends text_of end → IsVerdictStatus end.status
  pub says : (text_of : KnownTexts) (end : Ending) (out : SinkChange) → command.Ends text_of end → IsVerdictStatus end.status → Appends out.old out.new end.out
      → command.Says text_of end.status out

pub text_lawful : (job : TextJob) (name : List ℕ) → IsLawful (text_command job name)
text_lawful job name = record {
  status = λ text_of end. text_status job text_of name end;
  verdict = λ text_of end. text_verdict job text_of name end;
  says = λ text_of end out. text_says job text_of name end out;
}

pub session_lawful : (answers : SessionAnswers) (base rover nav : List ℕ) (options : Options) → IsLawful (session_command answers base rover nav options)
session_lawful answers base rover nav options = record {
  status = λ text_of end. session_status answers text_of base rover nav options end;
  verdict = λ text_of end. session_verdict answers text_of base rover nav options end;
  says = λ text_of end out. session_says answers text_of base rover nav options end out;
}
