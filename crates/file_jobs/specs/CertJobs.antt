-- What the commands on a certificate answer: `check` and `residuals`.
use Rattle.std.specs.Prelude.{◌≡◌, ℕ, List, [], Err}
use Rattle.rinex_head.specs.declared.place.At.{At}
use Rattle.cert_data.specs.declared.certs.Cert.{Cert}
use Rattle.cert_data.specs.declared.verdicts.Verdict.{Verdict}
use Rattle.cert_data.specs.declared.verdicts.Verdict.TheVariants.{Certified, Not}
use Rattle.cert_text.specs.Spelling.{spelling}
use Rattle.cert_text.specs.Beginnings.{NoneBegins}
use Rattle.cert_text.specs.BeforePairs.{BeginsBefore}
use Rattle.cert_text.specs.Rules.{reading_of}
use Rattle.cert_text.specs.Lengths.{IsWhole, IsCertificate}
use Rattle.cert_check.specs.Verdicts.{IsVerdictOf, IsBestIn, IsBestByRatioIn}
use Rattle.report_text.specs.VerdictText.{verdict_text}
use Rattle.report_text.specs.Residuals.{has_vectors, residuals_text}
use Rattle.job_answers.specs.declared.status.Status.{Status}
use Rattle.job_answers.specs.declared.status.Status.TheVariants.{Done, Declined}
use Rattle.job_answers.specs.Statuses.{verdict_status}
use Rattle.job_answers.specs.Endings.{Ending, ending}
use Rattle.job_answers.specs.TextJobs.{TextJob}

-- the first place at which the rules fail: no certificate begins with the text's lines up to that one, and up to the line
-- `pairs` one begins with the lines before it
pub record IsCertRefused (text : List ℕ) (at : At) : Type 0 where
  pub stuck : NoneBegins IsCertificate text at.line
  pub first : BeginsBefore IsCertificate text at.line
  pub gives_is : reading_of text ≡ Err at

-- the text spells a certificate, which has this answer
pub record AnswersCert (answers : Cert → Ending → Type 0) (text : List ℕ) (end : Ending) : Type 0 where
  pub cert : Cert
  pub whole : IsWhole cert
  pub spelled : text ≡ spelling cert
  pub answer : answers cert end

abbrev pub cert_job : (Cert → Ending → Type 0) → TextJob
cert_job answers = record { IsFile = IsCertificate; refuses = IsCertRefused; answers = AnswersCert answers }

abbrev pub status_of : Verdict → Status
status_of Certified = Done
status_of (Not cause) = Declined

-- The rows are decided again, within the certificate's budget, and the tail is compared with what they say. No other
-- verdict holds of them. Where it is `Certified`, each other integer vector, with any baseline, has a greater sum of
-- squares for all data in the boxes of the rows, and one that is greater by the certificate's ratio, whoever wrote it.
pub record CheckEnd (cert : Cert) (end : Ending) : Type 0 where
  pub verdict : Verdict
  pub is : IsVerdictOf cert.session cert.ratio cert.budget cert.tail verdict
  pub only : (v : Verdict) → IsVerdictOf cert.session cert.ratio cert.budget cert.tail v → v ≡ verdict
  pub best : verdict ≡ Certified → IsBestIn cert.session cert.tail
  pub by_ratio : verdict ≡ Certified → IsBestByRatioIn cert.ratio cert.session cert.tail
  pub end_is : end ≡ ending (status_of verdict) (verdict_text verdict) []

-- the residuals at the tail's first integers, where it has any
abbrev pub ResidualsEnd : Cert → Ending → Type 0
ResidualsEnd cert end = end ≡ ending (verdict_status (has_vectors cert.tail)) (residuals_text cert) []

abbrev pub check_job : TextJob
check_job = cert_job CheckEnd

abbrev pub residuals_job : TextJob
residuals_job = cert_job ResidualsEnd
