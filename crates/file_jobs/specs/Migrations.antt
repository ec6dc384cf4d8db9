-- What `migrate` ends with.
use Rattle.std.specs.Prelude.{◌≡◌, ℕ, List, [], Err}
use Rattle.rinex_head.specs.declared.place.At.{At}
use Rattle.cert_data.specs.declared.certs.Cert.{Cert}
use Rattle.cert_data.specs.declared.tails.Tail.{Tail}
use Rattle.cert_data.specs.declared.tails.Tail.TheVariants.{Fixed, Unseparated, Weak, Overwidth, Unsettled, Spent}
use Rattle.cert_lines.specs.declared.version.Version.TheVariants.{One}
use Rattle.cert_text.specs.Spelling.{spelling}
use Rattle.cert_text.specs.Lengths.{IsWhole}
use Rattle.cert_text.specs.Beginnings.{NoneBegins}
use Rattle.cert_text.specs.BeforePairs.{BeginsBefore}
use Rattle.cert_text.specs.Rules.{reading_as}
use Rattle.cert_migrate.specs.declared.old_certs.OldCert.{OldCert}
use Rattle.cert_migrate.specs.OldSpelling.{old_spelling, IsWholeOld, IsOldCertificate}
use Rattle.cert_migrate.specs.Migrated.{IsMigrated}
use Rattle.job_answers.specs.declared.status.Status.{Status}
use Rattle.job_answers.specs.declared.status.Status.TheVariants.{Done, Declined}
use Rattle.job_answers.specs.Endings.{Ending, ending}
use Rattle.job_answers.specs.TextJobs.{TextJob}

-- 0 exactly where the tail is fixed
abbrev pub status_of : Tail → Status
status_of (Fixed h moved best top) = Done
status_of (Unseparated h moved best top) = Declined
status_of (Weak column pivot) = Declined
status_of (Overwidth place) = Declined
status_of (Unsettled entry) = Declined
status_of (Spent budget) = Declined

-- the spelling of the lifted certificate
pub record MigrateEnd (old : OldCert) (end : Ending) : Type 0 where
  pub cert : Cert
  pub whole : IsWhole cert
  pub migrated : IsMigrated old cert
  pub end_is : end ≡ ending (status_of cert.tail) (spelling cert) []

-- the first place at which the rules of version 1 fail: none begins with the text's lines up to that one, and up to the line
-- `pairs` one begins with the lines before it
pub record IsOldRefused (text : List ℕ) (at : At) : Type 0 where
  pub stuck : NoneBegins IsOldCertificate text at.line
  pub first : BeginsBefore IsOldCertificate text at.line
  pub gives_is : reading_as One text ≡ Err at

-- the text spells a certificate of version 1, which has this answer
pub record AnswersOld (text : List ℕ) (end : Ending) : Type 0 where
  pub old : OldCert
  pub whole : IsWholeOld old
  pub spelled : text ≡ old_spelling old
  pub answer : MigrateEnd old end

abbrev pub migrate_job : TextJob
migrate_job = record { IsFile = IsOldCertificate; refuses = IsOldRefused; answers = AnswersOld }
