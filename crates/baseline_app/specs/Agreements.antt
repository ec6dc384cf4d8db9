-- How runs of several commands agree: one verdict on a text, a fix that is checked, a greater budget.
use Rattle.std.specs.Prelude.{◌≡◌, ◌≤◌}
use Rattle.std.specs.Io.KnownBytes.{Appends}
use Rattle.cert_data.specs.declared.certs.Cert.{Cert}
use Rattle.cert_data.specs.declared.verdicts.Verdict.TheVariants.{Certified}
use Rattle.report_text.specs.VerdictText.{verdict_text}
use Rattle.job_answers.specs.declared.status.Status.{Status}
use Rattle.job_answers.specs.declared.status.Status.TheVariants.{Done}
use Rattle.job_answers.specs.Delivered.{SinkChange}
use Rattle.track_data.specs.declared.certs.TrackCert.{TrackCert}

-- the run has status 0, and out has gained `certified`
pub record PrintsCertified (status : Status) (out : SinkChange) : Type 0 where
  pub done : status ≡ Done
  pub printed : Appends out.old out.new (verdict_text Certified)

-- the same certificate but for its budget, which is no less
pub record HasMoreBudget (cert other : Cert) : Type 0 where
  pub session_is : other.session ≡ cert.session
  pub ratio_is : other.ratio ≡ cert.ratio
  pub tail_is : other.tail ≡ cert.tail
  pub more : cert.budget ≤ other.budget

-- the same of a track's
pub record HasMoreTrackBudget (cert other : TrackCert) : Type 0 where
  pub track_is : other.track ≡ cert.track
  pub ratio_is : other.ratio ≡ cert.ratio
  pub tail_is : other.tail ≡ cert.tail
  pub more : cert.budget ≤ other.budget
