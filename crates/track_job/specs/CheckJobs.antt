-- What the command `check-track` ends with.
use Rattle.std.specs.Prelude.{◌≡◌, ℕ, List, [], Err}
use Rattle.rinex_head.specs.declared.place.At.{At}
use Rattle.obs_rows.specs.Signals.{fine_signals}
use Rattle.cert_data.specs.declared.verdicts.Verdict.{Verdict}
use Rattle.cert_data.specs.declared.verdicts.Verdict.TheVariants.{Certified}
use Rattle.report_text.specs.VerdictText.{verdict_text}
use Rattle.file_jobs.specs.CertJobs.{status_of}
use Rattle.job_answers.specs.Endings.{Ending, ending}
use Rattle.job_answers.specs.TextJobs.{TextJob}
use Rattle.track_data.specs.declared.certs.TrackCert.{TrackCert}
use Rattle.track_text.specs.Spelling.{track_spelling}
use Rattle.track_text.specs.Lengths.{IsWholeTrackCert, IsTrackCertificate}
use Rattle.track_form.specs.Verdicts.{IsTrackVerdict, IsTrackBestIn, IsTrackBestByRatioIn}
use Rattle.cert_text.specs.Beginnings.{NoneBegins}
use Rattle.cert_text.specs.BeforePairs.{BeginsBefore}
use Rattle.track_text.specs.Rules.{track_reading}

-- the rows of a track and its tail have this verdict
abbrev pub IsVerdictOn : TrackCert → Verdict → Type 0
IsVerdictOn cert v = IsTrackVerdict cert.track.arcs (fine_signals cert.track.signals) cert.track.pairs cert.ratio cert.budget cert.tail v

-- the tail says that the rows are fixed, and its first integers with its moves are strictly best for them
abbrev pub IsBestFor : TrackCert → Type 0
IsBestFor cert = IsTrackBestIn cert.track.arcs (fine_signals cert.track.signals) cert.track.pairs cert.tail

-- the same, and best by the certificate's ratio
abbrev pub IsBestByItsRatio : TrackCert → Type 0
IsBestByItsRatio cert = IsTrackBestByRatioIn cert.ratio cert.track.arcs (fine_signals cert.track.signals) cert.track.pairs cert.tail

-- the first place at which the rules fail: no certificate of a track begins with the text's lines up to that one, and up to
-- the line `pairs` one begins with the lines before it
pub record IsTrackRefused (text : List ℕ) (at : At) : Type 0 where
  pub stuck : NoneBegins IsTrackCertificate text at.line
  pub first : BeginsBefore IsTrackCertificate text at.line
  pub gives_is : track_reading text ≡ Err at

-- The rows are decided again, and the tail is compared with what they say. No other verdict holds of them.
-- Where it is `Certified`, each other integer vector, with any baselines, one for each pair, has a greater sum of
-- squares for all data in the boxes of the rows, and one that is greater by the certificate's ratio, whoever wrote it.
pub record CheckTrackEnd (cert : TrackCert) (end : Ending) : Type 0 where
  pub verdict : Verdict
  pub is : IsVerdictOn cert verdict
  pub only : (v : Verdict) → IsVerdictOn cert v → v ≡ verdict
  pub best : verdict ≡ Certified → IsBestFor cert
  pub by_ratio : verdict ≡ Certified → IsBestByItsRatio cert
  pub end_is : end ≡ ending (status_of verdict) (verdict_text verdict) []

-- the text spells the certificate of a track, which has this answer
pub record AnswersTrackCert (text : List ℕ) (end : Ending) : Type 0 where
  pub cert : TrackCert
  pub whole : IsWholeTrackCert cert
  pub spelled : text ≡ track_spelling cert
  pub answer : CheckTrackEnd cert end

abbrev pub check_track_job : TextJob
check_track_job = record { IsFile = IsTrackCertificate; refuses = IsTrackRefused; answers = AnswersTrackCert }
