-- What the command `track` answers of its files.
use Rattle.std.specs.Prelude.{◌≡◌, ℕ, true, List, ℤ}
use Rattle.obs_store.specs.declared.file.ObsFile.{ObsFile}
use Rattle.eph_store.specs.File.{Records}
use Rattle.obs_rows.specs.declared.bands.Signals.{Signals}
use Rattle.obs_rows.specs.Signals.{fine_signals}
use Rattle.epoch_pair.specs.declared.pairs.PairOf.{PairOf}
use Rattle.int_search.specs.declared.answer.TwoBest.{TwoBest}
use Rattle.fix_decide.specs.Decisions.{first_of}
use Rattle.cert_data.specs.declared.verdicts.Verdict.{Verdict}
use Rattle.cert_data.specs.declared.verdicts.Verdict.TheVariants.{Certified}
use Rattle.obs_rows.specs.declared.options.Options.{Options}
use Rattle.obs_rows.specs.BandSets.{bands_of}
use Rattle.epoch_pair.specs.Beginnings.{IsPosition, AreSignals, AreTaken}
use Rattle.session.specs.Origins.{origin_of}
use Rattle.job_answers.specs.declared.status.Status.{Status}
use Rattle.job_answers.specs.Statuses.{verdict_status}
use Rattle.job_answers.specs.Endings.{Ending, ending}
use Rattle.track_data.specs.declared.certs.TrackCert.{TrackCert}
use Rattle.track_data.specs.declared.tails.TrackTail.TheVariants.{Fixed}
use Rattle.track_form.specs.SumDecided.{IsStrictlyBest, IsBestByRatio}
use Rattle.track_form.specs.Verdicts.{IsTrackVerdict}
use Rattle.track_rows.specs.Stands.{TrackStands}
use Rattle.track_job.specs.declared.answers.TrackOutcome.{TrackOutcome}
use Rattle.track_job.specs.declared.answers.TrackAnswer.{TrackAnswer}
use Rattle.track_job.specs.declared.answers.TrackAnswer.TheVariants.{Full}
use Rattle.track_job.specs.TrackTexts.{track_answer_text, IsWholeTrackAnswer, track_outcome_text, is_track_fixed}
use Rattle.track_job.specs.TrackOutcomes.{IsTrackOutcome}

-- The certificate of a track says `fixed`: for all rational observations and directions in the boxes of its rows, its first
-- integers with its moves have a lesser sum of squares than all other integers with any rational baselines, one for each pair.
pub record IsTrackFix (cert : TrackCert) : Type 0 where
  pub h : ℕ
  pub moves : List (List ℤ)
  pub best : TwoBest
  pub top : ℤ
  pub tail_is : cert.tail ≡ Fixed h moves best top
  pub strictly_best : IsStrictlyBest cert.track.arcs (fine_signals cert.track.signals) cert.track.pairs (first_of best) moves

-- The certificate's track stands for the files: each of its pairs has exactly one row for each kept arc that holds it, and each
-- box holds all solutions of the user algorithm with the constants of the options' system, seen from the base's position and
-- from the pair's own point.
pub record TrackCertStandsForFiles (base rover : ObsFile) (nav : Records) (options : Options) (cert : TrackCert) : Type 0 where
  pub ratio_is : cert.ratio ≡ options.ratio
  pub budget_is : cert.budget ≡ options.budget
  pub position : List ℤ
  pub position_is : IsPosition base position
  pub signals : Signals
  pub signals_are : AreSignals (bands_of options.bands) base rover signals
  pub taken : List PairOf
  pub taken_are : AreTaken base rover options taken
  pub stands : TrackStands (origin_of base rover nav options position signals taken) cert.track

-- The answer is the certificate of a track that says `fixed` and stands for the files. All other integers have a sum of squares
-- that is greater by the ratio. A check of it says that it is certified.
pub record IsTrackFixedFor (base rover : ObsFile) (nav : Records) (options : Options) (answer : TrackAnswer) : Type 0 where
  pub cert : TrackCert
  pub answer_is : answer ≡ Full cert
  pub fix : IsTrackFix cert
  pub by_ratio : IsBestByRatio cert.ratio cert.track.arcs (fine_signals cert.track.signals) cert.track.pairs (first_of fix.best) fix.moves
  pub certified : IsTrackVerdict cert.track.arcs (fine_signals cert.track.signals) cert.track.pairs cert.ratio cert.budget cert.tail Certified
  pub only : (v : Verdict) → IsTrackVerdict cert.track.arcs (fine_signals cert.track.signals) cert.track.pairs cert.ratio cert.budget cert.tail v → v ≡ Certified
  pub stands : TrackCertStandsForFiles base rover nav options cert

-- done for a fix, else declined
abbrev pub track_status_of : TrackAnswer → Status
track_status_of a = verdict_status (is_track_fixed a)

-- The outcome of the files, in its two texts. A certificate that is printed stands for the files, whatever it says, and is the only
-- one with its text.
pub record AnswersTrack (options : Options) (base rover : ObsFile) (nav : Records) (end : Ending) : Type 0 where
  pub outcome : TrackOutcome
  pub is : IsTrackOutcome base rover nav options outcome
  pub fixed : is_track_fixed outcome.answer ≡ true → IsTrackFixedFor base rover nav options outcome.answer
  pub stands : (cert : TrackCert) → outcome.answer ≡ Full cert → TrackCertStandsForFiles base rover nav options cert
  pub whole : IsWholeTrackAnswer outcome.answer
  pub end_is : end ≡ ending (track_status_of outcome.answer) (track_answer_text outcome.answer) (track_outcome_text outcome)
