-- What the command `fix` answers of its files.
use Rattle.std.specs.Prelude.{◌≡◌, ◌==◌, ℕ, true, List, map, ℤ}
use Rattle.obs_store.specs.declared.file.ObsFile.{ObsFile}
use Rattle.eph_store.specs.File.{Records}
use Rattle.obs_rows.specs.declared.arcs.Arc.{Arc}
use Rattle.obs_rows.specs.declared.bands.Signals.{Signals}
use Rattle.obs_rows.specs.Best.{IsStrictlyBest, IsBestByRatio}
use Rattle.epoch_pair.specs.declared.pairs.PairOf.{PairOf}
use Rattle.row_build.specs.Stands.{StandsForFiles}
use Rattle.int_search.specs.declared.answer.TwoBest.{TwoBest}
use Rattle.fix_decide.specs.Decisions.{first_of}
use Rattle.cert_data.specs.declared.certs.Cert.{Cert}
use Rattle.cert_data.specs.declared.outcomes.Outcome.{Outcome}
use Rattle.cert_data.specs.declared.outcomes.Answer.{Answer}
use Rattle.cert_data.specs.declared.outcomes.Answer.TheVariants.{Full}
use Rattle.cert_data.specs.declared.tails.Tail.TheVariants.{Fixed}
use Rattle.cert_data.specs.declared.verdicts.Verdict.{Verdict}
use Rattle.cert_data.specs.declared.verdicts.Verdict.TheVariants.{Certified}
use Rattle.cert_check.specs.Verdicts.{IsVerdictOf}
use Rattle.round_steps.specs.Steps.{IsOnlyEnd}
use Rattle.round_steps.specs.Runs.{most_rounds}
use Rattle.obs_rows.specs.declared.options.Options.{Options}
use Rattle.obs_rows.specs.BandSets.{bands_of}
use Rattle.epoch_pair.specs.Beginnings.{IsPosition, AreSignals, AreTaken}
use Rattle.session.specs.Origins.{origin_of}
use Rattle.session.specs.Outcomes.{IsOutcome}
use Rattle.report_text.specs.OutcomeText.{answer_text, IsWholeAnswer, outcome_text, is_fixed}
use Rattle.job_answers.specs.declared.status.Status.{Status}
use Rattle.job_answers.specs.Statuses.{verdict_status}
use Rattle.job_answers.specs.Endings.{Ending, ending}

-- A certificate says `fixed`: for all rational observations and directions in the boxes of its session, its first integers
-- with its move have a lesser sum of squares than all other integers with any rational baseline.
pub record IsFix (cert : Cert) : Type 0 where
  pub h : ℕ
  pub moved : List ℤ
  pub best : TwoBest
  pub top : ℤ
  pub tail_is : cert.tail ≡ Fixed h moved best top
  pub strictly_best : IsStrictlyBest cert.session (first_of best) moved

-- The certificate's session stands for the files: it has exactly one row for each used observation on the bands of the
-- options, and each box holds all solutions of the user algorithm with the constants of the options' system, seen from the
-- base's position and from the session's point.
pub record CertStandsForFiles (base rover : ObsFile) (nav : Records) (options : Options) (cert : Cert) : Type 0 where
  pub ratio_is : cert.ratio ≡ options.ratio
  pub budget_is : cert.budget ≡ options.budget
  pub position : List ℤ
  pub position_is : IsPosition base position
  pub signals : Signals
  pub signals_are : AreSignals (bands_of options.bands) base rover signals
  pub taken : List PairOf
  pub taken_are : AreTaken base rover options taken
  pub stands : StandsForFiles (origin_of base rover nav options position signals taken)
      cert.session.point (map (λ (a : Arc). a.shift) cert.session.arcs) 0 cert.session

-- The answer is a certificate that says `fixed`, of a session that stands for the files. All other integers have a sum of
-- squares that is greater by the ratio. A check of it says that it is certified.
pub record IsFixedFor (base rover : ObsFile) (nav : Records) (options : Options) (answer : Answer) : Type 0 where
  pub cert : Cert
  pub answer_is : answer ≡ Full cert
  pub fix : IsFix cert
  pub by_ratio : IsBestByRatio cert.ratio cert.session (first_of fix.best) fix.moved
  pub certified : IsVerdictOf cert.session cert.ratio cert.budget cert.tail Certified
  pub only : (v : Verdict) → IsVerdictOf cert.session cert.ratio cert.budget cert.tail v → v ≡ Certified
  pub stands : CertStandsForFiles base rover nav options cert

-- done for a fix, else declined
abbrev pub status_of : Answer → Status
status_of a = verdict_status (is_fixed a)

-- The outcome of the files, whatever is printed of it. A certificate of it stands for the files, whatever it says. The round of its
-- session ends the run, and in no other way.
pub record IsProvedOutcome (base rover : ObsFile) (nav : Records) (options : Options) (outcome : Outcome) : Type 0 where
  pub is : IsOutcome base rover nav options outcome
  pub fixed : is_fixed outcome.answer ≡ true → IsFixedFor base rover nav options outcome.answer
  pub only : (cert : Cert) → outcome.answer ≡ Full cert → IsOnlyEnd (outcome.rounds.fine == most_rounds 0) cert.session cert.ratio cert.budget cert.tail
  pub stands : (cert : Cert) → outcome.answer ≡ Full cert → CertStandsForFiles base rover nav options cert

-- That outcome, in its two texts. A certificate that is printed is the only one with its text.
pub record AnswersFix (options : Options) (base rover : ObsFile) (nav : Records) (end : Ending) : Type 0 where
  pub outcome : Outcome
  pub holds : IsProvedOutcome base rover nav options outcome
  pub whole : IsWholeAnswer outcome.answer
  pub end_is : end ≡ ending (status_of outcome.answer) (answer_text outcome.answer) (outcome_text outcome)
