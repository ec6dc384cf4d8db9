-- What a run of `sim run` with status 0 or 1 says of the session that it made.
use Rattle.std.specs.Prelude.{◌≡◌, ◌↔◌, ℕ, Bool, true, false, IsTrue, List, codes}
use Rattle.std.specs.declared.option.Option.{Option}
use Rattle.std.specs.Io.KnownBytes.{Appends}
use Rattle.cert_data.specs.declared.outcomes.Outcome.{Outcome}
use Rattle.obs_rows.specs.declared.options.Options.{Options}
use Rattle.report_text.specs.OutcomeText.{is_fixed}
use Rattle.job_answers.specs.declared.status.Status.{Status}
use Rattle.job_answers.specs.declared.status.Status.TheVariants.{Done, Declined}
use Rattle.job_answers.specs.Delivered.{SinkChange}
use Rattle.obs_store.specs.declared.file.ObsFile.{ObsFile}
use Rattle.eph_store.specs.File.{Records}
use Rattle.rinex_head.specs.Systems.{system_of}
use Rattle.job_answers.specs.SessionFiles.{AreFilesOf}
use Rattle.session_jobs.specs.FixJobs.{IsProvedOutcome}
use Rattle.sim_jobs.specs.Matches.{IsMatched}
use Rattle.sim_jobs.specs.SimRunJobs.{AreMadeFiles, AreOptionsOn, truth_in, run_text}

-- the three texts stand for a session of the options' system, whose outcome is this, with all that `fix` says of one
pub record HaveOutcome (text_of : List ℕ → Option (List ℕ)) (base rover nav : List ℕ) (options : Options) (outcome : Outcome) : Type 0 where
  pub base_file : ObsFile
  pub rover_file : ObsFile
  pub records : Records
  pub are_files : AreFilesOf (system_of options.system) text_of base rover nav base_file rover_file records
  pub holds : IsProvedOutcome base_file rover_file records options outcome

-- the made texts stand for a session, whose outcome is a fix or not; out has gained what it is, and `match yes` exactly where it is
-- a fix with the integers of the truth
pub record SaysMatch (seed epochs sats bands system : ℕ) (fixed : Bool) (out : SinkChange) : Type 0 where
  pub text_of : List ℕ → Option (List ℕ)
  pub made : AreMadeFiles seed epochs sats bands system text_of
  pub options : Options
  pub options_are : AreOptionsOn bands system options
  pub outcome : Outcome
  pub have : HaveOutcome text_of (codes "base") (codes "rover") (codes "nav") options outcome
  pub fixed_is : is_fixed outcome.answer ≡ fixed
  pub matched : Bool
  pub matched_is : IsTrue matched ↔ IsMatched (truth_in seed sats bands) outcome.answer
  pub printed : Appends out.old out.new (run_text seed epochs sats outcome.answer matched)

-- done for a fix, else declined
abbrev pub SaysOfSimRun : ℕ → ℕ → ℕ → ℕ → ℕ → Status → SinkChange → Type 0
SaysOfSimRun seed epochs sats bands system Done out = SaysMatch seed epochs sats bands system true out
SaysOfSimRun seed epochs sats bands system Declined out = SaysMatch seed epochs sats bands system false out
SaysOfSimRun seed epochs sats bands system _ out = Unit {0}
