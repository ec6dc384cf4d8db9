-- What the command `sim run` ends with.
use Rattle.std.specs.Prelude.{◌≡◌, ◌⊎◌, ◌↔◌, ℕ, ℤ, Bool, true, false, IsTrue, if◌then◌else◌, Some, List, [], ◌++◌, codes}
use Rattle.std.specs.Fmt.{decimal}
use Rattle.std.specs.declared.option.Option.{Option}
use Rattle.obs_store.specs.declared.file.ObsFile.{ObsFile}
use Rattle.rinex_head.specs.Systems.{system_of}
use Rattle.eph_store.specs.File.{Records}
use Rattle.obs_rows.specs.Integers.{integer_count}
use Rattle.obs_rows.specs.Signals.{fine_signals}
use Rattle.sim_session.specs.Values.{truth_of, first_of}
use Rattle.sim_session.specs.Texts.{has_l5, IsMade}
use Rattle.sim_session.specs.declared.Made.{Made}
use Rattle.cert_data.specs.declared.outcomes.Outcome.{Outcome}
use Rattle.cert_data.specs.declared.outcomes.Answer.{Answer}
use Rattle.cert_data.specs.declared.outcomes.Answer.TheVariants.{Full}
use Rattle.obs_rows.specs.declared.options.Options.{Options}
use Rattle.obs_rows.specs.Defaults.{AreDefaults, numbers_of}
use Rattle.report_text.specs.OutcomeText.{is_fixed}
use Rattle.job_answers.specs.Endings.{Ending, ending}
use Rattle.job_answers.specs.SessionFiles.{AreFilesOf}
use Rattle.job_answers.specs.Refusals.{IsPairRefused}
use Rattle.session_jobs.specs.FixJobs.{IsProvedOutcome, status_of}
use Rattle.sim_jobs.specs.Matches.{IsMatched}

-- under these three names the files of a session of the seed stand, with these bands of the system with that letter
pub record AreMadeFiles (seed epochs sats bands system : ℕ) (text_of : List ℕ → Option (List ℕ)) : Type 0 where
  pub session : Made
  pub made : IsMade seed epochs sats bands system session
  pub base_told : text_of (codes "base") ≡ Some session.base.items
  pub rover_told : text_of (codes "rover") ≡ Some session.rover.items
  pub nav_told : text_of (codes "nav") ≡ Some session.nav.items

-- the options of a run on these bands of that system which is asked for nothing else
pub record AreOptionsOn (bands system : ℕ) (options : Options) : Type 0 where
  pub defaults : Options
  pub are_defaults : AreDefaults defaults
  pub numbers : numbers_of options ≡ record (numbers_of defaults) { bands = bands; system = system }

-- the cycles of each satellite with which the session was made, by bands: the rover's less the base's
abbrev pub truth_in : ℕ → ℕ → ℕ → List (List ℤ)
truth_in seed sats bands = first_of (truth_of seed sats (has_l5 bands)) sats

abbrev pub verdict_word : Answer → List ℕ
verdict_word a = if is_fixed a then codes "fixed" else codes "declined"

-- one integer for each free arc and phase of the session that was decided, and none where there is no such session
abbrev pub integers_of : Answer → ℕ
integers_of (Full cert) = integer_count cert.session.arcs (fine_signals cert.session.signals)
integers_of _ = 0

abbrev pub match_word : Bool → List ℕ
match_word true = codes "yes"
match_word false = codes "no"

abbrev pub made_line : ℕ → ℕ → ℕ → List ℕ
made_line seed epochs sats = codes "sim seed " ++ (decimal seed ++ (codes " epochs " ++ (decimal epochs ++ (codes " sats " ++ (decimal sats ++ codes "\n")))))

abbrev pub found_lines : Answer → Bool → List ℕ
found_lines a matched = codes "verdict " ++ (verdict_word a ++ (codes "\nintegers " ++ (decimal (integers_of a) ++ (codes "\nmatch " ++ (match_word matched ++ codes "\n")))))

-- the four lines
abbrev pub run_text : ℕ → ℕ → ℕ → Answer → Bool → List ℕ
run_text seed epochs sats a matched = made_line seed epochs sats ++ found_lines a matched

-- the outcome of the files, with all that `fix` says of one, and whether it is a fix with the integers of the truth
pub record EndsWithMatch (options : Options) (seed epochs sats bands : ℕ) (base rover : ObsFile) (nav : Records) (end : Ending) : Type 0 where
  pub outcome : Outcome
  pub holds : IsProvedOutcome base rover nav options outcome
  pub matched : Bool
  pub matched_is : IsTrue matched ↔ IsMatched (truth_in seed sats bands) outcome.answer
  pub end_is : end ≡ ending (status_of outcome.answer) (run_text seed epochs sats outcome.answer matched) []

-- what any three files end with
abbrev pub SimRunEnd : Options → ℕ → ℕ → ℕ → ℕ → ObsFile → ObsFile → Records → Ending → Type 0
SimRunEnd options seed epochs sats bands base rover nav end = EndsWithMatch options seed epochs sats bands base rover nav end ⊎ IsPairRefused base rover options end

-- what the texts of the session end with, processed on the same bands of the same system with no other option given: they stand for
-- a session, and aren't refused together
pub record SimRunEnds (seed epochs sats bands system : ℕ) (end : Ending) : Type 0 where
  pub text_of : List ℕ → Option (List ℕ)
  pub made : AreMadeFiles seed epochs sats bands system text_of
  pub options : Options
  pub options_are : AreOptionsOn bands system options
  pub base_file : ObsFile
  pub rover_file : ObsFile
  pub records : Records
  pub are_files : AreFilesOf (system_of options.system) text_of (codes "base") (codes "rover") (codes "nav") base_file rover_file records
  pub ends : EndsWithMatch options seed epochs sats bands base_file rover_file records end
