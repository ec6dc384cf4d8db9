-- What is said of two observation files that are refused.
use Rattle.std.specs.Prelude.{◌≡◌, ℕ, true, false, List, [], ◌++◌, codes}
use Rattle.std.specs.Fmt.{decimal}
use Rattle.obs_store.specs.declared.file.ObsFile.{ObsFile}
use Rattle.obs_rows.specs.declared.options.Options.{Options}
use Rattle.epoch_pair.specs.declared.faults.PairWhat.{PairWhat}
use Rattle.epoch_pair.specs.declared.faults.PairWhat.TheVariants.{NoBasePosition, NoSignal, Dense}
use Rattle.epoch_pair.specs.declared.faults.SessionFault.TheVariants as fault
use Rattle.epoch_pair.specs.Beginnings.{IsSessionFault}
use Rattle.job_answers.specs.declared.status.Status.TheVariants.{Refused}
use Rattle.job_answers.specs.Endings.{Ending, ending}

-- why they are
abbrev pub pair_reason : PairWhat → List ℕ
pair_reason NoBasePosition = codes "no base position"
pair_reason NoSignal = codes "no common signals"
pair_reason (Dense true epoch) = codes "rover epochs too dense at " ++ decimal epoch
pair_reason (Dense false epoch) = codes "base epochs too dense at " ++ decimal epoch

abbrev pub pair_line : PairWhat → List ℕ
pair_line what = codes "refused: " ++ (pair_reason what ++ codes "\n")

-- the two files are refused
pub record IsPairRefused (base rover : ObsFile) (options : Options) (end : Ending) : Type 0 where
  pub what : PairWhat
  pub why : IsSessionFault base rover options (fault.Refused what)
  pub end_is : end ≡ ending Refused [] (pair_line what)
