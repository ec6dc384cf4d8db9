-- What the command `zero` ends with.
use Rattle.std.specs.Prelude.{◌≡◌, ◌⊎◌, ℕ, ℤ, ◌≤ℤ◌, List, [], ◌++◌, codes}
use Rattle.std.specs.Fmt.{signed_decimal}
use Rattle.line_source.specs.Lines.{lines_of}
use Rattle.file_jobs.specs.ZeroRows.{Rows, rows, AreRows, IsZeroFile}
use Rattle.file_jobs.specs.ZeroRules.{rows_of}
use Rattle.file_jobs.specs.ZeroSums.{sum_at, IsBest, IsRival}
use Rattle.job_answers.specs.declared.status.Status.TheVariants.{Done, Declined}
use Rattle.job_answers.specs.Endings.{Ending, ending}
use Rattle.job_answers.specs.TextJobs.{TextJob, form_job}

abbrev pub optimal_line : ℤ → ℤ → List ℕ
optimal_line z sum = codes "optimal " ++ (signed_decimal z ++ (codes " sum " ++ (signed_decimal sum ++ codes "\n")))

abbrev pub beaten_line : ℤ → ℤ → ℤ → ℤ → List ℕ
beaten_line z sum by least = codes "beaten " ++ (signed_decimal z
    ++ (codes " sum " ++ (signed_decimal sum ++ (codes " by " ++ (signed_decimal by ++ (codes " sum " ++ (signed_decimal least ++ codes "\n")))))))

-- every other whole number has a greater sum
pub record IsOptimal (z : ℤ) (ds : List ℤ) (end : Ending) : Type 0 where
  pub best : IsBest ds z
  pub end_is : end ≡ ending Done (optimal_line z (sum_at ds z)) []

-- another whole number has a sum that is at most that of the claimed one; the rival is the least of them
pub record IsBeaten (z : ℤ) (ds : List ℤ) (end : Ending) : Type 0 where
  pub by : ℤ
  pub rival : IsRival ds z by
  pub no_more : sum_at ds by ≤ℤ sum_at ds z
  pub end_is : end ≡ ending Declined (beaten_line z (sum_at ds z) by (sum_at ds by)) []

abbrev pub IsVerdictOf : Rows → Ending → Type 0
IsVerdictOf r end = IsOptimal r.claim r.diffs end ⊎ IsBeaten r.claim r.diffs end

-- the text has rows, and this is what they end with
pub record EndsByRows (text : List ℕ) (end : Ending) : Type 0 where
  pub z : ℤ
  pub ds : List ℤ
  pub are : AreRows (lines_of text) z ds
  pub verdict : IsVerdictOf (rows z ds) end

abbrev pub zero_job : TextJob
zero_job = form_job rows_of IsZeroFile EndsByRows
