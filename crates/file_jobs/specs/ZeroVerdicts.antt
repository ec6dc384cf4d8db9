-- What is said of a claimed number.
use Rattle.std.specs.Prelude.{◌≡◌, ℤ, ◌≤ℤ◌, List}
use Rattle.file_jobs.specs.ZeroSums.{sum_at, IsBest, IsRival}
use Rattle.file_jobs.specs.declared.zero_best.Verdict.{Verdict}
use Rattle.file_jobs.specs.declared.zero_best.Verdict.TheVariants.{Optimal, Beaten}

pub record IsBeaten (ds : List ℤ) (z sum by least : ℤ) : Type 0 where
  pub claimed : sum ≡ sum_at ds z
  pub rival : IsRival ds z by
  pub better : least ≡ sum_at ds by
  pub no_more : sum_at ds by ≤ℤ sum_at ds z

-- The claimed number is strictly best, or it is beaten by the other number of least sum.
abbrev pub IsVerdict : List ℤ → ℤ → Verdict → Type 0
IsVerdict ds z (Optimal sum) = IsBest ds z × (sum ≡ sum_at ds z)
IsVerdict ds z (Beaten sum by least) = IsBeaten ds z sum by least
