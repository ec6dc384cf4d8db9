-- That the two least vectors on which a verdict rests keep the budget: at most as many suffixes as it are within the second value. It
-- follows from what the verdict is (`rests_within`).
use Rattle.std.specs.Prelude.{ℕ}
use Rattle.obs_rows.specs.declared.sessions.Session.{Session}
use Rattle.integer_form.specs.declared.form.Form.{Form}
use Rattle.integer_form.specs.declared.faults.Place.TheVariants.{Float, Sum}
use Rattle.int_search.specs.declared.answer.TwoBest.{TwoBest}
use Rattle.int_search.specs.Answers.{IsTwoBest}
use Rattle.int_search.specs.ReducedCounts.{KeepsBudget}
use Rattle.fix_decide.specs.Decisions.{IsFormOf}
use Rattle.cert_data.specs.declared.verdicts.Verdict.{Verdict}
use Rattle.cert_data.specs.declared.verdicts.Verdict.TheVariants.{Certified, Not}
use Rattle.cert_data.specs.declared.verdicts.Cause.TheVariants as cause

-- the two best vectors of the rows' form are found within the budget
pub record IsSearchedWithin (s : Session) (budget : ℕ) : Type 0 where
  pub form : Form
  pub of_rows : IsFormOf s form
  pub best : TwoBest
  pub best_is : IsTwoBest form best
  pub visits : KeepsBudget form budget best

-- where the verdict rests on the two least vectors, they are found within the budget
abbrev pub RestsWithin : Session → ℕ → Verdict → Type 0
RestsWithin s budget Certified = IsSearchedWithin s budget
RestsWithin s budget (Not (cause.Overwidth Float)) = IsSearchedWithin s budget
RestsWithin s budget (Not (cause.Overwidth Sum)) = IsSearchedWithin s budget
RestsWithin s budget (Not cause.Unseparated) = IsSearchedWithin s budget
RestsWithin s budget (Not cause.Tail) = IsSearchedWithin s budget
RestsWithin s budget _ = Unit {0}
