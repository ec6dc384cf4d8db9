-- What holds of the integers of rows that are fixed holds of those of a text that is certified; what is best by the ratio is strictly best.
use Rattle.std.proofs.Common.{◌≡◌, ℕ, ◌≤◌, ℤ, List, sym, subst}
use Rattle.obs_rows.specs.declared.sessions.Session.{Session}
use Rattle.obs_rows.specs.Best.{IsStrictlyBest, IsBestByRatio}
use Rattle.obs_rows.proofs.RatioLaws.{ratio_is_strict}
use Rattle.fix_decide.specs.Decisions.{first_of}
use Rattle.cert_data.specs.declared.tails.Tail.{Tail}
use Rattle.cert_data.specs.declared.tails.Tail.TheVariants.{Fixed, Unseparated, Weak, Overwidth, Unsettled, Spent}
use Rattle.cert_data.specs.declared.verdicts.Verdict.TheVariants.{Certified}
use Rattle.cert_check.specs.Settled.{WhereFixed, IsBestWhereFixed, IsBestByRatioWhereFixed}
use Rattle.cert_check.specs.Verdicts.{IsSaidOf, IsFixedWith, IsBestIn, IsBestByRatioIn}

-- what holds where the rows are fixed holds in a text that says their numbers
pub fixed_said : (P : List ℤ → List ℤ → Type 0) (d t : Tail) → WhereFixed P d → IsSaidOf d t Certified → IsFixedWith P t
fixed_said P (Fixed h moved best top) (Fixed k other two over) is said =
    subst (λ (z : List ℤ). P z other) (sym said.best_is.first_is) (subst (λ (m : List ℤ). P (first_of best) m) (sym said.moved_is) is)
fixed_said P (Fixed h moved best top) (Unseparated k other two over) is said = absurd said
fixed_said P (Fixed h moved best top) (Weak column pivot) is said = absurd said
fixed_said P (Fixed h moved best top) (Overwidth place) is said = absurd said
fixed_said P (Fixed h moved best top) (Unsettled entry) is said = absurd said
fixed_said P (Fixed h moved best top) (Spent spent) is said = absurd said
fixed_said P (Unseparated h moved best top) t is said = absurd cc
fixed_said P (Weak column pivot) t is said = absurd cc
fixed_said P (Overwidth place) t is said = absurd cc
fixed_said P (Unsettled entry) t is said = absurd cc
fixed_said P (Spent spent) t is said = absurd cc

-- ---- strictly best
pub strictly_where_fixed : (ratio : ℕ) (s : Session) (t : Tail) → 1000 ≤ ratio → IsBestByRatioWhereFixed ratio s t → IsBestWhereFixed s t
strictly_where_fixed ratio s (Fixed h moved best top) large is = ratio_is_strict ratio s (first_of best) moved large is
strictly_where_fixed ratio s (Unseparated h moved best top) large is = tt
strictly_where_fixed ratio s (Weak column pivot) large is = tt
strictly_where_fixed ratio s (Overwidth place) large is = tt
strictly_where_fixed ratio s (Unsettled entry) large is = tt
strictly_where_fixed ratio s (Spent spent) large is = tt

pub strictly_in : (ratio : ℕ) (s : Session) (t : Tail) → 1000 ≤ ratio → IsBestByRatioIn ratio s t → IsBestIn s t
strictly_in ratio s (Fixed h moved best top) large is = ratio_is_strict ratio s (first_of best) moved large is
strictly_in ratio s (Unseparated h moved best top) large is = absurd is
strictly_in ratio s (Weak column pivot) large is = absurd is
strictly_in ratio s (Overwidth place) large is = absurd is
strictly_in ratio s (Unsettled entry) large is = absurd is
strictly_in ratio s (Spent spent) large is = absurd is
