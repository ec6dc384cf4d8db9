-- What the rows of a session are decided to say, once its form is known.
use Rattle.std.specs.Prelude.{◌≡◌, ◌⊎◌, ℕ, List, ℤ, pos, Err}
use Rattle.quadratic_form.specs.Lowering.{IsExponent}
use Rattle.obs_rows.specs.declared.sessions.Session.{Session}
use Rattle.obs_rows.specs.Signals.{fine_signals, counted}
use Rattle.obs_rows.specs.Best.{IsStrictlyBest, IsBestByRatio}
use Rattle.normal_sum.specs.declared.normal.Normal.{Normal}
use Rattle.normal_sum.specs.Normals.{IsNormalOf}
use Rattle.normal_sum.specs.Values.{form_of}
use Rattle.integer_form.specs.declared.form.Form.{Form}
use Rattle.integer_form.specs.declared.faults.Place.{Place}
use Rattle.integer_form.specs.declared.faults.LowerFault.{LowerFault}
use Rattle.integer_form.specs.FloatPoint.{HasWide}
use Rattle.integer_form.specs.ReportedRefusals.{IsReportedAs}
use Rattle.lower_form.specs.Forms.{elimination_of}
use Rattle.int_search.specs.declared.answer.TwoBest.{TwoBest}
use Rattle.int_search.specs.Answers.{IsTwoBest, IsPlainCountOver, IsSearchTooWide}
use Rattle.int_search.specs.ReducedCounts.{HasReducedCount, KeepsBudget, HasAnswer, IsSearchEnd}
use Rattle.int_search.specs.declared.answer.SearchFault.TheVariants as SearchFault
use Rattle.fix_decide.specs.UpperSums.{top as top_of}
use Rattle.fix_decide.specs.Widths.{AreWide}
use Rattle.fix_decide.specs.Decisions.{IsSeparated, first_of, move_of}
use Rattle.cert_data.specs.declared.tails.Tail.{Tail}
use Rattle.cert_data.specs.declared.tails.Tail.TheVariants.{Fixed, Unseparated, Weak, Overwidth, Unsettled, Spent}

-- the elimination of the normal matrix of the rows, over the least power of 2 that serves, is refused with this fault
pub record IsRefused (s : Session) (fault : LowerFault) : Type 0 where
  pub normal : Normal
  pub of_rows : IsNormalOf s.arcs (counted s.signals s.scale) s.pairs normal
  pub h : ℕ
  pub exponent : IsExponent h (form_of normal)
  pub reported : IsReportedAs fault (elimination_of h normal)

-- a refusal of the elimination as a tail
abbrev pub tail_of : LowerFault → Tail
tail_of (LowerFault.Weak column pivot) = Weak column pivot
tail_of (LowerFault.Overwidth place) = Overwidth place

-- the two least vectors of a session's form, found within the budget, the baseline of the first, and its upper sum
pub record AreFound (s : Session) (form : Form) (budget h : ℕ) (moved : List ℤ) (best : TwoBest) (top : ℤ) : Type 0 where
  pub h_is : h ≡ form.h
  pub best_is : IsTwoBest form best
  pub visits : KeepsBudget form budget best
  pub answered : HasAnswer form budget
  pub moved_is : moved ≡ move_of form (first_of best)
  pub narrow : HasWide moved → ⊥
  pub top_is : top ≡ top_of form.h s.arcs (fine_signals s.signals) s.pairs (first_of best) moved
  pub bounded : AreWide s.arcs (fine_signals s.signals) s.pairs (first_of best) moved → ⊥

-- the baseline of the least integers, which are found within the budget, is too wide
pub record IsBaselineWide (form : Form) (budget : ℕ) : Type 0 where
  pub best : TwoBest
  pub best_is : IsTwoBest form best
  pub visits : KeepsBudget form budget best
  pub answered : HasAnswer form budget
  pub wide : HasWide (move_of form (first_of best))

-- the upper sum at the least integers, which are found within the budget, is too wide
pub record IsSumWide (s : Session) (form : Form) (budget : ℕ) : Type 0 where
  pub best : TwoBest
  pub best_is : IsTwoBest form best
  pub visits : KeepsBudget form budget best
  pub answered : HasAnswer form budget
  pub narrow : HasWide (move_of form (first_of best)) → ⊥
  pub wide : AreWide s.arcs (fine_signals s.signals) s.pairs (first_of best) (move_of form (first_of best))

-- The search ends without an answer (`IsSearchEnd`): it visits more suffixes than the budget, or comes to something too wide within it. Then
-- the plain count is over the budget, or has something too wide, and the form has no reduced count within the budget.
abbrev pub IsSpent : Form → ℕ → Type 0
IsSpent form budget = IsSearchEnd form budget (Err SearchFault.Spent) × (IsPlainCountOver form budget × (HasReducedCount form budget → ⊥))

abbrev pub IsTooWide : Form → ℕ → Type 0
IsTooWide form budget = IsSearchEnd form budget (Err SearchFault.Overwidth) × (IsSearchTooWide form budget × (HasReducedCount form budget → ⊥))

-- What a fine session with this form is decided to say: the search is spent or too wide, or else the baseline is too wide,
-- or else the upper sum, or else the second value is far enough above it or it isn't
abbrev pub IsDecision : Session → Form → ℕ → ℕ → Tail → Type 0
IsDecision s form ratio budget (Fixed h moved best top) = AreFound s form budget h moved best top × IsSeparated (pos ratio) top best.p2
IsDecision s form ratio budget (Unseparated h moved best top) = AreFound s form budget h moved best top × (IsSeparated (pos ratio) top best.p2 → ⊥)
IsDecision s form ratio budget (Weak column pivot) = ⊥
IsDecision s form ratio budget (Overwidth place) =
    ((place ≡ Place.Search) × IsTooWide form budget) ⊎ (((place ≡ Place.Float) × IsBaselineWide form budget) ⊎ ((place ≡ Place.Sum) × IsSumWide s form budget))
IsDecision s form ratio budget (Unsettled entry) = ⊥
IsDecision s form ratio budget (Spent spent) = (spent ≡ budget) × IsSpent form budget

-- where the tail is fixed, P holds of its first integers and its move
abbrev pub WhereFixed : (List ℤ → List ℤ → Type 0) → Tail → Type 0
WhereFixed P (Fixed h moved best top) = P (first_of best) moved
WhereFixed P _ = Unit {0}

-- where the integers are fixed, they are with their move best by the ratio for all data in the boxes
abbrev pub IsBestByRatioWhereFixed : ℕ → Session → Tail → Type 0
IsBestByRatioWhereFixed ratio s = WhereFixed (IsBestByRatio ratio s)

-- and strictly best
abbrev pub IsBestWhereFixed : Session → Tail → Type 0
IsBestWhereFixed s = WhereFixed (IsStrictlyBest s)
