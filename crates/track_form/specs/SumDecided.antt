-- What the rows of the pairs of a track say together: the sum of their fronts, and the decision by it.
use Rattle.std.specs.Prelude.{◌≡◌, ℕ, ◌+◌, ◌-◌, ◌<◌, List, [], ◌∷◌, length, map, replicate, get_or, All, Any, ℤ, pos}
use Rattle.std.specs.List.{AllZip}
use Rattle.whole_math.specs.Rational.{Rational, ◌<ʳ◌}
use Rattle.whole_math.specs.Spread.{Baseline}
use Rattle.obs_rows.specs.declared.arcs.Arc.{Arc}
use Rattle.obs_rows.specs.declared.pair_rows.PairRows.{PairRows}
use Rattle.obs_rows.specs.Best.{moved, IsLessByRatio}
use Rattle.obs_rows.specs.Data.{Observed, AreData}
use Rattle.obs_rows.specs.Integers.{integer_count}
use Rattle.obs_rows.specs.SumOfSquares.{sum_of_squares}
use Rattle.quadratic_form.specs.Tables.{zero_rows}
use Rattle.quadratic_form.specs.declared.sizes.TheConstants.{BASELINE_COLUMNS, MOST_COLUMNS}
use Rattle.integer_form.specs.declared.faults.LowerFault.{LowerFault}
use Rattle.integer_form.specs.declared.front_form.FrontForm.{FrontForm}
use Rattle.integer_form.specs.declared.form.Form.{Form}
use Rattle.integer_form.specs.FloatPoint.{HasWide}
use Rattle.integer_form.specs.Kept.{form_of_table}
use Rattle.integer_form.specs.ReportedRefusals.{IsReportedAs}
use Rattle.elimination.specs.Finish.{IsFinishOf, finish_of}
use Rattle.int_search.specs.declared.answer.TwoBest.{TwoBest}
use Rattle.int_search.specs.Answers.{IsTwoBest}
use Rattle.int_search.specs.ReducedCounts.{KeepsBudget, HasAnswer}
use Rattle.fix_decide.specs.UpperSums.{pair_upper}
use Rattle.fix_decide.specs.Widths.{IsWide}
use Rattle.fix_decide.specs.Decisions.{first_of}
use Rattle.track_form.specs.Fronts.{AreExponents, track_form, track_top}
use Rattle.track_form.specs.PairFronts.{AreFronts, brief, move_at}
use Rattle.track_form.specs.Best.{IsTrackBestBy}

-- the fronts of all pairs, brought over one power of 2 and added, with no factors of the baseline's columns
pub record IsSumOfFronts (arcs : List Arc) (signals : List ℕ) (pairs : List PairRows) (fs : List FrontForm) (sum : FrontForm) : Type 0 where
  pub of_pairs : AreFronts arcs signals pairs fs
  pub e : ℕ
  pub exponents : AreExponents (map brief fs) e sum.h
  pub columns : sum.columns ≡ 4 + integer_count arcs signals
  pub form : form_of_table sum.p (sum.columns - 3) ≡ track_form (sum.columns - 3) sum.h (map brief fs)
  pub kept : sum.d ≡ replicate BASELINE_COLUMNS (pos 0)
  pub factors : sum.l ≡ zero_rows MOST_COLUMNS BASELINE_COLUMNS

-- the form of a track: the finish of the sum
pub record IsTrackForm (arcs : List Arc) (signals : List ℕ) (pairs : List PairRows) (fs : List FrontForm) (form : Form) : Type 0 where
  pub sum : FrontForm
  pub of_fronts : IsSumOfFronts arcs signals pairs fs sum
  pub finished : IsFinishOf sum form

-- the finish of the sum is refused with this fault
pub record IsFinishRefused (arcs : List Arc) (signals : List ℕ) (pairs : List PairRows) (fault : LowerFault) : Type 0 where
  pub fronts : List FrontForm
  pub sum : FrontForm
  pub of_fronts : IsSumOfFronts arcs signals pairs fronts sum
  pub reported : IsReportedAs fault (finish_of sum)

-- the upper sum of each pair, at its own move
abbrev pub pair_uppers : List Arc → List ℕ → List ℤ → List PairRows → List (List ℤ) → List ℤ
pair_uppers arcs signals z [] moves = []
pair_uppers arcs signals z (p ∷ ps) [] = []
pair_uppers arcs signals z (p ∷ ps) (m ∷ ms) = pair_upper arcs signals z m p ∷ pair_uppers arcs signals z ps ms

-- the search ends by itself within the budget, and few suffixes are within the second value
abbrev pub IsSearchedIn : Form → ℕ → TwoBest → Type 0
IsSearchedIn form budget best = KeepsBudget form budget best × HasAnswer form budget

-- The two least vectors of a track's form, found within the budget, the baseline of the first for each pair, and the upper sum
pub record AreFound (arcs : List Arc) (signals : List ℕ) (pairs : List PairRows) (budget h : ℕ) (moves : List (List ℤ)) (best : TwoBest) (top : ℤ) : Type 0 where
  pub fronts : List FrontForm
  pub form : Form
  pub of_rows : IsTrackForm arcs signals pairs fronts form
  pub h_is : h ≡ form.h
  pub best_is : IsTwoBest form best
  pub visits : IsSearchedIn form budget best
  pub moves_are : moves ≡ map (move_at (first_of best)) fronts
  pub narrow : All (λ m. HasWide m → ⊥) moves
  pub bounded : AllZip (λ p m. IsWide arcs signals (first_of best) m p → ⊥) pairs moves
  pub top_is : top ≡ track_top h (pair_uppers arcs signals (first_of best) pairs moves)

-- the baseline of some pair is too wide at the least integers, which are found within the budget
pub record IsMoveWide (arcs : List Arc) (signals : List ℕ) (pairs : List PairRows) (budget : ℕ) : Type 0 where
  pub fronts : List FrontForm
  pub form : Form
  pub of_rows : IsTrackForm arcs signals pairs fronts form
  pub best : TwoBest
  pub best_is : IsTwoBest form best
  pub visits : IsSearchedIn form budget best
  pub wide : Any (λ f. HasWide (move_at (first_of best) f)) fronts

-- none is, and the upper sum of some pair is too wide
pub record IsSumWide (arcs : List Arc) (signals : List ℕ) (pairs : List PairRows) (budget : ℕ) : Type 0 where
  pub fronts : List FrontForm
  pub form : Form
  pub of_rows : IsTrackForm arcs signals pairs fronts form
  pub best : TwoBest
  pub best_is : IsTwoBest form best
  pub visits : IsSearchedIn form budget best
  pub narrow : All (λ f. HasWide (move_at (first_of best) f) → ⊥) fronts
  pub place : ℕ
  pub inside : place < length pairs
  pub wide : (p : PairRows) (f : FrontForm) → IsWide arcs signals (first_of best) (move_at (first_of best) (get_or fronts place f)) (get_or pairs place p)

-- ---- what a fix means
-- the sum of squares of one pair, at data, integers and a baseline of its own
abbrev pub pair_sum : List Arc → List ℕ → PairRows → List Observed → List ℤ → Baseline → Rational
pair_sum arcs signals p observed z b = sum_of_squares arcs signals (p ∷ []) z b (observed ∷ [])

abbrev pub IsPairData : List ℕ → PairRows → List Observed → Type 0
IsPairData signals p observed = AreData signals (p ∷ []) (observed ∷ [])

-- z has one entry for each free arc and phase, and there is one move for each pair. For all data the sum of squares of z with these
-- moves is below that of every other such vector, of whole numbers of any size, with any list of rational baselines, one for each pair
pub record IsBestBy (Below : Rational → Rational → Type 0) (arcs : List Arc) (signals : List ℕ) (pairs : List PairRows)
    (z : List ℤ) (moves : List (List ℤ)) : Type 0 where
  pub entries : length z ≡ integer_count arcs signals
  pub move_each : length moves ≡ length pairs
  pub best : IsTrackBestBy Below (pair_sum arcs signals) (IsPairData signals) pairs z (map moved moves)

-- strictly best: it is less
abbrev pub IsStrictlyBest : List Arc → List ℕ → List PairRows → List ℤ → List (List ℤ) → Type 0
IsStrictlyBest = IsBestBy ◌<ʳ◌

-- best by the ratio: it is less by the ratio
abbrev pub IsBestByRatio : ℕ → List Arc → List ℕ → List PairRows → List ℤ → List (List ℤ) → Type 0
IsBestByRatio ratio = IsBestBy (IsLessByRatio ratio)
