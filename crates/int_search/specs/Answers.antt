-- What a search answers.
use Rattle.std.specs.Prelude.{◌≡◌, ℕ, List, take, ℤ, pos, Result, Ok, Err}
use Rattle.quadratic_form.specs.Rows.{value}
use Rattle.quadratic_form.specs.TwoLeast.{TwoLeast}
use Rattle.integer_form.specs.declared.form.Form.{Form}
use Rattle.integer_form.specs.Forms.{integers_of, columns_of, value_of}
use Rattle.int_search.specs.Suffixes.{SearchForm}
use Rattle.int_search.specs.PlainCount.{AreAtMost, IsOver}
use Rattle.int_search.specs.VisitOrder.{IsWide}
use Rattle.int_search.specs.VisitedSuffixes.{MeetsTooWide, EndsByItself, IsOverBudget}
use Rattle.int_search.specs.Order.{AreTwoLeast}
use Rattle.int_search.specs.Vectors.{IsSmall, Holds}
use Rattle.int_search.specs.SearchedForm.{search_form}
use Rattle.int_search.specs.declared.answer.TwoBest.{TwoBest}
use Rattle.int_search.specs.declared.answer.SearchFault.{SearchFault}
use Rattle.int_search.specs.declared.answer.SearchFault.TheVariants.{Spent, Overwidth}

-- b has the images of the two least vectors, and their values; the search ends by itself within the budget
pub record IsAnswer (f : SearchForm) (image : List ℤ → List ℤ) (budget : ℕ) (b : TwoBest) : Type 0 where
  pub size : b.size ≡ f.size
  pub one : List ℤ
  pub two : List ℤ
  pub first : Holds f.size b.first (image one)
  pub second : Holds f.size b.second (image two)
  pub p1 : b.p1 ≡ value f.p one
  pub p2 : b.p2 ≡ value f.p two
  pub least : AreTwoLeast f image one two
  pub finished : EndsByItself f image budget

-- spent where it is over its budget, overwidth where it meets something too wide
abbrev pub IsFault : SearchForm → (List ℤ → List ℤ) → ℕ → SearchFault → Type 0
IsFault f image budget Spent = IsOverBudget f image budget
IsFault f image budget Overwidth = MeetsTooWide f image budget

-- the two integer vectors at which the form is least, and its values there
pub record IsTwoBest (f : Form) (b : TwoBest) : Type 0 where
  pub size : b.size ≡ integers_of f
  pub least : TwoLeast (columns_of f) (pos (integers_of f)) (take b.size b.first) (take b.size b.second)
  pub p1 : b.p1 ≡ value_of f (take b.size b.first)
  pub p2 : b.p2 ≡ value_of f (take b.size b.second)
  pub first_small : IsSmall b.first
  pub second_small : IsSmall b.second

-- the plain count of the form is over n
abbrev pub IsPlainCountOver : Form → ℕ → Type 0
IsPlainCountOver f n = IsOver (search_form f) n

-- the greater value of the rounded point and its neighbour is 2^62 or more, or a suffix of the plain count has an entry of
-- 2^30 or more in size, and one of these two points ends with it or the search comes to it within n visits
abbrev pub IsSearchTooWide : Form → ℕ → Type 0
IsSearchTooWide f n = IsWide (search_form f) n

-- ---- how the search in the form's own coordinates ends with a budget of n visits: it ends by itself within n, with nothing too
-- wide; or it has more than n visits, with nothing too wide within n; or it comes to something too wide within n
abbrev pub PlainEndsByItself : Form → ℕ → Type 0
PlainEndsByItself f n = EndsByItself (search_form f) (λ v. v) n

abbrev pub IsPlainOverBudget : Form → ℕ → Type 0
IsPlainOverBudget f n = IsOverBudget (search_form f) (λ v. v) n

abbrev pub PlainMeetsTooWide : Form → ℕ → Type 0
PlainMeetsTooWide f n = MeetsTooWide (search_form f) (λ v. v) n

-- an answer where it ends by itself, spent where it is over its budget, overwidth where it meets something too wide
abbrev pub IsPlainEnd : Form → ℕ → Result TwoBest SearchFault → Type 0
IsPlainEnd f n (Ok b) = PlainEndsByItself f n
IsPlainEnd f n (Err Spent) = IsPlainOverBudget f n
IsPlainEnd f n (Err Overwidth) = PlainMeetsTooWide f n

-- At most n suffixes have a lower sum of at most 2^60 times the second best value. A search whose bound never falls below
-- that value visits each of them, so one that ends with n visits keeps this.
abbrev pub IsVisitedIn : Form → ℕ → TwoBest → Type 0
IsVisitedIn f n b = AreAtMost (search_form f) b.p2 n
