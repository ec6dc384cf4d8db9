-- The state of a search.
use Rattle.std.specs.Prelude.{◌≡◌, ℕ, ◌+◌, ◌*◌, ◌-◌, ◌<◌, ◌≤◌, ◌^◌, List, ◌∷◌, length, drop, ℤ, pos, ◌*ℤ◌, ◌<ℤ◌, ◌≤ℤ◌, unsigned_abs}
use Rattle.quadratic_form.specs.Rows.{value}
use Rattle.quadratic_form.specs.declared.sizes.TheConstants.{MOST_INTEGERS}
use Rattle.integer_form.specs.declared.form.Form.{Form}
use Rattle.integer_form.specs.Forms.{integers_of}
use Rattle.int_search.specs.Suffixes.{SearchForm, low}
use Rattle.int_search.specs.PlainCount.{top, HasLarge}
use Rattle.int_search.specs.VisitedSuffixes.{IsStartTooWide, MeetsTooWide, EndsByItself, IsOverBudget}
use Rattle.int_search.specs.Order.{AreTwoLeast, IsLess, IsOneToOne}
use Rattle.int_search.specs.Levels.{IsLevel}
use Rattle.int_search.specs.Search.{AreStartPoints, IsSearch}
use Rattle.int_search.specs.LatestLevel.{IsLatest}
use Rattle.int_search.specs.Vectors.{IsSmall, suffix}
use Rattle.int_search.specs.Images.{image_of, IsMap}
use Rattle.int_search.specs.Steps.{Chooses}
use Rattle.int_search.specs.Best.{HoldsBest, TakesOffer}
use Rattle.int_search.specs.declared.best.Best.{Best}
use Rattle.int_search.specs.declared.walk.SearchState.{SearchState}
use Rattle.int_search.specs.declared.walk.NextEntry.{NextEntry}
use Rattle.int_search.specs.declared.walk.Turn.{Turn}
use Rattle.int_search.specs.declared.walk.Turn.TheVariants.{Going, Done, Spent, Wide}

-- a vector in the coordinates of the answer
abbrev pub search_image : Form → List (List ℤ) → List ℤ → List ℤ
search_image f map v = image_of map (integers_of f) v

-- what a search needs of the form and of the map to the coordinates of the answer
pub record CanSearch (f : Form) (map : List (List ℤ)) : Type 0 where
  pub some : 4 < f.columns
  pub map_in : IsMap map
  pub one_to_one : IsOneToOne (integers_of f) (search_image f map)

-- the entries after the integer of the latest level
abbrev pub here : SearchForm → SearchState → List ℤ
here f w = suffix w.z (f.size + 1 - length w.stack) f.size

pub record IsWalk (f : SearchForm) (image : List ℤ → List ℤ) (w : SearchState) : Type 0 where
  pub size : w.size ≡ f.size
  pub depth : length w.stack ≤ f.size
  pub room : length w.z ≡ MOST_INTEGERS
  pub small : IsSmall w.z
  pub top : top f <ℤ pos (2 ^ 62)
  pub one : List ℤ
  pub two : List ℤ
  pub best : HoldsBest f image w.best one two
  pub search : IsSearch f image w.stack (here f w) one two w.visits

-- the state of a search that begins
abbrev pub IsFresh : SearchForm → (List ℤ → List ℤ) → SearchState → Type 0
IsFresh f image w = IsWalk f image w × (w.visits ≡ 0)

-- w is the search with these two best at its first level, whatever vectors they stand for
pub record BeginsWith (f : SearchForm) (b : Best) (w : SearchState) : Type 0 where
  pub begun : (image : List ℤ → List ℤ) (one two : List ℤ) → length one ≡ f.size → length two ≡ f.size → IsLess f image one two →
      value f.p two ≤ℤ top f → top f <ℤ pos (2 ^ 62) → AreStartPoints f one two → (IsStartTooWide f image → ⊥) → HoldsBest f image b one two → IsFresh f image w

-- r is the next entry of the latest level, and within the second best
pub record IsReach (f : SearchForm) (w : SearchState) (r : NextEntry) : Type 0 where
  pub some : 0 < length w.stack
  pub latest : IsLatest w.stack r.level
  pub level : IsLevel f r.level (here f w)
  pub chosen : Chooses r.level r.choice.entry r.choice.offset r.choice.is_up
  pub low_is : r.low ≡ low f (r.choice.entry ∷ here f w)
  pub within : r.low ≤ℤ (pos (2 ^ 60) *ℤ w.best.p2)
  pub offset_small : unsigned_abs r.choice.offset ≤ 2 ^ 62

-- the search without its latest level, whatever the coordinates of the answer are
pub record IsPassed (f : SearchForm) (w : SearchState) : Type 0 where
  pub popped : (image : List ℤ → List ℤ) → IsWalk f image w → IsWalk f image (record w { stack = drop 1 w.stack })

-- a search in some coordinates of the answer
pub record IsPlainWalk (f : SearchForm) (w : SearchState) : Type 0 where
  pub image : List ℤ → List ℤ
  pub walk : IsWalk f image w

-- what an offer of the vector z leaves
pub record Offers (f : SearchForm) (image : List ℤ → List ℤ) (old new : SearchState) : Type 0 where
  pub size : new.size ≡ old.size
  pub z : new.z ≡ old.z
  pub stack : new.stack ≡ old.stack
  pub visits : new.visits ≡ old.visits
  pub taken : (one two : List ℤ) → length one ≡ f.size → length two ≡ f.size → IsLess f image one two →
      HoldsBest f image old.best one two → TakesOffer f image new.best one two (suffix old.z 0 f.size)
  pub asked : value f.p (suffix old.z 0 f.size) ≤ℤ old.best.p2 → HasLarge (image (suffix old.z 0 f.size)) → ⊥

-- the vector z is not past the second best, and too large in the coordinates of the answer
abbrev pub IsImageTooLarge : SearchForm → (List ℤ → List ℤ) → SearchState → Type 0
IsImageTooLarge f image w = HasLarge (image (suffix w.z 0 f.size)) × (value f.p (suffix w.z 0 f.size) ≤ℤ w.best.p2)

-- what a visit leaves
pub record Visits (f : SearchForm) (image : List ℤ → List ℤ) (old new : SearchState) : Type 0 where
  pub walk : IsWalk f image new
  pub visits : new.visits ≡ old.visits + 1
  pub depth : length new.stack ≤ length old.stack + 1

-- what is left to do, at most
abbrev pub left_of : ℕ → SearchState → ℕ
left_of budget w = (budget - w.visits) * (w.size + 2) + length w.stack

-- w has the two least vectors, and the search has ended by itself within the budget
pub record HasFound (f : SearchForm) (image : List ℤ → List ℤ) (budget : ℕ) (w : SearchState) : Type 0 where
  pub size : w.size ≡ f.size
  pub one : List ℤ
  pub two : List ℤ
  pub best : HoldsBest f image w.best one two
  pub least : AreTwoLeast f image one two
  pub finished : EndsByItself f image budget

-- what a turn gives, from one state to the next
abbrev pub Gives : SearchForm → (List ℤ → List ℤ) → ℕ → SearchState → SearchState → Turn → Type 0
Gives f image budget old new Going = IsWalk f image new × (new.visits ≤ budget) × (left_of budget new < left_of budget old)
Gives f image budget old new Done = HasFound f image budget new
Gives f image budget old new Spent = IsOverBudget f image budget
Gives f image budget old new Wide = MeetsTooWide f image budget
