-- What the rows of a track are decided to say.
use Rattle.std.specs.Prelude.{◌≡◌, ◌⊎◌, ℕ, List, pos}
use Rattle.obs_rows.specs.declared.arcs.Arc.{Arc}
use Rattle.obs_rows.specs.declared.pair_rows.PairRows.{PairRows}
use Rattle.integer_form.specs.declared.front_form.FrontForm.{FrontForm}
use Rattle.integer_form.specs.declared.form.Form.{Form}
use Rattle.integer_form.specs.declared.faults.LowerFault.{LowerFault}
use Rattle.integer_form.specs.declared.faults.LowerFault.TheVariants as fault
use Rattle.integer_form.specs.declared.faults.Place.{Place}
use Rattle.integer_form.specs.declared.faults.Place.TheVariants.{Float, Search, Sum}
use Rattle.fix_decide.specs.Decisions.{IsSeparated, first_of}
use Rattle.cert_check.specs.Settled.{IsSpent, IsTooWide}
use Rattle.cert_check.specs.SameTails.{AreSameNumbers}
use Rattle.track_data.specs.declared.tails.TrackTail.{TrackTail}
use Rattle.track_data.specs.declared.tails.TrackTail.TheVariants.{Fixed, Unseparated, Weak, Overwidth, Spent}
use Rattle.track_form.specs.PairFronts.{IsFirstRefused}
use Rattle.track_form.specs.SumDecided.{IsTrackForm, IsFinishRefused, AreFound, IsMoveWide, IsSumWide, IsBestByRatio}

-- the rows have no form: the front of some pair is refused, the first of these with this fault, or none is and the finish of their sum is
abbrev pub IsFormRefused : List Arc → List ℕ → List PairRows → LowerFault → Type 0
IsFormRefused arcs signals pairs why = IsFirstRefused arcs signals pairs why ⊎ IsFinishRefused arcs signals pairs why

-- a refusal as a tail
abbrev pub track_tail_of : LowerFault → TrackTail
track_tail_of (fault.Weak column pivot) = Weak column pivot
track_tail_of (fault.Overwidth place) = Overwidth place

-- the search over the rows' form ends so without an answer
pub record IsSearchEnded (arcs : List Arc) (signals : List ℕ) (pairs : List PairRows) (budget : ℕ) (without : Form → ℕ → Type 0) : Type 0 where
  pub fronts : List FrontForm
  pub form : Form
  pub of_rows : IsTrackForm arcs signals pairs fronts form
  pub ended : without form budget

-- the decision ends with a number that is too large there
abbrev pub IsTrackWideAt : List Arc → List ℕ → List PairRows → ℕ → Place → Type 0
IsTrackWideAt arcs signals pairs budget Search = IsSearchEnded arcs signals pairs budget IsTooWide
IsTrackWideAt arcs signals pairs budget Float = IsMoveWide arcs signals pairs budget
IsTrackWideAt arcs signals pairs budget Sum = IsSumWide arcs signals pairs budget
IsTrackWideAt arcs signals pairs budget place = IsFormRefused arcs signals pairs (fault.Overwidth place)

-- The decision, in its order: the fronts of the pairs, the finish of their sum, the search, the moves, the upper sums, the ratio
abbrev pub IsTrackDecision : List Arc → List ℕ → List PairRows → ℕ → ℕ → TrackTail → Type 0
IsTrackDecision arcs signals pairs ratio budget (Fixed h moves best top) = AreFound arcs signals pairs budget h moves best top × IsSeparated (pos ratio) top best.p2
IsTrackDecision arcs signals pairs ratio budget (Unseparated h moves best top) = AreFound arcs signals pairs budget h moves best top × (IsSeparated (pos ratio) top best.p2 → ⊥)
IsTrackDecision arcs signals pairs ratio budget (Weak column pivot) = IsFormRefused arcs signals pairs (fault.Weak column pivot)
IsTrackDecision arcs signals pairs ratio budget (Overwidth place) = IsTrackWideAt arcs signals pairs budget place
IsTrackDecision arcs signals pairs ratio budget (Spent spent) = (spent ≡ budget) × IsSearchEnded arcs signals pairs budget IsSpent

-- where the integers are fixed, they are with their moves best by the ratio for all data in the boxes
abbrev pub IsTrackBestWhereFixed : ℕ → List Arc → List ℕ → List PairRows → TrackTail → Type 0
IsTrackBestWhereFixed ratio arcs signals pairs (Fixed h moves best top) = IsBestByRatio ratio arcs signals pairs (first_of best) moves
IsTrackBestWhereFixed ratio arcs signals pairs _ = Unit {0}

-- a decision other than that the search ended without an answer: no greater budget changes it
abbrev pub IsFinal : TrackTail → Type 0
IsFinal (Overwidth place) = place ≡ Search → ⊥
IsFinal (Spent budget) = ⊥
IsFinal _ = Unit {0}

-- ---- one decision
abbrev pub IsSameTail : TrackTail → TrackTail → Type 0
IsSameTail (Fixed h moves best top) (Fixed k others other over) = AreSameNumbers h k moves others best other top over
IsSameTail (Unseparated h moves best top) (Unseparated k others other over) = AreSameNumbers h k moves others best other top over
IsSameTail (Weak column pivot) (Weak other below) = (column ≡ other) × (pivot ≡ below)
IsSameTail (Overwidth place) (Overwidth other) = place ≡ other
IsSameTail (Spent budget) (Spent other) = budget ≡ other
IsSameTail _ _ = ⊥
