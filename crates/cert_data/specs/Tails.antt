-- What a tail may hold: the ranges of its numbers, with an entry for each integer of the arcs and the phases that count.
use Rattle.std.specs.Prelude.{◌≡◌, ◌^◌, ◌<◌, ◌≤◌, ℕ, ℤ, Bool, List, All, if◌then◌else◌}
use Rattle.std.proofs.Props.{props}
use Rattle.obs_rows.specs.declared.arcs.Arc.{Arc}
use Rattle.obs_rows.specs.Ranges.{IsBelow}
use Rattle.obs_rows.specs.Integers.{integer_count}
use Rattle.quadratic_form.specs.declared.sizes.TheConstants.{MOST_FACTORS}
use Rattle.int_search.specs.declared.answer.TwoBest.{TwoBest}
use Rattle.int_search.specs.Vectors.{IsSmall}
use Rattle.cert_data.specs.declared.tails.Tail.{Tail}
use Rattle.cert_data.specs.declared.tails.Tail.TheVariants.{Fixed, Unseparated, Weak, Overwidth, Unsettled, Spent}

-- two vectors as a tail: the first is fixed, or the second isn't far enough from it
abbrev pub tail_of_vectors : Bool → ℕ → List ℤ → TwoBest → ℤ → Tail
tail_of_vectors fixed h moved best top = if fixed then Fixed h moved best top else Unseparated h moved best top

-- a move is below 2^46 in size
abbrev pub IsMove : List ℤ → Type 0
IsMove moved = All (IsBelow (2 ^ 46)) moved

-- the ranges of two vectors, the values at them, and the upper sum
pub record AreValues (signals : List ℕ) (arcs : List Arc) (h : ℕ) (best : TwoBest) (top : ℤ) : Type 0 where
  pub h_to : h ≤ 127
  pub size : best.size ≡ integer_count arcs signals
  pub first_in : IsSmall best.first
  pub second_in : IsSmall best.second
  pub p1_in : IsBelow (2 ^ 126) best.p1
  pub p2_in : IsBelow (2 ^ 126) best.p2
  pub top_in : IsBelow (2 ^ 126) top

-- the ranges of a tail with vectors
pub record AreVectors (signals : List ℕ) (arcs : List Arc) (h : ℕ) (moved : List ℤ) (best : TwoBest) (top : ℤ) : Type 0 where
  pub moved_in : IsMove moved
  pub values : AreValues signals arcs h best top

pub record IsWeak (column : ℕ) (pivot : ℤ) : Type 0 where
  pub column_to : column < MOST_FACTORS
  pub pivot_in : IsBelow (2 ^ 52) pivot

-- a tail of a certificate of these signals, these arcs and this budget
abbrev pub IsTailOf : List ℕ → List Arc → ℕ → Tail → Type 0
IsTailOf signals arcs budget (Fixed h moved best top) = AreVectors signals arcs h moved best top
IsTailOf signals arcs budget (Unseparated h moved best top) = AreVectors signals arcs h moved best top
IsTailOf signals arcs budget (Weak column pivot) = IsWeak column pivot
IsTailOf signals arcs budget (Overwidth place) = Unit {0}
IsTailOf signals arcs budget (Unsettled entry) = IsBelow (2 ^ 46) entry
IsTailOf signals arcs budget (Spent spent) = spent ≡ budget

pub IsTailOf-prop : (signals : List ℕ) (arcs : List Arc) (budget : ℕ) (tail : Tail) → IsProp (IsTailOf signals arcs budget tail)
IsTailOf-prop signals arcs budget (Fixed h moved best top) = Prim.hlevel props
IsTailOf-prop signals arcs budget (Unseparated h moved best top) = Prim.hlevel props
IsTailOf-prop signals arcs budget (Weak column pivot) = Prim.hlevel props
IsTailOf-prop signals arcs budget (Overwidth place) = Prim.hlevel props
IsTailOf-prop signals arcs budget (Unsettled entry) = Prim.hlevel props
IsTailOf-prop signals arcs budget (Spent spent) = Prim.hlevel props
