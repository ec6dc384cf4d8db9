-- What the tail of a certificate of version 1 may hold.
use Rattle.std.specs.Prelude.{◌≡◌, ◌^◌, ◌≤◌, ◌*◌, ℕ, ℤ, List, All}
use Rattle.std.proofs.Props.{props}
use Rattle.obs_rows.specs.Ranges.{IsBelow}
use Rattle.int_search.specs.Vectors.{IsSmall}
use Rattle.cert_migrate.specs.declared.old_arcs.OldArc.{OldArc}
use Rattle.cert_migrate.specs.declared.old_tails.OldBest.{OldBest}
use Rattle.cert_migrate.specs.declared.old_tails.OldTail.{OldTail}
use Rattle.cert_migrate.specs.declared.old_tails.OldTail.TheVariants.{Fixed, Unseparated, Weak, Overwidth, Unsettled, Spent}
use Rattle.cert_migrate.specs.OldArcs.{old_free_count}

-- one integer on L1 and one on L2 for each free arc
abbrev pub old_integer_count : List OldArc → ℕ
old_integer_count arcs = 2 * old_free_count arcs

-- the ranges of a tail with vectors
pub record AreOldVectors (arcs : List OldArc) (h : ℕ) (moved : List ℤ) (best : OldBest) (top : ℤ) : Type 0 where
  pub moved_in : All (IsBelow (2 ^ 46)) moved
  pub h_to : h ≤ 127
  pub size : best.size ≡ old_integer_count arcs
  pub first_in : IsSmall best.first
  pub second_in : IsSmall best.second
  pub p1_in : IsBelow (2 ^ 126) best.p1
  pub p2_in : IsBelow (2 ^ 126) best.p2
  pub top_in : IsBelow (2 ^ 126) top

pub record IsOldWeak (column : ℕ) (pivot : ℤ) : Type 0 where
  pub column_to : column ≤ 42
  pub pivot_in : IsBelow (2 ^ 52) pivot

-- a tail of a certificate of these arcs and this budget
abbrev pub IsOldTailOf : List OldArc → ℕ → OldTail → Type 0
IsOldTailOf arcs budget (Fixed h moved best top) = AreOldVectors arcs h moved best top
IsOldTailOf arcs budget (Unseparated h moved best top) = AreOldVectors arcs h moved best top
IsOldTailOf arcs budget (Weak column pivot) = IsOldWeak column pivot
IsOldTailOf arcs budget (Overwidth place) = Unit {0}
IsOldTailOf arcs budget (Unsettled entry) = IsBelow (2 ^ 46) entry
IsOldTailOf arcs budget (Spent spent) = spent ≡ budget

pub IsOldTailOf-prop : (arcs : List OldArc) (budget : ℕ) (tail : OldTail) → IsProp (IsOldTailOf arcs budget tail)
IsOldTailOf-prop arcs budget (Fixed h moved best top) = Prim.hlevel props
IsOldTailOf-prop arcs budget (Unseparated h moved best top) = Prim.hlevel props
IsOldTailOf-prop arcs budget (Weak column pivot) = Prim.hlevel props
IsOldTailOf-prop arcs budget (Overwidth place) = Prim.hlevel props
IsOldTailOf-prop arcs budget (Unsettled entry) = Prim.hlevel props
IsOldTailOf-prop arcs budget (Spent spent) = Prim.hlevel props
