-- Quotients, and the entries that they are of. A table q holds the rows of the first columns.
use Rattle.std.specs.Prelude.{◌≡◌, ◌<◌, ◌≤◌, ◌^◌, ℕ, zero, suc, List, ℤ, pos, ◌<ℤ◌, unsigned_abs}
use Rattle.quadratic_form.specs.Tables.{entry}
use Rattle.elimination.specs.StepEntries.{nearest_quotient}
use Rattle.elimination.specs.RowSteps.{left_own, left_other, IsLeft, HasFactors}
use Rattle.elimination.specs.declared.quotients.Quotient.{Quotient}
use Rattle.elimination.specs.declared.quotients.RowQuotients.{RowQuotients}

-- the factor by a quotient
abbrev pub factor_by : Quotient → ℤ
factor_by s = nearest_quotient s.p (pos (2 ^ 30)) s.a

-- what a step leaves of an own entry x, where m columns come after that of the pivot
abbrev pub own_by : Quotient → ℕ → ℤ → ℤ
own_by s m x = left_own (unsigned_abs s.a) m s.p x

-- of an entry x off the diagonal, where v stands in the row of the pivot
abbrev pub other_by : Quotient → ℤ → ℤ → ℤ
other_by s v x = left_other (unsigned_abs s.a) s.p v x

-- the entries of row r in the first columns have quotients by the pivots
pub record HasQuotients (q : List (List ℤ)) (r count : ℕ) : Type 0 where
  pub positive : (j : ℕ) → j < count → pos 0 <ℤ entry q j j
  pub pivots : (j : ℕ) → j < count → unsigned_abs (entry q j j) ≤ 2 ^ 52
  pub entries : (j : ℕ) → j < count → unsigned_abs (entry q j r) ≤ 2 ^ 52

-- of the entry of row r by the pivot of column j
abbrev pub IsQuotientOf : List (List ℤ) → ℕ → ℕ → Quotient → Type 0
IsQuotientOf q j r s = (s.p ≡ entry q j r) × (s.a ≡ entry q j j)

-- by the pivot of column j, which is at most the third
abbrev pub quotient_in : RowQuotients → ℕ → Quotient
quotient_in s zero = s.first
quotient_in s (suc zero) = s.second
quotient_in s (suc (suc j)) = s.third

-- of the entries of row r by the pivots of the first columns, which are three at most
abbrev pub AreQuotients : List (List ℤ) → ℕ → ℕ → RowQuotients → Type 0
AreQuotients q r count s = (j : ℕ) → j < count → j < 3 → IsQuotientOf q j r (quotient_in s j)

-- x is what the steps of the first columns leave by them of the entry z in column c of their row, after its own
abbrev pub IsLeftBy : RowQuotients → List (List ℤ) → ℕ → ℕ → ℤ → ℤ → Type 0
IsLeftBy s q c count z x = (n r : ℕ) → r < c → AreQuotients q r count s → IsLeft q n r c count z x

-- of their row's own entry, in a form of n columns
abbrev pub IsOwnLeftBy : RowQuotients → ℕ → ℕ → ℤ → ℤ → Type 0
IsOwnLeftBy s n count z x = (q : List (List ℤ)) (r : ℕ) → AreQuotients q r count s → IsLeft q n r r count z x

-- the factors of row r in the first columns are those by them
abbrev pub HasFactorsBy : RowQuotients → List (List ℤ) → ℕ → ℕ → Type 0
HasFactorsBy s l r count = (q : List (List ℤ)) → AreQuotients q r count s → (j : ℕ) → j < count → HasFactors q l j r
