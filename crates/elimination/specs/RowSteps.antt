-- The steps of the baseline's columns, taken row by row: each row goes through the steps of the columns before it, by their rows as
-- these steps left them. A table q holds those rows.
use Rattle.std.specs.Prelude.{◌≡◌, ℕ, zero, suc, ◌-◌, ◌^◌, ◌<◌, ◌≤◌, true, false, int_lt, nat_eq, cond, List, ℤ, pos, ◌-ℤ◌, ◌*ℤ◌, unsigned_abs, slice_index_or}
use Rattle.whole_math.specs.Rounding.{nearest_div, ceil_div}
use Rattle.quadratic_form.specs.Elimination.{kept}
use Rattle.quadratic_form.specs.Tables.{entry}
use Rattle.elimination.specs.StepEntries.{is_small, factor_entry}

-- what a step with the pivot a leaves of an own entry x, where p stands in its column and m columns come after that of the pivot
abbrev pub left_own : ℕ → ℕ → ℤ → ℤ → ℤ
left_own a m p x = ((x -ℤ ceil_div (p *ℤ p) a) -ℤ pos m) -ℤ ceil_div (pos m *ℤ pos a) (2 ^ 42)

-- of an entry x off the diagonal, where p and q stand in its columns
abbrev pub left_other : ℕ → ℤ → ℤ → ℤ → ℤ
left_other a p q x = x -ℤ nearest_div (p *ℤ q) a

-- of an entry x in row r and column c of n columns, by the step of column j
abbrev pub left_entry : List (List ℤ) → ℕ → ℕ → ℕ → ℕ → ℤ → ℤ
left_entry q n r c j x = cond (nat_eq r c) (left_own (unsigned_abs (entry q j j)) (n - j - 1) (entry q j r) x)
    (left_other (unsigned_abs (entry q j j)) (entry q j r) (entry q j c) x)

-- what the steps of the first k columns leave of an entry
unfoldable pub left_after : List (List ℤ) → ℕ → ℕ → ℕ → ℕ → ℤ → ℤ
left_after q n r c zero x = x
left_after q n r c (suc k) x = left_entry q n r c k (left_after q n r c k x)

-- x is that, and each step leaves a small entry
pub record IsLeft (q : List (List ℤ)) (n r c k : ℕ) (z x : ℤ) : Type 0 where
  pub value : x ≡ left_after q n r c k z
  pub small : (j : ℕ) → j < k → is_small (left_after q n r c (suc j) z) ≡ true

-- the entries y are that of the entries x of row r after its own, in n columns
abbrev pub AreLeft : List (List ℤ) → ℕ → ℕ → ℕ → (ℕ → ℤ) → (ℕ → ℤ) → Type 0
AreLeft q n r k x y = (c : ℕ) → r < c → c < n → IsLeft q n r c k (x c) (y c)

-- of the form with the entries e
abbrev pub row_entry : (ℕ → ℕ → ℤ) → List (List ℤ) → ℕ → ℕ → ℕ → ℕ → ℤ
row_entry e q n k r c = left_after q n r c k (e r c)

-- the factor of column j in row r
pub record HasFactors (q l : List (List ℤ)) (j r : ℕ) : Type 0 where
  pub factor : entry l r j ≡ factor_entry q j (unsigned_abs (entry q j j)) r
  pub small : is_small (entry l r j) ≡ true

-- the rows of the first m columns, each as the steps of the columns before it left it, with what is kept of their pivots and their
-- factors in one another
pub record ArePivotRows (e : ℕ → ℕ → ℤ) (q : List (List ℤ)) (n : ℕ) (d : List ℤ) (l : List (List ℤ)) (m : ℕ) : Type 0 where
  pub rows : (j c : ℕ) → j < m → j ≤ c → c < n → entry q j c ≡ row_entry e q n j j c
  pub strong : (j : ℕ) → j < m → int_lt (entry q j j) (pos (2 ^ 20)) ≡ false
  pub factors_are : (j r : ℕ) → j < r → r < m → HasFactors q l j r
  pub kept_are : (j : ℕ) → j < m → slice_index_or d j (pos 0) ≡ kept (unsigned_abs (entry q j j))
  pub small : (k r c : ℕ) → r < m → k ≤ r → r ≤ c → c < n → is_small (row_entry e q n k r c) ≡ true
