-- What is added in the columns of one row of a table, whatever the width of the factor.
use Rattle.std.proofs.Common.{◌≡◌, ◌≢◌, ◌⊎◌, inl, inr, ⊎_elim, ℕ, ◌+◌, ◌^◌, ◌<◌, ◌≤◌, List, length, ℤ, pos, ◌+ℤ◌, ◌*ℤ◌, unsigned_abs, slice_index_or, arith, sym, ◌∙◌, subst, refl}
use Rattle.std.specs.Prelude.{slice_index}
use Rattle.quadratic_form.specs.declared.sizes.TheConstants.{BASELINE_COLUMNS, MOST_COLUMNS}
use Rattle.quadratic_form.specs.Tables.{entry}
use Rattle.normal_sum.specs.Columns.{AreColumnsFrom}
use Rattle.normal_sum.proofs.RowSums.{times_nothing}
use Rattle.normal_sum.proofs.ColumnLaws.{AddedIn, none_added, one_more, untouched, all_added}

-- in the first n columns of a list, from the diagonal on and after those of the baseline; the rest of the table as it was
pub record RowAdded (row : ℕ) (columns : List ℕ) (n : ℕ) (old new : List (List ℤ)) (add : ℕ → ℤ) : Type 0 where
  pub added : AddedIn (λ j. (row ≤ j) × (BASELINE_COLUMNS ≤ j)) columns n (entry old row) (entry new row) add
  pub before : (j : ℕ) → (j < row) ⊎ (j < BASELINE_COLUMNS) → entry new row j ≡ entry old row j
  pub others : (i j : ℕ) → i ≢ row → entry new i j ≡ entry old i j

pub row_start : (row : ℕ) (columns : List ℕ) (old : List (List ℤ)) (add : ℕ → ℤ) → RowAdded row columns 0 old old add
row_start row columns old add =
    record { added = none_added (λ j. (row ≤ j) × (BASELINE_COLUMNS ≤ j)) columns (entry old row) add; before = λ j h. refl; others = λ i j d. refl }

-- the next entry is as it was
pub next_fits : (row : ℕ) (values : List ℤ) (columns : List ℕ) (k : ℕ) (old now : List (List ℤ)) (add : ℕ → ℤ) → AreColumnsFrom row values columns → k < length columns → RowAdded row columns k old now add →
    ((j : ℕ) → row ≤ j → BASELINE_COLUMNS ≤ j → j < MOST_COLUMNS → unsigned_abs (entry old row j) ≤ 2 ^ 120) → unsigned_abs (entry now row (slice_index columns k)) ≤ 2 ^ 120
next_fits row values columns k old now add are h so_far fits =
    let from : row ≤ slice_index columns k = are.from k 0 h in
    let behind : BASELINE_COLUMNS ≤ slice_index columns k = are.behind k 0 h in
    let same : entry now row (slice_index columns k) ≡ entry old row (slice_index columns k) =
    untouched (λ j. (row ≤ j) × (BASELINE_COLUMNS ≤ j)) columns k (entry old row) (entry now row) add are.rising h so_far.added (from, behind) in
    subst (λ (z : ℤ). unsigned_abs z ≤ 2 ^ 120) (sym same) (fits (slice_index columns k) from behind (are.inside k 0 h))

pub row_next : (row : ℕ) (values : List ℤ) (columns : List ℕ) (k : ℕ) (old now new : List (List ℤ)) (add : ℕ → ℤ) → AreColumnsFrom row values columns → k < length columns → RowAdded row columns k old now add →
    entry new row (slice_index columns k) ≡ entry now row (slice_index columns k) +ℤ add (slice_index columns k) →
    ((i j : ℕ) → (i ≢ row) ⊎ (j ≢ slice_index columns k) → entry new i j ≡ entry now i j) → RowAdded row columns (k + 1) old new add
row_next row values columns k old now new add are h so_far there others =
    let from : row ≤ slice_index columns k = are.from k 0 h in
    let behind : BASELINE_COLUMNS ≤ slice_index columns k = are.behind k 0 h in
    record {
      added = one_more (λ j. (row ≤ j) × (BASELINE_COLUMNS ≤ j)) columns k (entry old row) (entry now row) (entry new row) add are.rising h so_far.added (λ j p d. others row j (inr d)) (λ p. there);
      before = λ j w. others row j (inr (⊎_elim (λ (l : j < row). λ e. omega (arith, e, l, from)) (λ (l : j < BASELINE_COLUMNS). λ e. omega (arith, e, l, behind)) w)) ∙ so_far.before j w;
      others = λ i j d. others i j (inl d) ∙ so_far.others i j d;
    }

pub row_end : (row : ℕ) (values : List ℤ) (columns : List ℕ) (k : ℕ) (old new : List (List ℤ)) (f : ℤ) → AreColumnsFrom row values columns → k ≡ length columns →
    RowAdded row columns k old new (λ j. f *ℤ slice_index_or values j (pos 0)) → (j : ℕ) → row ≤ j → BASELINE_COLUMNS ≤ j → entry new row j ≡ entry old row j +ℤ (f *ℤ slice_index_or values j (pos 0))
row_end row values columns k old new f are e whole j m b = all_added (λ j. (row ≤ j) × (BASELINE_COLUMNS ≤ j)) values columns k (entry old row) (entry new row)
    (λ j. f *ℤ slice_index_or values j (pos 0)) (λ j p g. are.others j p.0 p.1 g) e whole.added (λ j z. times_nothing f (slice_index_or values j (pos 0)) z) j (m, b)
