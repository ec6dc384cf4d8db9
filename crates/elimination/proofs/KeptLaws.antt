-- What the steps of the elimination keep, by places.
use Rattle.std.proofs.Common.{◌≡◌, ◌⊎◌, ⊎_elim, ℕ, zero, suc, ◌+◌, ◌-◌, ◌^◌, ◌<◌, ◌≤◌, List, ℤ, pos, ◌≤ℤ◌, ◌<ℤ◌, unsigned_abs, slice_index_or, arith, sym, subst, eq-or-lt_of_le}
use Rattle.std.proofs.lemmas.Int.{ints}
use Rattle.quadratic_form.proofs.Ranges.{InRange, AllInRange}
use Rattle.quadratic_form.specs.Tables.{entry}
use Rattle.quadratic_form.proofs.TableLaws.{zero_small}
use Rattle.integer_form.specs.Factors.{factor_at, stored}
use Rattle.integer_form.specs.Kept.{AreKept, IsBelowDiagonal}
use Rattle.elimination.proofs.TableLaws.{small_of_list}

-- the range of one column's factors
pub column_range : (d : List ℤ) (l : List (List ℤ)) (columns j k : ℕ) → AllInRange (stored d l columns j k) → (c : ℕ) → j ≤ c → c < j + k →
    InRange (factor_at (slice_index_or d c (pos 0)) l c (columns - c - 1))
column_range d l columns j zero s c h g = absurd (omega arith)
column_range d l columns j (suc k) s c h g = ⊎_elim
    (λ (e : j ≡ c). subst (λ (m : ℕ). InRange (factor_at (slice_index_or d m (pos 0)) l m (columns - m - 1))) e s.0)
    (λ (i : suc j ≤ c). column_range d l columns (suc j) k s.1 c i (omega arith)) (eq-or-lt_of_le h)

pub are_kept : (d : List ℤ) (l : List (List ℤ)) (columns : ℕ) → AllInRange (stored d l columns 3 (columns - 4)) → AreKept columns d
are_kept d l columns s j h g = go (slice_index_or d j (pos 0)) (column_range d l columns 3 (columns - 4) s j h (omega arith))
  where
    go : (x : ℤ) → InRange (factor_at x l j (columns - j - 1)) → (pos 1 ≤ℤ x) × (x ≤ℤ pos (2 ^ 52))
    go x r = ends x r.low r.high
      where
        ends : (x : ℤ) → pos (2 ^ 20 - 1) ≤ℤ x → x <ℤ pos (2 ^ 52) → (pos 1 ≤ℤ x) × (x ≤ℤ pos (2 ^ 52))
        ends x a b = (omega (arith, ints), omega (arith, ints))

-- all factors of these columns
pub factors_below : (d : List ℤ) (l : List (List ℤ)) (columns j k : ℕ) → IsBelowDiagonal columns l → AllInRange (stored d l columns j k) → (r c : ℕ) → j ≤ c → c < j + k →
    unsigned_abs (entry l r c) < 2 ^ 52
factors_below d l columns j k o s r c h g = ⊎_elim
    (λ (a : (r ≤ c) ⊎ (columns ≤ r)). subst (λ (z : ℤ). unsigned_abs z < 2 ^ 52) (sym (o r c a)) zero_small)
    (λ (a : (c < r) × (r < columns)). small_of_list (λ i. entry l i c) (suc c) (columns - c - 1) (column_range d l columns j k s c h g).l r (omega (arith, a.0)) (inside r c columns a.0 a.1))
    (place r c columns)
  where
    inside : (r c n : ℕ) → c < r → r < n → r < suc c + (n - c - 1)
    inside r c n a b = omega arith

    place : (r c n : ℕ) → ((r ≤ c) ⊎ (n ≤ r)) ⊎ ((c < r) × (r < n))
    place r c n = grind arith
