-- The own entries of the form that bounds the sum of squares over all data, and the entries of the first rounding, by their places.
use Rattle.std.specs.Prelude.{◌≡◌, ℕ, suc, ◌-◌, ◌^◌, List, true, nat_lt, nat_eq, cond, ℤ, pos, ◌-ℤ◌, ◌*ℤ◌, slice_index_or}
use Rattle.whole_math.specs.Rounding.{floor_div, nearest_div}
use Rattle.quadratic_form.specs.Forms.{Column}
use Rattle.quadratic_form.specs.Elimination.{rounded}
use Rattle.quadratic_form.specs.Tables.{entry}
use Rattle.normal_sum.specs.declared.normal.Normal.{Normal}
use Rattle.normal_sum.specs.Values.{bounding_of}
use Rattle.elimination.specs.StepEntries.{is_small}

-- the sum of squares of radii of a column: of the baseline's three columns and of the constant, and 0 of an integer
abbrev pub radius_at : Normal → ℕ → ℤ
radius_at n c = cond (nat_lt c 3) (slice_index_or n.r c (pos 0)) (cond (nat_eq (suc c) n.columns) (slice_index_or n.r 3 (pos 0)) (pos 0))

-- 63 times the own entry of column c, less 16128 times its radii
abbrev pub own_bound : Normal → ℕ → ℤ
own_bound n c = (pos 63 *ℤ entry n.c c c) -ℤ (pos 16128 *ℤ radius_at n c)

-- over 2^h: own entries down and less the number of columns, others to the nearest
abbrev pub first_entry : Normal → ℕ → ℕ → ℕ → ℤ
first_entry n h r c = cond (nat_eq r c) (floor_div (own_bound n c) (2 ^ h) -ℤ pos n.columns) (nearest_div (pos 63 *ℤ entry n.c r c) (2 ^ h))

-- x is the rounding over 2^h of an entry e off the diagonal, and small
pub record IsRounded (h : ℕ) (e x : ℤ) : Type 0 where
  pub value : x ≡ nearest_div (pos 63 *ℤ e) (2 ^ h)
  pub small : is_small x ≡ true

-- the form that bounds 64 times the sum of squares, rounded over 2^h
abbrev pub first_form : ℕ → Normal → List Column
first_form h n = rounded (2 ^ h) (pos n.columns) (bounding_of n (n.columns - 4))
