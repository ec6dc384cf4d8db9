-- The integer form that the type keeps, its value, and the lower sums of its factors.
use Rattle.std.specs.Prelude.{◌≡◌, ℕ, ◌-◌, ◌^◌, List, length, ℤ, pos, ◌*ℤ◌, ◌≤ℤ◌}
use Rattle.quadratic_form.specs.Forms.{Column}
use Rattle.quadratic_form.specs.Elimination.{Factor}
use Rattle.quadratic_form.specs.Rows.{value}
use Rattle.quadratic_form.specs.LowerSums.{lower_sum}
use Rattle.integer_form.specs.declared.form.Form.{Form}
use Rattle.integer_form.specs.Factors.{stored}
use Rattle.integer_form.specs.Kept.{form_of_table}

-- how many integers there are
abbrev pub integers_of : Form → ℕ
integers_of f = f.columns - 4

-- the form of the integers and the constant
abbrev pub columns_of : Form → List Column
columns_of f = form_of_table f.p (f.columns - 3)

-- P(z): the value of the form at the integers z and 1
abbrev pub value_of : Form → List ℤ → ℤ
value_of f z = value (columns_of f) z

-- the factors of the integer columns
abbrev pub factors_of : Form → List Factor
factors_of f = stored f.d f.l f.columns 3 (integers_of f)

-- 2^60 P(z) is at least 2^60 g + Σ d_i C_i², whatever the integers z are
abbrev pub LowerSumsBelow : Form → Type 0
LowerSumsBelow f = (z : List ℤ) → length z ≡ integers_of f → lower_sum f.g (factors_of f) z ≤ℤ (pos (2 ^ 60) *ℤ value_of f z)

-- no value is below g
abbrev pub LastEntryBelow : Form → Type 0
LastEntryBelow f = (z : List ℤ) → length z ≡ integers_of f → f.g ≤ℤ value_of f z
