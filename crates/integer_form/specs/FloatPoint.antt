-- The float point of a form, and the baseline of an integer vector, in units of 2^-16.
use Rattle.std.specs.Prelude.{ℕ, ◌-◌, ◌^◌, ◌<◌, ◌≤◌, List, [], ◌∷◌, ◌++◌, take, ℤ, pos, neg_ℤ, unsigned_abs}
use Rattle.whole_math.specs.Rounding.{nearest_div}
use Rattle.whole_math.specs.Vectors.{dot, scaled}
use Rattle.quadratic_form.specs.Elimination.{Factor}
pub use Rattle.quadratic_form.specs.Tables.{item}
use Rattle.integer_form.specs.declared.form.Form.{Form}
use Rattle.integer_form.specs.Factors.{stored}

-- the number of a column with the factors l, where s are the numbers of the later columns; that of the constant is 1
abbrev pub next_number : List ℤ → List ℤ → ℤ
next_number l s = neg_ℤ (nearest_div (dot l (s ++ (pos (2 ^ 16) ∷ []))) (2 ^ 30))

-- the numbers of the columns with these factors, each from those after it, before the numbers s of the later columns
abbrev pub solved : List Factor → List ℤ → List ℤ
solved [] s = s
solved (f ∷ fs) s = let t : List ℤ = solved fs s in next_number f.l t ∷ t

-- of all columns but the constant
abbrev pub float_point : Form → List ℤ
float_point f = solved (stored f.d f.l f.columns 0 (f.columns - 1)) []

-- of the baseline's columns, where those of the integers are z
abbrev pub baseline_at : List ℤ → List (List ℤ) → ℕ → List ℤ → List ℤ
baseline_at d l columns z = take 3 (solved (stored d l columns 0 3) (scaled (pos (2 ^ 16)) z))

-- a number is 2^46 or more in size
abbrev pub HasWide : List ℤ → Type 0
HasWide s = (i : ℕ) × (2 ^ 46 ≤ unsigned_abs (item s i))

-- one of the first n
abbrev pub HasWideBefore : ℕ → List ℤ → Type 0
HasWideBefore n s = (i : ℕ) × ((i < n) × (2 ^ 46 ≤ unsigned_abs (item s i)))
