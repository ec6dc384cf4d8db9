-- The first half of the elimination, and the whole: what a form of each is of.
use Rattle.std.specs.Prelude.{◌≡◌, ℕ, ◌-◌, true, false, List, Result, Ok, Err}
use Rattle.quadratic_form.specs.Forms.{Column}
use Rattle.quadratic_form.specs.Elimination.{Factor, Refusal, wide_entry, form_small, steps}
use Rattle.quadratic_form.specs.Lowering.{IsExponent}
use Rattle.normal_sum.specs.declared.normal.Normal.{Normal}
use Rattle.normal_sum.specs.Values.{form_of}
use Rattle.integer_form.specs.declared.front_form.FrontForm.{FrontForm}
use Rattle.integer_form.specs.declared.form.Form.{Form}
use Rattle.integer_form.specs.Factors.{stored}
use Rattle.integer_form.specs.Kept.{form_of_table, constant_form}
use Rattle.lower_form.specs.FirstRounding.{first_form}
use Rattle.lower_form.specs.Fronts.{front_of}

-- the first rounding over 2^h, refused where an entry is too large, and the steps of all columns but the constant
abbrev pub elimination_of : ℕ → Normal → Result (List Factor × List Column) Refusal
elimination_of h n = elim (form_small (first_form h n)) [ true ↦ steps 0 (n.columns - 1) (first_form h n) | false ↦ Err wide_entry ]

-- over the least power of 2 that serves: the factors of the baseline's columns, and the form that is left
pub record IsFrontOf (n : Normal) (r : FrontForm) : Type 0 where
  pub columns : r.columns ≡ n.columns
  pub exponent : IsExponent r.h (form_of n)
  pub taken : front_of r.h n ≡ Ok (stored r.d r.l r.columns 0 3, form_of_table r.p (r.columns - 3))

-- over the least power of 2 that serves: the form after the baseline's columns, the factors of all columns but the constant, and the last entry
pub record IsLowerOf (n : Normal) (f : Form) : Type 0 where
  pub columns : f.columns ≡ n.columns
  pub exponent : IsExponent f.h (form_of n)
  pub front : front_of f.h n ≡ Ok (stored f.d f.l f.columns 0 3, form_of_table f.p (f.columns - 3))
  pub taken : elimination_of f.h n ≡ Ok (stored f.d f.l f.columns 0 (f.columns - 1), constant_form f.g)
