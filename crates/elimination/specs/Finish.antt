-- The second half of an elimination: what a form is that it ends in.
use Rattle.std.specs.Prelude.{◌≡◌, ◌-◌, List, Result, Ok}
use Rattle.quadratic_form.specs.Forms.{Column}
use Rattle.quadratic_form.specs.Elimination.{Factor, Refusal, steps}
use Rattle.integer_form.specs.declared.front_form.FrontForm.{FrontForm}
use Rattle.integer_form.specs.declared.form.Form.{Form}
use Rattle.integer_form.specs.Factors.{stored}
use Rattle.integer_form.specs.Kept.{form_of_table, constant_form}
use Rattle.integer_form.specs.Forms.{factors_of}

-- the steps of the integer columns, from the form that a front left
abbrev pub finish_of : FrontForm → Result (List Factor × List Column) Refusal
finish_of r = steps 3 (r.columns - 4) (form_of_table r.p (r.columns - 3))

-- the front as it is, with the factors of the integer columns and the last entry
pub record IsFinishOf (r : FrontForm) (f : Form) : Type 0 where
  pub columns : f.columns ≡ r.columns
  pub h : f.h ≡ r.h
  pub p : f.p ≡ r.p
  pub baseline : stored f.d f.l f.columns 0 3 ≡ stored r.d r.l r.columns 0 3
  pub taken : finish_of r ≡ Ok (factors_of f, constant_form f.g)
