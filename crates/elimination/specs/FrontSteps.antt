-- What a row's steps write into the form that the baseline's columns leave.
use Rattle.std.specs.Prelude.{◌≡◌, ◌≢◌, ℕ}
use Rattle.quadratic_form.specs.Tables.{entry}
use Rattle.integer_form.specs.declared.front_form.FrontForm.{FrontForm}

-- the new form differs from the old one in nothing but the factors of row r
pub record DifferInFactors (old new : FrontForm) (r : ℕ) : Type 0 where
  pub columns : new.columns ≡ old.columns
  pub exponent : new.h ≡ old.h
  pub kept : new.d ≡ old.d
  pub form : new.p ≡ old.p
  pub others : (i j : ℕ) → i ≢ r → entry new.l i j ≡ entry old.l i j
