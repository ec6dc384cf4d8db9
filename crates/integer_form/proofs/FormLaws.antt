-- The lower sums and the last entry stay below the value of the form.
use Rattle.std.proofs.Common.{◌≡◌, ℕ, ◌-◌, List, ◌∷◌, [], ◌++◌, length, ℤ, pos, Ok, sym, ap, ◌∙◌}
use Rattle.whole_math.specs.Vectors.{len}
use Rattle.whole_math.proofs.Vectors.{len_is}
use Rattle.quadratic_form.specs.Elimination.{steps}
use Rattle.quadratic_form.proofs.LowerSums.{lower_sum_below, large_first}
use Rattle.quadratic_form.specs.Tables.{entry}
use Rattle.integer_form.specs.declared.form.Form.{Form}
use Rattle.integer_form.specs.Kept.{constant_form}
use Rattle.integer_form.specs.Forms.{integers_of, columns_of, factors_of, LowerSumsBelow, LastEntryBelow}
use Rattle.integer_form.proofs.FormShapes.{len_form, shaped_form, len_stored, len_with_one, columns_left}
use Rattle.integer_form.proofs.StepOrder.{steps_from}

-- the steps of a form, by the number of its integers
steps_of : (f : Form) (z : List ℤ) → length z ≡ integers_of f → steps 0 (length z) (columns_of f) ≡ Ok (factors_of f, constant_form f.g)
steps_of f z e = steps_from 3 0 (length z) (columns_of f) (factors_of f, constant_form f.g)
    (ap (λ (k : ℕ). steps 3 k (columns_of f)) e ∙ f.eliminated)

len_columns : (f : Form) (z : List ℤ) → length z ≡ integers_of f → len (columns_of f) ≡ len (z ++ (pos 1 ∷ []))
len_columns f z e = len_form (entry f.p) 0 (f.columns - 3) ∙ ap pos (columns_left f.columns f.columns_from) ∙ sym (len_with_one z (integers_of f) e)

pub lower_sums_below : (f : Form) → LowerSumsBelow f
lower_sums_below f z e = lower_sum_below (columns_of f) z (factors_of f) f.g (shaped_form (entry f.p) 0 (f.columns - 3)) (len_columns f z e)
    (len_stored f.d f.l f.columns 3 (integers_of f) ∙ sym (len_is z ∙ ap pos e)) (steps_of f z e)

pub last_entry_below : (f : Form) → LastEntryBelow f
last_entry_below f z e = large_first (columns_of f) z (factors_of f) f.g (shaped_form (entry f.p) 0 (f.columns - 3)) (len_columns f z e) (steps_of f z e)
