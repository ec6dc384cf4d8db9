-- What a form of zeros keeps.
use Rattle.std.proofs.Common.{◌≡◌, ℕ, ◌<◌, ◌^◌, List, ℤ, pos, unsigned_abs, arith, sym, ap, ◌∙◌, subst}
use Rattle.quadratic_form.specs.declared.sizes.TheConstants.{MOST_FORM_COLUMNS}
use Rattle.quadratic_form.specs.Tables.{entry, zero_rows, IsZeroOutside}
use Rattle.quadratic_form.specs.Matrices.{IsSymmetric, EntriesBelow}
use Rattle.quadratic_form.proofs.TableLaws.{zero_entry}

abbrev pub IsZeroForm : List (List ℤ) → Type 0
IsZeroForm t = t ≡ zero_rows MOST_FORM_COLUMNS MOST_FORM_COLUMNS

nothing : (t : List (List ℤ)) → IsZeroForm t → (i j : ℕ) → entry t i j ≡ pos 0
nothing t e i j = ap (λ (t : List (List ℤ)). entry t i j) e ∙ zero_entry MOST_FORM_COLUMNS MOST_FORM_COLUMNS i j

pub zero_symmetric : (t : List (List ℤ)) → IsZeroForm t → IsSymmetric t
zero_symmetric t e i j = nothing t e i j ∙ sym (nothing t e j i)

pub zero_small : (t : List (List ℤ)) → IsZeroForm t → EntriesBelow (2 ^ 52) t
zero_small t e i j = subst (λ (z : ℤ). unsigned_abs z < 2 ^ 52) (sym (nothing t e i j)) (omega arith)

pub zero_outside : (t : List (List ℤ)) (n : ℕ) → IsZeroForm t → IsZeroOutside n n t
zero_outside t n e i j h = nothing t e i j
