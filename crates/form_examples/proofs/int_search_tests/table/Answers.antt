use Rattle.std.proofs.Common.{◌≡◌, ◌<◌, ◌^◌, ℕ, List, ℤ, pos, lit<, sym, ◌∙◌, subst, unsigned_abs}
use Rattle.quadratic_form.specs.declared.sizes.TheConstants.{MOST_FORM_COLUMNS}
use Rattle.quadratic_form.specs.Tables.{entry}
use Rattle.quadratic_form.proofs.TableLaws.{zero_entry}
use Rattle.form_examples.proofs.int_search_tests.table.Goals as goal

pub loop-r-init : goal.loop-r-init
loop-r-init c = record { symmetric = λ i j. zero i j ∙ sym (zero j i); entries = λ i j. small (entry c.zeros-p.result i j) (zero i j); outside = λ i j _. zero i j }
  where
    zero : (i j : ℕ) → entry c.zeros-p.result i j ≡ pos 0
    zero i j = subst (λ (m : List (List ℤ)). entry m i j ≡ pos 0) (sym c.zeros-p.ensures.zeros) (zero_entry MOST_FORM_COLUMNS MOST_FORM_COLUMNS i j)

    small : (x : ℤ) → x ≡ pos 0 → unsigned_abs x < 2 ^ 52
    small x e = rw e (lit< tt)
