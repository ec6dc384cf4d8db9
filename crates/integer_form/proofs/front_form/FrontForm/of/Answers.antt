use Rattle.std.proofs.Common.{◌^◌, ◌<◌, List, ℤ, unsigned_abs, sym, ap, ◌∙◌, subst}
use Rattle.quadratic_form.specs.declared.sizes.TheConstants.{BASELINE_COLUMNS, MOST_COLUMNS}
use Rattle.quadratic_form.specs.Tables.{entry}
use Rattle.quadratic_form.proofs.TableLaws.{zero_entry, zero_small}
use Rattle.integer_form.proofs.front_form.FrontForm.of.Goals as goal

pub invariant_of-result-clause-factors_in : goal.invariant_of-result-clause-factors_in
invariant_of-result-clause-factors_in c = λ i j. subst (λ (z : ℤ). unsigned_abs z < 2 ^ 52)
    (sym (ap (λ (t : List (List ℤ)). entry t i j) c.zeros.ensures.zeros ∙ zero_entry MOST_COLUMNS BASELINE_COLUMNS i j)) zero_small

pub invariant_of-result-clause-factors_outside : goal.invariant_of-result-clause-factors_outside
invariant_of-result-clause-factors_outside c = λ i j h. ap (λ (t : List (List ℤ)). entry t i j) c.zeros.ensures.zeros ∙ zero_entry MOST_COLUMNS BASELINE_COLUMNS i j
