-- Forms that differ in the factors of one row.
use Rattle.std.proofs.Common.{ℕ, ◌∙◌}
use Rattle.integer_form.specs.declared.front_form.FrontForm.{FrontForm}
use Rattle.elimination.specs.FrontSteps.{DifferInFactors}

pub differ_again : (old middle new : FrontForm) (r : ℕ) → DifferInFactors old middle r → DifferInFactors middle new r → DifferInFactors old new r
differ_again old middle new r a b = record {
  columns = b.columns ∙ a.columns;
  exponent = b.exponent ∙ a.exponent;
  kept = b.kept ∙ a.kept;
  form = b.form ∙ a.form;
  others = λ i j d. b.others i j d ∙ a.others i j d;
}
