use Rattle.std.proofs.Common.{ℕ, ap, ◌∙◌}
use Rattle.normal_sum.specs.Values.{form_of}
use Rattle.elimination.specs.Stops.{refusal_of}
use Rattle.lower_form.specs.Fronts.{front_of}
use Rattle.lower_form.proofs.Exponents.{exponent_unique}
use Rattle.lower_form.proofs.baseline_steps.lower_front.Goals as goal

pub returns-in-Err-clause-refused : goal.returns-in-Err-clause-refused
returns-in-Err-clause-refused c = λ h k. (
  refusal_of c.in-Err.stopped.column c.in-Err.stopped.pivot c.in-Err.stopped.stop,
  (
    ap (λ (m : ℕ). front_of m c.args.normal.now) (exponent_unique h c.exponent-h.result (form_of c.args.normal.now) k c.exponent-h.ensures.least) ∙ c.in-Err.ensures.refused,
    c.fault.ensures,
  ),
)
