use Rattle.std.proofs.lemmas.Result.{err_from_is_err_and, IfOk-weaker, IfErr-weaker}
use Rattle.normal_sum.specs.declared.normal.Normal.{Normal}
use Rattle.integer_form.specs.declared.front_form.FrontForm.{FrontForm}
use Rattle.integer_form.specs.declared.form.Form.{Form}
use Rattle.elimination.specs.Finish.{IsFinishOf}
use Rattle.lower_form.specs.Forms.{IsFrontOf}
use Rattle.lower_form.proofs.LowerLaws.{lower_is, front_reported, finish_reported}
use Rattle.lower_form.proofs.forms.lower.Goals as goal

abbrev Halves : Normal → Form → Type 0
Halves n f = (r : FrontForm) × (IsFrontOf n r × IsFinishOf r f)

halves : (n : Normal) (r : FrontForm) (f : Form) → IsFrontOf n r → IsFinishOf r f → Halves n f
halves n r f a b = (r, (a, b))

pub returns-clause-lower : goal.returns-clause-lower
returns-clause-lower c = IfOk-weaker _ _ _ (λ f b. lower_is c.args.normal.now c.in_ok-first.first f c.in_ok-first.ensures.front b) c.finish.ensures.finished

pub returns-clause-halves : goal.returns-clause-halves
returns-clause-halves c = IfOk-weaker _ _ _ (λ f b. halves c.args.normal.now c.in_ok-first.first f c.in_ok-first.ensures.front b) c.finish.ensures.finished

pub returns-clause-refused : goal.returns-clause-refused
returns-clause-refused c = IfErr-weaker _ _ _ (λ e t. finish_reported c.args.normal.now c.in_ok-first.first e c.in_ok-first.ensures.front t) c.finish.ensures.refused

pub returns-in_err-first-clause-refused : goal.returns-in_err-first-clause-refused
returns-in_err-first-clause-refused c =
    let answered = err_from_is_err_and c.from_residual.result c.from_residual.ensures.1 in
    rw (answered.1, answered.2) (front_reported c.args.normal.now c.in_err-first.field-0.0 c.in_err-first.ensures.refused)
