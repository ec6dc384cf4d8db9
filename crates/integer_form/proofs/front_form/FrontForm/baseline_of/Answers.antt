use Rattle.std.proofs.Common.{◌≡◌, List, ℤ}
use Rattle.std.proofs.lemmas.Result.{IfOk-weaker}
use Rattle.integer_form.specs.FloatPoint.{baseline_at}
use Rattle.integer_form.proofs.front_form.FrontForm.baseline_of.Goals as goal

pub returns-clause-ok : goal.returns-clause-ok
returns-clause-ok c = IfOk-weaker _ _ _ (λ (b : List ℤ) (h : (d : List ℤ) → b ≡ baseline_at d c.args.self.now.l c.args.self.now.columns c.args.z.now). h c.args.self.now.d) c.baseline_from.ensures.ok

pub returns-clause-refused : goal.returns-clause-refused
returns-clause-refused c = c.baseline_from.ensures.refused c.args.self.now.d
