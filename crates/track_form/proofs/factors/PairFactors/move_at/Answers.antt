use Rattle.std.proofs.Common.{◌≡◌, ◌↔◌, List, ℤ, ◌∙◌, subst}
use Rattle.std.specs.Prelude.{IsErr}
use Rattle.std.proofs.lemmas.Result.{IfOk-weaker}
use Rattle.integer_form.specs.declared.front_form.FrontForm.{FrontForm}
use Rattle.integer_form.specs.FloatPoint.{baseline_at, HasWide}
use Rattle.track_form.specs.declared.factors.PairFactors.{PairFactors}
use Rattle.track_form.specs.Factors.{move_by}
use Rattle.track_form.proofs.factors.PairFactors.move_at.Goals as goal

same : (f : FrontForm) (k : PairFactors) (z : List ℤ) → f.columns ≡ k.columns → f.d ≡ k.d → f.l ≡ k.l → baseline_at f.d f.l f.columns z ≡ move_by z k
same f k z columns d l = λ t. baseline_at (d t) (l t) (columns t) z

pub returns-clause-ok : goal.returns-clause-ok
returns-clause-ok c =
    let front = c.put_in.new.front in
    IfOk-weaker c.baseline_of.result (λ m. m ≡ baseline_at front.d front.l front.columns c.args.z.now) (λ m. m ≡ move_by c.args.z.now c.args.self.now)
    (λ m e. e ∙ same front c.args.self.now c.args.z.now c.put_in.ensures.columns c.put_in.ensures.d c.put_in.ensures.l) c.baseline_of.ensures.ok

pub returns-clause-refused : goal.returns-clause-refused
returns-clause-refused c = subst (λ (m : List ℤ). IsErr c.baseline_of.result ↔ HasWide m)
    (same c.put_in.new.front c.args.self.now c.args.z.now c.put_in.ensures.columns c.put_in.ensures.d c.put_in.ensures.l) c.baseline_of.ensures.refused
