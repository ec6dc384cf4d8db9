use Rattle.std.proofs.Common.{◌≡◌, ℕ, ◌-◌, List, arith, sym, ap, ◌∙◌}
use Rattle.std.proofs.lemmas.Result.{on_ok_weaker}
use Rattle.quadratic_form.specs.Forms.{Column}
use Rattle.quadratic_form.specs.Elimination.{steps}
use Rattle.quadratic_form.specs.Places.{form_from}
use Rattle.quadratic_form.specs.Tables.{entry}
use Rattle.lower_form.specs.FirstRounding.{first_form}
use Rattle.integer_form.specs.Factors.{stored}
use Rattle.lower_form.proofs.FrontLaws.{bounds_all}
use Rattle.lower_form.proofs.baseline_steps.take_front.Goals as goal

pub returns-clause-bound : goal.returns-clause-bound
returns-clause-bound c =
    let n : ℕ = c.args.normal.now.columns in
    let all : n - 0 ≡ n = omega arith in
    let three : 3 - 0 ≡ 3 = omega arith in
    let start : form_from (entry c.round.new.table) 0 n ≡ first_form c.args.h c.args.normal.now = c.round.ensures.rounded c.if-not-round.false in
    on_ok_weaker c.take_steps.result (λ e arcs ss pairs k. bounds_all arcs ss pairs c.args.normal.now c.args.h (
      stored c.take_steps.new.kept c.take_steps.new.factors n 0 3,
      form_from
          (entry c.take_steps.new.table) 3 (n - 3),
    ) k
    (ap (λ (a : List Column). steps 0 3 a) (sym start) ∙ ap (λ (m : ℕ). steps 0 3 (form_from (entry c.round.new.table) 0 m)) (sym all) ∙ e)) c.take_steps.ensures.taken
