use Rattle.std.proofs.Common.{refl, inl, inr}
use Rattle.round_steps.proofs.StepLaws.{narrow_numbers, refused_elimination}
use Rattle.std.proofs.lemmas.Bool.{false≢true}
use Rattle.round_steps.proofs.steps.solve.Goals as goal

pub returns-in-Err-clause-refused : goal.returns-in-Err-clause-refused
returns-in-Err-clause-refused c = λ last. refused_elimination last c.args.session.now c.in-Err.fault c.tail_of.result c.tail_of.ensures
    (record { normal = c.sum-normal.result; of_rows = c.sum-normal.ensures.normal; reported = c.in-Err.ensures.refused })

pub returns-in-Err-float_of-clause-refused : goal.returns-in-Err-float_of-clause-refused
returns-in-Err-float_of-clause-refused c = λ last. inr (inl (
  c.in-Err-float_of.ensures.place,
  record {
    form = c.in-Ok.form;
    of_rows = record { normal = c.sum-normal.result; of_rows = c.sum-normal.ensures.normal; lowered = c.in-Ok.ensures.lower };
    wide = c.in-Err-float_of.ensures.refused.0 refl;
  },
))

pub returns-in-Ok-float_of-clause-small : goal.returns-in-Ok-float_of-clause-small
returns-in-Ok-float_of-clause-small c = narrow_numbers c.in-Ok.form c.in-Ok-float_of.numbers c.in-Ok-float_of.ensures.ok (λ w. false≢true (c.in-Ok-float_of.ensures.refused.1 w))
