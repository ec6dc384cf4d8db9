use Rattle.form_examples.proofs.fix_decide_tests.decision_of.Goals as goal

pub decide-requires-clause-form : goal.decide-requires-clause-form
decide-requires-clause-form c = record { normal = c.sum-normal.result; of_rows = c.sum-normal.ensures.normal; lowered = c.in-Ok.ensures.lower }
