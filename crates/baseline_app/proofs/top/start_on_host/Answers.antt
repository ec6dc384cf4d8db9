use Rattle.std.proofs.Common.{refl}
use Rattle.baseline_app.proofs.CallLaws.{ok_weaker, small_verdict, third_refused, answers_by_calls, refuses_by_calls}
use Rattle.baseline_app.proofs.top.start_on_host.Goals as goal

pub returns-clause-answer : goal.returns-clause-answer
returns-clause-answer g c = ok_weaker c.args.words _ _ (λ ws started job asked small.
    answers_by_calls _ _ job started.status _ _ _ _ _ _ _ refl refl refl refl refl started.run asked (small_verdict started.status _ started.number small) started.number) c.start.ensures.started

pub returns-clause-refusal : goal.returns-clause-refusal
returns-clause-refusal g c = ok_weaker c.args.words _ _ (λ ws started job asked third.
    refuses_by_calls _ _ job started.status _ _ _ _ refl refl refl started.run asked (third_refused started.status _ started.number third)) c.start.ensures.started
