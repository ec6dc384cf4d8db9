use Rattle.std.proofs.Common.{◌≡◌, ℕ, List, ◌++◌, ap, ◌∙◌}
use Rattle.job_answers.specs.Statuses.{verdict_status}
use Rattle.job_answers.specs.Endings.{ending}
use Rattle.session_jobs.proofs.outcomes.output_of.Goals as goal

pub returns-clause-ended : goal.returns-clause-ended
returns-clause-ended g c =
    let outcome = c.args.outcome.now in
    let text = g.O.SessionOutcome in
    let written = c.in_ok-write.ensures in
    let status = c.verdict_status.ensures.value ∙ ap verdict_status c.is_fixed.ensures in
    let out : c.write.new.out.items ≡ text.out_text outcome = written.out ∙ ap (λ (before : List ℕ). before ++ text.out_text outcome) c.new-out.ensures.items in
    let err : c.write.new.err.items ≡ text.err_text outcome = written.err ∙ ap (λ (before : List ℕ). before ++ text.err_text outcome) c.new-err.ensures.items in
    λ i. ending (status i) (out i) (err i)
