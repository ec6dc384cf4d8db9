use Rattle.std.proofs.Common.{◌≡◌, ℕ, List, ◌++◌, ap, ◌∙◌}
use Rattle.report_text.specs.VerdictText.{verdict_text}
use Rattle.job_answers.specs.Endings.{ending}
use Rattle.file_jobs.proofs.checks.verdict_output.Goals as goal

pub returns-clause-ended : goal.returns-clause-ended
returns-clause-ended c =
    let verdict = c.args.verdict.now in
    let out : c.write_verdict.new.out.items ≡ verdict_text verdict = c.in_ok-write_verdict.ensures ∙ ap (λ (text : List ℕ). text ++ verdict_text verdict) c.new-out.ensures.items in
    λ i. ending (c.status_of.ensures.value i) (out i) (c.new.ensures.items i)
