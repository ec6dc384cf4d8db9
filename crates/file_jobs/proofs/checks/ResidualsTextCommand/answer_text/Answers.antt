use Rattle.std.proofs.Common.{◌≡◌, ℕ, List, ◌++◌, ap, ◌∙◌}
use Rattle.report_text.specs.Residuals.{residuals_text}
use Rattle.job_answers.specs.Statuses.{verdict_status}
use Rattle.job_answers.specs.Endings.{ending}
use Rattle.file_jobs.proofs.checks.ResidualsTextCommand.answer_text.Goals as goal

pub returns-clause-answered : goal.returns-clause-answered
returns-clause-answered c =
    let text = residuals_text c.in_ok-cert.cert in
    let out : c.write_residuals.new.out.items ≡ text = c.in_ok-shown.ensures.text ∙ ap (λ (before : List ℕ). before ++ text) c.new-out.ensures.items in
    let status = c.verdict_status.ensures.value ∙ ap verdict_status c.in_ok-shown.ensures.shown in
    record {
      verdict = c.verdict_status.ensures.verdict;
      answer = record {
        cert = c.in_ok-cert.cert;
        whole = c.in_ok-cert.ensures.whole;
        spelled = c.in_ok-cert.ensures.ok;
        answer = λ i. ending (status i) (out i) (c.new.ensures.items i);
      };
    }
