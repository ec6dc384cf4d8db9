use Rattle.file_jobs.proofs.checks.CertCheckTextCommand.answer_text.Goals as goal

pub returns-clause-answered : goal.returns-clause-answered
returns-clause-answered c =
    let is = c.check-verdict.ensures in
    let said = c.in_ok-verdict_output.ensures in
    record {
      verdict = said.verdict;
      answer = record {
        cert = c.in_ok-cert.cert;
        whole = c.in_ok-cert.ensures.whole;
        spelled = c.in_ok-cert.ensures.ok;
        answer = record { verdict = c.check-verdict.result; is = is.verdict; only = is.only; best = is.strictly_best; by_ratio = is.by_ratio; end_is = said.ended };
      };
    }
