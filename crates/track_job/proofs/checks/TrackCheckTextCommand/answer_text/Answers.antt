use Rattle.std.proofs.Common.{Ok, ap}
use Rattle.track_job.proofs.checks.TrackCheckTextCommand.answer_text.Goals as goal

pub returns-clause-answered : goal.returns-clause-answered
returns-clause-answered c =
    let verdict_holds = c.in_ok-verdict.ensures in
    let said = c.in_ok-verdict_output.ensures in
    record {
      verdict = said.verdict;
      answer = record {
        cert = c.in_ok-cert.cert;
        whole = c.in_ok-cert.ensures.whole;
        spelled = c.in_ok-cert.ensures.ok;
        answer = record {
          verdict = c.in_ok-verdict.verdict;
          is = verdict_holds.verdict;
          only = verdict_holds.only;
          best = λ e. verdict_holds.strictly_best (ap Ok e);
          by_ratio = λ e. verdict_holds.by_ratio (ap Ok e);
          end_is = said.ended;
        };
      };
    }
