use Rattle.session_jobs.proofs.FixSays.{proved_outcome}
use Rattle.session_jobs.proofs.fixes.FixSessionCommand.answer_files.Goals as goal

pub finish_run-requires : goal.finish_run-requires
finish_run-requires c = record { base = c.args.files.base; rover = c.args.files.rover; records = c.args.files.nav; is = c.in_ok-started.ensures.start }

pub returns-clause-answered : goal.returns-clause-answered
returns-clause-answered c =
    let outcome = c.in_ok-outcome.outcome in
    let files = c.args.files in
    let outcome_holds = c.in_ok-outcome.ensures.outcome files.base files.rover files.nav c.in_ok-started.ensures.start in
    let written = c.in_ok-output_of.ensures in
    record {
      verdict = written.verdict;
      answer = record {
        outcome = outcome;
        holds = proved_outcome files.base files.rover files.nav c.args.options.now outcome outcome_holds c.in_ok-outcome.ensures.by_ratio;
        whole = written.whole;
        end_is = written.ended;
      };
    }
