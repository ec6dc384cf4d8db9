use Rattle.track_job.proofs.StandsLaws.{track_stands_for}
use Rattle.track_job.proofs.TrackSays.{track_fixed_for}
use Rattle.track_job.proofs.tracks.MovingRoverSessionCommand.answer_files.Goals as goal

pub returns-clause-answered : goal.returns-clause-answered
returns-clause-answered c =
    let outcome = c.in_ok-outcome.outcome in
    let outcome_holds = c.in_ok-outcome.ensures in
    let written = c.in_ok-output_of.ensures in
    record {
      verdict = written.verdict;
      answer = record {
        outcome = outcome;
        is = outcome_holds.outcome;
        fixed = track_fixed_for c.args.files.base c.args.files.rover c.args.files.nav c.args.options.now outcome outcome_holds.outcome;
        stands = λ cert full. track_stands_for c.args.files.base c.args.files.rover c.args.files.nav c.args.options.now outcome cert outcome_holds.outcome full;
        whole = written.whole;
        end_is = written.ended;
      };
    }
