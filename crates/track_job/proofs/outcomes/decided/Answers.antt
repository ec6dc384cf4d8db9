use Rattle.std.proofs.Common.{refl}
use Rattle.std.proofs.lemmas.Bool.{false≢true}
use Rattle.track_rows.proofs.FrontLaws.{tracked_fronts}
use Rattle.track_job.proofs.StandsLaws.{some_length}
use Rattle.track_job.proofs.outcomes.decided.Goals as goal

pub decide_track-requires-clause-some_pairs : goal.decide_track-requires-clause-some_pairs
decide_track-requires-clause-some_pairs c = some_length c.args.tracked.track.pairs (λ none. false≢true (c.if-is_empty.ensures.1 none))

pub returns-then-is_empty : goal.returns-then-is_empty
returns-then-is_empty c = λ screened kept position signals on is. (refl, (on, record { track = c.args.tracked.track; is = is; none = c.if-is_empty.ensures.0 refl }))

pub returns : goal.returns
returns c = λ screened kept position signals on is. (
  on,
  (
    is,
    record {
      ratio_is = refl;
      budget_is = refl;
      fronts = tracked_fronts screened kept position signals c.args.options.now.system c.args.tracked is;
      decision = c.in_ok-tail.ensures.decision;
      only = c.in_ok-tail.ensures.only;
      by_ratio = c.in_ok-tail.ensures.by_ratio;
    },
  ),
)
