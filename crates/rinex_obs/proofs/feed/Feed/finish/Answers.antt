use Rattle.std.proofs.Common.{Err, refl, subst}
use Rattle.rinex_obs.specs.declared.feed.FeedState.{FeedState}
use Rattle.rinex_obs.specs.Fed.{StandsFor, gives_behind}
use Rattle.rinex_obs.proofs.Feeds.{fed_answers}
use Rattle.rinex_obs.proofs.feed.Feed.finish.Goals as goal

pub returns-in-Open-clause-answers : goal.returns-in-Open-clause-answers
returns-in-Open-clause-answers c = λ text stands.
    fed_answers c.args.self.system (gives_behind c.args.self.system c.in-Open.text) c.args.self.taken text c.finish.result
    (subst (λ (s : FeedState). StandsFor c.args.self.system s c.args.self.taken text) c.in-Open.is stands) (c.finish.ensures c.args.self.system)

pub returns-in-Refused-clause-answers : goal.returns-in-Refused-clause-answers
returns-in-Refused-clause-answers c = λ text stands.
    fed_answers c.args.self.system (λ more. Err c.in-Refused.at) c.args.self.taken text _ (subst (λ (s : FeedState). StandsFor c.args.self.system s c.args.self.taken text) c.in-Refused.is stands) refl
