use Rattle.std.proofs.Common.{subst, Err}
use Rattle.rinex_head.specs.declared.place.TextFault.{TextFault}
use Rattle.rinex_obs.specs.declared.feed.FeedState.{FeedState}
use Rattle.rinex_obs.specs.Feeding.{TakesAll}
use Rattle.rinex_obs.specs.Fed.{StandsFor, gives_behind}
use Rattle.rinex_obs.proofs.Feeds.{fed_more}
use Rattle.rinex_obs.proofs.feed.FeedTaker.take.Goals as goal

pub returns-in-Ok-clause-stands : goal.returns-in-Ok-clause-stands
returns-in-Ok-clause-stands c = λ text stands.
    let system = c.args.self.now.system in
    let taken = c.args.self.now.taken in
    fed_more system (gives_behind system c.in-Open.text) (gives_behind system c.take.new.self) taken text c.args.piece.now
    (c.in-Ok.ensures.takes system) (subst (λ (s : FeedState). StandsFor system s taken text) c.in-Open.is stands)

pub returns-in-Err-Refused-clause-stands : goal.returns-in-Err-Refused-clause-stands
returns-in-Err-Refused-clause-stands c = λ text stands.
    let system = c.args.self.now.system in
    let taken = c.args.self.now.taken in
    let refused = subst (λ (fault : TextFault). TakesAll c.args.piece.now (gives_behind system c.in-Open.text) (gives_behind system c.take.new.self)
    (Err fault)) c.in-Err-Refused.field-0-is (c.in-Err-Refused.ensures.takes system) in
    fed_more system (gives_behind system c.in-Open.text) _ taken text c.args.piece.now refused (subst (λ (s : FeedState). StandsFor system s taken text) c.in-Open.is stands)
