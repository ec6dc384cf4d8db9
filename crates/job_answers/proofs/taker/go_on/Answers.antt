use Rattle.std.proofs.Common.{◌∙◌, ◌++◌, ℕ, List, sym, subst}
use Rattle.rinex_head.specs.declared.system.System.TheVariants.{Gps}
use Rattle.rinex_obs.specs.ObsRules.{obs_of}
use Rattle.job_answers.specs.Taking.{IsReadBy}
use Rattle.job_answers.proofs.TakerLaws.{long_goes}
use Rattle.job_answers.proofs.taker.go_on.Goals as goal

pub feed_of-requires-clause-reads : goal.feed_of-requires-clause-reads
feed_of-requires-clause-reads c =
    let long = long_goes c.args.line.now c.args.piece.now c.requires.goes_on c.in-None.ensures.none c.in-Err.ensures.long in
    subst (λ (l : List ℕ). IsReadBy (λ lines. obs_of Gps lines) (l ++ c.args.piece.now)) (sym (c.as_slice.ensures.value ∙ c.in-Err.ensures.unchanged)) long
