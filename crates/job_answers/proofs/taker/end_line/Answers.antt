use Rattle.std.proofs.Common.{◌∙◌, ◌++◌, ℕ, List, sym, subst}
use Rattle.rinex_head.specs.declared.system.System.TheVariants.{Gps}
use Rattle.rinex_obs.specs.ObsRules.{obs_of}
use Rattle.job_answers.specs.Taking.{IsReadBy}
use Rattle.job_answers.proofs.TakerLaws.{first_joined, long_ends}
use Rattle.job_answers.proofs.taker.end_line.Goals as goal

pub source_of-requires-clause-first : goal.source_of-requires-clause-first
source_of-requires-clause-first c =
    first_joined c.args.line.now c.as_slice.result.now c.args.front.now c.args.piece.now c.requires.ends.0
    (c.as_slice.ensures.value ∙ c.in-Ok.ensures.added) c.requires.goes_on c.requires.front c.requires.ends.1

pub feed_of-requires-clause-reads : goal.feed_of-requires-clause-reads
feed_of-requires-clause-reads c =
    let long = long_ends c.args.line.now c.args.piece.now c.args.front.now c.requires.ends.0 c.requires.goes_on c.requires.ends.1 c.in-Err.ensures.long in
    subst (λ (l : List ℕ). IsReadBy (λ lines. obs_of Gps lines) (l ++ c.args.piece.now)) (sym (c.as_slice-in-Err.ensures.value ∙ c.in-Err.ensures.unchanged)) long
