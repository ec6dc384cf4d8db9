use Rattle.std.proofs.Common.{◌≡◌, ℕ, length, arith, subst}
use Rattle.track_rows.specs.PairRules.{setting_of}
use Rattle.track_rows.specs.Walks.{IsWalk}
use Rattle.track_rows.proofs.walks.walked.Goals as goal

pub returns : goal.returns
returns c =
    let all_pairs_done : c.loop-pair.pair ≡ length c.args.files.now.screened.now.used = omega (arith, c.len-pair-end.ensures) in
    subst (λ (n : ℕ). IsWalk (setting_of c.args.files.now) n c.loop-pair.walk) all_pairs_done c.loop-pair.invariant.walk
