use Rattle.std.proofs.Common.{◌+◌, List, refl, sym, subst}
use Rattle.track_data.specs.declared.lost.Lost.{Lost}
use Rattle.track_rows.specs.Walks.{IsWalked}
use Rattle.track_rows.proofs.Steps.{lost_step}
use Rattle.track_rows.proofs.walks.TrackSoFar.lose.Goals as goal

pub returns : goal.returns
returns c = λ t walked is.
    let walk = c.args.self.now in
    subst (λ (lost : List Lost). IsWalked t (c.args.pair + 1) walk.arcs.items walk.begun.items walk.points.items walk.pairs.items lost) (sym c.in_ok-push.ensures.items)
    (lost_step t c.args.pair walk.arcs.items walk.begun.items walk.points.items walk.pairs.items walk.lost.items _ walked refl is)
