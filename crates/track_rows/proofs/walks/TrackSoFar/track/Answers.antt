use Rattle.std.proofs.Common.{◌+◌, Bool, List, [], ◌∷◌, ◌++◌, ℤ, sym, subst}
use Rattle.obs_rows.specs.declared.arcs.Arc.{Arc}
use Rattle.obs_rows.specs.declared.pair_rows.PairRows.{PairRows}
use Rattle.track_rows.specs.Walks.{AreMarked, IsWalked}
use Rattle.track_rows.proofs.Steps.{tracked_step}
use Rattle.track_rows.proofs.walks.TrackSoFar.track.Goals as goal

pub returns : goal.returns
returns c = λ t walked is fits.
    let walk = c.args.self.now in
    let next : List Arc = c.args.arcs.items in
    let flags : List Bool = c.in_ok-begun.begun.items in
    let marked : AreMarked walk.begun.items next c.args.pair flags =
    subst (λ (xs : List Bool). AreMarked xs next c.args.pair flags) c.as_slice.ensures.value
    (subst (λ (xs : List Arc). AreMarked c.as_slice.result.now xs c.args.pair flags) c.as_slice-2.ensures.value c.in_ok-begun.ensures) in
    subst (λ (points : List (List ℤ)). IsWalked t (c.args.pair + 1) next flags points c.push-2.new.self.items walk.lost.items) (sym c.in_ok-push.ensures.items)
    (subst (λ (pairs : List PairRows). IsWalked t (c.args.pair + 1) next flags (walk.points.items ++ c.args.point ∷ []) pairs walk.lost.items) (sym c.in_ok-push-2.ensures.items)
    (tracked_step t c.args.pair walk.arcs.items next walk.begun.items flags walk.points.items walk.pairs.items walk.lost.items c.args.point c.args.rows walked is.0 is.1 fits marked))
