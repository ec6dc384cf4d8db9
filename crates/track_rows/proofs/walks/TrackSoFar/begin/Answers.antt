use Rattle.track_rows.proofs.Steps.{begun_walk}
use Rattle.track_rows.proofs.walks.TrackSoFar.begin.Goals as goal

pub returns : goal.returns
returns c = λ t kept.
    begun_walk t c.args.kept.now c.in_ok-from_slice.field-0.items c.in_ok-vec.field-0.items c.new.result.items c.new-2.result.items c.new-3.result.items kept c.requires.arcs c.requires.unshifted
    c.in_ok-from_slice.ensures.items (c.in_ok-vec.ensures.items_if_clones_equal (λ y e. e)) c.new.ensures.items c.new-2.ensures.items c.new-3.ensures.items
