use Rattle.std.proofs.Common.{◌≡◌, map, take}
use Rattle.track_rows.specs.Tracks.{unshifted}
use Rattle.track_rows.proofs.tracks.unshifted_arcs.Given as goal

abbrev pub invariant-loop-arc : goal.invariant-loop-arc
invariant-loop-arc l = l.kept.items ≡ map unshifted (take l.arc-index l.arcs)
