use Rattle.std.proofs.Common.{◌≡◌, ◌++◌, drop}
use Rattle.track_job.specs.TrackTexts.{place_lines}
use Rattle.track_job.proofs.places.push_places.Given as goal

abbrev pub invariant-loop-k : goal.invariant-loop-k
invariant-loop-k l = l.text.items ++ place_lines l.base (drop l.k l.pairs) (drop l.k l.points) (drop l.k l.moves) ≡ l.fn.text.items ++ place_lines l.base l.pairs l.points l.moves
