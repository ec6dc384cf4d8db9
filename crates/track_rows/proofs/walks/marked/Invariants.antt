use Rattle.track_rows.proofs.Marks.{AreMarkedTo}
use Rattle.track_rows.proofs.walks.marked.Given as goal

abbrev pub invariant-loop-k : goal.invariant-loop-k
invariant-loop-k l = AreMarkedTo l.k l.begun l.arcs l.pair l.flags.items
