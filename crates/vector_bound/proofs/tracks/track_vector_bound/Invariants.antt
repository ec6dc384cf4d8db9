use Rattle.obs_rows.specs.Signals.{fine_signals}
use Rattle.vector_bound.proofs.GreatestBounds.{AreBounded}
use Rattle.vector_bound.proofs.tracks.track_vector_bound.Given as goal

abbrev pub invariant-loop-k : goal.invariant-loop-k
invariant-loop-k l = record { bounded : AreBounded l.arcs (fine_signals l.signals) l.pairs l.z l.moves l.k l.greatest }
