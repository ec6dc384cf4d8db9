use Rattle.std.proofs.Common.{◌≡◌, ◌++◌, drop}
use Rattle.sim_session.specs.ObservationText.{satellite_lines}
use Rattle.sim_session.proofs.texts.write_satellites.Given as goal

abbrev pub invariant-loop-k : goal.invariant-loop-k
invariant-loop-k l = l.out.items ++ satellite_lines l.tracking l.k (drop l.k l.sats) ≡ l.fn.out.items ++ satellite_lines l.tracking 0 l.sats
