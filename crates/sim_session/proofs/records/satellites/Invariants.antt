use Rattle.std.proofs.Common.{◌≡◌, length}
use Rattle.sim_session.specs.Satellites.{AreSatellites}
use Rattle.sim_session.proofs.records.satellites.Given as goal

abbrev pub invariant-loop-k : goal.invariant-loop-k
invariant-loop-k l = record {
  records : AreSatellites l.letter 0 l.all.items;
  count : length l.all.items ≡ l.k;
}
