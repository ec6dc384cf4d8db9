use Rattle.std.proofs.Common.{◌+◌, ◌*◌, ◌≤◌, length}
use Rattle.sv_orbit.specs.Records.{constants_of}
use Rattle.sim_session.proofs.Progress.{IsBegun}
use Rattle.sim_session.proofs.observations.observation_file.Given as goal

abbrev pub invariant-loop-i : goal.invariant-loop-i
invariant-loop-i l = record {
  begun : IsBegun l.tracking (constants_of l.world) l.step l.i l.receiver.point l.receiver.clock l.records l.cycles l.out.items;
  size : length l.out.items ≤ 480 + l.i * 1506;
}
