use Rattle.std.proofs.Common.{◌^◌, pos, ◌≤ℤ◌}
use Rattle.sv_orbit.specs.Records.{constants_of}
use Rattle.sim_session.specs.Observed.{IsReachedIn}
use Rattle.sim_session.proofs.passes.code_at.Given as goal

abbrev pub invariant-loop-pass : goal.invariant-loop-pass
invariant-loop-pass l = record {
  reached : IsReachedIn l._pass (constants_of l.world) l.eph l.tag.0 l.receiver.point l.receiver.clock l.code;
  low : pos 0 ≤ℤ l.code;
  high : l.code ≤ℤ pos (10 ^ 11);
}
