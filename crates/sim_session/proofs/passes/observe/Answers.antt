use Rattle.std.proofs.Common.{ℤ, pos, get_or, w64, to_z, of_z, refl, sym, subst}
use Rattle.std.proofs.lemmas.Int.{to_z-of_z}
use Rattle.sv_orbit.specs.Records.{constants_of}
use Rattle.sim_session.specs.Observed.{carrier, IsReachedIn}
use Rattle.sim_session.proofs.SignalSmalls.{small_at, cycles_cast, still_small}
use Rattle.sim_session.proofs.Smalls.{clock_cast}
use Rattle.sim_session.proofs.Solutions.{phase_is, code_cast, columns_cast, code_in_columns}
use Rattle.sim_session.proofs.passes.observe.Goals as goal

pub phase_of-requires-clause-cycles : goal.phase_of-requires-clause-cycles
phase_of-requires-clause-cycles c = still_small (get_or c.args.cycles.now 0 (pos 0)) (small_at c.args.cycles.now 0 c.requires.cycles)

pub phase_of-requires-2-clause-cycles : goal.phase_of-requires-2-clause-cycles
phase_of-requires-2-clause-cycles c = still_small (get_or c.args.cycles.now 1 (pos 0)) (small_at c.args.cycles.now 1 c.requires.cycles)

pub phase_of-requires-3-clause-cycles : goal.phase_of-requires-3-clause-cycles
phase_of-requires-3-clause-cycles c = still_small (get_or c.args.cycles.now 2 (pos 0)) (small_at c.args.cycles.now 2 c.requires.cycles)

pub returns-clause-observed : goal.returns-clause-observed
returns-clause-observed c =
    let world = constants_of c.args.world.now in
    let receiver = c.args.receiver.now in
    let cycles = c.args.cycles.now in
    let code = c.code_at-code.result in
    let units = c.distance_at-distance.result.units in
    let clock = to_z w64 (of_z w64 receiver.clock) in
    let own = clock_cast receiver.clock receiver.clock_in in
    let distance_stands = c.distance_at-distance.ensures in
    record {
      code = subst (λ (z : ℤ). IsReachedIn 6 world c.args.eph.now c.args.tag.0 receiver.point receiver.clock z)
          (sym (code_cast code c.code_at-code.ensures.low c.code_at-code.ensures.high)) c.code_at-code.ensures.reached;
      l1 = phase_is (carrier 0) world c.args.eph.now c.args.tag.0 (to_z w64 (of_z w64 code)) (to_z w64 (of_z w64 code)) receiver.point units clock
          receiver.clock (to_z w64 (of_z w64 (get_or cycles 0 (pos 0)))) (get_or cycles 0 (pos 0))
          c.phase_of.result (to_z w64 (of_z w64 c.phase_of.result)) refl own (cycles_cast (get_or cycles 0 (pos 0)) (small_at cycles 0 c.requires.cycles))
          (to_z-of_z w64 c.phase_of.result (record { sfits = c.phase_of.type_inv })) distance_stands c.phase_of.ensures.near;
      l2 = phase_is (carrier 1) world c.args.eph.now c.args.tag.0 (to_z w64 (of_z w64 code)) (to_z w64 (of_z w64 code)) receiver.point units clock
          receiver.clock (to_z w64 (of_z w64 (get_or cycles 1 (pos 0)))) (get_or cycles 1 (pos 0))
          c.phase_of-2.result (to_z w64 (of_z w64 c.phase_of-2.result)) refl own (cycles_cast (get_or cycles 1 (pos 0)) (small_at cycles 1 c.requires.cycles))
          (to_z-of_z w64 c.phase_of-2.result (record { sfits = c.phase_of-2.type_inv })) distance_stands c.phase_of-2.ensures.near;
      l5 = phase_is (carrier 4) world c.args.eph.now c.args.tag.0 (to_z w64 (of_z w64 code)) (to_z w64 (of_z w64 code)) receiver.point units clock
          receiver.clock (to_z w64 (of_z w64 (get_or cycles 2 (pos 0)))) (get_or cycles 2 (pos 0))
          c.phase_of-3.result (to_z w64 (of_z w64 c.phase_of-3.result)) refl own (cycles_cast (get_or cycles 2 (pos 0)) (small_at cycles 2 c.requires.cycles))
          (to_z-of_z w64 c.phase_of-3.result (record { sfits = c.phase_of-3.type_inv })) distance_stands c.phase_of-3.ensures.near;
    }

pub returns-clause-columns : goal.returns-clause-columns
returns-clause-columns c = record {
  code = code_in_columns c.code_at-code.result c.code_at-code.ensures.low c.code_at-code.ensures.high;
  l1 = columns_cast c.phase_of.result c.phase_of.ensures.low c.phase_of.ensures.high;
  l2 = columns_cast c.phase_of-2.result c.phase_of-2.ensures.low c.phase_of-2.ensures.high;
  l5 = columns_cast c.phase_of-3.result c.phase_of-3.ensures.low c.phase_of-3.ensures.high;
}
