use Rattle.std.proofs.Common.{◌*◌, List, ◌++◌, length, ap, ◌∙◌, arith}
use Rattle.sv_orbit.specs.Records.{constants_of}
use Rattle.sim_session.specs.declared.signals.Signals.{Signals}
use Rattle.sim_session.specs.ObservationText.{epoch_text}
use Rattle.sim_session.proofs.Progress.{one_epoch}
use Rattle.sim_session.proofs.observations.observation_file.Goals as goal

pub loop-i-preserved : goal.loop-i-preserved
loop-i-preserved c =
    let receiver = c.args.receiver.now in
    let sats = c.in_ok-sats.sats.items in
    let same = c.deref.ensures.value in
    record {
      begun = one_epoch c.args.tracking (constants_of c.args.world.now) c.step_of-step.result c.loop-i.i receiver.point receiver.clock
          c.args.records.now c.args.cycles.now c.loop-i.out.items c.write_epoch.new.out.items sats c.loop-i.invariant.begun c.in_ok-sats.ensures
          (c.in_ok-write_epoch.ensures.written ∙ ap (λ (xs : List Signals). c.loop-i.out.items ++ epoch_text c.args.tracking (c.step_of-step.result * c.loop-i.i) xs) same);
      size = omega (arith, c.in_ok-write_epoch.ensures.size, ap (λ (xs : List Signals). length xs) same, c.in_ok-sats.ensures.as_many, c.requires.few, c.loop-i.invariant.size);
    }
