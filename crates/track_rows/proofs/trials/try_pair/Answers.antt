use Rattle.std.proofs.Common.{refl}
use Rattle.obs_rows.specs.Signals.{fine_signals}
use Rattle.session.proofs.RangeLaws.{no_shifts, none_unused}
use Rattle.track_rows.proofs.trials.try_pair.Goals as goal

pub coarse_rounds-requires-clause-begins : goal.coarse_rounds-requires-clause-begins
coarse_rounds-requires-clause-begins c =
    let kept = c.args.files.now.kept.now in
    let ready = c.requires.may.ready in
    record {
      fresh = refl;
      base_is = refl;
      arcs_are = refl;
      base_in = ready.position_in;
      shifts_in = no_shifts kept ready.unshifted;
      used = none_unused (fine_signals c.args.files.now.signals) kept ready.unshifted;
    }
