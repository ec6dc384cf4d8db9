use Rattle.std.proofs.Common.{◌≡◌, ◌+◌}
use Rattle.obs_rows.specs.Signals.{fine_signals}
use Rattle.obs_rows.specs.Integers.{integer_count}
use Rattle.track_rows.specs.PairRules.{setting_of}
use Rattle.track_rows.specs.Walks.{IsWalk}
use Rattle.track_rows.proofs.walks.walked.Given as goal

abbrev pub invariant-loop-pair : goal.invariant-loop-pair
invariant-loop-pair l = record {
  walk : IsWalk (setting_of l.files) l.pair l.walk;
  room : l.room.front.columns ≡ 4 + integer_count l.files.kept.now (fine_signals l.files.signals);
}
