use Rattle.std.proofs.Common.{◌≡◌, ◌++◌, drop}
use Rattle.track_job.specs.TrackTexts.{lost_lines}
use Rattle.track_job.proofs.lost.push_lost_lines.Given as goal

abbrev pub invariant-loop-one : goal.invariant-loop-one
invariant-loop-one l = l.text.items ++ lost_lines (drop l.one-index l.lost) ≡ l.fn.text.items ++ lost_lines l.lost
