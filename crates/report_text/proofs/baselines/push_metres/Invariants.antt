use Rattle.std.proofs.Common.{◌≡◌, ◌++◌, drop}
use Rattle.report_text.specs.Baselines.{metres_behind_blanks}
use Rattle.report_text.proofs.baselines.push_metres.Given as goal

abbrev pub invariant-loop-length : goal.invariant-loop-length
invariant-loop-length l = l.text.items ++ metres_behind_blanks (drop l.length-index l.lengths) ≡ l.fn.text.items ++ metres_behind_blanks l.lengths
