use Rattle.std.proofs.Common.{◌≡◌, ◌++◌}
use Rattle.obs_store.specs.Seen.{seen_in}
use Rattle.report_text.specs.List.{satellite_lines}
use Rattle.report_text.proofs.list.write_satellites.Given as goal

abbrev pub invariant-loop-number : goal.invariant-loop-number
invariant-loop-number l = l.out.items ++ satellite_lines l.number-iterator ≡ l.fn.out.items ++ satellite_lines (seen_in l.file.epochs)
