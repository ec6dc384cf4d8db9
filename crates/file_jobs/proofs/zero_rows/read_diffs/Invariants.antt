use Rattle.std.proofs.Common.{◌≡◌, ◌≤◌, ℤ, length, vec_len, All}
use Rattle.decimal_text.specs.Whole.{size_of}
use Rattle.rinex_head.specs.LineRules.{rest_gives}
use Rattle.file_jobs.specs.ZeroRows.{rows}
use Rattle.file_jobs.specs.ZeroRules.{Diff, claimed, rows_rules}
use Rattle.file_jobs.proofs.zero_rows.read_diffs.Given as goal

abbrev pub invariant-lines : goal.invariant-lines
invariant-lines l = record {
  reads : (z : ℤ) → rest_gives rows_rules l.fn.lines (claimed z) ≡ rest_gives rows_rules l.lines (Diff (rows z l.diffs.items));
  in_range : All (λ d. size_of d ≤ 1000000000) l.diffs.items;
  few : vec_len l.diffs ≤ 1000;
}

abbrev pub decreases-lines : goal.decreases-lines
decreases-lines l = length l.lines.left
