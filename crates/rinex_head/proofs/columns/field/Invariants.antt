use Rattle.std.proofs.Common.{◌≡◌, ◌+◌, ◌<◌, ℕ, get_or, length}
use Rattle.rinex_head.specs.Columns.{column}
use Rattle.rinex_head.proofs.columns.field.Given as goal

abbrev pub invariant-loop-k : goal.invariant-loop-k
invariant-loop-k g l = record {
  so_far : (i : ℕ) → i < l.k → get_or l.bytes i 32 ≡ column l.line (l.first + i);
  as_many : length l.bytes ≡ g.row.N;
}
