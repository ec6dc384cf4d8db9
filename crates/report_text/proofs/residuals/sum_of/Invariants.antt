use Rattle.std.proofs.Common.{◌≡◌, ◌*◌, ◌^◌, ◌≤◌, drop, map, ◌+ℤ◌, unsigned_abs}
use Rattle.whole_math.specs.Vectors.{sum}
use Rattle.fix_decide.specs.UpperSums.{centre}
use Rattle.report_text.proofs.residuals.sum_of.Given as goal

abbrev pub invariant-loop-row : goal.invariant-loop-row
invariant-loop-row l = record {
  value : l.sum +ℤ sum (map (centre l.arcs l.signals l.z l.moved l.signal) (drop l.row-index l.rows)) ≡ sum (map (centre l.arcs l.signals l.z l.moved l.signal) l.rows);
  size : unsigned_abs l.sum ≤ l.row-index * 2 ^ 57;
}
