use Rattle.std.proofs.Common.{arith}
use Rattle.std.proofs.lemmas.Int.{ints}
use Rattle.file_jobs.proofs.Parts.{parts}
use Rattle.file_jobs.proofs.zero_best.total_of.Goals as goal

pub diffs-preserved : goal.diffs-preserved
diffs-preserved c =
    let difference_bounds = parts c.diffs.rest.now c.in-len1-up.len_at_least c.diffs.invariant.small in
    record {
      small = difference_bounds.small;
      value = omega (arith, ints, difference_bounds.low, difference_bounds.high, difference_bounds.sum, difference_bounds.count);
      count = omega (arith, difference_bounds.count, c.diffs.invariant.count);
      low = omega (arith, ints, difference_bounds.count, difference_bounds.low, difference_bounds.high);
      high = omega (arith, ints, difference_bounds.count, difference_bounds.low, difference_bounds.high);
    }
