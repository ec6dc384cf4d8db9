use Rattle.std.proofs.Common.{◌≡◌, ap, ◌∙◌, arith, w64, of_z, to_z, pos, get_or, ◌-ℤ◌, ◌*ℤ◌}
use Rattle.std.specs.Int.{w128}
use Rattle.std.proofs.lemmas.Int.{ints, to_z-of_z}
use Rattle.file_jobs.specs.ZeroSums.{square}
use Rattle.file_jobs.proofs.Parts.{parts}
use Rattle.file_jobs.proofs.zero_best.sum_of.Goals as goal

pub diffs-preserved : goal.diffs-preserved
diffs-preserved c =
    let difference_bounds = parts c.diffs.rest.now c.in-len1-up.len_at_least c.diffs.invariant.small in
    let d = get_or c.diffs.rest.now 0 (pos 0) in
    let same_w : to_z w64 (of_z w64 c.args.w) ≡ c.args.w = to_z-of_z w64 c.args.w c.ranges.w in
    let same_left : to_z w128 (of_z w128 c.misfit-left.result) ≡ d -ℤ pos 60 *ℤ c.args.w =
    omega (arith, ints, difference_bounds.low, difference_bounds.high, c.misfit-left.ensures.value, c.misfit-left.ensures.low, c.misfit-left.ensures.high) in
    let added = c.square_of-square.ensures.value ∙ ap square same_left in
    let so_far = rw same_w at c.diffs.invariant.value in
    rw same_w (record {
      small = difference_bounds.small;
      value = omega (arith, ints, added, so_far, difference_bounds.value c.args.w, c.square_of-square.ensures.low, c.square_of-square.ensures.high);
      count = omega (arith, difference_bounds.count, c.diffs.invariant.count);
      low = omega (arith, ints, c.square_of-square.ensures.low, c.square_of-square.ensures.high);
      high = omega (arith, ints, difference_bounds.count, c.square_of-square.ensures.low, c.square_of-square.ensures.high);
    })
