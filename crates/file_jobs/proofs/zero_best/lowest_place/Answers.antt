use Rattle.std.proofs.Common.{arith, of_z, to_z, pos, ◌*ℤ◌, unsigned_abs}
use Rattle.std.specs.Int.{w128}
use Rattle.std.proofs.lemmas.Int.{ints}
use Rattle.file_jobs.proofs.Sums.{ceil_same}
use Rattle.file_jobs.proofs.zero_best.lowest_place.Goals as goal

pub overflow_cast-result : goal.overflow_cast-result
overflow_cast-result c = omega (arith, ints, c.ceil.ensures.size)

pub returns-clause-place : goal.returns-clause-place
returns-clause-place c =
    ceil_same _ (unsigned_abs (to_z w128 (of_z w128 (pos 60 *ℤ to_z w128 c.args.count)))) c.ceil.result c.ceil.ensures.bounds (omega (arith, ints))
    (omega (arith, ints)) (omega (arith, ints, c.ceil.ensures.size))

pub returns-clause-low : goal.returns-clause-low
returns-clause-low c = omega (arith, ints, c.ceil.ensures.size)

pub returns-clause-high : goal.returns-clause-high
returns-clause-high c = omega (arith, ints, c.ceil.ensures.size)
