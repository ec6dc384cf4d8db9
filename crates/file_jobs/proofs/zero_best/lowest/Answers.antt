use Rattle.std.proofs.Common.{◌≡◌, ◌*◌, ℤ, pos, ◌-ℤ◌, arith, of_z, to_z, w64, length, subst}
use Rattle.std.proofs.lemmas.Int.{ints}
use Rattle.whole_math.specs.Rounding.{IsCeil}
use Rattle.file_jobs.specs.ZeroSums.{total}
use Rattle.file_jobs.proofs.Sums.{lowest_at}
use Rattle.file_jobs.proofs.zero_best.lowest.Goals as goal

pub returns-clause-lowest : goal.returns-clause-lowest
returns-clause-lowest c =
    let n = length c.args.diffs.now in
    let same_p : to_z w64 (of_z w64 c.lowest_place.result) ≡ c.lowest_place.result = omega (arith, ints, c.lowest_place.ensures.low, c.lowest_place.ensures.high) in
    let same_t : to_z w64 (of_z w64 c.total_of.result) ≡ total c.args.diffs.now = omega (arith, ints, c.total_of.ensures.value, c.total_of.ensures.low, c.total_of.ensures.high) in
    rw same_p (lowest_at c.args.diffs.now c.lowest_place.result (subst (λ (t : ℤ). IsCeil (t -ℤ pos (30 * n)) (60 * n) c.lowest_place.result) same_t c.lowest_place.ensures.place))
