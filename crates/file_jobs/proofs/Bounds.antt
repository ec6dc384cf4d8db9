-- The numbers of a file are small.
use Rattle.std.proofs.Common.{◌≤◌, ℤ, List, [], ◌∷◌, All, arith}
use Rattle.std.proofs.lemmas.Int.{ints}
use Rattle.std.proofs.lemmas.List.Elements.{All-head, All-tail}
use Rattle.decimal_text.specs.Whole.{size_of}
use Rattle.file_jobs.specs.ZeroSums.{AreSmall}
use Rattle.file_jobs.proofs.Sizes.{at_least, at_most}

pub small_diffs : (ds : List ℤ) → All (λ d. size_of d ≤ 1000000000) ds → AreSmall ds
small_diffs [] h = tt
small_diffs (d ∷ ds) h =
    let first = All-head (λ e. size_of e ≤ 1000000000) d ds h in
    let low = at_least d 1000000000 first in
    let high = at_most d 1000000000 first in
    (omega (arith, ints, low), omega (arith, ints, high), small_diffs ds (All-tail (λ e. size_of e ≤ 1000000000) d ds h))
