use Rattle.std.proofs.Common.{◌≡◌, ◌+ℤ◌, ◌*ℤ◌, sym, ap, ◌∙◌, to_z, of_z, arith, unsigned_abs}
use Rattle.std.proofs.lemmas.Int.{to_z-of_z}
use Rattle.std.specs.Int.{w128, int_rem_euclid}
use Rattle.whole_math.proofs.Quotients.{remainder_is}
use Rattle.whole_math.specs.Rounding.{floor_div}
use Rattle.whole_math.proofs.remainder.Goals as goal

pub returns-clause-value : goal.returns-clause-value
returns-clause-value c =
    let same_remainder : to_z w128 (of_z w128 c.rem_euclid.result) ≡ int_rem_euclid c.args.n c.args.m = grind (arith, to_z-of_z) in
    remainder_is c.args.n c.args.m c.requires.positive ∙ ap (λ x. (floor_div c.args.n (unsigned_abs c.args.m) *ℤ c.args.m) +ℤ x) (sym same_remainder)
