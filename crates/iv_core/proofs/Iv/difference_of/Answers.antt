use Rattle.std.proofs.Common.{arith, sym, subst₂}
use Rattle.std.proofs.lemmas.Int.{ints}
use Rattle.whole_math.specs.Rational.{Rational, InBox, ◌-ʳ◌}
use Rattle.iv_core.proofs.SumLaws.{sub_holds}
use Rattle.iv_core.proofs.Iv.difference_of.Goals as goal

pub returns-clause-lo : goal.returns-clause-lo
returns-clause-lo g c =
    let a = c.args.self.now in
    let b = c.args.other.now in
    let left_low_fits = a.low in let left_high_fits = a.high in let left_ordered = a.ordered in let right_low_fits = b.low in let right_high_fits = b.high in let right_ordered = b.ordered in
    let low_fits = c.requires.low in let high_fits = c.requires.high in
    omega (arith, ints, c.from_ends.ensures.lo)

pub returns-clause-hi : goal.returns-clause-hi
returns-clause-hi g c =
    let a = c.args.self.now in
    let b = c.args.other.now in
    let left_low_fits = a.low in let left_high_fits = a.high in let left_ordered = a.ordered in let right_low_fits = b.low in let right_high_fits = b.high in let right_ordered = b.ordered in
    let low_fits = c.requires.low in let high_fits = c.requires.high in
    omega (arith, ints, c.from_ends.ensures.hi)

pub returns-clause-holds : goal.returns-clause-holds
returns-clause-holds g c =
    let a = c.args.self.now in
    let b = c.args.other.now in
    subst₂ (λ l h. (x y : Rational) → InBox g.row.K a.lo a.hi x → InBox g.row.K b.lo b.hi y → InBox g.row.K l h (x -ʳ y)) (sym (returns-clause-lo g c)) (sym (returns-clause-hi g c))
    (sub_holds g.row.K a.lo a.hi b.lo b.hi)

pub returns-clause-width : goal.returns-clause-width
returns-clause-width g c =
    let a = c.args.self.now in
    let b = c.args.other.now in
    omega (arith, ints, returns-clause-lo g c, returns-clause-hi g c)
