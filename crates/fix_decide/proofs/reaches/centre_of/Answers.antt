use Rattle.std.proofs.Common.{◌≡◌, ◌^◌, ◌<◌, ℤ, ◌-ℤ◌, ◌*ℤ◌, unsigned_abs, to_z, of_z, arith, ap₂, ◌∙◌}
use Rattle.std.proofs.lemmas.Int.{ints}
use Rattle.std.specs.Int.{w64}
use Rattle.obs_rows.specs.Data.{number_at}
use Rattle.obs_rows.specs.Integers.{integer}
use Rattle.obs_rows.specs.Signals.{cycle}
use Rattle.whole_math.proofs.Words.{as_w64}
use Rattle.fix_decide.proofs.RowReachLaws.{centre_is}
use Rattle.fix_decide.proofs.reaches.centre_of.Goals as goal

pub centre_at-requires-clause-integer_size : goal.centre_at-requires-clause-integer_size
centre_at-requires-clause-integer_size c =
    let small : unsigned_abs c.integer_of-integer.result < 2 ^ 30 = c.integer_of-integer.ensures.size (2 ^ 30) c.requires.z_size (omega arith) in
    omega (arith, ints, small)

pub returns-clause-value : goal.returns-clause-value
returns-clause-value c =
    let signal = c.args.signal in
    let a : ℤ = c.rounded_product.result in
    let n : ℤ = c.integer_of-integer.result in
    let small : unsigned_abs n < 2 ^ 30 = c.integer_of-integer.ensures.size (2 ^ 30) c.requires.z_size (omega arith) in
    let same_integer : to_z w64 (of_z w64 n) ≡ integer c.args.arcs.now c.args.signals.now c.args.z.now c.args.row.now.arc signal = as_w64 n (omega (arith, small)) ∙ c.integer_of-integer.ensures.value in
    as_w64 c.centre_at.result (omega (arith, c.centre_at.ensures.size)) ∙ c.centre_at.ensures.value
    ∙ ap₂ (λ x y. (number_at c.args.row.now.y signal -ℤ x) -ℤ (cycle signal *ℤ y)) (as_w64 a (omega (arith, c.rounded_product.ensures.size)) ∙ c.rounded_product.ensures.value) same_integer
    ∙ centre_is c.args.arcs.now c.args.signals.now c.args.z.now c.args.moved.now signal c.args.row.now
