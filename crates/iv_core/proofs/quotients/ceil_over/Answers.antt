use Rattle.std.proofs.Common.{◌≡◌, ℕ, ◌^◌, ℤ, pos, ◌*ℤ◌, ◌-ℤ◌, neg_ℤ, arith, ap, ap₂, ◌∙◌, unsigned_abs, to_z, of_z}
use Rattle.std.proofs.lemmas.Int.{ints, to_z-of_z}
use Rattle.std.specs.Int.{w64, w128}
use Rattle.whole_math.proofs.IntLaws.{neg_mul_ℤ}
use Rattle.whole_math.specs.Rounding.{floor_div}
use Rattle.iv_core.proofs.quotients.ceil_over.Goals as goal

pub returns : goal.returns
returns c =
    let p : ℕ = 2 ^ c.args.shift in
    let x = c.floor_over in
    let negated_is : to_z w64 (of_z w64 (pos 0 -ℤ to_z w64 (of_z w64 c.args.a))) ≡ neg_ℤ c.args.a = omega (arith, ints, c.requires.a_size) in
    let same_divisor : to_z w64 (of_z w64 c.args.c) ≡ c.args.c = to_z-of_z w64 c.args.c c.ranges.c in
    let floor_is : x.result ≡ floor_div (neg_ℤ (c.args.a *ℤ pos p)) (unsigned_abs c.args.c) =
    x.ensures.value ∙ ap₂ (λ (x y : ℤ). floor_div (x *ℤ pos p) (unsigned_abs y)) negated_is same_divisor
    ∙ ap (λ z. floor_div z (unsigned_abs c.args.c)) (neg_mul_ℤ c.args.a (pos p)) in
    let negated_result_is : to_z w128 (of_z w128 (pos 0 -ℤ to_z w128 (of_z w128 x.result))) ≡ neg_ℤ x.result = omega (arith, ints, x.ensures.size) in
    negated_result_is ∙ ap neg_ℤ floor_is
