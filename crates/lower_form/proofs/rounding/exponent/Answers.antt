use Rattle.std.proofs.Common.{ℕ, ◌+◌, ◌^◌, ℤ, pos, ◌≤ℤ◌, ◌<ℤ◌, arith, to_z, of_z, ◌≡◌, sym, subst}
use Rattle.std.proofs.lemmas.Int.{ints}
use Rattle.std.specs.Int.{w128}
use Rattle.whole_math.proofs.Order.{lins}
use Rattle.quadratic_form.specs.Tables.{entry}
use Rattle.lower_form.proofs.ExponentLaws.{own_below, own_of, power_above}
use Rattle.lower_form.proofs.rounding.exponent.Goals as goal

fits : (x : ℤ) → pos 0 ≤ℤ x → x <ℤ pos (2 ^ 126) → to_z w128 (of_z w128 x) ≡ x
fits x h g = omega (arith, ints)

below : (x y z : ℤ) → x ≤ℤ y → y <ℤ z → x <ℤ z
below x y z h g = omega (arith, lins)

pub returns-clause-least : goal.returns-clause-least
returns-clause-least c =
    let n : ℕ = c.args.normal.now.columns in
    let greatest : ℤ = c.greatest_own.result in
    let greatest_kept : to_z w128 (of_z w128 greatest) ≡ greatest = fits greatest c.greatest_own.ensures.from c.greatest_own.ensures.to in
    record {
      enough = own_below (entry c.args.normal.now.c) c.exponent_of.result 0 n (λ i a b. below _ greatest _ (c.greatest_own.ensures.above i (omega arith))
          (subst (λ (z : ℤ). z <ℤ pos (2 ^ (50 + c.exponent_of.result))) greatest_kept c.exponent_of.ensures.enough));
      least = λ k o. c.exponent_of.ensures.least k
          (subst (λ (z : ℤ). z <ℤ pos (2 ^ (50 + k))) (sym greatest_kept) (c.greatest_own.ensures.attained (pos (2 ^ (50 + k))) (power_above k)
          (λ i b. own_of (entry c.args.normal.now.c) k 0 n o i (omega arith) (omega arith))));
    }
