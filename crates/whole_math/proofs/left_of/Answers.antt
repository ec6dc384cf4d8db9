use Rattle.std.proofs.Common.{◌≡◌, ℤ, pos, ◌+◌, ◌-◌, ◌*◌, ◌%◌, ◌^◌, ◌+ℤ◌, ◌-ℤ◌, ◌*ℤ◌, ◌≤ℤ◌, ◌<ℤ◌, FitsSigned, unsigned_abs, to_z, of_z, arith, sym, ap, ap₂, ◌∙◌, subst}
use Rattle.std.proofs.lemmas.Int.{ints, to_z-of_z, wrapping_sub-bits, wrapping_mul_is, int_wrap-sub_right, int_wrap_fits}
use Rattle.std.specs.Int.{w128, int_wrap}
use Rattle.whole_math.proofs.Absolute.{pos_abs}
use Rattle.whole_math.proofs.Order.{lins}
use Rattle.whole_math.specs.Rounding.{IsFloor}
use Rattle.whole_math.proofs.left_of.Goals as goal

-- what the wrapping steps give is the difference itself where that fits
difference : (n d m : ℤ) → FitsSigned w128 n → FitsSigned w128 d → FitsSigned w128 m → FitsSigned w128 (n -ℤ (d *ℤ m)) →
    to_z w128 ((of_z w128 n + (2 ^ 128 - of_z w128 d * of_z w128 m % 2 ^ 128)) % 2 ^ 128) ≡ n -ℤ (d *ℤ m)
difference n d m fn fd fm fr =
    wrapping_sub-bits w128 (of_z w128 n) (of_z w128 d * of_z w128 m % 2 ^ 128) (omega (arith, ints)) (omega arith)
    ∙ ap₂ (λ a b. int_wrap w128 (a -ℤ b)) (to_z-of_z w128 n fn) (wrapping_mul_is w128 d m fd fm)
    ∙ int_wrap-sub_right w128 n (d *ℤ m)
    ∙ int_wrap_fits w128 (n -ℤ (d *ℤ m)) fr

-- the difference is from 0 to m
from_floor : (n p m k : ℤ) → k ≡ m → p ≤ℤ n → n <ℤ (p +ℤ k) → (n ≡ p +ℤ (n -ℤ p)) × (pos 0 ≤ℤ (n -ℤ p)) × ((n -ℤ p) <ℤ m)
from_floor n p m k e l h = (omega (arith, lins), omega (arith, lins), omega (arith, lins))

left : (n d m : ℤ) → FitsSigned w128 n → FitsSigned w128 d → FitsSigned w128 m → pos 0 <ℤ m → IsFloor n (unsigned_abs m) d →
    let rest : ℤ = to_z w128 ((of_z w128 n + (2 ^ 128 - of_z w128 d * of_z w128 m % 2 ^ 128)) % 2 ^ 128) in
    (n ≡ (d *ℤ m) +ℤ rest) × (pos 0 ≤ℤ rest) × (rest <ℤ m)
left n d m fn fd fm h b =
    let divisor_is_size : pos (unsigned_abs m) ≡ m = pos_abs m (omega (arith, lins)) in
    let same_product : d *ℤ pos (unsigned_abs m) ≡ d *ℤ m = ap (λ x. d *ℤ x) divisor_is_size in
    let product_at_most : (d *ℤ m) ≤ℤ n = omega (arith, lins, b.0) in
    let below_next_product : n <ℤ (d *ℤ m +ℤ pos (unsigned_abs m)) = omega (arith, lins, b.1) in
    let rest_within = from_floor n (d *ℤ m) m (pos (unsigned_abs m)) divisor_is_size product_at_most below_next_product in
    let rest_fits : FitsSigned w128 (n -ℤ (d *ℤ m)) = fits_between (n -ℤ (d *ℤ m)) m rest_within.1 rest_within.2 fm in
    subst (λ (r : ℤ). (n ≡ (d *ℤ m) +ℤ r) × (pos 0 ≤ℤ r) × (r <ℤ m)) (sym (difference n d m fn fd fm rest_fits)) rest_within
  where
    fits_between : (r m : ℤ) → pos 0 ≤ℤ r → r <ℤ m → FitsSigned w128 m → FitsSigned w128 r
    fits_between r m l h f = omega (arith, ints)

pub returns-clause-value : goal.returns-clause-value
returns-clause-value c = (left c.args.n c.args.down c.args.m c.ranges.n c.ranges.down c.ranges.m c.requires.positive c.requires.down).0

pub returns-clause-low : goal.returns-clause-low
returns-clause-low c = (left c.args.n c.args.down c.args.m c.ranges.n c.ranges.down c.ranges.m c.requires.positive c.requires.down).1

pub returns-clause-high : goal.returns-clause-high
returns-clause-high c = (left c.args.n c.args.down c.args.m c.ranges.n c.ranges.down c.ranges.m c.requires.positive c.requires.down).2
