use Rattle.std.proofs.Common.{◌≡◌, ℕ, ◌*◌, ◌/◌, ◌%◌, ◌-◌, ◌^◌, ◌≤◌, arith, ap, ◌∙◌, le_refl, mul-le-mul}
use Rattle.trig_box.proofs.sum_step.Goals as goal

-- four times a product over 2^64
quarter : (z i : ℕ) → z ≤ 2 ^ 60 → z * 4 % 2 ^ 64 * i / 2 ^ 64 ≡ z * i / 2 ^ 62
quarter z i h =
    let same_fourfold : z * 4 % 2 ^ 64 ≡ z * 4 = omega arith in
    let same_product : z * 4 * i ≡ z * i * 4 = omega arith in
    rw (same_fourfold, same_product) (part (z * i))
  where
    part : (p : ℕ) → p * 4 / 2 ^ 64 ≡ p / 2 ^ 62
    part p = omega arith

smaller : (z i k : ℕ) → z ≤ 2 ^ 60 → i ≤ k → z * 4 % 2 ^ 64 * i / 2 ^ 64 ≤ k
smaller z i k h g = let product_at_most : z * i ≤ 2 ^ 60 * i = mul-le-mul h (le_refl i) in rw (quarter z i h) (omega arith)

pub overflow_sub-result : goal.overflow_sub-result
overflow_sub-result g c = rw c.upper_half.ensures (smaller c.args.z c.args.inner g.row.COEFFICIENT c.requires.z_small c.requires.inner_small)

pub returns-clause-value : goal.returns-clause-value
returns-clause-value g c = ap (λ (q : ℕ). g.row.COEFFICIENT - q) (c.upper_half.ensures ∙ quarter c.args.z c.args.inner c.requires.z_small)
