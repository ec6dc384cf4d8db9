use Rattle.std.proofs.Common.{◌≡◌, ◌⊎◌, ⊎_elim, ℕ, ◌+◌, ◌^◌, ◌<◌, ◌≤◌, ℤ, pos, ◌≤ℤ◌, ◌<ℤ◌, arith, to_z, of_z, subst}
use Rattle.std.proofs.lemmas.Int.{to_z-of_z}
use Rattle.std.specs.Int.{w128}
use Rattle.whole_math.proofs.Order.{lins}
use Rattle.lower_form.proofs.rounding.exponent_of.Goals as goal

apart : (x y : ℤ) → x <ℤ y → y ≤ℤ x → ⊥
apart x y h g = omega (arith, lins)

side : (h k : ℕ) → (h ≤ k) ⊎ (k < h)
side h k = grind arith

pub returns-clause-least : goal.returns-clause-least
returns-clause-least c =
    let greatest_kept : to_z w128 (of_z w128 c.args.greatest) ≡ c.args.greatest = to_z-of_z w128 c.args.greatest c.ranges.greatest in
    λ k g. ⊎_elim (λ (i : c.loop-h.h ≤ k). i)
    (λ (i : k < c.loop-h.h). absurd (apart c.args.greatest (pos (2 ^ (50 + k))) g (subst (λ (z : ℤ). pos (2 ^ (50 + k)) ≤ℤ z) greatest_kept (c.loop-h.invariant.least k i))))
    (side c.loop-h.h k)
