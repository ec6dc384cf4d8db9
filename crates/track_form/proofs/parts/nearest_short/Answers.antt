use Rattle.std.proofs.Common.{◌≡◌, ℕ, suc, ◌+◌, ◌^◌, ◌≤◌, ℤ, pos, ◌+ℤ◌, ◌*ℤ◌, unsigned_abs, to_z, of_z, arith, ap, ap₂, ◌∙◌, subst}
use Rattle.std.proofs.Math.Nat.{pow-succ'}
use Rattle.std.proofs.lemmas.Int.{to_z-of_z}
use Rattle.std.specs.Int.{w64}
use Rattle.whole_math.proofs.Words.{as_w64}
use Rattle.whole_math.specs.Rounding.{floor_div, nearest_div}
use Rattle.track_form.proofs.parts.nearest_short.Goals as goal

-- half a unit is added before the rounding downward
nearest_of : (z x : ℤ) (s : ℕ) → x ≡ (pos 2 *ℤ z) +ℤ pos (2 ^ s) → floor_div x (2 ^ (s + 1)) ≡ nearest_div z (2 ^ s)
nearest_of z x s e = ap (λ (y : ℤ). floor_div y (2 ^ (s + 1))) e ∙ ap (λ (m : ℕ). floor_div ((pos 2 *ℤ z) +ℤ pos (2 ^ s)) m) (ap (λ (k : ℕ). 2 ^ k) (next s) ∙ pow-succ' 2 s)
  where
    next : (s : ℕ) → s + 1 ≡ suc s
    next s = omega arith

pub returns-clause-value : goal.returns-clause-value
returns-clause-value c =
    let z : to_z w64 (of_z w64 c.args.entry) ≡ c.args.entry = to_z-of_z w64 c.args.entry c.ranges.entry in
    let unit : to_z w64 (of_z w64 c.short_power.result) ≡ c.short_power.result = as_w64 c.short_power.result (omega (arith, c.short_power.ensures.size)) in
    let sum : c.twice_and_unit.result ≡ (pos 2 *ℤ c.args.entry) +ℤ c.short_power.result = c.twice_and_unit.ensures.value ∙ ap₂ (λ (x y : ℤ). (pos 2 *ℤ x) +ℤ y) z unit in
    let word : to_z w64 (of_z w64 c.twice_and_unit.result) ≡ c.twice_and_unit.result = as_w64 c.twice_and_unit.result (omega (arith, c.twice_and_unit.ensures.size)) in
    let size : unsigned_abs c.floor_short.result ≤ unsigned_abs c.twice_and_unit.result = subst (λ (z : ℤ). unsigned_abs c.floor_short.result ≤ unsigned_abs z) word c.floor_short.ensures.size in
    as_w64 c.floor_short.result (omega (arith, size, c.twice_and_unit.ensures.size)) ∙ c.floor_short.ensures.value ∙ nearest_of c.args.entry _ c.args.shift (word ∙ sum ∙ ap (λ (m : ℤ). (pos 2 *ℤ c.args.entry) +ℤ m) c.short_power.ensures.value)
