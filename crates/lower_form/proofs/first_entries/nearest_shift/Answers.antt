use Rattle.std.proofs.Common.{◌≡◌, ℕ, ◌+◌, ◌*◌, ◌^◌, ◌≤◌, ℤ, pos, ◌+ℤ◌, ◌*ℤ◌, ◌≤ℤ◌, unsigned_abs, to_z, of_z, arith, sym, ap, ap₂, ◌∙◌, subst, pow_pos, add-one}
use Rattle.std.proofs.Math.Nat.{pow-succ'}
use Rattle.std.proofs.lemmas.Int.{ints, to_z-of_z}
use Rattle.std.specs.Int.{w128}
use Rattle.whole_math.proofs.Words.{as_w128}
use Rattle.whole_math.specs.Rounding.{floor_div, nearest_div}
use Rattle.whole_math.proofs.Rounding.{nearest_size}
use Rattle.lower_form.proofs.first_entries.nearest_shift.Goals as goal

-- half a unit is added before the rounding downward
nearest_of : (z x : ℤ) (s : ℕ) → x ≡ (pos 2 *ℤ z) +ℤ pos (2 ^ s) → floor_div x (2 ^ (s + 1)) ≡ nearest_div z (2 ^ s)
nearest_of z x s e = ap (λ (y : ℤ). floor_div y (2 ^ (s + 1))) e ∙ ap (λ (m : ℕ). floor_div ((pos 2 *ℤ z) +ℤ pos (2 ^ s)) m) (ap (λ (k : ℕ). 2 ^ k) (add-one s) ∙ pow-succ' 2 s)

unit_word : (x : ℤ) → pos 0 ≤ℤ x → x ≤ℤ pos (2 ^ 90) → to_z w128 (of_z w128 x) ≡ x
unit_word x h g = as_w128 x (small x h g)
  where
    small : (x : ℤ) → pos 0 ≤ℤ x → x ≤ℤ pos (2 ^ 90) → unsigned_abs x ≤ 2 ^ 126
    small x h g = omega (arith, ints)

sum_word : (z u x : ℤ) → unsigned_abs z ≤ 63 * 2 ^ 120 → pos 0 ≤ℤ u → u ≤ℤ pos (2 ^ 90) → x ≡ (pos 2 *ℤ z) +ℤ u → to_z w128 (of_z w128 x) ≡ x
sum_word z u x h l g e = omega (arith, ints, h, l, g, e)

pub returns-clause-value : goal.returns-clause-value
returns-clause-value c =
    let entry_kept : to_z w128 (of_z w128 c.args.entry) ≡ c.args.entry = to_z-of_z w128 c.args.entry c.ranges.entry in
    let unit : to_z w128 (of_z w128 c.power_of_two.result) ≡ c.power_of_two.result = unit_word c.power_of_two.result c.power_of_two.ensures.from c.power_of_two.ensures.to in
    let sum : c.twice_and_one.result ≡ (pos 2 *ℤ c.args.entry) +ℤ c.power_of_two.result = c.twice_and_one.ensures ∙ ap₂ (λ (x y : ℤ). (pos 2 *ℤ x) +ℤ y) entry_kept unit in
    let word : to_z w128 (of_z w128 c.twice_and_one.result) ≡ c.twice_and_one.result =
    sum_word c.args.entry c.power_of_two.result c.twice_and_one.result c.requires.size c.power_of_two.ensures.from c.power_of_two.ensures.to sum in
    let value : c.floor_shift.result ≡ nearest_div c.args.entry (2 ^ c.args.shift) =
    c.floor_shift.ensures.value ∙ nearest_of c.args.entry _ c.args.shift (word ∙ sum ∙ ap (λ (m : ℤ). (pos 2 *ℤ c.args.entry) +ℤ m) c.power_of_two.ensures.value) in
    as_w128 c.floor_shift.result (subst (λ (x : ℤ). unsigned_abs x ≤ 2 ^ 126) (sym value)
    (wider (unsigned_abs (nearest_div c.args.entry (2 ^ c.args.shift))) (unsigned_abs c.args.entry) (nearest_size c.args.entry (2 ^ c.args.shift) (pow_pos c.args.shift)) c.requires.size)) ∙ value
  where
    wider : (a b : ℕ) → a ≤ b → b ≤ 63 * 2 ^ 120 → a ≤ 2 ^ 126
    wider a b h g = omega (arith, h, g)

pub returns-clause-size : goal.returns-clause-size
returns-clause-size c = subst (λ (x : ℤ). unsigned_abs x ≤ unsigned_abs c.args.entry) (sym (returns-clause-value c)) (nearest_size c.args.entry (2 ^ c.args.shift) (pow_pos c.args.shift))
