use Rattle.std.proofs.Common.{◌≡◌, ◌*◌, ◌^◌, ◌≤◌, ℤ, [], ◌∷◌, ◌+ℤ◌, ◌-ℤ◌, ◌*ℤ◌, refl, arith, ap, ap₂, ◌∙◌, to_z, of_z, unsigned_abs}
use Rattle.std.proofs.lemmas.Int.{ints, to_z-of_z}
use Rattle.std.specs.Int.{w64}
use Rattle.whole_math.proofs.Ring.{ring, va, ◌⊕◌, ◌⊖◌, ◌⊗◌}
use Rattle.whole_math.specs.Rounding.{floor_div}
use Rattle.trig_box.proofs.Casts.{wide_is, narrow_fits, narrow_is}
use Rattle.trig_box.proofs.double_cos.Goals as goal

sum_is : (x y c s : ℤ) → x ≡ c → y ≡ s → unsigned_abs (c +ℤ s) ≤ 3 * 2 ^ 61 → to_z w64 (of_z w64 (x +ℤ y)) ≡ c +ℤ s
sum_is x y c s e f h = omega (arith, ints)

less_is : (x y c s : ℤ) → x ≡ c → y ≡ s → unsigned_abs (c -ℤ s) ≤ 3 * 2 ^ 61 → to_z w64 (of_z w64 (x -ℤ y)) ≡ c -ℤ s
less_is x y c s e f h = omega (arith, ints)

squares : (c s : ℤ) → (c +ℤ s) *ℤ (c -ℤ s) ≡ (c *ℤ c) -ℤ (s *ℤ s)
squares c s = ring (c ∷ s ∷ []) ((va 0 ⊕ va 1) ⊗ (va 0 ⊖ va 1)) ((va 0 ⊗ va 0) ⊖ (va 1 ⊗ va 1)) refl

value : (c : goal.After-floor_shift) → c.floor_shift.result ≡ floor_div ((c.args.c *ℤ c.args.c) -ℤ (c.args.s *ℤ c.args.s)) (2 ^ 62)
value c =
    let same_cosine : to_z w64 (of_z w64 c.args.c) ≡ c.args.c = to_z-of_z w64 c.args.c c.ranges.c in
    let same_sine : to_z w64 (of_z w64 c.args.s) ≡ c.args.s = to_z-of_z w64 c.args.s c.ranges.s in
    let sum_is_exact = sum_is _ _ c.args.c c.args.s same_cosine same_sine c.requires.sum_size in
    let difference_is_exact = less_is _ _ c.args.c c.args.s same_cosine same_sine c.requires.difference_size in
    let product_is_exact = wide_is c.product.result ((c.args.c *ℤ c.args.c) -ℤ (c.args.s *ℤ c.args.s)) c.product.ensures.size
    (c.product.ensures.value ∙ ap₂ (λ x y. x *ℤ y) sum_is_exact difference_is_exact ∙ squares c.args.c c.args.s) in
    c.floor_shift.ensures.value ∙ ap (λ z. floor_div z (2 ^ 62)) product_is_exact

pub overflow_cast-result : goal.overflow_cast-result
overflow_cast-result c = narrow_fits c.floor_shift.result (floor_div ((c.args.c *ℤ c.args.c) -ℤ (c.args.s *ℤ c.args.s)) (2 ^ 62)) (value c) c.requires.size

pub returns : goal.returns
returns c = narrow_is c.floor_shift.result (floor_div ((c.args.c *ℤ c.args.c) -ℤ (c.args.s *ℤ c.args.s)) (2 ^ 62)) (value c) c.requires.size
