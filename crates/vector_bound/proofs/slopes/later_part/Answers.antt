use Rattle.std.proofs.Common.{◌≡◌, ◌+◌, ◌*◌, ◌^◌, ◌≤◌, ℕ, [], ◌∷◌, length, ℤ, pos, ◌+ℤ◌, ◌*ℤ◌, IfSome, unsigned_abs, refl, sym, ap, ◌∙◌, subst, arith}
use Rattle.std.proofs.lemmas.Option.{IfSome_then}
use Rattle.whole_math.proofs.Ring.{◌⊗◌}
use Rattle.whole_math.proofs.Inequalities.{same_by, nat}
use Rattle.whole_math.proofs.Order.{abs_mul_le}
use Rattle.std.specs.Int.{w128}
use Rattle.std.proofs.lemmas.Int.{to_z-of_z}
use Rattle.quadratic_form.specs.Tables.{entry}
use Rattle.vector_bound.proofs.Words.{word, sum_size}
use Rattle.vector_bound.proofs.slopes.later_part.Goals as goal

pub returns-clause-value : goal.returns-clause-value
returns-clause-value c =
    let integers_word : word c.in_ok-integers.integers ≡ c.in_ok-integers.integers = to_z-of_z w128 c.in_ok-integers.integers c.in_ok-integers.ensures.fits in
    let sum_word : word c.in_ok-sum.sum ≡ c.in_ok-sum.sum = to_z-of_z w128 c.in_ok-sum.sum c.in_ok-sum.ensures.fits in
    subst (λ (x : ℤ). IfSome c.in_units.result (λ s. s ≡ x)) (ap (λ x. x *ℤ pos 65536) (sum_word ∙ c.in_ok-sum.ensures.value
    ∙ ap (λ x. x +ℤ entry c.args.normal.now.c c.args.j (3 + length c.args.z.now) *ℤ pos 1) (integers_word ∙ c.in_ok-integers.ensures.value))) c.in_units.ensures.value

once : (x : ℤ) → unsigned_abs x ≤ 2 ^ 96 → unsigned_abs (x *ℤ pos 1) ≤ 2 ^ 96
once x h = subst (λ (y : ℤ). unsigned_abs y ≤ 2 ^ 96) (sym (same_by (x ∷ []) (λ x. (x ⊗ nat 1, x)) refl)) h

-- the integers' part and the constant's
both : (s a w x : ℤ) → s ≡ w +ℤ x *ℤ pos 1 → w ≡ a → unsigned_abs a ≤ 60 * 2 ^ 96 → unsigned_abs x ≤ 2 ^ 96 → unsigned_abs s ≤ 2 ^ 102
both s a w x e f h k = subst (λ (y : ℤ). unsigned_abs y ≤ 2 ^ 102) (sym e) (within (unsigned_abs (w +ℤ x *ℤ pos 1))
    (sum_size w (x *ℤ pos 1) (60 * 2 ^ 96) (2 ^ 96) (subst (λ (y : ℤ). unsigned_abs y ≤ 60 * 2 ^ 96) (sym f) h) (once x k)))
  where
    within : (a : ℕ) → a ≤ 60 * 2 ^ 96 + 2 ^ 96 → a ≤ 2 ^ 102
    within a h = omega (arith, h)

wide : (a : ℕ) → a ≤ 60 * 2 ^ 96 → a ≤ 2 ^ 120
wide a h = omega (arith, h)

one_term : (a : ℕ) → a ≤ 2 ^ 96 → a ≤ 2 ^ 118
one_term a h = omega (arith, h)

pub returns-in_err-integers-clause-none : goal.returns-in_err-integers-clause-none
returns-in_err-integers-clause-none c = λ none m t. c.in_err-integers.ensures.none refl m t

pub returns-in_err-sum-clause-none : goal.returns-in_err-sum-clause-none
returns-in_err-sum-clause-none c =
    let integers_word : word c.in_ok-integers.integers ≡ c.in_ok-integers.integers = to_z-of_z w128 c.in_ok-integers.integers c.in_ok-integers.ensures.fits in
    λ none m t. c.in_err-sum.ensures.none refl (subst (λ (x : ℤ). unsigned_abs x ≤ 2 ^ 120) (sym integers_word) (wide (unsigned_abs c.in_ok-integers.integers) (c.in_ok-integers.ensures.small m t)))
    (one_term _ (once (entry c.args.normal.now.c c.args.j (3 + length c.args.z.now)) t.constant))

pub returns-clause-none : goal.returns-clause-none
returns-clause-none c =
    let integers_word : word c.in_ok-integers.integers ≡ c.in_ok-integers.integers = to_z-of_z w128 c.in_ok-integers.integers c.in_ok-integers.ensures.fits in
    let sum_word : word c.in_ok-sum.sum ≡ c.in_ok-sum.sum = to_z-of_z w128 c.in_ok-sum.sum c.in_ok-sum.ensures.fits in
    λ none m t. c.in_units.ensures.none none (subst (λ (x : ℤ). unsigned_abs x ≤ 2 ^ 110) (sym sum_word) (more (unsigned_abs c.in_ok-sum.sum)
    (both c.in_ok-sum.sum c.in_ok-integers.integers (word c.in_ok-integers.integers) (entry c.args.normal.now.c c.args.j (3 + length c.args.z.now)) c.in_ok-sum.ensures.value integers_word (c.in_ok-integers.ensures.small m t) t.constant)))
  where
    more : (a : ℕ) → a ≤ 2 ^ 102 → a ≤ 2 ^ 110
    more a h = omega (arith, h)

pub returns-clause-small : goal.returns-clause-small
returns-clause-small c =
    let integers_word : word c.in_ok-integers.integers ≡ c.in_ok-integers.integers = to_z-of_z w128 c.in_ok-integers.integers c.in_ok-integers.ensures.fits in
    let sum_word : word c.in_ok-sum.sum ≡ c.in_ok-sum.sum = to_z-of_z w128 c.in_ok-sum.sum c.in_ok-sum.ensures.fits in
    λ m t. IfSome_then c.in_units.result c.in_units.ensures.value (λ s e. in_units s (word c.in_ok-sum.sum) c.in_ok-sum.sum e sum_word
    (both c.in_ok-sum.sum c.in_ok-integers.integers (word c.in_ok-integers.integers) (entry c.args.normal.now.c c.args.j (3 + length c.args.z.now)) c.in_ok-sum.ensures.value integers_word (c.in_ok-integers.ensures.small m t) t.constant))
  where
    in_units : (s w x : ℤ) → s ≡ w *ℤ pos (2 ^ 16) → w ≡ x → unsigned_abs x ≤ 2 ^ 102 → unsigned_abs s ≤ 2 ^ 118
    in_units s w x e f h = subst (λ (y : ℤ). unsigned_abs y ≤ 2 ^ 118) (sym (e ∙ ap (λ y. y *ℤ pos (2 ^ 16)) f)) (abs_mul_le x (pos (2 ^ 16)) (2 ^ 102) (2 ^ 16) h (omega arith))
