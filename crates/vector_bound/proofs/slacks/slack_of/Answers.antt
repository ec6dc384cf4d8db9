use Rattle.std.proofs.Common.{◌≡◌, ◌^◌, ◌≤◌, ℤ, pos, ◌+ℤ◌, ◌*ℤ◌, ◌≤ℤ◌, unsigned_abs, FitsSigned, refl, sym, ap, ap₂, ◌∙◌, subst, arith}
use Rattle.std.specs.Int.{w128}
use Rattle.std.proofs.lemmas.Int.{ints, to_z-of_z}
use Rattle.whole_math.specs.Rounding.{ceil_div}
use Rattle.vector_bound.proofs.Words.{word, word_of}
use Rattle.vector_bound.proofs.slacks.slack_of.Goals as goal

wider : (x y : ℤ) → unsigned_abs x ≤ unsigned_abs y → unsigned_abs y ≤ 2 ^ 122 → unsigned_abs x ≤ 2 ^ 122
wider x y h k = omega (arith, h, k)

pub returns-clause-value : goal.returns-clause-value
returns-clause-value c =
    let squares : word c.args.squares ≡ c.args.squares = to_z-of_z w128 c.args.squares c.ranges.squares in
    let size : unsigned_abs c.ceil_shift.result ≤ 2 ^ 122 = wider c.ceil_shift.result (word c.args.squares) c.ceil_shift.ensures.size (subst (λ (x : ℤ). unsigned_abs x ≤ 2 ^ 122) (sym squares) c.requires.squares) in
    let whole : word c.in_ok-whole.whole ≡ c.in_ok-whole.whole = to_z-of_z w128 c.in_ok-whole.whole c.in_ok-whole.ensures.fits in
    whole ∙ c.in_ok-whole.ensures.value ∙ ap₂ (λ x y. x +ℤ y *ℤ pos 16) (word_of c.ceil_shift.result (2 ^ 122) (omega arith) size ∙ c.ceil_shift.ensures.value ∙ ap (λ x. ceil_div x (2 ^ c.args.h)) squares)
    (to_z-of_z w128 c.args.top c.ranges.top)

part_fits : (a b : ℤ) → unsigned_abs a ≤ 2 ^ 122 → pos 0 ≤ℤ (a +ℤ b) → (a +ℤ b) ≤ℤ pos (2 ^ 126) → FitsSigned w128 b
part_fits a b h from to = omega (arith, ints, h, from, to)

whole_fits : (x : ℤ) → pos 0 ≤ℤ x → x ≤ℤ pos (2 ^ 126) → FitsSigned w128 x
whole_fits x from to = omega (arith, ints, from, to)

pub returns-in_err-whole-clause-none : goal.returns-in_err-whole-clause-none
returns-in_err-whole-clause-none c =
    let squares : word c.args.squares ≡ c.args.squares = to_z-of_z w128 c.args.squares c.ranges.squares in
    let top : word c.args.top ≡ c.args.top = to_z-of_z w128 c.args.top c.ranges.top in
    let size : unsigned_abs c.ceil_shift.result ≤ 2 ^ 122 = wider c.ceil_shift.result (word c.args.squares) c.ceil_shift.ensures.size (subst (λ (x : ℤ). unsigned_abs x ≤ 2 ^ 122) (sym squares) c.requires.squares) in
    let ceil_is : c.ceil_shift.result ≡ ceil_div c.args.squares (2 ^ c.args.h) = c.ceil_shift.ensures.value ∙ ap (λ x. ceil_div x (2 ^ c.args.h)) squares in
    let ceil_word : word c.ceil_shift.result ≡ ceil_div c.args.squares (2 ^ c.args.h) = word_of c.ceil_shift.result (2 ^ 122) (omega arith) size ∙ ceil_is in
    λ none from to. c.in_err-whole.ensures.none refl
    (subst (λ (x : ℤ). FitsSigned w128 (x *ℤ pos 16)) (sym top) (part_fits (ceil_div c.args.squares (2 ^ c.args.h)) (c.args.top *ℤ pos 16) (subst (λ (x : ℤ). unsigned_abs x ≤ 2 ^ 122) ceil_is size) from to))
    (subst (λ (x : ℤ). FitsSigned w128 x) (sym (ap₂ (λ x y. x +ℤ y *ℤ pos 16) ceil_word top)) (whole_fits (ceil_div c.args.squares (2 ^ c.args.h) +ℤ c.args.top *ℤ pos 16) from to))
