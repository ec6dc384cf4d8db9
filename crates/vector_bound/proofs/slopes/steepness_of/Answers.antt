use Rattle.std.proofs.Common.{◌≡◌, ◌+◌, ◌^◌, ◌≤◌, ℕ, ℤ, pos, ◌+ℤ◌, ◌≤ℤ◌, ◌<ℤ◌, unsigned_abs, sym, ap, ◌∙◌, subst, arith}
use Rattle.std.proofs.lemmas.Int.{ints}
use Rattle.whole_math.specs.Rounding.{ceil_div}
use Rattle.fix_decide.proofs.Radii.{ceil_nonneg}
use Rattle.vector_bound.proofs.Words.{word, word_of, sum_word, sum_size}
use Rattle.vector_bound.proofs.slopes.steepness_of.Goals as goal
use Rattle.vector_bound.proofs.slopes.steepness_of.Goals.{then-l-lt0-via-then-l-lt0, then-l-lt0-via-else-l-lt0+then-l-gt-MOST_SLOPES}

in_size : (x : ℤ) → pos 0 ≤ℤ x → x ≤ℤ pos (2 ^ 120) → unsigned_abs x ≤ 2 ^ 120
in_size x h k = omega (arith, ints, h, k)

nonneg : (a b c : ℤ) → pos 0 ≤ℤ a → pos 0 ≤ℤ b → pos 0 ≤ℤ c → pos 0 ≤ℤ (a +ℤ (b +ℤ c))
nonneg a b c h k l = omega (arith, ints, h, k, l)

sum_is : (a b c : ℤ) → unsigned_abs a ≤ 2 ^ 120 → unsigned_abs b ≤ 2 ^ 120 → unsigned_abs c ≤ 2 ^ 120 → word (word a +ℤ word (word b +ℤ word c)) ≡ a +ℤ (b +ℤ c)
sum_is a b c h k l = sum_word a (b +ℤ c) (2 ^ 120) (2 ^ 120 + 2 ^ 120) (omega arith) (omega arith) h (sum_size b c (2 ^ 120) (2 ^ 120) k l) (word (word b +ℤ word c))
    (sum_word b c (2 ^ 120) (2 ^ 120) (omega arith) (omega arith) k l (word c) (word_of c (2 ^ 120) (omega arith) l))

all_size : (a b c : ℤ) → unsigned_abs a ≤ 2 ^ 120 → unsigned_abs b ≤ 2 ^ 120 → unsigned_abs c ≤ 2 ^ 120 → unsigned_abs (a +ℤ (b +ℤ c)) ≤ 2 ^ 122
all_size a b c h k l = within (unsigned_abs (a +ℤ (b +ℤ c))) (sum_size a (b +ℤ c) (2 ^ 120) (2 ^ 120 + 2 ^ 120) h (sum_size b c (2 ^ 120) (2 ^ 120) k l))
  where
    within : (n : ℕ) → n ≤ 2 ^ 120 + (2 ^ 120 + 2 ^ 120) → n ≤ 2 ^ 122
    within n h = omega (arith, h)

wider : (x y : ℤ) → unsigned_abs x ≤ unsigned_abs y → unsigned_abs y ≤ 2 ^ 122 → unsigned_abs x ≤ 2 ^ 122
wider x y h k = omega (arith, h, k)

too_low : (w l : ℤ) → w ≡ l → w <ℤ pos 0 → pos 0 ≤ℤ l → ⊥
too_low w l e h from = omega (arith, ints, e, h, from)

too_high : (w l : ℤ) → w ≡ l → pos (2 ^ 90) <ℤ w → l ≤ℤ pos (2 ^ 90) → ⊥
too_high w l e h to = omega (arith, ints, e, h, to)

pub returns-then-l-lt0-clause-none : goal.returns-then-l-lt0-clause-none
returns-then-l-lt0-clause-none c =
    let r = c.requires in
    let a = in_size c.args.a r.a_from r.a_to in
    let b = in_size c.args.b r.b_from r.b_to in
    let k = in_size c.args.c r.c_from r.c_to in
    let all : word (word c.args.a +ℤ word (word c.args.b +ℤ word c.args.c)) ≡ c.args.a +ℤ (c.args.b +ℤ c.args.c) = sum_is c.args.a c.args.b c.args.c a b k in
    let size : unsigned_abs c.ceil_shift-l.result ≤ 2 ^ 122 = wider c.ceil_shift-l.result (word (word c.args.a +ℤ word (word c.args.b +ℤ word c.args.c))) c.ceil_shift-l.ensures.size
    (subst (λ (x : ℤ). unsigned_abs x ≤ 2 ^ 122) (sym all) (all_size c.args.a c.args.b c.args.c a b k)) in
    let value : word c.ceil_shift-l.result ≡ ceil_div (c.args.a +ℤ (c.args.b +ℤ c.args.c)) (2 ^ (c.args.h + 3)) =
    word_of c.ceil_shift-l.result (2 ^ 122) (omega arith) size ∙ c.ceil_shift-l.ensures.value ∙ ap (λ (x : ℤ). ceil_div x (2 ^ (c.args.h + 3))) all in
    elim c.then-l-lt0.branch [
      | then-l-lt0-via-then-l-lt0 w ↦
          let low : word c.ceil_shift-l.result <ℤ pos 0 = omega (arith, ints) in
          λ none to. too_low (word c.ceil_shift-l.result) (ceil_div (c.args.a +ℤ (c.args.b +ℤ c.args.c)) (2 ^ (c.args.h + 3))) value low
          (ceil_nonneg (c.args.a +ℤ (c.args.b +ℤ c.args.c)) (2 ^ (c.args.h + 3)) (nonneg c.args.a c.args.b c.args.c r.a_from r.b_from r.c_from))
      | then-l-lt0-via-else-l-lt0+then-l-gt-MOST_SLOPES w ↦
          let high : pos (2 ^ 90) <ℤ word c.ceil_shift-l.result = omega (arith, ints) in
          λ none to. too_high (word c.ceil_shift-l.result) (ceil_div (c.args.a +ℤ (c.args.b +ℤ c.args.c)) (2 ^ (c.args.h + 3))) value high to
    ]
