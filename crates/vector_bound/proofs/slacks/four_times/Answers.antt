use Rattle.std.proofs.Common.{◌≡◌, ◌+◌, ◌*◌, ◌^◌, ◌≤◌, ℤ, pos, ◌+ℤ◌, ◌*ℤ◌, ◌≤ℤ◌, unsigned_abs, ap, ◌∙◌, arith}
use Rattle.std.proofs.lemmas.Int.{ints}
use Rattle.whole_math.proofs.Order.{abs_mul_le}
use Rattle.vector_bound.proofs.Words.{word, word_of, sum_word, sum_size}
use Rattle.vector_bound.proofs.slacks.four_times.Goals as goal

in_size : (x : ℤ) → pos 0 ≤ℤ x → x ≤ℤ pos (2 ^ 118) → unsigned_abs x ≤ 2 ^ 118
in_size x h k = omega (arith, ints, h, k)

value : (a b c d : ℤ) → unsigned_abs a ≤ 2 ^ 118 → unsigned_abs b ≤ 2 ^ 118 → unsigned_abs c ≤ 2 ^ 118 → unsigned_abs d ≤ 2 ^ 118 →
    word (pos 4 *ℤ word (word a +ℤ word (word b +ℤ word (word c +ℤ word d)))) ≡ pos 4 *ℤ (a +ℤ (b +ℤ (c +ℤ d)))
value a b c d i j k l = ap (λ x. word (pos 4 *ℤ x)) all ∙ word_of (pos 4 *ℤ (a +ℤ (b +ℤ (c +ℤ d)))) (4 * (2 ^ 118 + (2 ^ 118 + (2 ^ 118 + 2 ^ 118)))) (omega arith)
    (abs_mul_le (pos 4) (a +ℤ (b +ℤ (c +ℤ d))) 4 (2 ^ 118 + (2 ^ 118 + (2 ^ 118 + 2 ^ 118))) (omega arith) (sum_size a (b +ℤ (c +ℤ d)) (2 ^ 118) (2 ^ 118 + (2 ^ 118 + 2 ^ 118)) i three_size))
  where
    two_size : unsigned_abs (c +ℤ d) ≤ 2 ^ 118 + 2 ^ 118
    two_size = sum_size c d (2 ^ 118) (2 ^ 118) k l

    three_size : unsigned_abs (b +ℤ (c +ℤ d)) ≤ 2 ^ 118 + (2 ^ 118 + 2 ^ 118)
    three_size = sum_size b (c +ℤ d) (2 ^ 118) (2 ^ 118 + 2 ^ 118) j two_size

    two : word (word c +ℤ word d) ≡ c +ℤ d
    two = sum_word c d (2 ^ 118) (2 ^ 118) (omega arith) (omega arith) k l (word d) (word_of d (2 ^ 118) (omega arith) l)

    three : word (word b +ℤ word (word c +ℤ word d)) ≡ b +ℤ (c +ℤ d)
    three = sum_word b (c +ℤ d) (2 ^ 118) (2 ^ 118 + 2 ^ 118) (omega arith) (omega arith) j two_size (word (word c +ℤ word d)) two

    all : word (word a +ℤ word (word b +ℤ word (word c +ℤ word d))) ≡ a +ℤ (b +ℤ (c +ℤ d))
    all = sum_word a (b +ℤ (c +ℤ d)) (2 ^ 118) (2 ^ 118 + (2 ^ 118 + 2 ^ 118)) (omega arith) (omega arith) i three_size (word (word b +ℤ word (word c +ℤ word d))) three

pub returns-clause-value : goal.returns-clause-value
returns-clause-value c =
    let r = c.requires in
    value c.args.a c.args.b c.args.c c.args.d (in_size c.args.a r.a_from r.a_to) (in_size c.args.b r.b_from r.b_to) (in_size c.args.c r.c_from r.c_to) (in_size c.args.d r.d_from r.d_to)
