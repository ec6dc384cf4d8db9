use Rattle.std.proofs.Common.{◌≡◌, ◌^◌, ◌<◌, ◌≤◌, true, ℤ, unsigned_abs, arith, to_z, of_z, sym, ap, ◌∙◌, subst}
use Rattle.std.specs.Int.{w128}
use Rattle.whole_math.proofs.Words.{as_w128}
use Rattle.decorrelate.specs.States.{IsWeight}
use Rattle.decorrelate.specs.Turning.{left_of, is_gain, new_first, new_between}
use Rattle.decorrelate.proofs.Words.{narrow_w64, rest_w64}
use Rattle.decorrelate.proofs.WeightLaws.{weight_word}
use Rattle.decorrelate.proofs.TurnNumbers.{word, first_between}
use Rattle.decorrelate.proofs.turn_numbers.turn_numbers.Goals as goal

pub new_factor-requires-clause-c : goal.new_factor-requires-clause-c
new_factor-requires-clause-c c =
    let first = c.first_weight-first.result in
    let weight : IsWeight first = first_between c.args.a c.args.b first c.requires.a c.requires.b c.first_weight-first.ensures.from c.first_weight-first.ensures.to in
    subst IsWeight (sym (weight_word first weight)) weight

pub returns : goal.returns
returns c =
    let a = c.args.a in
    let b = c.args.b in
    let r = left_of c.args.factor in
    let rest = c.left_of-rest.result in
    let first = c.first_weight-first.result in
    let second = c.second_weight-second.result in
    let between = c.in_ok-between.between in
    let a_word = weight_word a c.requires.a in
    let b_word = weight_word b c.requires.b in
    let left_word = rest_w64 rest c.left_of-rest.ensures.size in
    let r_word : word rest ≡ r = left_word ∙ c.left_of-rest.ensures.value ∙ ap left_of (narrow_w64 c.args.factor c.requires.factor) in
    let gains : is_gain a b r ≡ true = rw (a_word, b_word, r_word) at (sym c.gains.ensures ∙ c.if-not-gains.false) in
    let weight : IsWeight first = first_between a b first c.requires.a c.requires.b c.first_weight-first.ensures.from c.first_weight-first.ensures.to in
    let first_word : word first ≡ new_first a b r = weight_word first weight ∙ (rw (a_word, b_word, r_word) at c.first_weight-first.ensures.value) in
    let second_word = weight_word second c.second_weight-second.ensures.weight in
    let factor_is : c.new_factor.result ≡ new_between a r (new_first a b r) = rw (a_word, r_word, first_word) at c.new_factor.ensures.value in
    let wide : to_z w128 (of_z w128 c.new_factor.result) ≡ new_between a r (new_first a b r) = as_w128 c.new_factor.result (omega (arith, c.new_factor.ensures.size)) ∙ factor_is in
    let small : unsigned_abs (new_between a r (new_first a b r)) < 2 ^ 52 = subst (λ (z : ℤ). unsigned_abs z < 2 ^ 52) wide c.in_ok-between.ensures.1 in
    let between_word : word between ≡ new_between a r (new_first a b r) = ap (λ z. word z) (c.in_ok-between.ensures.0 ∙ wide) ∙ narrow_w64 _ small in
    record {
      turnable = record { gains = gains; between = small };
      rest_is = r_word;
      rest_small = subst (λ (z : ℤ). unsigned_abs z ≤ 2 ^ 30) (sym left_word) c.left_of-rest.ensures.size;
      first_is = first_word;
      first_weight = subst IsWeight (sym (weight_word first weight)) weight;
      second_is = second_word ∙ (rw (a_word, b_word, first_word) at c.second_weight-second.ensures.value);
      second_weight = subst IsWeight (sym second_word) c.second_weight-second.ensures.weight;
      between_is = between_word;
      between_small = subst (λ (z : ℤ). unsigned_abs z < 2 ^ 52) (sym between_word) small;
    }
