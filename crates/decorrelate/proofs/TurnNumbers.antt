-- The numbers of one turn: from what the calls say of them in words, to what they are.
use Rattle.std.proofs.Common.{◌≡◌, ℤ, ◌≤ℤ◌, to_z, of_z, ◌∙◌, subst}
use Rattle.std.specs.Int.{w64}
use Rattle.decorrelate.specs.States.{IsWeight}
use Rattle.decorrelate.specs.TurnNumbers.{AreNumbersOf}
use Rattle.decorrelate.specs.Turning.{new_first, new_between}
use Rattle.decorrelate.specs.declared.turn_numbers.TurnNumbers.{TurnNumbers}
use Rattle.decorrelate.proofs.Words.{narrow_w64, rest_w64}
use Rattle.decorrelate.proofs.WeightLaws.{weight_word, weight_between}

-- what a word of 64 bits says of a number
abbrev pub word : ℤ → ℤ
word x = to_z w64 (of_z w64 x)

pub first_between : (a b first : ℤ) → IsWeight a → IsWeight b → word b ≤ℤ first → first ≤ℤ word a → IsWeight first
first_between a b first of_a of_b from to =
    weight_between a b first of_a of_b (subst (λ (z : ℤ). z ≤ℤ first) (weight_word b of_b) from) (subst (λ (z : ℤ). first ≤ℤ z) (weight_word a of_a) to)

pub rest_is_word : (a b r : ℤ) (t : TurnNumbers) → AreNumbersOf a b r t → word t.rest ≡ r
rest_is_word a b r t are = rest_w64 t.rest are.rest_small ∙ are.rest_is

pub between_is_word : (a b r : ℤ) (t : TurnNumbers) → AreNumbersOf a b r t → word t.between ≡ new_between a r (new_first a b r)
between_is_word a b r t are = narrow_w64 t.between are.between_small ∙ are.between_is
