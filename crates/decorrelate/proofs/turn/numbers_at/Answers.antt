use Rattle.std.proofs.Common.{◌≡◌, ℕ, ◌+◌, ℤ, Option, arith, sym, ap, ◌∙◌}
use Rattle.std.specs.Prelude.{MatchOption}
use Rattle.quadratic_form.specs.Tables.{entry, item}
use Rattle.decorrelate.specs.Turning.{left_of, rest_of, IsTurnable}
use Rattle.decorrelate.specs.TurnNumbers.{AreNumbersOf}
use Rattle.decorrelate.specs.TurnedStates.{state_of}
use Rattle.decorrelate.specs.declared.turn_numbers.TurnNumbers.{TurnNumbers}
use Rattle.decorrelate.proofs.GaussLaws.{rest_is}
use Rattle.decorrelate.proofs.Words.{narrow_w64}
use Rattle.decorrelate.proofs.WeightLaws.{weight_word}
use Rattle.decorrelate.proofs.TurnNumbers.{word}
use Rattle.decorrelate.proofs.turn.numbers_at.Goals as goal

same : (a b r x y z : ℤ) (o : Option TurnNumbers) → x ≡ a → y ≡ b → z ≡ r → MatchOption o (IsTurnable x y z → ⊥) (λ t. AreNumbersOf x y z t)
    → MatchOption o (IsTurnable a b r → ⊥) (λ t. AreNumbersOf a b r t)
same a b r x y z o as_a as_b as_r are = rw (as_a, as_b, as_r) at are

pub returns : goal.returns
returns c =
    let now = c.args.now.now in
    let j : ℕ = c.args.j in
    let left : left_of (word c.at.result) ≡ rest_of (state_of now) j = ap (λ z. left_of (word z)) c.at.ensures.value ∙ ap left_of (narrow_w64 (entry now.l (j + 1) j) (now.small (j + 1) j))
    ∙ sym (rest_is (entry now.l) j) in
    same (item now.d j) (item now.d (j + 1)) (rest_of (state_of now) j) _ _ _ c.turn_numbers.result (weight_word (item now.d j) (now.weights j (omega (arith, c.requires))))
    (weight_word (item now.d (j + 1)) (now.weights (j + 1) c.requires)) left c.turn_numbers.ensures
