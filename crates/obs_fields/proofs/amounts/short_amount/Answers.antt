-- Blanks, a sign or none, digits, and a point with three digits after it.
use Rattle.std.proofs.Common.{◌≡◌, ◌<◌, ◌-◌, ◌∙◌, ◌++◌, ◌∷◌, ℤ, List, Ok, Result, length, take, drop, get_or, w64, to_z, of_z, length-take, sym, ap, subst, arith}
use Rattle.std.proofs.lemmas.List.{length-drop}
use Rattle.std.proofs.lemmas.Int.{to_z-of_z}
use Rattle.decimal_text.specs.declared.fixed.NumberFault.{NumberFault}
use Rattle.obs_fields.proofs.AmountLaws.{StandsAfterBlanks, without_blanks-after, around_point, usual_is, tail_is}
use Rattle.obs_fields.proofs.amounts.short_amount.Goals as goal

pub returns : goal.returns
returns c =
    let text = c.args.text.now in
    let same : to_z w64 (of_z w64 c.with_sign.result) ≡ c.with_sign.result = grind (arith, to_z-of_z) in
    let point : get_or text 10 0 ≡ 46 = omega (arith, c.if-text-ne46.false) in
    let inside : 10 < length text = omega (arith, c.requires) in
    let part = take (length text - 11) (drop 11 text) in
    let text_is : text ≡ take 10 text ++ 46 ∷ part = around_point text 10 inside point ∙ ap (λ (l : List _). take 10 text ++ 46 ∷ l) (sym (tail_is 11 text)) in
    let three : length part ≡ 3 = simp (length-take, length-drop) (omega (arith, c.requires)) in
    let stands : StandsAfterBlanks (take 10 text) c.without_blanks.result.now =
    subst (λ (l : List _). StandsAfterBlanks (take 10 text) l) (sym c.without_blanks.ensures.value) (without_blanks-after (take 10 text)) in
    rw same (sym (ap (λ (z : ℤ). let r : Result ℤ NumberFault = Ok z in r) c.with_sign.ensures
    ∙ usual_is text (take 10 text) c.without_blanks.result.now c.without_sign-negative.result.1.now part c.without_sign-negative.result.0 c.in_ok-digits.field-0 c.in_ok-size.field-0 text_is
    stands c.without_sign-negative.ensures.value c.in_ok-digits.ensures.digits c.in_ok-size.ensures.digits three c.in_ok-digits.ensures.small c.in_ok-size.ensures.small))
