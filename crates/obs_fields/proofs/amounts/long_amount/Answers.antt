-- A blank, a digit or a second blank, eight digits, and a point with three digits after it.
use Rattle.std.proofs.Common.{◌≡◌, ◌∙◌, ◌++◌, ◌∷◌, ◌+◌, ◌*◌, ◌-◌, ◌^◌, ◌<◌, ◌≤◌, List, length, take, drop, get_or, Some, pos, w64, to_z, length-take, sym, ap, arith}
use Rattle.std.proofs.lemmas.List.{length-drop}
use Rattle.std.proofs.lemmas.Int.{to_z_pos}
use Rattle.obs_fields.specs.SatFields.{digit_of}
use Rattle.obs_fields.proofs.AmountLaws.{around_point, tail_is}
use Rattle.obs_fields.proofs.EightDigits.{long_is}
use Rattle.obs_fields.proofs.amounts.long_amount.Goals as goal

pub returns : goal.returns
returns c =
    let text = c.args.text.now in
    let high = c.in_ok-high.high in
    let low = c.in_ok-low.low in
    let thousandths = c.in_ok-part.part in
    let size = 1000 * (100_000_000 * high + low) + thousandths in
    let less : size < 2 ^ 63 = omega (arith, c.in_ok-high.ensures.small, c.in_ok-low.ensures.small, c.in_ok-part.ensures.small) in
    let same : to_z w64 size ≡ pos size = to_z_pos w64 size less in
    let some : 2 ≤ length text = omega (arith, c.requires) in
    let inside : 10 < length text = omega (arith, c.requires) in
    let blank : get_or text 0 0 ≡ 32 = omega (arith, c.if-text-ne32.false) in
    let point : get_or text 10 0 ≡ 46 = omega (arith, c.if-text-ne46.false) in
    let part = take (length text - 11) (drop 11 text) in
    let text_is : text ≡ take 10 text ++ 46 ∷ part = around_point text 10 inside point ∙ ap (λ (l : List _). take 10 text ++ 46 ∷ l) (sym (tail_is 11 text)) in
    let three : length part ≡ 3 = simp (length-take, length-drop) (omega (arith, c.requires)) in
    let eight : length (take 8 (drop 2 text)) ≡ 8 = simp (length-take, length-drop) (omega (arith, c.requires)) in
    let says : digit_of (get_or text 1 0) ≡ Some high = sym c.in_ok-high.ensures.value in
    rw same (sym (long_is text part high low thousandths some text_is blank says eight c.in_ok-low.ensures.digits c.in_ok-low.ensures.small c.in_ok-part.ensures.digits three c.in_ok-part.ensures.small))
