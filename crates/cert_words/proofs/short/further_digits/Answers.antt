use Rattle.std.proofs.Common.{◌≡◌, ◌+◌, ◌-◌, ◌<◌, ◌^◌, ◌++◌, true, ℕ, List, length, drop, get_or, sym, ap, ◌∙◌, arith}
use Rattle.std.proofs.lemmas.List.{drop_more}
use Rattle.std.specs.Fmt.{decimal}
use Rattle.decimal_text.specs.Whole.{is_digit}
use Rattle.cert_words.proofs.Decimals.{digit_from}
use Rattle.cert_words.proofs.ShortLaws.{next_digit, digit_more, seven_room}
use Rattle.cert_words.proofs.short.further_digits.Goals as goal

pub loop-k-preserved : goal.loop-k-preserved
loop-k-preserved g c =
    let text = c.args.text.now in
    let k = c.loop-k.k in
    let number = c.loop-k.number in
    let byte = get_or text k 0 in
    let byte_is_digit : is_digit byte ≡ true = sym c.is_digit_byte.ensures ∙ c.if-not-is_digit_byte.false in
    let digit = digit_from byte byte_is_digit in
    let before : k < 7 = omega (arith, c.loop-k-test.true, c.requires.few) in
    let inside : k < length text = omega (arith, c.loop-k-test.true, c.requires.there) in
    let room : number < 10 ^ 7 = seven_room k number before c.loop-k.invariant.small in
    record {
      spelled = c.loop-k.invariant.spelled ∙ ap (λ (l : List ℕ). decimal number ++ l) (drop_more text k 0 inside)
          ∙ sym (next_digit number byte (drop (k + 1) text) c.loop-k.invariant.some (omega (arith, room)) byte_is_digit);
      some = omega (arith, c.loop-k.invariant.some);
      small = digit_more k number (byte - 48) c.loop-k.invariant.small (omega (arith, digit.1));
    }
