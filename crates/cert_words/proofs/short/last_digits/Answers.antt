use Rattle.std.proofs.Common.{◌≡◌, ◌-◌, ◌++◌, true, ℕ, List, length, take, drop, get_or, sym, ap, ◌∙◌, arith}
use Rattle.std.specs.Fmt.{decimal}
use Rattle.decimal_text.specs.Whole.{is_digit}
use Rattle.cert_words.proofs.Decimals.{digit_from}
use Rattle.cert_words.proofs.ShortLaws.{first_rest, next_digit}
use Rattle.cert_words.proofs.short.last_digits.Goals as goal

pub loop-rest-preserved : goal.loop-rest-preserved
loop-rest-preserved c =
    let rest = c.loop-rest.rest.now in
    let number = c.loop-rest.number in
    let byte = get_or rest 0 0 in
    let byte_is_digit : is_digit byte ≡ true = sym c.is_digit_byte.ensures ∙ c.if-not-is_digit_byte.false in
    let digit = digit_from byte byte_is_digit in
    let behind = take (length rest - 1) (drop 1 rest) in
    record {
      spelled = c.loop-rest.invariant.spelled ∙ ap (λ (l : List ℕ). decimal number ++ l) (first_rest rest c.in-len1-up.len_at_least)
          ∙ sym (next_digit number byte behind c.loop-rest.invariant.some c.loop-rest.invariant.small byte_is_digit);
      some = omega (arith, c.loop-rest.invariant.some);
      small = omega (arith, c.if-number-gt-LAST_SHORT.false, digit.1);
    }
