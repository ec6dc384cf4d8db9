-- The three bytes are digits.
use Rattle.std.proofs.Common.{◌≡◌, ◌∙◌, get_or, true, sym, arith}
use Rattle.decimal_text.specs.Whole.{is_digit}
use Rattle.obs_fields.proofs.EightDigits.{three_read}
use Rattle.obs_fields.proofs.amounts.three_digits.Goals as goal

pub returns-clause-digits : goal.returns-clause-digits
returns-clause-digits c =
    let text = c.args.text.now in
    let first : is_digit (get_or text 0 0) ≡ true = sym c.is_digit_byte.ensures ∙ c.if-not-is_digit_byte.false in
    let second : is_digit (get_or text 1 0) ≡ true = sym c.is_digit_byte-2.ensures ∙ c.if-not-is_digit_byte-2.false in
    let third : is_digit (get_or text 2 0) ≡ true = sym c.is_digit_byte-3.ensures ∙ c.if-not-is_digit_byte-3.false in
    three_read text _ c.requires first second third (omega arith)
