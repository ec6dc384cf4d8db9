use Rattle.std.proofs.Common.{◌≡◌, ◌-◌, ◌++◌, true, ℕ, List, length, take, drop, get_or, IfSome, sym, ap, ◌∙◌, subst}
use Rattle.std.specs.Fmt.{decimal}
use Rattle.decimal_text.specs.Whole.{is_digit}
use Rattle.cert_words.proofs.ShortLaws.{first_rest, first_digit, zero_digit}
use Rattle.cert_words.proofs.short.leading_natural.Goals as goal

pub returns-then-b-eq48-clause-spelled : goal.returns-then-b-eq48-clause-spelled
returns-then-b-eq48-clause-spelled g c =
    let text = c.args.text.now in
    zero_digit text (take (length text - 1) (drop 1 text)) (get_or text 0 0) (first_rest text c.in-len1-up.len_at_least) c.if-b-eq48.true

pub returns-clause-spelled : goal.returns-clause-spelled
returns-clause-spelled g c =
    let text = c.args.text.now in
    let byte = get_or text 0 0 in
    let behind = take (length text - 1) (drop 1 text) in
    let byte_is_digit : is_digit byte ≡ true = sym c.is_digit_byte.ensures ∙ c.if-not-is_digit_byte.false in
    let whole : decimal (byte - 48) ++ behind ≡ text = ap (λ (ds : List ℕ). ds ++ behind) (first_digit byte byte_is_digit) ∙ sym (first_rest text c.in-len1-up.len_at_least) in
    subst (λ (l : List ℕ). IfSome c.further_digits.result (λ r. l ≡ decimal r.0 ++ r.1.now)) whole c.further_digits.ensures.spelled
