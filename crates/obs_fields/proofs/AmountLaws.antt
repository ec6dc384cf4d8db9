-- Numbers in the usual spelling.
use Rattle.std.proofs.Common.{◌≡◌, ℕ, zero, suc, ◌+◌, ◌*◌, ◌^◌, ◌-◌, ◌<◌, ◌≤◌, Bool, true, false, ◌==◌, List, [], ◌∷◌, ◌++◌, length, take, drop, get_or, Ok, refl, sym, ap, subst, ◌∙◌, arith, append_assoc, inr}
use Rattle.std.proofs.Math.Nat.{pow-suc, mul-le-mul_right, pow-le-pow_right, one-le-pow, le-mul_of_pos_right}
use Rattle.std.proofs.lemmas.List.{append-nil, take-append-drop, drop_more, length-drop}
use Rattle.std.proofs.Math.Seq.{take-length}
use Rattle.decimal_text.specs.Whole.{is_digit, are_digits, digit_sum, number_from}
use Rattle.decimal_text.specs.Fixed.{are_blank, without_blanks, signed, fixed_of}
use Rattle.decimal_text.specs.FixedForm.{IsNumber, IsSigned, size_with}
use Rattle.decimal_text.proofs.Numbers.{number_from-sum, digits_are, number_from-append}
use Rattle.decimal_text.proofs.FixedReads.{read_only}
use Rattle.rinex_head.specs.Columns.{padded, columns}
use Rattle.obs_fields.specs.Amounts.{after_sign, AreDigitsOf}

pub tail_is : (first : ℕ) (bs : List ℕ) → take (length bs - first) (drop first bs) ≡ drop first bs
tail_is first bs = ap (λ n. take n (drop first bs)) (sym (length-drop first bs)) ∙ take-length (drop first bs)

-- the first byte and those after it
first_rest : (bs : List ℕ) → 1 ≤ length bs → bs ≡ get_or bs 0 0 ∷ take (length bs - 1) (drop 1 bs)
first_rest bs some = drop_more bs 0 0 some ∙ ap (λ l. get_or bs 0 0 ∷ l) (sym (tail_is 1 bs))

-- the text is blanks and then this
pub record StandsAfterBlanks (text rest : List ℕ) : Type 0 where
  pub before : List ℕ
  pub text_is : text ≡ before ++ rest
  pub blank : are_blank before ≡ true

pub without_blanks-after : (text : List ℕ) → StandsAfterBlanks text (without_blanks text)
without_blanks-after [] = record { before = []; text_is = refl; blank = refl }
without_blanks-after (b ∷ bs) = by_blank (b == 32) refl (without_blanks-after bs)
  where
    by_blank : (t : Bool) → (b == 32) ≡ t → StandsAfterBlanks bs (without_blanks bs) → StandsAfterBlanks (b ∷ bs) (without_blanks (b ∷ bs))
    by_blank true is after = rw is (record { before = b ∷ after.before; text_is = ap (λ l. b ∷ l) after.text_is; blank = rw is after.blank })
    by_blank false is after = rw is (record { before = []; text_is = refl; blank = refl })

is_number : (whole part : List ℕ) → are_digits whole ≡ true → are_digits part ≡ true → 1 ≤ length part → IsNumber (whole ++ 46 ∷ part) whole part
is_number whole part digits digits₂ some = record {
  body = record {
    rest = 46 ∷ part;
    text_is = refl;
    digits = digits;
    ends = inr (part, refl, record { after = []; text_is = sym (append-nil part); digits = digits₂; blank = refl });
  };
  some = omega arith;
}

is_signed : (negative : Bool) (whole part : List ℕ) → IsNumber (whole ++ 46 ∷ part) whole part → IsSigned (after_sign negative whole ++ 46 ∷ part) negative whole part
is_signed true whole part number = (whole ++ 46 ∷ part, refl, number)
is_signed false whole part number = inr number

-- a number with three places
pub usual_is : (text front rest whole part : List ℕ) (negative : Bool) (w p : ℕ) → text ≡ front ++ 46 ∷ part → StandsAfterBlanks front rest → rest ≡ after_sign negative whole
    → AreDigitsOf whole w → AreDigitsOf part p → length part ≡ 3 → w < 10 ^ 10 → p < 10 ^ 10
    → Ok (signed negative (1000 * w + p)) ≡ fixed_of text 3
usual_is text front rest whole part negative w p is stands sign digits digits₂ three few few₂ = read_only text 3 (Ok (signed negative (1000 * w + p))) (record {
  negative = negative;
  whole = whole;
  part = part;
  fixed = record {
    before = stands.before;
    rest = after_sign negative whole ++ 46 ∷ part;
    text_is = is ∙ ap (λ l. l ++ 46 ∷ part) (stands.text_is ∙ ap (λ l. stands.before ++ l) sign) ∙ append_assoc stands.before (after_sign negative whole) (46 ∷ part);
    blank = stands.blank;
    number = is_signed negative whole part (is_number whole part digits.digits digits₂.digits (omega (arith, three)));
  };
  few = omega (arith, three);
  short = omega (arith, size, few, few₂);
  value = ap (signed negative) (sym size);
})
  where
    of_part : p ≡ digit_sum part
    of_part = digits₂.value ∙ digits_are part

    sum : digit_sum (whole ++ part) ≡ w * 10 ^ length part + digit_sum part
    sum = sym (digits_are (whole ++ part)) ∙ number_from-append 0 whole part ∙ ap (λ n. number_from n part) (sym digits.value) ∙ number_from-sum w part

    size : size_with 3 whole part ≡ 1000 * w + p
    size = rw (sum, three) (omega (arith, of_part))

-- a text with a point in a place
pub around_point : (text : List ℕ) (k : ℕ) → k < length text → get_or text k 0 ≡ 46 → text ≡ take k text ++ 46 ∷ drop (k + 1) text
around_point text k inside point = sym (take-append-drop k text) ∙ ap (λ l. take k text ++ l) (drop_more text k 0 inside ∙ ap (λ b. b ∷ drop (k + 1) text) point)

-- columns that a line has are its bytes
padded-take : (bs : List ℕ) (n : ℕ) → n ≤ length bs → padded bs n ≡ take n bs
unfolding padded
padded-take bs zero few = refl
padded-take [] (suc n) few = absurd (omega arith)
padded-take (b ∷ bs) (suc n) few = ap (λ l. b ∷ l) (padded-take bs n (omega arith))

pub columns_slice : (line : List ℕ) (first : ℕ) → 1 ≤ first → first + 13 ≤ length line → columns line first 14 ≡ take (first + 13 - (first - 1)) (drop (first - 1) line)
columns_slice line first one few =
    let enough : 14 ≤ length (drop (first - 1) line) = simp length-drop (omega (arith, one, few)) in
    let fourteen : 14 ≡ first + 13 - (first - 1) = omega (arith, one) in
    padded-take (drop (first - 1) line) 14 enough ∙ ap (λ n. take n (drop (first - 1) line)) fourteen

-- digits one by one
pub number_step : (text rest : List ℕ) (n : ℕ) → number_from 0 text ≡ number_from n rest → 1 ≤ length rest
    → number_from 0 text ≡ number_from (10 * n + (get_or rest 0 0 - 48)) (take (length rest - 1) (drop 1 rest))
number_step text rest n value some = value ∙ ap (number_from n) (first_rest rest some)

pub are_digits_step : (text rest : List ℕ) → are_digits text ≡ are_digits rest → 1 ≤ length rest → is_digit (get_or rest 0 0) ≡ true
    → are_digits text ≡ are_digits (take (length rest - 1) (drop 1 rest))
are_digits_step text rest digits some is = digits ∙ ap are_digits (first_rest rest some) ∙ rw is refl

-- no more digits follow than there is room for
room_more : (n d k most : ℕ) → d ≤ 9 → (n + 1) * 10 ^ suc k ≤ most → (10 * n + d + 1) * 10 ^ k ≤ most
room_more n d k most digit room =
    let less : (10 * n + d + 1) * 10 ^ k ≤ (10 * n + 10) * 10 ^ k = mul-le-mul_right (10 ^ k) (omega (arith, digit)) in
    omega (arith, less, rw pow-suc at room)

pub room_step : (rest : List ℕ) (n d most : ℕ) → d ≤ 9 → 1 ≤ length rest → (n + 1) * 10 ^ length rest ≤ most → (10 * n + d + 1) * 10 ^ length (take (length rest - 1) (drop 1 rest)) ≤ most
room_step rest n d most digit some room =
    let long : length rest ≡ suc (length (take (length rest - 1) (drop 1 rest))) = ap (λ l. length l) (first_rest rest some) in
    room_more n d (length (take (length rest - 1) (drop 1 rest))) most digit (subst (λ k. (n + 1) * 10 ^ k ≤ most) long room)

-- there is room for ten digits
pub room_first : (k : ℕ) → k ≤ 10 → (0 + 1) * 10 ^ k ≤ 10 ^ 10
room_first k few = let less : 10 ^ k ≤ 10 ^ 10 = pow-le-pow_right {n = 10} (omega arith) {i = k} {j = 10} few in omega (arith, less)

-- where there is room for one digit more, the number is small
pub room_small : (n k : ℕ) → (n + 1) * 10 ^ k ≤ 10 ^ 10 → n < 10 ^ 10
room_small n k room = room_by (10 ^ k) (one-le-pow k 10 (omega arith)) room
  where
    room_by : (p : ℕ) → 1 ≤ p → (n + 1) * p ≤ 10 ^ 10 → n < 10 ^ 10
    room_by p some room =
        let more : n + 1 ≤ (n + 1) * p = le-mul_of_pos_right (n + 1) some in
        omega (arith, more, room)
