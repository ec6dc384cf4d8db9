-- Numbers at the head of a text.
use Rattle.std.proofs.Common.{◌≡◌, ◌+◌, ◌-◌, ◌*◌, ◌^◌, ◌<◌, ◌≤◌, ℕ, ℤ, zero, suc, pos, negsuc, neg_ℤ, to_z, of_z, true, List, [], ◌∷◌, ◌++◌, length, take, drop, set, get_or, refl, sym, ap, ◌∙◌, subst, arith, append_assoc, pow-suc, lit<}
use Rattle.std.proofs.Math.Nat.{pow-le-pow_right}
use Rattle.std.proofs.lemmas.List.{append-nil, take_all, take_more_set}
use Rattle.std.proofs.lemmas.Int.{ints}
use Rattle.std.specs.Int.{w64}
use Rattle.std.specs.Fmt.{decimal, signed_decimal}
use Rattle.std.proofs.lemmas.Fmt.{decimal_digit}
use Rattle.decimal_text.specs.Whole.{is_digit, are_digits, Spells, size_of}
use Rattle.cert_words.specs.Spelling.{behind_blanks}
use Rattle.cert_words.proofs.Decimals.{digit_from, decimal_after, signed_spells}

-- a digit is the spelling of its number
pub first_digit : (b : ℕ) → is_digit b ≡ true → decimal (b - 48) ≡ b ∷ []
first_digit b is =
    let digit = digit_from b is in
    let back : 48 + (b - 48) ≡ b = omega (arith, digit.0) in
    decimal_digit (b - 48) (omega (arith, digit.1)) ∙ ap (λ (x : ℕ). x ∷ []) back

-- a digit after a number that isn't 0 is its next
pub next_digit : (n b : ℕ) (after : List ℕ) → 0 < n → n < 2 ^ 63 → is_digit b ≡ true → decimal (10 * n + (b - 48)) ++ after ≡ decimal n ++ (b ∷ after)
next_digit n b after some small is =
    let are : are_digits (b ∷ []) ≡ true = rw is refl in
    let digit = digit_from b is in
    ap (λ (ds : List ℕ). ds ++ after) (decimal_after n (b ∷ []) some are (omega (arith, digit.1))) ∙ append_assoc (decimal n) (b ∷ []) after

-- digits after a sign
pub minus_digits : (n : ℕ) (digits left : List ℕ) → 0 < n → digits ≡ decimal n ++ left → 45 ∷ digits ≡ signed_decimal (neg_ℤ (pos n)) ++ left
minus_digits zero digits left some is = absurd (omega (arith, some))
minus_digits (suc n) digits left some is = ap (λ (ds : List ℕ). 45 ∷ ds) is

-- a word that is read to its end spells the number
pub whole_word : (word left : List ℕ) (z : ℤ) → word ≡ signed_decimal z ++ left → length left ≡ 0 → size_of z < 2 ^ 63 → Spells word z
whole_word word [] z is none small = subst (λ (w : List ℕ). Spells w z) (sym (is ∙ append-nil (signed_decimal z))) (signed_spells z (omega (arith, small)))
whole_word word (b ∷ bs) z is none small = absurd (omega (arith, none))

pub behind_append : (xs ys : List ℤ) → behind_blanks (xs ++ ys) ≡ behind_blanks xs ++ behind_blanks ys
behind_append [] ys = refl
behind_append (x ∷ xs) ys = ap (λ l. 32 ∷ (signed_decimal x ++ l)) (behind_append xs ys) ∙ ap (λ l. 32 ∷ l) (sym (append_assoc (signed_decimal x) (behind_blanks xs) (behind_blanks ys)))

-- one number more of those at the head of a text
pub number_behind : (values : List ℤ) (k : ℕ) (z : ℤ) (text left : List ℕ) → k < length values → text ≡ 32 ∷ (signed_decimal z ++ left)
    → behind_blanks (take (k + 1) (set values k z)) ++ left ≡ behind_blanks (take k values) ++ text
number_behind values k z text left room is =
    let front = behind_blanks (take k values) in
    let more : behind_blanks (take (k + 1) (set values k z)) ≡ front ++ (32 ∷ (signed_decimal z ++ [])) = ap behind_blanks (take_more_set values k z room) ∙ behind_append (take k values) (z ∷ []) in
    ap (λ (l : List ℕ). l ++ left) more ∙ append_assoc front (32 ∷ (signed_decimal z ++ [])) left
    ∙ ap (λ (l : List ℕ). front ++ l) (ap (λ (d : List ℕ). 32 ∷ (d ++ left)) (append-nil (signed_decimal z)) ∙ sym is)

-- a text from its first byte on
pub first_rest : (text : List ℕ) → 1 ≤ length text → text ≡ get_or text 0 0 ∷ take (length text - 1) (drop 1 text)
first_rest [] some = absurd (omega arith)
first_rest (b ∷ bs) some =
    let whole : take (length (b ∷ bs) - 1) bs ≡ bs = take_all (length (b ∷ bs) - 1) bs (omega arith) in
    ap (λ (l : List ℕ). b ∷ l) (sym whole)

-- 0 has no further digit
pub zero_digit : (text rest : List ℕ) (b : ℕ) → text ≡ b ∷ rest → b ≡ 48 → text ≡ decimal 0 ++ rest
zero_digit text rest b is e = is ∙ ap (λ (x : ℕ). x ∷ rest) e ∙ ap (λ (ds : List ℕ). ds ++ rest) (sym (decimal_digit 0 (omega arith)))

-- a number that fits its word is read as it is
pub short_word : (z : ℤ) → size_of z < 2 ^ 63 → to_z w64 (of_z w64 z) ≡ z
short_word (pos n) small = omega (arith, ints)
short_word (negsuc n) small = omega (arith, ints)

-- with a digit more a number has a digit more
pub digit_more : (k n d : ℕ) → n < 10 ^ (k + 1) → d ≤ 9 → 10 * n + d < 10 ^ (k + 1 + 1)
digit_more k n d small digit =
    let same : k + 1 + 1 ≡ suc (k + 1) = omega arith in
    let next : 10 ^ suc (k + 1) ≡ 10 ^ (k + 1) * 10 = pow-suc 10 (k + 1) in
    let whole : 10 ^ (k + 1 + 1) ≡ 10 ^ (k + 1) * 10 = ap (λ (m : ℕ). 10 ^ m) same ∙ next in
    rw whole (omega (arith, small, digit))

-- a number of at most seven digits
pub seven_room : (k n : ℕ) → k < 7 → n < 10 ^ (k + 1) → n < 10 ^ 7
seven_room k n before small =
    let last : k + 1 ≤ 7 = omega (arith, before) in
    let most : 10 ^ (k + 1) ≤ 10 ^ 7 = pow-le-pow_right (lit< tt) last in
    omega (arith, small, most)
