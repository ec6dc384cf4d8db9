-- Eight digits that are read at once, as the bytes of one word.
use Rattle.std.proofs.Common.{◌≡◌, ◌+◌, ◌-◌, ◌*◌, ◌/◌, ◌%◌, ◌^◌, ◌<◌, ◌≤◌, ◌==◌, ◌⊎◌, inl, inr, ℕ, Bool, true, false, List, [], ◌∷◌, ◌++◌, length, take, drop, get_or, Some, None, Ok, bit_and, refl, sym, ap, ◌∙◌, subst, arith}
use Rattle.std.proofs.lemmas.Bool.Decides.{nat_tests}
use Rattle.std.proofs.lemmas.Nat.{and_block, and_le_l, shr_high, mod_low}
use Rattle.std.proofs.lemmas.Nat.Bits.{and_high_mask}
use Rattle.std.proofs.NetLemmas.Arrays.{eight_items}
use Rattle.decimal_text.specs.Whole.{is_digit, are_digits, digit_sum, number_from}
use Rattle.decimal_text.specs.Fixed.{signed, fixed_of}
use Rattle.decimal_text.proofs.Numbers.{number_from-sum, digits_are}
use Rattle.rinex_head.proofs.TextLines.{IsByte}
use Rattle.obs_fields.specs.Amounts.{AreDigitsOf}
use Rattle.obs_fields.specs.SatFields.{digit_of}
use Rattle.obs_fields.proofs.AmountLaws.{usual_is}

-- ---- the bytes of a word

-- a word by its bytes, the lowest first
abbrev pub word_of : ℕ → ℕ → ℕ → ℕ → ℕ → ℕ → ℕ → ℕ → ℕ
word_of a b c d e f g h = ((((((h * 256 + g) * 256 + f) * 256 + e) * 256 + d) * 256 + c) * 256 + b) * 256 + a

-- of each byte of a word
pub record Each (P : ℕ → Type 0) (a b c d e f g h : ℕ) : Type 0 where
  pub of_0 : P a
  pub of_1 : P b
  pub of_2 : P c
  pub of_3 : P d
  pub of_4 : P e
  pub of_5 : P f
  pub of_6 : P g
  pub of_7 : P h

-- the high half of a byte is this
abbrev pub HasHalf : ℕ → ℕ → Type 0
HasHalf v b = b / 16 * 16 ≡ v

-- the high and the low part of a word, each with its own of the mask
split_byte : (x m c b k h : ℕ) → b < 256 → k < 256 → h < 256 → bit_and (x * 256 + b) (m * 256 + k) ≡ c * 256 + h → (bit_and x m ≡ c) × (bit_and b k ≡ h)
split_byte x m c b k h small mask less is =
    let parts : bit_and (x * 256 + b) (m * 256 + k) ≡ bit_and x m * 256 + bit_and b k = and_block 8 x m b k small mask in
    let low : bit_and b k ≤ b = and_le_l b k in
    (omega (arith, parts, low, is, small, less), omega (arith, parts, low, is, small, less))

half_is : (b v : ℕ) → b < 256 → bit_and b 240 ≡ v → HasHalf v b
half_is b v small is = let four : 4 ≤ 8 = omega arith in sym (and_high_mask 8 4 four b small) ∙ is

-- the high halves of a word's bytes are all the same
pub halves_are : (v a b c d e f g h : ℕ) → v < 256 → Each IsByte a b c d e f g h → bit_and (word_of a b c d e f g h) 0xf0f0f0f0f0f0f0f0 ≡ word_of v v v v v v v v
    → Each (HasHalf v) a b c d e f g h
halves_are v a b c d e f g h half are is =
    let mask : 240 < 256 = omega arith in
    let v6 = v * 256 + v in
    let v5 = v6 * 256 + v in
    let v4 = v5 * 256 + v in
    let v3 = v4 * 256 + v in
    let v2 = v3 * 256 + v in
    let v1 = v2 * 256 + v in
    let x6 = h * 256 + g in
    let x5 = x6 * 256 + f in
    let x4 = x5 * 256 + e in
    let x3 = x4 * 256 + d in
    let x2 = x3 * 256 + c in
    let x1 = x2 * 256 + b in
    let first_splits = split_byte x1 0xf0f0f0f0f0f0f0 v1 a 240 v are.of_0 mask half is in
    let second_splits = split_byte x2 0xf0f0f0f0f0f0 v2 b 240 v are.of_1 mask half first_splits.0 in
    let third_splits = split_byte x3 0xf0f0f0f0f0 v3 c 240 v are.of_2 mask half second_splits.0 in
    let fourth_splits = split_byte x4 0xf0f0f0f0 v4 d 240 v are.of_3 mask half third_splits.0 in
    let fifth_splits = split_byte x5 0xf0f0f0 v5 e 240 v are.of_4 mask half fourth_splits.0 in
    let sixth_splits = split_byte x6 0xf0f0 v6 f 240 v are.of_5 mask half fifth_splits.0 in
    let seventh_splits = split_byte h 240 v g 240 v are.of_6 mask half sixth_splits.0 in
    record {
      of_0 = half_is a v are.of_0 first_splits.1;
      of_1 = half_is b v are.of_1 second_splits.1;
      of_2 = half_is c v are.of_2 third_splits.1;
      of_3 = half_is d v are.of_3 fourth_splits.1;
      of_4 = half_is e v are.of_4 fifth_splits.1;
      of_5 = half_is f v are.of_5 sixth_splits.1;
      of_6 = half_is g v are.of_6 seventh_splits.1;
      of_7 = half_is h v are.of_7 seventh_splits.0;
    }

-- ---- the word of eight digits

abbrev pub zeros : ℕ
zeros = 0x3030303030303030

-- a word of bytes `0` to `?`
pub zeros_below : (w a b c d e f g h : ℕ) → w ≡ word_of a b c d e f g h → Each (HasHalf 48) a b c d e f g h → (zeros ≤ w) × (w ≤ 0x3f3f3f3f3f3f3f3f)
zeros_below w a b c d e f g h is are =
    let low : zeros ≤ w = omega (arith, is, are.of_0, are.of_1, are.of_2, are.of_3, are.of_4, are.of_5, are.of_6, are.of_7) in
    let high : w ≤ 0x3f3f3f3f3f3f3f3f = omega (arith, is, are.of_0, are.of_1, are.of_2, are.of_3, are.of_4, are.of_5, are.of_6, are.of_7) in
    (low, high)

-- a word less eight bytes `0`
lower_is : (w a b c d e f g h p q r s t u v x : ℕ) → w ≡ word_of a b c d e f g h → a ≡ 48 + p → b ≡ 48 + q → c ≡ 48 + r → d ≡ 48 + s → e ≡ 48 + t → f ≡ 48 + u → g ≡ 48 + v → h ≡ 48 + x
    → w - zeros ≡ word_of p q r s t u v x
lower_is w a b c d e f g h p q r s t u v x is e0 e1 e2 e3 e4 e5 e6 e7 = omega (arith, is, e0, e1, e2, e3, e4, e5, e6, e7)

with_sixes : (n p q r s t u v x : ℕ) → n ≡ word_of p q r s t u v x → n + 0x0606060606060606 ≡ word_of (p + 6) (q + 6) (r + 6) (s + 6) (t + 6) (u + 6) (v + 6) (x + 6)
with_sixes n p q r s t u v x is = omega (arith, is)

over_zero : (b : ℕ) → 48 ≤ b → b ≡ 48 + (b - 48)
over_zero b low = omega (arith, low)

lower : (w a b c d e f g h : ℕ) → w ≡ word_of a b c d e f g h → Each (λ x. 48 ≤ x) a b c d e f g h
    → w - zeros ≡ word_of (a - 48) (b - 48) (c - 48) (d - 48) (e - 48) (f - 48) (g - 48) (h - 48)
lower w a b c d e f g h is are =
    lower_is w a b c d e f g h (a - 48) (b - 48) (c - 48) (d - 48) (e - 48) (f - 48) (g - 48) (h - 48) is
    (over_zero a are.of_0) (over_zero b are.of_1) (over_zero c are.of_2) (over_zero d are.of_3) (over_zero e are.of_4) (over_zero f are.of_5) (over_zero g are.of_6) (over_zero h are.of_7)

abbrev pub IsUpTo9 : ℕ → Type 0
IsUpTo9 b = (48 ≤ b) × (b ≤ 57)

digit_byte : (b : ℕ) → HasHalf 48 b → HasHalf 0 (b - 48 + 6) → IsUpTo9 b
digit_byte b is none = (omega (arith, is), omega (arith, is, none))

-- and 6 more than the lower halves leaves the high halves empty
pub digits_below : (w a b c d e f g h : ℕ) → w ≡ word_of a b c d e f g h → Each (HasHalf 48) a b c d e f g h → bit_and (w - zeros + 0x0606060606060606) 0xf0f0f0f0f0f0f0f0 ≡ 0
    → Each IsUpTo9 a b c d e f g h
digits_below w a b c d e f g h is are none =
    let lows : Each (λ x. 48 ≤ x) a b c d e f g h = record {
      of_0 = omega (arith, are.of_0);
      of_1 = omega (arith, are.of_1);
      of_2 = omega (arith, are.of_2);
      of_3 = omega (arith, are.of_3);
      of_4 = omega (arith, are.of_4);
      of_5 = omega (arith, are.of_5);
      of_6 = omega (arith, are.of_6);
      of_7 = omega (arith, are.of_7);
    } in
    let sum = with_sixes (w - zeros) (a - 48) (b - 48) (c - 48) (d - 48) (e - 48) (f - 48) (g - 48) (h - 48) (lower w a b c d e f g h is lows) in
    let bytes : Each IsByte (a - 48 + 6) (b - 48 + 6) (c - 48 + 6) (d - 48 + 6) (e - 48 + 6) (f - 48 + 6) (g - 48 + 6) (h - 48 + 6) = record {
      of_0 = omega (arith, are.of_0);
      of_1 = omega (arith, are.of_1);
      of_2 = omega (arith, are.of_2);
      of_3 = omega (arith, are.of_3);
      of_4 = omega (arith, are.of_4);
      of_5 = omega (arith, are.of_5);
      of_6 = omega (arith, are.of_6);
      of_7 = omega (arith, are.of_7);
    } in
    let zero_half : 0 < 256 = omega arith in
    let halves = halves_are 0 (a - 48 + 6) (b - 48 + 6) (c - 48 + 6) (d - 48 + 6) (e - 48 + 6) (f - 48 + 6) (g - 48 + 6) (h - 48 + 6) zero_half bytes
    (ap (λ (n : ℕ). bit_and n 0xf0f0f0f0f0f0f0f0) (sym sum) ∙ none) in
    record {
      of_0 = digit_byte a are.of_0 halves.of_0;
      of_1 = digit_byte b are.of_1 halves.of_1;
      of_2 = digit_byte c are.of_2 halves.of_2;
      of_3 = digit_byte d are.of_3 halves.of_3;
      of_4 = digit_byte e are.of_4 halves.of_4;
      of_5 = digit_byte f are.of_5 halves.of_5;
      of_6 = digit_byte g are.of_6 halves.of_6;
      of_7 = digit_byte h are.of_7 halves.of_7;
    }

pub nines_below : (w a b c d e f g h : ℕ) → w ≡ word_of a b c d e f g h → Each IsUpTo9 a b c d e f g h → w - zeros ≤ 0x0909090909090909
nines_below w a b c d e f g h is are =
    omega (arith, is, are.of_0.1, are.of_1.1, are.of_2.1, are.of_3.1, are.of_4.1, are.of_5.1, are.of_6.1, are.of_7.1)

-- ---- sums of two digits in the bytes

-- the byte after k bits
byte_at : (n k y p lo : ℕ) → n ≡ (y * 256 + p) * 2 ^ k + lo → lo < 2 ^ k → p < 256 → n / 2 ^ k % 256 ≡ p
byte_at n k y p lo is less small = ap (λ m. m / 2 ^ k % 256) is ∙ ap (λ m. m % 256) (shr_high (y * 256 + p) k lo less) ∙ mod_low y 8 p small

-- what is made of the sums of two digits each
abbrev pub number_in : ℕ → ℕ
number_in pairs = 10_000 * (100 * (pairs % 256) + pairs / 65_536 % 256) + (100 * (pairs / 4_294_967_296 % 256) + pairs / 281_474_976_710_656 % 256)

number_of : (n p q r s t u v w : ℕ) → n ≡ word_of p q r s t u v w → Each (λ x. x ≤ 99) p q r s t u v w → number_in n ≡ 1_000_000 * p + 10_000 * r + 100 * t + v
number_of n p q r s t u v w is are =
    let first_byte_is : n % 256 ≡ p = ap (λ m. m % 256) is ∙ mod_low ((((((w * 256 + v) * 256 + u) * 256 + t) * 256 + s) * 256 + r) * 256 + q) 8 p (omega (arith, are.of_0)) in
    let third_byte_is : n / 65_536 % 256 ≡ r = byte_at n 16 ((((w * 256 + v) * 256 + u) * 256 + t) * 256 + s) r (q * 256 + p) (omega (arith, is)) (omega (arith, are.of_0, are.of_1)) (omega (arith, are.of_2)) in
    let fifth_byte_is : n / 4_294_967_296 % 256 ≡ t =
    byte_at n 32 ((w * 256 + v) * 256 + u) t (((s * 256 + r) * 256 + q) * 256 + p) (omega (arith, is)) (omega (arith, are.of_0, are.of_1, are.of_2, are.of_3)) (omega (arith, are.of_4)) in
    let seventh_byte_is : n / 281_474_976_710_656 % 256 ≡ v =
    byte_at n 48 w v (((((u * 256 + t) * 256 + s) * 256 + r) * 256 + q) * 256 + p) (omega (arith, is)) (omega (arith, are.of_0, are.of_1, are.of_2, are.of_3, are.of_4, are.of_5)) (omega (arith, are.of_6)) in
    omega (arith, first_byte_is, third_byte_is, fifth_byte_is, seventh_byte_is)

two : (x y : ℕ) → x ≤ 9 → y ≤ 9 → 10 * x + y ≤ 99
two x y few few₂ = omega (arith, few, few₂)

-- eight digits' sums, from their word
sums_number : (n a b c d e f g h : ℕ) → n ≡ word_of a b c d e f g h → Each (λ x. x ≤ 9) a b c d e f g h
    → number_in (10 * n + n / 256) ≡ 1_000_000 * (10 * a + b) + 10_000 * (10 * c + d) + 100 * (10 * e + f) + (10 * g + h)
sums_number n a b c d e f g h is are =
    let rest = (((((h * 256 + g) * 256 + f) * 256 + e) * 256 + d) * 256 + c) * 256 + b in
    let shifted : n / 256 ≡ rest = ap (λ m. m / 256) is ∙ shr_high rest 8 a (omega (arith, are.of_0)) in
    let sum : 10 * n + n / 256 ≡ word_of (10 * a + b) (10 * b + c) (10 * c + d) (10 * d + e) (10 * e + f) (10 * f + g) (10 * g + h) (10 * h) = omega (arith, is, shifted) in
    number_of (10 * n + n / 256) (10 * a + b) (10 * b + c) (10 * c + d) (10 * d + e) (10 * e + f) (10 * f + g) (10 * g + h) (10 * h) sum (record {
      of_0 = two a b are.of_0 are.of_1;
      of_1 = two b c are.of_1 are.of_2;
      of_2 = two c d are.of_2 are.of_3;
      of_3 = two d e are.of_3 are.of_4;
      of_4 = two e f are.of_4 are.of_5;
      of_5 = two f g are.of_5 are.of_6;
      of_6 = two g h are.of_6 are.of_7;
      of_7 = omega (arith, are.of_7);
    })

-- the same digit by digit
one_by_one : (a b c d e f g h : ℕ) → 1_000_000 * (10 * a + b) + 10_000 * (10 * c + d) + 100 * (10 * e + f) + (10 * g + h)
    ≡ 10 * (10 * (10 * (10 * (10 * (10 * (10 * (10 * 0 + a) + b) + c) + d) + e) + f) + g) + h
one_by_one a b c d e f g h = omega arith

few_enough : (n a b c d e f g h : ℕ) → n ≡ 1_000_000 * (10 * a + b) + 10_000 * (10 * c + d) + 100 * (10 * e + f) + (10 * g + h) → Each (λ x. x ≤ 9) a b c d e f g h → n < 10 ^ 8
few_enough n a b c d e f g h is are = omega (arith, is, are.of_0, are.of_1, are.of_2, are.of_3, are.of_4, are.of_5, are.of_6, are.of_7)

is_digit_from : (b : ℕ) → IsUpTo9 b → is_digit b ≡ true
is_digit_from b is = let low : 48 ≤ b = is.0 in let high : b ≤ 57 = is.1 in grind (arith, nat_tests)

eight_are : (w a b c d e f g h : ℕ) → w ≡ word_of a b c d e f g h → Each IsUpTo9 a b c d e f g h
    → AreDigitsOf (a ∷ b ∷ c ∷ d ∷ e ∷ f ∷ g ∷ h ∷ []) (number_in (10 * (w - zeros) + (w - zeros) / 256)) × (number_in (10 * (w - zeros) + (w - zeros) / 256) < 10 ^ 8)
eight_are w a b c d e f g h is are =
    let lows : Each (λ x. 48 ≤ x) a b c d e f g h = record {
      of_0 = are.of_0.0;
      of_1 = are.of_1.0;
      of_2 = are.of_2.0;
      of_3 = are.of_3.0;
      of_4 = are.of_4.0;
      of_5 = are.of_5.0;
      of_6 = are.of_6.0;
      of_7 = are.of_7.0;
    } in
    let nines : Each (λ x. x ≤ 9) (a - 48) (b - 48) (c - 48) (d - 48) (e - 48) (f - 48) (g - 48) (h - 48) = record {
      of_0 = omega (arith, are.of_0.1);
      of_1 = omega (arith, are.of_1.1);
      of_2 = omega (arith, are.of_2.1);
      of_3 = omega (arith, are.of_3.1);
      of_4 = omega (arith, are.of_4.1);
      of_5 = omega (arith, are.of_5.1);
      of_6 = omega (arith, are.of_6.1);
      of_7 = omega (arith, are.of_7.1);
    } in
    let number = sums_number (w - zeros) (a - 48) (b - 48) (c - 48) (d - 48) (e - 48) (f - 48) (g - 48) (h - 48) (lower w a b c d e f g h is lows) nines in
    let digits : are_digits (a ∷ b ∷ c ∷ d ∷ e ∷ f ∷ g ∷ h ∷ []) ≡ true =
    rw (
      is_digit_from a are.of_0,
      is_digit_from b are.of_1,
      is_digit_from c are.of_2,
      is_digit_from d are.of_3,
      is_digit_from e are.of_4,
      is_digit_from f are.of_5,
      is_digit_from g are.of_6,
      is_digit_from h are.of_7,
    ) refl in (
      record { digits = digits; value = number ∙ one_by_one (a - 48) (b - 48) (c - 48) (d - 48) (e - 48) (f - 48) (g - 48) (h - 48) },
      few_enough (number_in (10 * (w - zeros) + (w - zeros) / 256)) (a - 48) (b - 48) (c - 48) (d - 48) (e - 48) (f - 48) (g - 48) (h - 48) number nines,
    )

-- of the first eight bytes of a text
abbrev pub EachOf : (ℕ → Type 0) → List ℕ → Type 0
EachOf P text = Each P (get_or text 0 0) (get_or text 1 0) (get_or text 2 0) (get_or text 3 0) (get_or text 4 0) (get_or text 5 0) (get_or text 6 0) (get_or text 7 0)

abbrev pub word_in : List ℕ → ℕ
word_in text = word_of (get_or text 0 0) (get_or text 1 0) (get_or text 2 0) (get_or text 3 0) (get_or text 4 0) (get_or text 5 0) (get_or text 6 0) (get_or text 7 0)

pub bytes_of : (text : List ℕ) → ((i : ℕ) → get_or text i 0 < 256) → EachOf IsByte text
bytes_of text small = record { of_0 = small 0; of_1 = small 1; of_2 = small 2; of_3 = small 3; of_4 = small 4; of_5 = small 5; of_6 = small 6; of_7 = small 7 }

zero_halves : (text : List ℕ) (w : ℕ) → ((i : ℕ) → get_or text i 0 < 256) → w ≡ word_in text → bit_and w 0xf0f0f0f0f0f0f0f0 ≡ zeros → EachOf (HasHalf 48) text
zero_halves text w small is halves =
    let byte : 48 < 256 = omega arith in
    halves_are 48 (get_or text 0 0) (get_or text 1 0) (get_or text 2 0) (get_or text 3 0) (get_or text 4 0) (get_or text 5 0) (get_or text 6 0) (get_or text 7 0) byte
    (bytes_of text small) (ap (λ (n : ℕ). bit_and n 0xf0f0f0f0f0f0f0f0) (sym is) ∙ halves)

nine_bytes : (text : List ℕ) (w : ℕ) → ((i : ℕ) → get_or text i 0 < 256) → w ≡ word_in text → bit_and w 0xf0f0f0f0f0f0f0f0 ≡ zeros
    → bit_and (w - zeros + 0x0606060606060606) 0xf0f0f0f0f0f0f0f0 ≡ 0 → EachOf IsUpTo9 text
nine_bytes text w small is halves above =
    digits_below w (get_or text 0 0) (get_or text 1 0) (get_or text 2 0) (get_or text 3 0) (get_or text 4 0) (get_or text 5 0) (get_or text 6 0) (get_or text 7 0) is
    (zero_halves text w small is halves) above

-- the word of a text whose high halves are those of eight bytes `0`
pub word_zeros : (text : List ℕ) (w : ℕ) → ((i : ℕ) → get_or text i 0 < 256) → w ≡ word_in text → bit_and w 0xf0f0f0f0f0f0f0f0 ≡ zeros → (zeros ≤ w) × (w ≤ 0x3f3f3f3f3f3f3f3f)
word_zeros text w small is halves =
    zeros_below w (get_or text 0 0) (get_or text 1 0) (get_or text 2 0) (get_or text 3 0) (get_or text 4 0) (get_or text 5 0) (get_or text 6 0) (get_or text 7 0) is
    (zero_halves text w small is halves)

-- the same, and no byte is above `9`
pub word_nines : (text : List ℕ) (w : ℕ) → ((i : ℕ) → get_or text i 0 < 256) → w ≡ word_in text → bit_and w 0xf0f0f0f0f0f0f0f0 ≡ zeros
    → bit_and (w - zeros + 0x0606060606060606) 0xf0f0f0f0f0f0f0f0 ≡ 0 → w - zeros ≤ 0x0909090909090909
word_nines text w small is halves above =
    nines_below w (get_or text 0 0) (get_or text 1 0) (get_or text 2 0) (get_or text 3 0) (get_or text 4 0) (get_or text 5 0) (get_or text 6 0) (get_or text 7 0) is
    (nine_bytes text w small is halves above)

pub word_number : (text : List ℕ) (w : ℕ) → length text ≡ 8 → ((i : ℕ) → get_or text i 0 < 256) → w ≡ word_in text → bit_and w 0xf0f0f0f0f0f0f0f0 ≡ zeros
    → bit_and (w - zeros + 0x0606060606060606) 0xf0f0f0f0f0f0f0f0 ≡ 0
    → AreDigitsOf text (number_in (10 * (w - zeros) + (w - zeros) / 256)) × (number_in (10 * (w - zeros) + (w - zeros) / 256) < 10 ^ 8)
word_number text w long small is halves above =
    let n = number_in (10 * (w - zeros) + (w - zeros) / 256) in
    let read = eight_are w (get_or text 0 0) (get_or text 1 0) (get_or text 2 0) (get_or text 3 0) (get_or text 4 0) (get_or text 5 0) (get_or text 6 0) (get_or text 7 0) is
    (nine_bytes text w small is halves above) in
    (subst (λ (t : List ℕ). AreDigitsOf t n) (sym (eight_items text long)) read.0, read.1)

-- ---- an amount of ten columns before the point

pub three_read : (text : List ℕ) (n : ℕ) → length text ≡ 3 → is_digit (get_or text 0 0) ≡ true → is_digit (get_or text 1 0) ≡ true → is_digit (get_or text 2 0) ≡ true
    → n ≡ 100 * (get_or text 0 0 - 48) + 10 * (get_or text 1 0 - 48) + (get_or text 2 0 - 48) → AreDigitsOf text n
three_read [] n l is₁ is₂ is₃ value = absurd (omega (arith, l))
three_read (a ∷ []) n l is₁ is₂ is₃ value = absurd (omega (arith, l))
three_read (a ∷ b ∷ []) n l is₁ is₂ is₃ value = absurd (omega (arith, l))
three_read (a ∷ b ∷ c ∷ []) n l is₁ is₂ is₃ value = record { digits = rw (is₁, is₂, is₃) refl; value = omega (arith, value) }
three_read (a ∷ b ∷ c ∷ d ∷ bs) n l is₁ is₂ is₃ value = absurd (omega (arith, l))

-- the first two columns, and those after them
front_is : (text : List ℕ) → 2 ≤ length text → take 10 text ≡ get_or text 0 0 ∷ get_or text 1 0 ∷ take 8 (drop 2 text)
front_is [] some = absurd (omega (arith, some))
front_is (a ∷ []) some = absurd (omega (arith, some))
front_is (a ∷ b ∷ text) some = refl

-- a blank, or a digit
high_cases : (b n : ℕ) → digit_of b ≡ Some n → ((b ≡ 32) × (n ≡ 0)) ⊎ ((is_digit b ≡ true) × (n ≡ b - 48))
high_cases b n says = by_blank (b == 32) refl
  where
    by_digit : (b == 32) ≡ false → (t : Bool) → is_digit b ≡ t → ((b ≡ 32) × (n ≡ 0)) ⊎ ((is_digit b ≡ true) × (n ≡ b - 48))
    by_digit other true is = let same : Some (b - 48) ≡ Some n = rw (other, is) at says in inr (is, (let digit_is : b - 48 ≡ n = cc (same) in sym digit_is))
    by_digit other false is = let none : None ≡ Some n = rw (other, is) at says in absurd cc

    by_blank : (t : Bool) → (b == 32) ≡ t → ((b ≡ 32) × (n ≡ 0)) ⊎ ((is_digit b ≡ true) × (n ≡ b - 48))
    by_blank true is = let same : Some 0 ≡ Some n = rw is at says in let is_zero : 0 ≡ n = cc (same) in inl (grind (arith, nat_tests), sym is_zero)
    by_blank false is = by_digit is (is_digit b) refl

-- a digit before others
digit_before : (b low : ℕ) (digits : List ℕ) → length digits ≡ 8 → is_digit b ≡ true → AreDigitsOf digits low → AreDigitsOf (b ∷ digits) (100_000_000 * (b - 48) + low)
digit_before b low digits eight is are =
    let sum : number_from (10 * 0 + (b - 48)) digits ≡ (10 * 0 + (b - 48)) * 10 ^ 8 + digit_sum digits =
    number_from-sum (10 * 0 + (b - 48)) digits ∙ ap (λ k. (10 * 0 + (b - 48)) * 10 ^ k + digit_sum digits) eight in
    record { digits = rw is are.digits; value = omega (arith, are.value, digits_are digits, sum) }

pub long_is : (text part : List ℕ) (high low p : ℕ) → 2 ≤ length text → text ≡ take 10 text ++ 46 ∷ part → get_or text 0 0 ≡ 32 → digit_of (get_or text 1 0) ≡ Some high
    → length (take 8 (drop 2 text)) ≡ 8 → AreDigitsOf (take 8 (drop 2 text)) low → low < 10 ^ 8 → AreDigitsOf part p → length part ≡ 3 → p < 1000
    → Ok (signed false (1000 * (100_000_000 * high + low) + p)) ≡ fixed_of text 3
long_is text part high low p some is blank says eight digits few digits₂ three few₂ = by_high (high_cases (get_or text 1 0) high says)
  where
    b : ℕ
    b = get_or text 1 0

    rest : List ℕ
    rest = take 8 (drop 2 text)

    by_high : ((b ≡ 32) × (high ≡ 0)) ⊎ ((is_digit b ≡ true) × (high ≡ b - 48)) → Ok (signed false (1000 * (100_000_000 * high + low) + p)) ≡ fixed_of text 3
    by_high (inl second) =
        let value : 100_000_000 * high + low ≡ low = omega (arith, second.1) in
        let whole : AreDigitsOf rest (100_000_000 * high + low) = rw value digits in
        usual_is text (take 10 text) rest rest part false (100_000_000 * high + low) p is
        (record { before = get_or text 0 0 ∷ b ∷ []; text_is = front_is text some; blank = rw (blank, second.0) refl }) refl whole digits₂ three (omega (arith, value, few)) (omega (arith, few₂))
    by_high (inr second) =
        let value : 100_000_000 * high + low ≡ 100_000_000 * (b - 48) + low = omega (arith, second.1) in
        let whole : AreDigitsOf (b ∷ rest) (100_000_000 * high + low) = rw value (digit_before b low rest eight second.0 digits) in
        let up_to : b ≤ 57 = let b_is_digit : is_digit b ≡ true = second.0 in grind (arith, nat_tests) in
        usual_is text (take 10 text) (b ∷ rest) (b ∷ rest) part false (100_000_000 * high + low) p is
        (record { before = get_or text 0 0 ∷ []; text_is = front_is text some; blank = rw blank refl }) refl whole digits₂ three (omega (arith, value, few, up_to)) (omega (arith, few₂))
