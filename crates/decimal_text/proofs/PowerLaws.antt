-- Exponents: what is worked out of a text, and where it stops being one.
use Rattle.std.proofs.Common.{◌≡◌, ◌≢◌, ℕ, ℤ, ◌+◌, ◌-◌, ◌*◌, ◌≤◌, Bool, true, false, ◌==◌, List, [], ◌∷◌, ◌++◌, length, refl, sym, ap, subst, length-append, ◌∙◌, inl, inr, arith, Ok, Err, Result}
use Rattle.std.proofs.lemmas.Bool.{and_parts, and_from}
use Rattle.std.proofs.lemmas.Bool.Decides.{nat_tests}
use Rattle.decimal_text.specs.Whole.{is_digit, are_digits, number_from, digit_sum}
use Rattle.decimal_text.specs.Fixed.{is_blank, are_blank, signed}
use Rattle.decimal_text.specs.Shapes.{FailsFirst}
use Rattle.decimal_text.specs.Exp.{only_blanks, power_digits, signed_power, power_of}
use Rattle.decimal_text.specs.ExpForm.{IsPower, IsSignedPower}
use Rattle.decimal_text.proofs.Numbers.{digits_are}
use Rattle.decimal_text.proofs.FixedWalks.{blank_is}
use Rattle.decimal_text.proofs.ShapesLaws.{fails_behind, fails_alike}

-- ---- blanks

AreBlank : List ℕ → Type 0
AreBlank text = are_blank text ≡ true

blanks_pass : (text : List ℕ) (at n : ℕ) → are_blank text ≡ true → only_blanks text at n ≡ Ok n
blanks_pass [] at n blank = refl
blanks_pass (b ∷ bs) at n blank = let blank_parts = and_parts (is_blank b) (are_blank bs) blank in rw (blank_parts.0) (blanks_pass bs (at + 1) n blank_parts.1)

record BlanksTook (text : List ℕ) (n m : ℕ) : Type 0 where
  blank : are_blank text ≡ true
  same : m ≡ n

blanks_took : (text : List ℕ) (at n m : ℕ) → only_blanks text at n ≡ Ok m → BlanksTook text n m
blanks_took [] at n m is = record { blank = refl; same = cc }
blanks_took (b ∷ bs) at n m is = by (is_blank b) refl (λ e. blanks_took bs (at + 1) n m e)
  where
    by : (t : Bool) → is_blank b ≡ t → (only_blanks bs (at + 1) n ≡ Ok m → BlanksTook bs n m) → BlanksTook (b ∷ bs) n m
    by true blank later =
        let step : only_blanks (b ∷ bs) at n ≡ only_blanks bs (at + 1) n = rw blank refl in
        let rest_took = later (sym step ∙ is) in
        record { blank = and_from (is_blank b) (are_blank bs) blank rest_took.blank; same = rest_took.same }
    by false blank later = let step : only_blanks (b ∷ bs) at n ≡ Err at = rw blank refl in absurd (cc (step, is))

-- ---- digits after k others

-- further digits, up to three in all, and blanks
record IsRestOfPower (k : ℕ) (text : List ℕ) : Type 0 where
  power : List ℕ
  after : List ℕ
  text_is : text ≡ power ++ after
  digits : are_digits power ≡ true
  some : 1 ≤ k + length power
  few : k + length power ≤ 3
  blank : are_blank after ≡ true

digits_pass : (power after : List ℕ) (at n k : ℕ) → are_digits power ≡ true → are_blank after ≡ true → 1 ≤ k + length power → k + length power ≤ 3
    → power_digits (power ++ after) at n k ≡ Ok (number_from n power)
digits_pass [] [] at n k digits blank some few = let more : (k == 0) ≡ false = grind (arith, nat_tests) in rw more refl
digits_pass [] (b ∷ bs) at n k digits blank some few =
    let more : (k == 0) ≡ false = grind (arith, nat_tests) in
    let blank_parts = and_parts (is_blank b) (are_blank bs) blank in
    let is_space : b ≡ 32 = blank_is b blank_parts.0 in
    let no_digit : is_digit b ≡ false = rw is_space refl in
    rw (no_digit, more) (blanks_pass (b ∷ bs) at n blank)
digits_pass (d ∷ ds) after at n k digits blank some few =
    let digit_parts = and_parts (is_digit d) (are_digits ds) digits in
    let room : (k == 3) ≡ false = grind (arith, nat_tests) in
    rw (digit_parts.0, room) (digits_pass ds after (at + 1) (10 * n + (d - 48)) (k + 1) digit_parts.1 blank (omega arith) (omega arith))

record DigitsTook (text : List ℕ) (n k m : ℕ) : Type 0 where
  power : List ℕ
  after : List ℕ
  text_is : text ≡ power ++ after
  digits : are_digits power ≡ true
  some : 1 ≤ k + length power
  few : k + length power ≤ 3
  blank : are_blank after ≡ true
  value : m ≡ number_from n power

digits_took : (text : List ℕ) (at n k m : ℕ) → k ≤ 3 → power_digits text at n k ≡ Ok m → DigitsTook text n k m
digits_took [] at n k m most is = by (k == 0) refl
  where
    by : (t : Bool) → (k == 0) ≡ t → DigitsTook [] n k m
    by true none = let step : power_digits [] at n k ≡ Err at = rw none refl in absurd (cc (step, is))
    by false some =
        let step : power_digits [] at n k ≡ Ok n = rw some refl in
        record { power = []; after = []; text_is = refl; digits = refl; some = grind (arith, nat_tests); few = omega arith; blank = refl; value = cc (step, is) }
digits_took (b ∷ bs) at n k m most is = by_digit (is_digit b) refl (λ less e. digits_took bs (at + 1) (10 * n + (b - 48)) (k + 1) m less e)
  where
    by_room : (k + 1 ≤ 3 → power_digits bs (at + 1) (10 * n + (b - 48)) (k + 1) ≡ Ok m → DigitsTook bs (10 * n + (b - 48)) (k + 1) m)
        → is_digit b ≡ true → (t : Bool) → (k == 3) ≡ t → DigitsTook (b ∷ bs) n k m
    by_room later digit true full = let step : power_digits (b ∷ bs) at n k ≡ Err at = rw (digit, full) refl in absurd (cc (step, is))
    by_room later digit false room =
        let step : power_digits (b ∷ bs) at n k ≡ power_digits bs (at + 1) (10 * n + (b - 48)) (k + 1) = rw (digit, room) refl in
        let less : k + 1 ≤ 3 = grind (arith, nat_tests) in
        let rest_took = later less (sym step ∙ is) in
        record {
          power = b ∷ rest_took.power;
          after = rest_took.after;
          text_is = ap (λ l. b ∷ l) rest_took.text_is;
          digits = and_from (is_digit b) (are_digits rest_took.power) digit rest_took.digits;
          some = omega (arith, rest_took.some);
          few = omega (arith, rest_took.few);
          blank = rest_took.blank;
          value = rest_took.value;
        }

    by_some : is_digit b ≡ false → (t : Bool) → (k == 0) ≡ t → DigitsTook (b ∷ bs) n k m
    by_some digit true none = let step : power_digits (b ∷ bs) at n k ≡ Err at = rw (digit, none) refl in absurd (cc (step, is))
    by_some digit false some =
        let step : power_digits (b ∷ bs) at n k ≡ only_blanks (b ∷ bs) at n = rw (digit, some) refl in
        let took_blanks = blanks_took (b ∷ bs) at n m (sym step ∙ is) in
        record { power = []; after = b ∷ bs; text_is = refl; digits = refl; some = grind (arith, nat_tests); few = omega arith; blank = took_blanks.blank; value = took_blanks.same }

    by_digit : (t : Bool) → is_digit b ≡ t → (k + 1 ≤ 3 → power_digits bs (at + 1) (10 * n + (b - 48)) (k + 1) ≡ Ok m → DigitsTook bs (10 * n + (b - 48)) (k + 1) m) → DigitsTook (b ∷ bs) n k m
    by_digit true digit later = by_room later digit (k == 3) refl
    by_digit false digit later = by_some digit (k == 0) refl

-- ---- where they fail

record PlaceOf (Is : List ℕ → Type 0) (text : List ℕ) (at i : ℕ) : Type 0 where
  p : ℕ
  at_is : i ≡ at + p
  fails : FailsFirst Is text p

blanks_fail : (text : List ℕ) (at n i : ℕ) → only_blanks text at n ≡ Err i → PlaceOf AreBlank text at i
unfolding AreBlank
blanks_fail [] at n i is = absurd cc
blanks_fail (b ∷ bs) at n i is = by (is_blank b) refl (λ e. blanks_fail bs (at + 1) n i e)
  where
    by : (t : Bool) → is_blank b ≡ t → (only_blanks bs (at + 1) n ≡ Err i → PlaceOf AreBlank bs (at + 1) i) → PlaceOf AreBlank (b ∷ bs) at i
    by true blank later =
        let step : only_blanks (b ∷ bs) at n ≡ only_blanks bs (at + 1) n = rw blank refl in
        let rest_fails = later (sym step ∙ is) in
        record {
          p = 1 + rest_fails.p;
          at_is = omega (arith, rest_fails.at_is);
          fails = fails_behind AreBlank AreBlank (b ∷ [])
              (λ u h. and_from (is_blank b) (are_blank u) blank h) (λ u h. (and_parts (is_blank b) (are_blank u) h).1) bs rest_fails.p rest_fails.fails;
        }
    by false blank later =
        let step : only_blanks (b ∷ bs) at n ≡ Err at = rw blank refl in
        let same : at ≡ i = cc (step, is) in
        record {
          p = 0;
          at_is = omega arith;
          fails = record {
            front = [];
            rest = b ∷ bs;
            text_is = refl;
            at_is = refl;
            begun = record { further = []; whole = refl };
            stuck = λ begun. cc (blank, (and_parts (is_blank b) (are_blank begun.further) begun.whole).0);
          };
        }

-- what the first byte is of a rest of an exponent
first_digit : (k b : ℕ) (t : List ℕ) (h : IsRestOfPower k (b ∷ t)) → is_digit b ≡ true → k + 1 ≤ 3 → IsRestOfPower (k + 1) t
first_digit k b t h digit less = by h.power h.after h.text_is h.digits h.some h.few h.blank
  where
    by : (power after : List ℕ) → b ∷ t ≡ power ++ after → are_digits power ≡ true → 1 ≤ k + length power → k + length power ≤ 3 → are_blank after ≡ true → IsRestOfPower (k + 1) t
    by [] after is digits some few blank =
        let first : is_blank b ≡ true = (and_parts (is_blank b) (are_blank t) (ap are_blank is ∙ blank)).0 in
        let at_32 : b ≡ 32 = blank_is b first in
        let none : is_digit b ≡ false = rw at_32 refl in
        absurd (cc (none, digit))
    by (c ∷ cs) after is digits some few blank =
        let tail : t ≡ cs ++ after = cc in
        record { power = cs; after = after; text_is = tail; digits = (and_parts (is_digit c) (are_digits cs) digits).1; some = omega arith; few = omega arith; blank = blank }

only_blank : (k b : ℕ) (t : List ℕ) (h : IsRestOfPower k (b ∷ t)) → is_digit b ≡ false → are_blank (b ∷ t) ≡ true
only_blank k b t h digit = by h.power h.after h.text_is h.digits h.blank
  where
    by : (power after : List ℕ) → b ∷ t ≡ power ++ after → are_digits power ≡ true → are_blank after ≡ true → are_blank (b ∷ t) ≡ true
    by [] after is digits blank = ap are_blank is ∙ blank
    by (c ∷ cs) after is digits blank =
        let same : b ≡ c = cc in
        let first : is_digit c ≡ true = (and_parts (is_digit c) (are_digits cs) digits).0 in
        absurd (cc (same, first, digit))

-- no digit has room after three, and no digit is no exponent
no_room : (b : ℕ) (t : List ℕ) → IsRestOfPower 3 (b ∷ t) → is_digit b ≡ true → ⊥
no_room b t h digit = by h.power h.after h.text_is h.few h.blank
  where
    by : (power after : List ℕ) → b ∷ t ≡ power ++ after → 3 + length power ≤ 3 → are_blank after ≡ true → ⊥
    by [] after is few blank =
        let at_32 : b ≡ 32 = blank_is b (and_parts (is_blank b) (are_blank t) (ap are_blank is ∙ blank)).0 in
        let none : is_digit b ≡ false = rw at_32 refl in
        cc (none, digit)
    by (c ∷ cs) after is few blank = omega arith

no_first : (b : ℕ) (t : List ℕ) → IsRestOfPower 0 (b ∷ t) → is_digit b ≡ false → ⊥
no_first b t h digit = by h.power h.after h.text_is h.digits h.some
  where
    by : (power after : List ℕ) → b ∷ t ≡ power ++ after → are_digits power ≡ true → 1 ≤ 0 + length power → ⊥
    by [] after is digits some = omega arith
    by (c ∷ cs) after is digits some =
        let same : b ≡ c = cc in
        let first : is_digit c ≡ true = (and_parts (is_digit c) (are_digits cs) digits).0 in
        cc (same, first, digit)

one_digit : (k : ℕ) → k + 1 ≤ 3 → IsRestOfPower k (48 ∷ [])
one_digit k less = record { power = 48 ∷ []; after = []; text_is = refl; digits = refl; some = omega arith; few = omega arith; blank = refl }

no_digits : (k : ℕ) → 1 ≤ k → k ≤ 3 → (t : List ℕ) → are_blank t ≡ true → IsRestOfPower k t
no_digits k some few t blank = record { power = []; after = t; text_is = refl; digits = refl; some = omega arith; few = omega arith; blank = blank }

with_digit : (k b : ℕ) (u : List ℕ) (h : IsRestOfPower (k + 1) u) → is_digit b ≡ true → IsRestOfPower k (b ∷ u)
with_digit k b u h digit = record {
  power = b ∷ h.power;
  after = h.after;
  text_is = ap (λ l. b ∷ l) h.text_is;
  digits = and_from (is_digit b) (are_digits h.power) digit h.digits;
  some = omega arith;
  few = omega (arith, h.few);
  blank = h.blank;
}

digits_fail : (text : List ℕ) (at n k i : ℕ) → k ≤ 3 → power_digits text at n k ≡ Err i → PlaceOf (IsRestOfPower k) text at i
unfolding AreBlank
digits_fail [] at n k i most is = by (k == 0) refl
  where
    by : (t : Bool) → (k == 0) ≡ t → PlaceOf (IsRestOfPower k) [] at i
    by true none =
        let step : power_digits [] at n k ≡ Err at = rw none refl in
        let same : at ≡ i = cc (step, is) in
        let zero_is : k ≡ 0 = grind (arith, nat_tests) in
        record {
          p = 0;
          at_is = omega arith;
          fails = record {
            front = [];
            rest = [];
            text_is = refl;
            at_is = refl;
            begun = record { further = 48 ∷ []; whole = one_digit k (omega arith) };
            stuck = λ h.
                let len = ap length h.text_is in
                omega (arith, h.some, length-append h.power h.after);
          };
        }
    by false some = let step : power_digits [] at n k ≡ Ok n = rw some refl in absurd (cc (step, is))
digits_fail (b ∷ bs) at n k i most is = by_digit (is_digit b) refl (λ less e. digits_fail bs (at + 1) (10 * n + (b - 48)) (k + 1) i less e)
  where
    by_room : (k + 1 ≤ 3 → power_digits bs (at + 1) (10 * n + (b - 48)) (k + 1) ≡ Err i → PlaceOf (IsRestOfPower (k + 1)) bs (at + 1) i)
        → is_digit b ≡ true → (t : Bool) → (k == 3) ≡ t → PlaceOf (IsRestOfPower k) (b ∷ bs) at i
    by_room later digit true full =
        let step : power_digits (b ∷ bs) at n k ≡ Err at = rw (digit, full) refl in
        let same : at ≡ i = cc (step, is) in
        let three : k ≡ 3 = grind (arith, nat_tests) in
        record {
          p = 0;
          at_is = omega arith;
          fails = record {
            front = [];
            rest = b ∷ bs;
            text_is = refl;
            at_is = refl;
            begun = record { further = []; whole = no_digits k (omega arith) (omega arith) [] refl };
            stuck = λ begun. no_room b begun.further (subst (λ j. IsRestOfPower j (b ∷ begun.further)) three begun.whole) digit;
          };
        }
    by_room later digit false room =
        let step : power_digits (b ∷ bs) at n k ≡ power_digits bs (at + 1) (10 * n + (b - 48)) (k + 1) = rw (digit, room) refl in
        let less : k + 1 ≤ 3 = grind (arith, nat_tests) in
        let rest_fails = later less (sym step ∙ is) in
        record {
          p = 1 + rest_fails.p;
          at_is = omega (arith, rest_fails.at_is);
          fails = fails_behind (IsRestOfPower (k + 1)) (IsRestOfPower k) (b ∷ [])
              (λ u h. with_digit k b u h digit) (λ u h. first_digit k b u h digit less) bs rest_fails.p rest_fails.fails;
        }

    by_some : is_digit b ≡ false → (t : Bool) → (k == 0) ≡ t → PlaceOf (IsRestOfPower k) (b ∷ bs) at i
    by_some digit true none =
        let step : power_digits (b ∷ bs) at n k ≡ Err at = rw (digit, none) refl in
        let same : at ≡ i = cc (step, is) in
        let zero_is : k ≡ 0 = grind (arith, nat_tests) in
        record {
          p = 0;
          at_is = omega arith;
          fails = record {
            front = [];
            rest = b ∷ bs;
            text_is = refl;
            at_is = refl;
            begun = record { further = 48 ∷ []; whole = one_digit k (omega arith) };
            stuck = λ begun. no_first b begun.further (subst (λ j. IsRestOfPower j (b ∷ begun.further)) zero_is begun.whole) digit;
          };
        }
    by_some digit false some =
        let step : power_digits (b ∷ bs) at n k ≡ only_blanks (b ∷ bs) at n = rw (digit, some) refl in
        let least : 1 ≤ k = grind (arith, nat_tests) in
        let blanks_failed = blanks_fail (b ∷ bs) at n i (sym step ∙ is) in
        record { p = blanks_failed.p; at_is = blanks_failed.at_is; fails = fails_alike AreBlank (IsRestOfPower k) b (λ u h. no_digits k least most u h) (λ u h. only_blank k b u h digit) bs blanks_failed.p blanks_failed.fails }

    by_digit : (t : Bool) → is_digit b ≡ t
        → (k + 1 ≤ 3 → power_digits bs (at + 1) (10 * n + (b - 48)) (k + 1) ≡ Err i → PlaceOf (IsRestOfPower (k + 1)) bs (at + 1) i)
        → PlaceOf (IsRestOfPower k) (b ∷ bs) at i
    by_digit true digit later = by_room later digit (k == 3) refl
    by_digit false digit later = by_some digit (k == 0) refl

-- ---- with a sign

pub record IsSomePower (text : List ℕ) : Type 0 where
  pub negative : Bool
  pub power : List ℕ
  pub signed_is : IsSignedPower text negative power

from_rest : (t : List ℕ) (h : IsRestOfPower 0 t) → IsPower t h.power
from_rest t h = record { after = h.after; text_is = h.text_is; digits = h.digits; some = omega (arith, h.some); few = omega (arith, h.few); blank = h.blank }

to_rest : (t power : List ℕ) → IsPower t power → IsRestOfPower 0 t
to_rest t power h = record { power = power; after = h.after; text_is = h.text_is; digits = h.digits; some = omega (arith, h.some); few = omega (arith, h.few); blank = h.blank }

-- its first byte is a digit
power_first : (b : ℕ) (t power : List ℕ) → IsPower (b ∷ t) power → is_digit b ≡ true
power_first b t [] h = let some = h.some in absurd (omega arith)
power_first b t (c ∷ cs) h =
    let same : b ≡ c = cc (h.text_is) in
    rw same ((and_parts (is_digit c) (are_digits cs) h.digits).0)

no_plus : (t power : List ℕ) → IsPower (43 ∷ t) power → ⊥
no_plus t power h = let first = power_first 43 t power h in cc first

no_minus : (t power : List ℕ) → IsPower (45 ∷ t) power → ⊥
no_minus t power h = let first = power_first 45 t power h in cc first

other_first : (a b : ℕ) (xs ys : List ℕ) → a ≢ b → a ∷ xs ≡ b ∷ ys → ⊥
other_first a b xs ys apart is = let same : a ≡ b = cc in apart same

behind_plus : (t : List ℕ) → IsSomePower (43 ∷ t) → IsRestOfPower 0 t
behind_plus t h = by h.negative h.power h.signed_is
  where
    by : (negative : Bool) (power : List ℕ) → IsSignedPower (43 ∷ t) negative power → IsRestOfPower 0 t
    by true power (rest, is, h) = absurd (other_first 43 45 t rest (omega arith) is)
    by false power (inl (rest, is, h)) = let same : rest ≡ t = cc in to_rest t power (subst (λ u. IsPower u power) same h)
    by false power (inr h) = absurd (no_plus t power h)

behind_minus : (t : List ℕ) → IsSomePower (45 ∷ t) → IsRestOfPower 0 t
behind_minus t h = by h.negative h.power h.signed_is
  where
    by : (negative : Bool) (power : List ℕ) → IsSignedPower (45 ∷ t) negative power → IsRestOfPower 0 t
    by true power (rest, is, h) = let same : rest ≡ t = cc in to_rest t power (subst (λ u. IsPower u power) same h)
    by false power (inl (rest, is, h)) = absurd (other_first 45 43 t rest (omega arith) is)
    by false power (inr h) = absurd (no_minus t power h)

unsigned : (b : ℕ) (t : List ℕ) → (b == 43) ≡ false → (b == 45) ≡ false → IsSomePower (b ∷ t) → IsRestOfPower 0 (b ∷ t)
unsigned b t no_plus_sign no_minus_sign h = by h.negative h.power h.signed_is
  where
    by : (negative : Bool) (power : List ℕ) → IsSignedPower (b ∷ t) negative power → IsRestOfPower 0 (b ∷ t)
    by true power (rest, is, h) =
        let same : b ≡ 45 = cc in
        let test : (b == 45) ≡ true = rw same refl in
        absurd (cc (test, no_minus_sign))
    by false power (inl (rest, is, h)) =
        let same : b ≡ 43 = cc in
        let test : (b == 43) ≡ true = rw same refl in
        absurd (cc (test, no_plus_sign))
    by false power (inr h) = to_rest (b ∷ t) power h

signed_err : (negative : Bool) (r : Result ℕ ℕ) (i : ℕ) → signed_power negative r ≡ Err i → r ≡ Err i
signed_err negative (Ok n) i is = absurd cc
signed_err negative (Err at) i is = cc

one_power : IsPower (48 ∷ []) (48 ∷ [])
one_power = record { after = []; text_is = refl; digits = refl; some = omega arith; few = omega arith; blank = refl }

-- where the exponent fails
pub power_fails : (text : List ℕ) (i : ℕ) → power_of text ≡ Err i → FailsFirst IsSomePower text i
power_fails [] i is =
    let same : 0 ≡ i = cc in
    subst (FailsFirst IsSomePower []) same (record {
      front = [];
      rest = [];
      text_is = refl;
      at_is = refl;
      begun = record { further = 48 ∷ []; whole = record { negative = false; power = 48 ∷ []; signed_is = inr one_power } };
      stuck = λ h. nothing h.negative h.power h.signed_is;
    })
  where
    nothing : (negative : Bool) (power : List ℕ) → IsSignedPower [] negative power → ⊥
    nothing true power (rest, is, h) = cc
    nothing false power (inl (rest, is, h)) = cc
    nothing false power (inr h) = let len = ap length h.text_is in omega (arith, h.some, length-append power h.after)
power_fails (b ∷ bs) i is = by_plus (b == 43) refl
  where
    place : (u : List ℕ) (at : ℕ) (t : PlaceOf (IsRestOfPower 0) u at i) → at ≡ 1 → (c : ℕ) → ((v : List ℕ) → IsRestOfPower 0 v → IsSomePower (c ∷ v))
        → ((v : List ℕ) → IsSomePower (c ∷ v) → IsRestOfPower 0 v) → FailsFirst IsSomePower (c ∷ u) i
    place u at t one c to back =
        let same : 1 + t.p ≡ i = omega (arith, t.at_is) in
        subst (FailsFirst IsSomePower (c ∷ u)) same (fails_behind (IsRestOfPower 0) IsSomePower (c ∷ []) to back u t.p t.fails)

    by_minus : (t : Bool) → (b == 43) ≡ false → (b == 45) ≡ t → FailsFirst IsSomePower (b ∷ bs) i
    by_minus true no_plus_sign sign =
        let at_45 : b ≡ 45 = grind (arith, nat_tests) in
        let step : power_of (b ∷ bs) ≡ signed_power true (power_digits bs 1 0 0) = rw (no_plus_sign, sign) refl in
        rw at_45 (place bs 1 (digits_fail bs 1 0 0 i (omega arith) (signed_err true (power_digits bs 1 0 0) i (sym step ∙ is))) refl 45
        (λ v h. record { negative = true; power = h.power; signed_is = (v, refl, from_rest v h) }) behind_minus)
    by_minus false no_plus_sign no_minus_sign =
        let step : power_of (b ∷ bs) ≡ signed_power false (power_digits (b ∷ bs) 0 0 0) = rw (no_plus_sign, no_minus_sign) refl in
        let digits_failed = digits_fail (b ∷ bs) 0 0 0 i (omega arith) (signed_err false (power_digits (b ∷ bs) 0 0 0) i (sym step ∙ is)) in
        let same : digits_failed.p ≡ i = omega (arith, digits_failed.at_is) in
        subst (FailsFirst IsSomePower (b ∷ bs)) same
        (fails_alike (IsRestOfPower 0) IsSomePower b (λ v h. record { negative = false; power = h.power; signed_is = inr (from_rest v h) })
        (λ v h. unsigned b v no_plus_sign no_minus_sign h) bs digits_failed.p digits_failed.fails)

    by_plus : (t : Bool) → (b == 43) ≡ t → FailsFirst IsSomePower (b ∷ bs) i
    by_plus true sign =
        let at_43 : b ≡ 43 = grind (arith, nat_tests) in
        let step : power_of (b ∷ bs) ≡ signed_power false (power_digits bs 1 0 0) = rw sign refl in
        rw at_43 (place bs 1 (digits_fail bs 1 0 0 i (omega arith) (signed_err false (power_digits bs 1 0 0) i (sym step ∙ is))) refl 43
        (λ v h. record { negative = false; power = h.power; signed_is = inl (v, refl, from_rest v h) }) behind_plus)
    by_plus false no_plus_sign = by_minus (b == 45) no_plus_sign refl

power_digits_is : (t power : List ℕ) (at : ℕ) → IsPower t power → power_digits t at 0 0 ≡ Ok (digit_sum power)
power_digits_is t power at h =
    rw (h.text_is, ← digits_are power) (digits_pass power h.after at 0 0 h.digits h.blank (omega (arith, h.some)) (omega (arith, h.few)))

-- an exponent is worked out as its digits say
pub power_is : (text : List ℕ) (negative : Bool) (power : List ℕ) → IsSignedPower text negative power → power_of text ≡ Ok (signed negative (digit_sum power))
power_is text true power (rest, is, h) = rw (is, power_digits_is rest power 1 h) refl
power_is text false power (inl (rest, is, h)) = rw (is, power_digits_is rest power 1 h) refl
power_is [] false power (inr h) = let len = ap length h.text_is in absurd (omega (arith, h.some, length-append power h.after))
power_is (b ∷ bs) false power (inr h) =
    let first = power_first b bs power h in
    let plus : (b == 43) ≡ false = grind (arith, nat_tests) in
    let minus : (b == 45) ≡ false = grind (arith, nat_tests) in
    rw (plus, minus, power_digits_is (b ∷ bs) power 0 h) refl

pub record PowerTook (text : List ℕ) (z : ℤ) : Type 0 where
  pub negative : Bool
  pub power : List ℕ
  pub signed_is : IsSignedPower text negative power
  pub value : z ≡ signed negative (digit_sum power)

record SignedOk (negative : Bool) (r : Result ℕ ℕ) (z : ℤ) : Type 0 where
  n : ℕ
  was : r ≡ Ok n
  value : z ≡ signed negative n

signed_ok : (negative : Bool) (r : Result ℕ ℕ) (z : ℤ) → signed_power negative r ≡ Ok z → SignedOk negative r z
signed_ok negative (Ok n) z is = record { n = n; was = refl; value = cc }
signed_ok negative (Err at) z is = absurd cc

power_from : (t : List ℕ) (n m : ℕ) (h : DigitsTook t n 0 m) → IsPower t h.power
power_from t n m h = record { after = h.after; text_is = h.text_is; digits = h.digits; some = omega (arith, h.some); few = omega (arith, h.few); blank = h.blank }

-- and what is worked out is one
pub power_took : (text : List ℕ) (z : ℤ) → power_of text ≡ Ok z → PowerTook text z
power_took [] z is = absurd cc
power_took (b ∷ bs) z is = by_plus (b == 43) refl
  where
    by_minus : (t : Bool) → (b == 43) ≡ false → (b == 45) ≡ t → PowerTook (b ∷ bs) z
    by_minus true no_plus_sign sign =
        let at_45 : b ≡ 45 = grind (arith, nat_tests) in
        let step : power_of (b ∷ bs) ≡ signed_power true (power_digits bs 1 0 0) = rw (no_plus_sign, sign) refl in
        let took_signed = signed_ok true (power_digits bs 1 0 0) z (sym step ∙ is) in
        let took_digits = digits_took bs 1 0 0 took_signed.n (omega arith) took_signed.was in
        record { negative = true; power = took_digits.power; signed_is = (bs, ap (λ x. x ∷ bs) at_45, power_from bs 0 took_signed.n took_digits); value = took_signed.value ∙ ap (signed true) (took_digits.value ∙ digits_are took_digits.power) }
    by_minus false no_plus_sign no_minus_sign =
        let step : power_of (b ∷ bs) ≡ signed_power false (power_digits (b ∷ bs) 0 0 0) = rw (no_plus_sign, no_minus_sign) refl in
        let took_signed = signed_ok false (power_digits (b ∷ bs) 0 0 0) z (sym step ∙ is) in
        let took_digits = digits_took (b ∷ bs) 0 0 0 took_signed.n (omega arith) took_signed.was in
        record { negative = false; power = took_digits.power; signed_is = inr (power_from (b ∷ bs) 0 took_signed.n took_digits); value = took_signed.value ∙ ap (signed false) (took_digits.value ∙ digits_are took_digits.power) }

    by_plus : (t : Bool) → (b == 43) ≡ t → PowerTook (b ∷ bs) z
    by_plus true sign =
        let at_43 : b ≡ 43 = grind (arith, nat_tests) in
        let step : power_of (b ∷ bs) ≡ signed_power false (power_digits bs 1 0 0) = rw sign refl in
        let took_signed = signed_ok false (power_digits bs 1 0 0) z (sym step ∙ is) in
        let took_digits = digits_took bs 1 0 0 took_signed.n (omega arith) took_signed.was in
        record { negative = false; power = took_digits.power; signed_is = inl (bs, ap (λ x. x ∷ bs) at_43, power_from bs 0 took_signed.n took_digits); value = took_signed.value ∙ ap (signed false) (took_digits.value ∙ digits_are took_digits.power) }
    by_plus false no_plus_sign = by_minus (b == 45) no_plus_sign refl
