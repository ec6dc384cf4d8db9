-- A number of a navigation file, read again.
use Rattle.std.proofs.Common.{◌≡◌, ℕ, ℤ, pos, negsuc, suc, ◌+◌, ◌*◌, ◌/◌, ◌%◌, ◌^◌, ◌<◌, ◌+ℤ◌, ◌==◌, Bool, true, false, List, [], ◌∷◌, ◌++◌, length, Ok, inl, inr, refl, sym, ap, ◌∙◌, arith}
use Rattle.std.proofs.lemmas.Int.{ints}
use Rattle.std.proofs.lemmas.Bool.Decides.{nat_tests}
use Rattle.decimal_text.specs.Whole.{size_of, digit_sum}
use Rattle.decimal_text.specs.Write.{last_digits}
use Rattle.decimal_text.specs.Fixed.{signed}
use Rattle.decimal_text.specs.FixedForm.{IsFixed, IsNumber}
use Rattle.decimal_text.specs.Exp.{ends_blank, dec_of}
use Rattle.decimal_text.specs.ExpForm.{IsReadAsDec, IsPower, IsSignedPower}
use Rattle.decimal_text.specs.declared.exponent.Dec.{Dec}
use Rattle.decimal_text.proofs.ExpReads.{dec_only}
use Rattle.sim_session.specs.Numbers.{sign_or, number_text}
use Rattle.sim_jobs.proofs.Digits.{last_digits-digits, last_digits-sum, last_digits-value, length-last_digits, sum-append}

-- the sign's meaning
abbrev below_0 : ℤ → Bool
below_0 (pos n) = false
below_0 (negsuc n) = true

signed_size : (z : ℤ) → signed (below_0 z) (size_of z) ≡ z
signed_size (pos n) = refl
signed_size (negsuc n) = refl

-- a digit, a point and twelve digits
digits_text : ℕ → List ℕ
digits_text n = last_digits 1 (n / 10 ^ 12) ++ 46 ∷ last_digits 12 n

front_text : ℤ → List ℕ
front_text mant = sign_or 32 mant ∷ digits_text (size_of mant)

power_text : ℤ → List ℕ
power_text power = sign_or 43 power ∷ last_digits 2 (size_of power)

number_is : (n : ℕ) → IsNumber (digits_text n) (last_digits 1 (n / 10 ^ 12)) (last_digits 12 n)
unfolding digits_text
number_is n = record {
  body = record {
    rest = 46 ∷ last_digits 12 n;
    text_is = refl;
    digits = last_digits-digits 1 (n / 10 ^ 12);
    ends = inr (last_digits 12 n, refl, record { after = []; text_is = refl; digits = last_digits-digits 12 n; blank = refl });
  };
  some = omega (arith, length-last_digits 1 (n / 10 ^ 12));
}

front_is : (mant : ℤ) → IsFixed (front_text mant) (below_0 mant) (last_digits 1 (size_of mant / 10 ^ 12)) (last_digits 12 (size_of mant))
unfolding front_text
front_is (pos n) = record { before = 32 ∷ []; rest = digits_text n; text_is = refl; blank = refl; number = inr (number_is n) }
front_is (negsuc n) = record { before = []; rest = 45 ∷ digits_text (suc n); text_is = refl; blank = refl; number = (digits_text (suc n), refl, number_is (suc n)) }

power_is : (power : ℤ) → IsSignedPower (power_text power) (below_0 power) (last_digits 2 (size_of power))
unfolding power_text
power_is power = by power
  where
    two : (n : ℕ) → IsPower (last_digits 2 n) (last_digits 2 n)
    two n = record { after = []; text_is = refl; digits = last_digits-digits 2 n; some = omega (arith, length-last_digits 2 n); few = omega (arith, length-last_digits 2 n); blank = refl }

    by : (power : ℤ) → IsSignedPower (sign_or 43 power ∷ last_digits 2 (size_of power)) (below_0 power) (last_digits 2 (size_of power))
    by (pos n) = inl (last_digits 2 n, refl, two n)
    by (negsuc n) = (last_digits 2 (suc n), refl, two (suc n))

ends_with_digit : (mant : ℤ) → ends_blank (front_text mant) ≡ false
unfolding front_text digits_text
ends_with_digit mant = last (size_of mant / 10 ^ 0)
  where
    last : (m : ℕ) → (48 + m % 10 == 32) ≡ false
    last m = grind (arith, nat_tests)

sum_from : (xs ys : List ℕ) (high n : ℕ) → digit_sum xs ≡ high → length ys ≡ 12 → high * 10 ^ 12 + digit_sum ys ≡ n → digit_sum (xs ++ ys) ≡ n
sum_from xs ys high n above twelve whole = sum-append xs ys ∙ rw (above, twelve) whole

sum_is : (n : ℕ) → n < 10 ^ 13 → digit_sum (last_digits 1 (n / 10 ^ 12) ++ last_digits 12 n) ≡ n
sum_is n few =
    let high : n / 10 ^ 12 < 10 ^ 1 = omega arith in
    sum_from (last_digits 1 (n / 10 ^ 12)) (last_digits 12 n) (n / 10 ^ 12) n (last_digits-value 1 (n / 10 ^ 12) high) (length-last_digits 12 n) (last_digits-sum 12 n)

number_text-is : (d : Dec) → number_text d ≡ front_text d.mant ++ 69 ∷ power_text (d.exp +ℤ pos 12)
unfolding number_text front_text digits_text power_text
number_text-is d = refl

-- 13 digits and a sign before them, and a power of two digits
pub record HasRoom (d : Dec) : Type 0 where
  pub digits : size_of d.mant < 10 ^ 13
  pub power : size_of (d.exp +ℤ pos 12) < 10 ^ 2

pub number_read : (d : Dec) → HasRoom d → IsReadAsDec (number_text d) (Ok d)
number_read d room = record {
  number = record {
    negative = below_0 d.mant;
    whole = last_digits 1 (size_of d.mant / 10 ^ 12);
    part = last_digits 12 (size_of d.mant);
    power = d.exp +ℤ pos 12;
    spelled = inr (
      below_0 (d.exp +ℤ pos 12),
      last_digits 2 (size_of (d.exp +ℤ pos 12)),
      record {
        front = front_text d.mant;
        mark = 69;
        tail = power_text (d.exp +ℤ pos 12);
        text_is = number_text-is d;
        number = front_is d.mant;
        next_to = ends_with_digit d.mant;
        marks = refl;
        exponent = power_is (d.exp +ℤ pos 12);
      },
      sym (ap (signed (below_0 (d.exp +ℤ pos 12))) (last_digits-value 2 (size_of (d.exp +ℤ pos 12)) room.power) ∙ signed_size (d.exp +ℤ pos 12)),
    );
  };
  short = omega (arith, sum_is (size_of d.mant) room.digits, room.digits);
  mant = sym (ap (signed (below_0 d.mant)) (sum_is (size_of d.mant) room.digits) ∙ signed_size d.mant);
  exp = omega (arith, ints, length-last_digits 12 (size_of d.mant));
}

pub number_again : (d : Dec) → HasRoom d → dec_of (number_text d) ≡ Ok d
number_again d room = sym (dec_only (number_text d) (Ok d) (number_read d room))
