-- A number with a point, read again.
use Rattle.std.proofs.Common.{◌≡◌, ℕ, ℤ, pos, negsuc, zero, suc, ◌/◌, ◌-◌, ◌^◌, ◌≤◌, ◌<◌, true, false, [], ◌∷◌, ◌++◌, length, Ok, inl, inr, refl, sym, ap, ◌∙◌, arith}
use Rattle.std.specs.Prelude.{replicate, decimal}
use Rattle.std.proofs.lemmas.List.{append-nil}
use Rattle.std.proofs.lemmas.Fmt.{decimal_nonempty}
use Rattle.std.proofs.Math.Nat.{div-le_self}
use Rattle.decimal_text.specs.Whole.{size_of, digit_sum}
use Rattle.decimal_text.specs.Write.{fixed_text, part_text, last_digits}
use Rattle.decimal_text.specs.Fixed.{are_blank, signed, fixed_of}
use Rattle.decimal_text.specs.FixedForm.{IsReadAs, IsNumber, IsRest, size_with}
use Rattle.decimal_text.proofs.FixedReads.{read_only}
use Rattle.sim_jobs.proofs.Digits.{decimal_digits, decimal_value, last_digits-digits, last_digits-sum, length-last_digits, sum-append}

pub blanks_blank : (n : ℕ) → are_blank (replicate n 32) ≡ true
blanks_blank zero = refl
blanks_blank (suc n) = blanks_blank n

below : (places n : ℕ) → n < 10 ^ 18 → n / 10 ^ places < 2 ^ 64
below places n small = omega (arith, div-le_self n (10 ^ places))

-- after the whole part
rest_is : (places n : ℕ) → IsRest (part_text places n) (last_digits places n)
rest_is zero n = inl (refl, refl)
rest_is (suc k) n = inr (
  last_digits (suc k) n,
  refl,
  record {
    after = [];
    text_is = sym (append-nil (last_digits (suc k) n));
    digits = last_digits-digits (suc k) n;
    blank = refl;
  },
)

number_is : (places n : ℕ) → n < 10 ^ 18 → IsNumber (decimal (n / 10 ^ places) ++ part_text places n) (decimal (n / 10 ^ places)) (last_digits places n)
number_is places n small = record {
  body = record {
    rest = part_text places n;
    text_is = refl;
    digits = decimal_digits (n / 10 ^ places) (below places n small);
    ends = rest_is places n;
  };
  some = omega (arith, decimal_nonempty (n / 10 ^ places) (below places n small));
}

size_is : (places n : ℕ) → n < 10 ^ 18 → size_with places (decimal (n / 10 ^ places)) (last_digits places n) ≡ n
size_is places n small =
    let none : places - length (last_digits places n) ≡ 0 = omega (arith, length-last_digits places n) in
    let sum = sum-append (decimal (n / 10 ^ places)) (last_digits places n) in
    let all : digit_sum (decimal (n / 10 ^ places) ++ last_digits places n) ≡ n =
    sum ∙ rw (decimal_value (n / 10 ^ places) (below places n small), length-last_digits places n) (last_digits-sum places n) in
    rw (none, all) (omega arith)

few_are : (places n : ℕ) → length (last_digits places n) ≤ places
few_are places n = omega (arith, length-last_digits places n)

pub fixed_read : (blanks places : ℕ) (z : ℤ) → places ≤ 9 → size_of z < 10 ^ 18 → IsReadAs (replicate blanks 32 ++ fixed_text z places) places (Ok z)
fixed_read blanks places (pos n) p small = record {
  negative = false;
  whole = decimal (n / 10 ^ places);
  part = last_digits places n;
  fixed = record {
    before = replicate blanks 32;
    rest = decimal (n / 10 ^ places) ++ part_text places n;
    text_is = refl;
    blank = blanks_blank blanks;
    number = inr (number_is places n small);
  };
  few = few_are places n;
  short = omega (arith, size_is places n small);
  value = ap pos (sym (size_is places n small));
}
fixed_read blanks places (negsuc n) p small = record {
  negative = true;
  whole = decimal (suc n / 10 ^ places);
  part = last_digits places (suc n);
  fixed = record {
    before = replicate blanks 32;
    rest = 45 ∷ (decimal (suc n / 10 ^ places) ++ part_text places (suc n));
    text_is = refl;
    blank = blanks_blank blanks;
    number = (decimal (suc n / 10 ^ places) ++ part_text places (suc n), refl, number_is places (suc n) small);
  };
  few = few_are places (suc n);
  short = omega (arith, size_is places (suc n) small);
  value = ap (λ (m : ℕ). signed true m) (sym (size_is places (suc n) small));
}

-- worked out
pub fixed_again : (blanks places : ℕ) (z : ℤ) → places ≤ 9 → size_of z < 10 ^ 18 → fixed_of (replicate blanks 32 ++ fixed_text z places) places ≡ Ok z
fixed_again blanks places z p small = sym (read_only (replicate blanks 32 ++ fixed_text z places) places (Ok z) (fixed_read blanks places z p small))
