-- Numbers in columns: that they are printed, and what they are read as.
use Rattle.std.proofs.Common.{◌≡◌, ℕ, ℤ, pos, negsuc, zero, suc, ◌-◌, ◌/◌, ◌^◌, ◌≤◌, ◌<◌, true, List, [], ◌∷◌, ◌++◌, length, Ok, Some, refl, ap, ◌∙◌, arith}
use Rattle.std.proofs.lemmas.Int.{ints}
use Rattle.std.proofs.lemmas.List.{append-nil}
use Rattle.std.proofs.lemmas.Fmt.{decimal_nonempty}
use Rattle.std.specs.Prelude.{decimal, replicate}
use Rattle.decimal_text.specs.Whole.{size_of, are_digits, number_from}
use Rattle.decimal_text.specs.Write.{sign_text, part_text, fixed_text}
use Rattle.decimal_text.specs.Fixed.{without_blanks, fixed_of}
use Rattle.decimal_text.proofs.Numbers.{digits_are}
use Rattle.rinex_head.specs.Fields.{digits_of, whole_of}
use Rattle.sim_session.specs.Columns.{right_in, fixed_in}
use Rattle.sim_session.specs.ObservationText.{IsInColumns}
use Rattle.sim_jobs.specs.Printed.{are_printed}
use Rattle.sim_jobs.proofs.Printed.{printed-append}
use Rattle.sim_jobs.proofs.Digits.{decimal_digits, decimal_value, digits_printed, printed_digits}
use Rattle.sim_jobs.proofs.Fixed.{fixed_again}
use Rattle.sim_jobs.proofs.Fields.{no_blanks}

-- ---- printed bytes
printed_blanks : (k : ℕ) → are_printed (replicate k 32) ≡ true
printed_blanks zero = refl
printed_blanks (suc k) = printed_blanks k

printed_part : (places n : ℕ) → are_printed (part_text places n) ≡ true
printed_part zero n = refl
printed_part (suc k) n = printed_digits (suc k) n

printed_sign : (z : ℤ) → are_printed (sign_text z) ≡ true
printed_sign (pos n) = refl
printed_sign (negsuc n) = refl

pub printed_fixed : (width : ℕ) (z : ℤ) (places : ℕ) → size_of z / 10 ^ places < 2 ^ 64 → are_printed (fixed_in width z places) ≡ true
unfolding fixed_in right_in
printed_fixed width z places small =
    printed-append (replicate (width - length (fixed_text z places)) 32) (fixed_text z places) (printed_blanks (width - length (fixed_text z places)))
    (printed-append (sign_text z) (decimal (size_of z / 10 ^ places) ++ part_text places (size_of z)) (printed_sign z)
    (printed-append (decimal (size_of z / 10 ^ places)) (part_text places (size_of z))
    (digits_printed (decimal (size_of z / 10 ^ places)) (decimal_digits (size_of z / 10 ^ places) small)) (printed_part places (size_of z))))

-- ---- read again
count_below : (n : ℕ) → n ≤ 99 → n / 10 ^ 0 < 2 ^ 64
count_below n h = omega arith

pub fixed_is : (width : ℕ) (z : ℤ) (places : ℕ) → places ≤ 9 → size_of z < 10 ^ 18 → fixed_of (fixed_in width z places) places ≡ Ok z
unfolding fixed_in right_in
fixed_is width z places p small = fixed_again (width - length (fixed_text z places)) places z p small

pub size_in : (z : ℤ) → IsInColumns z → size_of z < 10 ^ 13
size_in (pos n) h = omega (arith, ints, h.1)
size_in (negsuc n) h = absurd (omega (arith, ints, h.0))

blanks_gone : (k : ℕ) (ds : List ℕ) → without_blanks (replicate k 32 ++ ds) ≡ without_blanks ds
blanks_gone zero ds = refl
blanks_gone (suc k) ds = blanks_gone k ds

-- the number of digits after blanks
of_digits : (first : ℕ) (ds : List ℕ) → are_digits ds ≡ true → 0 < length ds → digits_of first ds ≡ Ok (Some (number_from 0 ds))
of_digits first [] is some = absurd (omega arith)
of_digits first (d ∷ ds) is some = rw is refl

whole_behind : (first k : ℕ) (ds : List ℕ) → are_digits ds ≡ true → 0 < length ds → whole_of first (replicate k 32 ++ ds) ≡ Ok (Some (number_from 0 ds))
whole_behind first k ds is some = ap (digits_of first) (blanks_gone k ds ∙ no_blanks ds is) ∙ of_digits first ds is some

pub count_is : (n : ℕ) → n ≤ 99 → whole_of 33 (fixed_in 3 (pos n) 0) ≡ Ok (Some n)
unfolding fixed_in right_in
count_is n few =
    let small = count_below n few in
    let whole : n / 10 ^ 0 ≡ n = omega arith in
    let none : decimal (n / 10 ^ 0) ++ [] ≡ decimal (n / 10 ^ 0) = append-nil (decimal (n / 10 ^ 0)) in
    ap (λ (text : List ℕ). whole_of 33 (replicate (3 - length text) 32 ++ text)) none
    ∙ whole_behind 33 (3 - length (decimal (n / 10 ^ 0))) (decimal (n / 10 ^ 0)) (decimal_digits (n / 10 ^ 0) small) (decimal_nonempty (n / 10 ^ 0) small)
    ∙ ap (λ (m : ℕ). Ok (Some m)) (digits_are (decimal (n / 10 ^ 0)) ∙ decimal_value (n / 10 ^ 0) small ∙ whole)
