-- A count of three columns is at most 999.
use Rattle.std.proofs.Common.{◌≡◌, ◌≤◌, ◌==◌, ℕ, Bool, true, false, List, [], ◌∷◌, length, Ok, IfOk, refl, arith, unwrap_or}
use Rattle.decimal_text.specs.Whole.{are_digits, number_from}
use Rattle.decimal_text.specs.Fixed.{without_blanks}
use Rattle.decimal_text.proofs.Numbers.{first_digit}
use Rattle.rinex_head.specs.Columns.{columns}
use Rattle.rinex_head.specs.Fields.{digits_of}
use Rattle.rinex_head.specs.Places.{and_then}
use Rattle.rinex_head.proofs.ColumnLaws.{length-padded}
use Rattle.obs_fields.specs.declared.layout.Layout.TheVariants.{Rinex2}
use Rattle.obs_fields.specs.EpochFields.{count_in}

three_digits : (ds : List ℕ) → length ds ≤ 3 → are_digits ds ≡ true → number_from 0 ds ≤ 999
three_digits [] few are = omega arith
three_digits (a ∷ []) few are = let first = first_digit a [] are in omega (arith, first.0)
three_digits (a ∷ b ∷ []) few are =
    let first = first_digit a (b ∷ []) are in
    let second = first_digit b [] first.1 in
    omega (arith, first.0, second.0)
three_digits (a ∷ b ∷ c ∷ []) few are =
    let first = first_digit a (b ∷ c ∷ []) are in
    let second = first_digit b (c ∷ []) first.1 in
    let third = first_digit c [] second.1 in
    omega (arith, first.0, second.0, third.0)
three_digits (a ∷ b ∷ c ∷ d ∷ ds) few are = absurd (omega (arith, few))

without_blanks-shorter : (bs : List ℕ) → length (without_blanks bs) ≤ length bs
without_blanks-shorter [] = omega arith
without_blanks-shorter (b ∷ bs) = by_blank (b == 32) refl (without_blanks-shorter bs)
  where
    by_blank : (t : Bool) → (b == 32) ≡ t → length (without_blanks bs) ≤ length bs → length (without_blanks (b ∷ bs)) ≤ length (b ∷ bs)
    by_blank true is shorter = rw is (omega (arith, shorter))
    by_blank false is shorter = rw is (omega arith)

count_digits : (first : ℕ) (ds : List ℕ) → length ds ≤ 3 → IfOk (and_then (digits_of first ds) (λ n. Ok (unwrap_or n 0))) (λ n. n ≤ 999)
count_digits first [] few = omega arith
count_digits first (d ∷ ds) few = by_digits (are_digits (d ∷ ds)) refl
  where
    by_digits : (t : Bool) → are_digits (d ∷ ds) ≡ t → IfOk (and_then (digits_of first (d ∷ ds)) (λ n. Ok (unwrap_or n 0))) (λ n. n ≤ 999)
    by_digits true are = rw are (three_digits (d ∷ ds) few are)
    by_digits false are = rw are tt

pub count_few : (bytes : List ℕ) → IfOk (count_in Rinex2 bytes) (λ n. n ≤ 999)
unfolding count_in
count_few bytes =
    let field = columns bytes 30 3 in
    let shorter = without_blanks-shorter field in
    let three : length field ≡ 3 = length-padded _ 3 in
    count_digits 30 (without_blanks field) (omega (arith, shorter, three))
