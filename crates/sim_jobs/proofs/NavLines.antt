-- The lines of a record, each without its line feed.
use Rattle.std.proofs.Common.{◌≡◌, ℕ, ℤ, pos, negsuc, ◌/◌, ◌^◌, ◌+ℤ◌, true, nat_le, List, ◌∷◌, ◌++◌, length, Ok, refl, ap, ◌∙◌}
use Rattle.std.specs.Prelude.{codes}
use Rattle.decimal_text.specs.Whole.{size_of}
use Rattle.decimal_text.specs.Write.{last_digits}
use Rattle.decimal_text.specs.declared.exponent.Dec.{Dec}
use Rattle.line_source.specs.Lines.{lines_of}
use Rattle.rinex_head.specs.Columns.{padded, columns, column}
use Rattle.rinex_head.specs.Fields.{exponent_in}
use Rattle.rinex_nav.specs.RecordLines.{number_in}
use Rattle.sim_session.specs.Numbers.{sign_or, number_text}
use Rattle.sim_session.specs.Navigation.{first_line, further_line}
use Rattle.sim_jobs.specs.Printed.{are_printed}
use Rattle.sim_jobs.proofs.Printed.{printed-append, line_first}
use Rattle.sim_jobs.proofs.Digits.{printed_digits}
use Rattle.sim_jobs.proofs.NavNumbers.{HasRoom, number_again}

-- ---- printed bytes
printed_cons : (b : ℕ) (bs : List ℕ) → nat_le 32 b ≡ true → are_printed bs ≡ true → are_printed (b ∷ bs) ≡ true
printed_cons b bs p q = rw p q

printed_sign : (other : ℕ) (z : ℤ) → nat_le 32 other ≡ true → nat_le 32 (sign_or other z) ≡ true
printed_sign other (pos n) p = p
printed_sign other (negsuc n) p = refl

power_part : ℤ → List ℕ
power_part power = 69 ∷ sign_or 43 power ∷ last_digits 2 (size_of power)

digits_part : ℤ → ℤ → List ℕ
digits_part mant power = 46 ∷ (last_digits 12 (size_of mant) ++ power_part power)

printed_power : (power : ℤ) → are_printed (power_part power) ≡ true
unfolding power_part
printed_power power = printed_cons (sign_or 43 power) (last_digits 2 (size_of power)) (printed_sign 43 power refl) (printed_digits 2 (size_of power))

printed_part : (mant power : ℤ) → are_printed (digits_part mant power) ≡ true
unfolding digits_part
printed_part mant power = printed-append (last_digits 12 (size_of mant)) (power_part power) (printed_digits 12 (size_of mant)) (printed_power power)

number_is : (d : Dec) → number_text d ≡ sign_or 32 d.mant ∷ (last_digits 1 (size_of d.mant / 10 ^ 12) ++ digits_part d.mant (d.exp +ℤ pos 12))
unfolding number_text digits_part power_part
number_is d = refl

printed_number : (d : Dec) → are_printed (number_text d) ≡ true
printed_number d =
    ap are_printed (number_is d)
    ∙ printed_cons (sign_or 32 d.mant) (last_digits 1 (size_of d.mant / 10 ^ 12) ++ digits_part d.mant (d.exp +ℤ pos 12)) (printed_sign 32 d.mant refl)
    (printed-append (last_digits 1 (size_of d.mant / 10 ^ 12)) (digits_part d.mant (d.exp +ℤ pos 12)) (printed_digits 1 (size_of d.mant / 10 ^ 12)) (printed_part d.mant (d.exp +ℤ pos 12)))

-- ---- lines
unfoldable pub three : Dec → Dec → Dec → List ℕ
three a b c = number_text a ++ (number_text b ++ number_text c)

unfoldable pub first_content : ℕ → ℕ → Dec → Dec → Dec → List ℕ
first_content letter sat a b c = letter ∷ (last_digits 2 sat ++ (codes " 2024 01 01 00 00 00" ++ three a b c))

unfoldable pub further_content : Dec → Dec → Dec → Dec → List ℕ
further_content a b c d = codes "    " ++ (number_text a ++ three b c d)

printed_three : (a b c : Dec) → are_printed (three a b c) ≡ true
unfolding three
printed_three a b c = printed-append (number_text a) (number_text b ++ number_text c) (printed_number a) (printed-append (number_text b) (number_text c) (printed_number b) (printed_number c))

printed_first : (letter sat : ℕ) (a b c : Dec) → nat_le 32 letter ≡ true → are_printed (first_content letter sat a b c) ≡ true
unfolding first_content
printed_first letter sat a b c p =
    rw p
    (printed-append (last_digits 2 sat) (codes " 2024 01 01 00 00 00" ++ three a b c) (printed_digits 2 sat) (printed-append (codes " 2024 01 01 00 00 00") (three a b c) refl (printed_three a b c)))

printed_further : (a b c d : Dec) → are_printed (further_content a b c d) ≡ true
unfolding further_content
printed_further a b c d = printed-append (codes "    ") (number_text a ++ three b c d) refl (printed-append (number_text a) (three b c d) (printed_number a) (printed_three b c d))

pub length-first : (letter sat : ℕ) (a b c : Dec) → length (first_content letter sat a b c) ≡ 80
unfolding first_content three number_text
length-first letter sat a b c = refl

pub length-further : (a b c d : Dec) → length (further_content a b c d) ≡ 80
unfolding further_content three number_text
length-further a b c d = refl

first_is : (letter sat : ℕ) (a b c : Dec) (rest : List ℕ) → first_line letter sat a b c ++ rest ≡ first_content letter sat a b c ++ 10 ∷ rest
unfolding first_line first_content three number_text
first_is letter sat a b c rest = refl

further_is : (a b c d : Dec) (rest : List ℕ) → further_line a b c d ++ rest ≡ further_content a b c d ++ 10 ∷ rest
unfolding further_line further_content three number_text
further_is a b c d rest = refl

pub first_read : (letter sat : ℕ) (a b c : Dec) (rest : List ℕ) → nat_le 32 letter ≡ true → lines_of (first_line letter sat a b c ++ rest) ≡ first_content letter sat a b c ∷ lines_of rest
first_read letter sat a b c rest p = ap lines_of (first_is letter sat a b c rest) ∙ line_first (first_content letter sat a b c) rest (printed_first letter sat a b c p)

pub further_read : (a b c d : Dec) (rest : List ℕ) → lines_of (further_line a b c d ++ rest) ≡ further_content a b c d ∷ lines_of rest
further_read a b c d rest = ap lines_of (further_is a b c d rest) ∙ line_first (further_content a b c d) rest (printed_further a b c d)

-- ---- the columns of a line
pub first_letter : (letter sat : ℕ) (a b c : Dec) → column (first_content letter sat a b c) 1 ≡ letter
unfolding first_content
first_letter letter sat a b c = refl

pub first_sat : (letter sat : ℕ) (a b c : Dec) → columns (first_content letter sat a b c) 2 2 ≡ last_digits 2 sat
unfolding first_content padded
first_sat letter sat a b c = refl

pub further_blank : (a b c d : Dec) → column (further_content a b c d) 1 ≡ 32
unfolding further_content
further_blank a b c d = refl

number_at : (line : List ℕ) (first : ℕ) (d : Dec) → columns line first 19 ≡ number_text d → HasRoom d → number_in line first ≡ Ok d
unfolding number_in exponent_in
number_at line first d is room = rw (is, number_again d room) refl

at_first_24 : (letter sat : ℕ) (a b c : Dec) → columns (first_content letter sat a b c) 24 19 ≡ number_text a
unfolding first_content three number_text padded
at_first_24 letter sat a b c = refl

pub first_24 : (letter sat : ℕ) (a b c : Dec) → HasRoom a → number_in (first_content letter sat a b c) 24 ≡ Ok a
first_24 letter sat a b c room = number_at (first_content letter sat a b c) 24 a (at_first_24 letter sat a b c) room

at_first_43 : (letter sat : ℕ) (a b c : Dec) → columns (first_content letter sat a b c) 43 19 ≡ number_text b
unfolding first_content three number_text padded
at_first_43 letter sat a b c = refl

pub first_43 : (letter sat : ℕ) (a b c : Dec) → HasRoom b → number_in (first_content letter sat a b c) 43 ≡ Ok b
first_43 letter sat a b c room = number_at (first_content letter sat a b c) 43 b (at_first_43 letter sat a b c) room

at_first_62 : (letter sat : ℕ) (a b c : Dec) → columns (first_content letter sat a b c) 62 19 ≡ number_text c
unfolding first_content three number_text padded
at_first_62 letter sat a b c = refl

pub first_62 : (letter sat : ℕ) (a b c : Dec) → HasRoom c → number_in (first_content letter sat a b c) 62 ≡ Ok c
first_62 letter sat a b c room = number_at (first_content letter sat a b c) 62 c (at_first_62 letter sat a b c) room

at_further_5 : (a b c d : Dec) → columns (further_content a b c d) 5 19 ≡ number_text a
unfolding further_content three number_text padded
at_further_5 a b c d = refl

pub further_5 : (a b c d : Dec) → HasRoom a → number_in (further_content a b c d) 5 ≡ Ok a
further_5 a b c d room = number_at (further_content a b c d) 5 a (at_further_5 a b c d) room

at_further_24 : (a b c d : Dec) → columns (further_content a b c d) 24 19 ≡ number_text b
unfolding further_content three number_text padded
at_further_24 a b c d = refl

pub further_24 : (a b c d : Dec) → HasRoom b → number_in (further_content a b c d) 24 ≡ Ok b
further_24 a b c d room = number_at (further_content a b c d) 24 b (at_further_24 a b c d) room

at_further_43 : (a b c d : Dec) → columns (further_content a b c d) 43 19 ≡ number_text c
unfolding further_content three number_text padded
at_further_43 a b c d = refl

pub further_43 : (a b c d : Dec) → HasRoom c → number_in (further_content a b c d) 43 ≡ Ok c
further_43 a b c d room = number_at (further_content a b c d) 43 c (at_further_43 a b c d) room

at_further_62 : (a b c d : Dec) → columns (further_content a b c d) 62 19 ≡ number_text d
unfolding further_content three number_text padded
at_further_62 a b c d = refl

pub further_62 : (a b c d : Dec) → HasRoom d → number_in (further_content a b c d) 62 ≡ Ok d
further_62 a b c d room = number_at (further_content a b c d) 62 d (at_further_62 a b c d) room
