-- How long the lines of a navigation file are.
use Rattle.std.proofs.Common.{◌≡◌, ℕ, ◌*◌, List, [], ◌∷◌, length, refl, arith, length-append}
use Rattle.decimal_text.specs.declared.exponent.Dec.{Dec}
use Rattle.eph_store.specs.declared.ephemeris.Eph.{Eph}
use Rattle.sim_session.specs.Numbers.{number_text}
use Rattle.sim_session.specs.Navigation.{zero_number, second_number, week_number, navigation_header, first_line, further_line, record_text, record_texts}

pub length-number_text : (d : Dec) → length (number_text d) ≡ 19
unfolding number_text
length-number_text d = refl

pub length-first_line : (letter sat : ℕ) (a b c : Dec) → length (first_line letter sat a b c) ≡ 81
unfolding first_line
length-first_line letter sat a b c =
    let first_length = length-number_text a in
    let second_length = length-number_text b in
    let third_length = length-number_text c in
    simp (length-append, first_length, second_length, third_length) refl

pub length-further_line : (a b c d : Dec) → length (further_line a b c d) ≡ 81
unfolding further_line
length-further_line a b c d =
    let first_length = length-number_text a in
    let second_length = length-number_text b in
    let third_length = length-number_text c in
    let fourth_length = length-number_text d in
    simp (length-append, first_length, second_length, third_length, fourth_length) refl

pub length-record_text : (letter : ℕ) (e : Eph) → length (record_text letter e) ≡ 648
unfolding record_text
length-record_text letter e =
    let clock_line_length = length-first_line letter e.sat e.af0 e.af1 e.af2 in
    let second_line_length = length-further_line zero_number e.crs e.dn e.m0 in
    let third_line_length = length-further_line e.cuc e.ecc e.cus e.root_a in
    let fourth_line_length = length-further_line second_number e.cic e.node e.cis in
    let fifth_line_length = length-further_line e.incl e.crc e.peri e.node_rate in
    let sixth_line_length = length-further_line e.incl_rate zero_number week_number zero_number in
    let last_line_length = length-further_line zero_number zero_number zero_number zero_number in
    simp (length-append, clock_line_length, second_line_length, third_line_length, fourth_line_length, fifth_line_length, sixth_line_length, last_line_length) refl

pub length-record_texts : (letter : ℕ) (es : List Eph) → length (record_texts letter es) ≡ 648 * length es
length-record_texts letter [] = refl
length-record_texts letter (e ∷ es) = omega (arith, length-append (record_text letter e) (record_texts letter es), length-record_text letter e, length-record_texts letter es)

pub length-navigation_header : (letter : ℕ) → length (navigation_header letter) ≡ 155
unfolding navigation_header
length-navigation_header letter = refl
