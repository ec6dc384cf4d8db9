-- A navigation file of RINEX 3.04.
use Rattle.std.specs.Prelude.{ℕ, List, [], ◌∷◌, ◌++◌, codes, pos, negsuc}
use Rattle.decimal_text.specs.Write.{last_digits}
use Rattle.decimal_text.specs.declared.exponent.Dec.{Dec}
use Rattle.eph_store.specs.declared.ephemeris.Eph.{Eph}
use Rattle.sim_session.specs.Numbers.{number_text}

-- 0, the second 86400 and the week 2295
abbrev pub zero_number : Dec
zero_number = record { mant = pos 0; exp = negsuc 11 }

abbrev pub second_number : Dec
second_number = record { mant = pos 8640000000000; exp = negsuc 7 }

abbrev pub week_number : Dec
week_number = record { mant = pos 2295000000000; exp = negsuc 8 }

-- of the system with that letter
unfoldable pub navigation_header : ℕ → List ℕ
navigation_header letter =
    (codes "     3.04           N: GNSS NAV DATA    " ++ letter ∷ codes "                   RINEX VERSION / TYPE\n")
    ++ codes "                                                            END OF HEADER\n"

-- the satellite, its clock's time, and the clock's three numbers
unfoldable pub first_line : ℕ → ℕ → Dec → Dec → Dec → List ℕ
first_line letter sat a b c = letter ∷ (last_digits 2 sat ++ (codes " 2024 01 01 00 00 00" ++ (number_text a ++ (number_text b ++ (number_text c ++ codes "\n")))))

unfoldable pub further_line : Dec → Dec → Dec → Dec → List ℕ
further_line a b c d = codes "    " ++ (number_text a ++ (number_text b ++ (number_text c ++ (number_text d ++ codes "\n"))))

-- the eight lines of a record; what no reader takes is 0
unfoldable pub record_text : ℕ → Eph → List ℕ
record_text letter e =
    first_line letter e.sat e.af0 e.af1 e.af2
    ++ (further_line zero_number e.crs e.dn e.m0
    ++ (further_line e.cuc e.ecc e.cus e.root_a
    ++ (further_line second_number e.cic e.node e.cis
    ++ (further_line e.incl e.crc e.peri e.node_rate
    ++ (further_line e.incl_rate zero_number week_number zero_number
    ++ (further_line zero_number zero_number zero_number zero_number
    ++ further_line zero_number zero_number zero_number zero_number))))))

abbrev pub record_texts : ℕ → List Eph → List ℕ
record_texts letter [] = []
record_texts letter (e ∷ es) = record_text letter e ++ record_texts letter es

abbrev pub navigation_text : ℕ → List Eph → List ℕ
navigation_text letter es = navigation_header letter ++ record_texts letter es
