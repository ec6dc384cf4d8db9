-- The whole navigation file.
use Rattle.std.proofs.Common.{◌≡◌, ℕ, ◌+◌, ◌≤◌, true, false, nat_le, List, [], ◌∷◌, ◌++◌, length, Ok, refl, sym, ap, subst, ◌∙◌, arith}
use Rattle.std.proofs.lemmas.List.Elements.{All-from_recursion}
use Rattle.std.specs.List.{All, AllByRecursion}
use Rattle.std.specs.Prelude.{codes}
use Rattle.eph_store.specs.declared.ephemeris.Eph.{Eph}
use Rattle.eph_store.specs.declared.record.Raw.{Raw}
use Rattle.decimal_text.specs.declared.exponent.Dec.{Dec}
use Rattle.line_source.specs.Lines.{lines_of}
use Rattle.rinex_head.specs.Columns.{padded}
use Rattle.rinex_head.specs.Head.{trimmed}
use Rattle.rinex_head.specs.Systems.{letter_of}
use Rattle.rinex_head.specs.declared.system.System.{System}
use Rattle.rinex_head.specs.declared.system.System.TheVariants.{Gps, Galileo}
use Rattle.rinex_nav.specs.FirstLine.{first_line_of, ends_header}
use Rattle.rinex_nav.specs.NavForm.{Part, Read, IsPart, IsHeader, IsNavFile, further_of, body_lines, records_of}
use Rattle.sim_session.specs.Satellites.{AreSatellites}
use Rattle.sim_session.specs.Navigation.{zero_number, second_number, week_number, navigation_header, record_texts, navigation_text}
use Rattle.sim_jobs.specs.Printed.{are_printed}
use Rattle.sim_jobs.proofs.Printed.{line_first}
use Rattle.sim_jobs.specs.NavRecords.{raw_of, raws_of}
use Rattle.sim_jobs.proofs.NavLines.{further_content, length-first, length-further}
use Rattle.sim_jobs.proofs.NavRecords.{lines_for, record_read, record_is}

-- ---- the header
first_of_header : System → List ℕ
first_of_header system = codes "     3.04           N: GNSS NAV DATA    " ++ letter_of system ∷ codes "                   RINEX VERSION / TYPE"

last_of_header : List ℕ
last_of_header = codes "                                                            END OF HEADER"

first_printed : (system : System) → are_printed (first_of_header system) ≡ true
unfolding first_of_header
first_printed Gps = refl
first_printed Galileo = refl

last_ends : (rest : List ℕ) → lines_of (last_of_header ++ 10 ∷ rest) ≡ last_of_header ∷ lines_of rest
unfolding last_of_header
last_ends rest = line_first last_of_header rest refl

header_text : (system : System) (rest : List ℕ) → navigation_header (letter_of system) ++ rest ≡ first_of_header system ++ 10 ∷ (last_of_header ++ 10 ∷ rest)
unfolding navigation_header first_of_header last_of_header
header_text system rest = refl

header_read : (system : System) (rest : List ℕ) → lines_of (navigation_header (letter_of system) ++ rest) ≡ first_of_header system ∷ last_of_header ∷ lines_of rest
header_read system rest =
    ap lines_of (header_text system rest) ∙ line_first (first_of_header system) (last_of_header ++ 10 ∷ rest) (first_printed system)
    ∙ ap (λ (l : List (List ℕ)). first_of_header system ∷ l) (last_ends rest)

version_is : (system : System) → first_line_of system (first_of_header system) ≡ Ok tt
unfolding first_line_of first_of_header padded trimmed
version_is Gps = refl
version_is Galileo = refl

ends_is : ends_header last_of_header ≡ true
unfolding last_of_header trimmed
ends_is = refl

first_short : (system : System) → length (first_of_header system) ≤ 4096
unfolding first_of_header
first_short system = omega arith

last_short : length last_of_header ≤ 4096
unfolding last_of_header
last_short = omega arith

header_is : (system : System) → IsHeader system (first_of_header system ∷ last_of_header ∷ [])
header_is system = record {
  first = first_of_header system;
  between = [];
  last = last_of_header;
  lines_are = refl;
  version = version_is system;
  goes_on = All-from_recursion (λ line. ends_header line ≡ false) [] tt;
  ends = ends_is;
}

-- ---- the body
printed_letter : (system : System) → nat_le 32 (letter_of system) ≡ true
printed_letter Gps = refl
printed_letter Galileo = refl

parts_of : ℕ → List Eph → List Part
parts_of letter [] = []
parts_of letter (e ∷ es) = Read (lines_for letter e) (raw_of e) ∷ parts_of letter es

body_read : (letter : ℕ) (es : List Eph) → nat_le 32 letter ≡ true → lines_of (record_texts letter es) ≡ body_lines (parts_of letter es)
unfolding parts_of
body_read letter [] printed = refl
body_read letter (e ∷ es) printed =
    record_read letter e (record_texts letter es) printed
    ∙ ap (λ (l : List (List ℕ)). (lines_for letter e).first ∷ (further_of (lines_for letter e) ++ l)) (body_read letter es printed)

further_short : (a b c d : Dec) → length (further_content a b c d) ≤ 4096
further_short a b c d = omega (arith, length-further a b c d)

body_short : (letter : ℕ) (es : List Eph) → AllByRecursion (λ line. length line ≤ 4096) (body_lines (parts_of letter es))
unfolding parts_of lines_for
body_short letter [] = tt
body_short letter (e ∷ es) = (
  omega (arith, length-first letter e.sat e.af0 e.af1 e.af2),
  (
    further_short zero_number e.crs e.dn e.m0,
    (
      further_short e.cuc e.ecc e.cus e.root_a,
      (
        further_short second_number e.cic e.node e.cis,
        (
          further_short e.incl e.crc e.peri e.node_rate,
          (
            further_short e.incl_rate zero_number week_number zero_number,
            (
              further_short zero_number zero_number zero_number zero_number,
              (further_short zero_number zero_number zero_number zero_number, body_short letter es),
            ),
          ),
        ),
      ),
    ),
  ),
)

parts_are : (system : System) (k : ℕ) (es : List Eph) → AreSatellites (letter_of system) k es → k + length es ≤ 32 → AllByRecursion (IsPart system) (parts_of (letter_of system) es)
unfolding parts_of
parts_are system k [] are few = tt
parts_are system k (e ∷ es) are few = (record_is system k e are.0 are.1 (omega arith), parts_are system (k + 1) es are.2 (omega arith))

records_are : (letter : ℕ) (es : List Eph) → raws_of es ≡ records_of (parts_of letter es)
unfolding parts_of
records_are letter [] = refl
records_are letter (e ∷ es) = ap (λ (l : List Raw). raw_of e ∷ l) (records_are letter es)

length-raws : (es : List Eph) → length (raws_of es) ≡ length es
length-raws [] = refl
length-raws (e ∷ es) = omega (arith, length-raws es)

pub file_is : (system : System) (es : List Eph) → AreSatellites (letter_of system) 0 es → length es ≤ 32 → IsNavFile system (lines_of (navigation_text (letter_of system) es)) (raws_of es)
file_is system es are few =
    let letter : ℕ = letter_of system in
    let body : List (List ℕ) = body_lines (parts_of letter es) in
    let lines : lines_of (navigation_text letter es) ≡ first_of_header system ∷ last_of_header ∷ body =
    header_read system (record_texts letter es) ∙ ap (λ (l : List (List ℕ)). first_of_header system ∷ last_of_header ∷ l) (body_read letter es (printed_letter system)) in
    record {
      header = first_of_header system ∷ last_of_header ∷ [];
      parts = parts_of letter es;
      short = subst (λ (l : List (List ℕ)). All (λ line. length line ≤ 4096) l) (sym lines)
          (All-from_recursion (λ line. length line ≤ 4096) (first_of_header system ∷ last_of_header ∷ body) (first_short system, (last_short, body_short letter es)));
      lines_are = lines;
      is_header = header_is system;
      are_parts = All-from_recursion (IsPart system) (parts_of letter es) (parts_are system 0 es are (omega arith));
      records_are = records_are letter es;
      few = omega (arith, length-raws es);
    }
