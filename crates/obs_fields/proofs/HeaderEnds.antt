-- Whatever may be expected in a header, lines follow that complete it to a text.
use Rattle.std.proofs.Common.{◌≡◌, ◌<◌, ◌≤◌, ◌+◌, ◌-◌, ◌*◌, ℕ, zero, suc, nat_lt, true, false, ◌==◌, min, List, [], ◌∷◌, ◌++◌, length, drop, codes, Ok, Option, Some, None, refl, subst, arith, lit≤, add-zero}
use Rattle.std.proofs.lemmas.Bool.Decides.{nat_tests}
use Rattle.decimal_text.specs.Fixed.{are_blank}
use Rattle.rinex_head.specs.declared.system.System.{System}
use Rattle.rinex_head.specs.declared.system.System.TheVariants.{Gps, Galileo}
use Rattle.rinex_head.specs.Systems.{letter_of}
use Rattle.rinex_head.specs.Columns.{padded}
use Rattle.rinex_head.specs.Head.{trimmed}
use Rattle.rinex_head.proofs.Stops.{Completes, is_line, with_line}
use Rattle.obs_fields.specs.declared.header.Header.{Header}
use Rattle.obs_fields.specs.declared.header_lines.HeaderLine.TheVariants as header
use Rattle.obs_fields.specs.declared.labels.Label.TheVariants as label
use Rattle.obs_fields.specs.declared.layout.Layout.{Layout}
use Rattle.obs_fields.specs.declared.layout.Layout.TheVariants.{Rinex2, Rinex3}
use Rattle.obs_fields.specs.declared.types.TheConstants.{MOST_TYPES}
use Rattle.obs_fields.specs.Labels.{label_in}
use Rattle.obs_fields.specs.Layouts.{first_name_of, name_step_of, names_in_line_of, name_in, further_mark_in}
use Rattle.obs_fields.specs.Types.{is_listed, names_from, type_list, first_types_of, further_types_of}
use Rattle.obs_fields.specs.FirstLine.{first_line_of}
use Rattle.obs_fields.specs.HeaderLines.{header_line_of}
use Rattle.obs_fields.specs.HeaderRules.{HeaderSoFar, InHeader, First, Next, More, AfterLine, Inside, Whole, bare_header, with_types, whole_header, more_types, ended_header, admit_header}
use Rattle.obs_fields.proofs.FreshNames.{AreApart, fresh, below_fresh, not_listed, a_first_byte, names_counted}
use Rattle.obs_fields.proofs.HeaderSteps.{HasFew}
use Rattle.obs_fields.proofs.HeaderLaws.{HeaderReader, inside, step}

-- a line of a text that isn't too long
abbrev IsShortLine : List ℕ → Type 0
IsShortLine line = (is_line line ≡ true) × (length line ≤ 4096)

-- ---- a first line, a list of one type, and the end

abbrev version_line : Layout → List ℕ
version_line Rinex2 = codes "     2.11           OBSERVATION DATA    M                   RINEX VERSION / TYPE"
version_line Rinex3 = codes "     3.04           OBSERVATION DATA    M                   RINEX VERSION / TYPE"

abbrev its_version : Layout → ℕ
its_version Rinex2 = 211
its_version Rinex3 = 304

version_line-short : (layout : Layout) → IsShortLine (version_line layout)
version_line-short Rinex2 = (refl, lit≤ tt)
version_line-short Rinex3 = (refl, lit≤ tt)

version_line-says : (layout : Layout) (system : System) → first_line_of layout system (version_line layout) ≡ Ok (its_version layout)
unfolding first_line_of trimmed padded
version_line-says Rinex2 Gps = refl
version_line-says Rinex2 Galileo = refl
version_line-says Rinex3 Gps = refl
version_line-says Rinex3 Galileo = refl

abbrev types_line : Layout → System → List ℕ
types_line Rinex2 system = codes "     1    C1                                                # / TYPES OF OBSERV"
types_line Rinex3 system = letter_of system ∷ codes "    1 C1C                                                  SYS / # / OBS TYPES"

abbrev its_types : Layout → List (List ℕ)
its_types Rinex2 = codes "C1 " ∷ []
its_types Rinex3 = codes "C1C" ∷ []

types_line-short : (layout : Layout) (system : System) → IsShortLine (types_line layout system)
types_line-short Rinex2 system = (refl, lit≤ tt)
types_line-short Rinex3 Gps = (refl, lit≤ tt)
types_line-short Rinex3 Galileo = (refl, lit≤ tt)

types_line-says : (layout : Layout) (system : System) → header_line_of layout system (types_line layout system) ≡ Ok header.Types
unfolding header_line_of label_in trimmed
types_line-says Rinex2 system = refl
types_line-says Rinex3 Gps = refl
types_line-says Rinex3 Galileo = refl

types_line-lists : (layout : Layout) (system : System) → first_types_of layout (types_line layout system) ≡ Ok (type_list (its_types layout) 0)
unfolding names_from is_listed padded
types_line-lists Rinex2 system = refl
types_line-lists Rinex3 system = refl

abbrev end_line : List ℕ
end_line = codes "                                                            END OF HEADER"

end_line-says : (layout : Layout) (system : System) → header_line_of layout system end_line ≡ Ok header.End
unfolding header_line_of label_in trimmed
end_line-says layout system = refl

-- ---- a further line of types: names that aren't listed yet, all with the same first byte

-- names from the one with that second byte on, so many, and the label
abbrev fields_2 : ℕ → ℕ → ℕ → List ℕ
fields_2 c x zero = codes "# / TYPES OF OBSERV"
fields_2 c x (suc m) = 32 ∷ 32 ∷ 32 ∷ 32 ∷ c ∷ x ∷ fields_2 c (x + 1) m

abbrev fields_3 : ℕ → ℕ → ℕ → List ℕ
fields_3 c x zero = 32 ∷ codes "SYS / # / OBS TYPES"
fields_3 c x (suc m) = c ∷ x ∷ 32 ∷ 32 ∷ fields_3 c (x + 1) m

abbrev fresh_line : Layout → ℕ → List ℕ
fresh_line Rinex2 c = codes "      " ++ fields_2 c 48 9
fresh_line Rinex3 c = codes "       " ++ fields_3 c 48 13

fresh_line-label : (layout : Layout) (c : ℕ) → label_in layout (fresh_line layout c) ≡ label.Types
unfolding label_in trimmed
fresh_line-label Rinex2 c = refl
fresh_line-label Rinex3 c = refl

fresh_line-mark : (layout : Layout) (c : ℕ) → are_blank (further_mark_in layout (fresh_line layout c)) ≡ true
unfolding padded
fresh_line-mark Rinex2 c = refl
fresh_line-mark Rinex3 c = refl

fresh_line-short : (layout : Layout) (c : ℕ) → 48 ≤ c → c < 256 → IsShortLine (fresh_line layout c)
fresh_line-short layout c from below = (bytes layout, short layout)
  where
    byte : nat_lt c 256 ≡ true
    byte = grind (arith, nat_tests)

    other : (c == 10) ≡ false
    other = grind (arith, nat_tests)

    bytes : (layout : Layout) → is_line (fresh_line layout c) ≡ true
    bytes Rinex2 = rw (byte, other) refl
    bytes Rinex3 = rw (byte, other) refl

    short : (layout : Layout) → length (fresh_line layout c) ≤ 4096
    short Rinex2 = lit≤ tt
    short Rinex3 = lit≤ tt

-- the fields from name number j on
fields_from_2 : (c x j m k : ℕ) → j + suc m ≡ k → drop (4 + 6 * j) (fields_2 c x k) ≡ c ∷ (x + j) ∷ fields_2 c (x + j + 1) m
fields_from_2 c x zero m k is =
    let here : x + 0 ≡ x = add-zero x in
    let same : k ≡ suc m = omega (arith, is) in
    rw (here, same) refl
fields_from_2 c x (suc j) m zero is = absurd (omega (arith, is))
fields_from_2 c x (suc j) m (suc k) is =
    let six : 4 + 6 * suc j ≡ suc (suc (suc (suc (suc (suc (4 + 6 * j)))))) = omega arith in
    let same : x + suc j ≡ x + 1 + j = omega arith in
    rw (six, same) (fields_from_2 c (x + 1) j m k (omega (arith, is)))

fields_from_3 : (c x j m k : ℕ) → j + m ≡ k → drop (4 * j) (fields_3 c x k) ≡ fields_3 c (x + j) m
fields_from_3 c x zero m k is = let same : k ≡ m = omega (arith, is) in rw (add-zero, same) refl
fields_from_3 c x (suc j) m zero is = absurd (omega (arith, is))
fields_from_3 c x (suc j) m (suc k) is =
    let four : 4 * suc j ≡ suc (suc (suc (suc (4 * j)))) = omega arith in
    let same : x + suc j ≡ x + 1 + j = omega arith in
    rw (four, same) (fields_from_3 c (x + 1) j m k (omega (arith, is)))

-- the column of name number j
abbrev name_column : Layout → ℕ → ℕ
name_column Rinex2 j = 11 + 6 * j
name_column Rinex3 j = 8 + 4 * j

first_column : (layout : Layout) → name_column layout 0 ≡ first_name_of layout
first_column Rinex2 = refl
first_column Rinex3 = refl

next_column : (layout : Layout) (j : ℕ) → name_column layout j + name_step_of layout ≡ name_column layout (j + 1)
next_column Rinex2 j = omega arith
next_column Rinex3 j = omega arith

some_in_line : (layout : Layout) → 1 ≤ names_in_line_of layout
some_in_line Rinex2 = omega arith
some_in_line Rinex3 = omega arith

fresh_name : (layout : Layout) (c j m : ℕ) → j + suc m ≡ names_in_line_of layout → name_in layout (fresh_line layout c) (name_column layout j) ≡ fresh c (48 + j)
unfolding padded
fresh_name Rinex2 c j m is =
    let at : 11 + 6 * j - 1 ≡ suc (suc (suc (suc (suc (suc (4 + 6 * j)))))) = omega arith in
    rw (at, fields_from_2 c 48 j m 9 is) refl
fresh_name Rinex3 c j m is =
    let at : 8 + 4 * j - 1 ≡ suc (suc (suc (suc (suc (suc (suc (4 * j))))))) = omega arith in
    rw (at, fields_from_3 c 48 j (suc m) 13 is) refl

-- m names from number j on are taken
names_taken : (layout : Layout) (c j m : ℕ) (names : List (List ℕ)) → j + m ≤ names_in_line_of layout → AreApart c (48 + j) names
    → (all : List (List ℕ)) × (names_from layout (fresh_line layout c) (name_column layout j) m names ≡ Ok all)
unfolding names_from
names_taken layout c j zero names few are = (names, refl)
names_taken layout c j (suc m) names few are =
    let name : name_in layout (fresh_line layout c) (name_column layout j) ≡ fresh c (48 + j) = fresh_name layout c j (names_in_line_of layout - j - 1) (omega (arith, few)) in
    let on : 48 + j + 1 ≡ 48 + (j + 1) = omega arith in
    let below : AreApart c (48 + (j + 1)) (names ++ fresh c (48 + j) ∷ []) = subst (λ (y : ℕ). AreApart c y (names ++ fresh c (48 + j) ∷ [])) on (below_fresh c (48 + j) names are) in
    let rest = names_taken layout c (j + 1) m (names ++ fresh c (48 + j) ∷ []) (omega (arith, few)) below in
    (rest.0, rw (name, not_listed c (48 + j) names are, next_column layout j) rest.1)

-- a line of names that aren't listed yet
record FreshLine (layout : Layout) (h : HeaderSoFar) (names : List (List ℕ)) (n : ℕ) : Type 0 where
  line : List ℕ
  short : IsShortLine line
  all : List (List ℕ)
  few : length all + (n - names_in_line_of layout) ≤ MOST_TYPES
  admits : admit_header layout (More h names n) line ≡ Ok (Inside (more_types h all (n - names_in_line_of layout)))

more_step : (layout : Layout) (h : HeaderSoFar) (names : List (List ℕ)) (n : ℕ) → length names + n ≤ MOST_TYPES → FreshLine layout h names n
more_step layout h names n few =
    let first = a_first_byte names (omega (arith, few)) in
    let c = first.byte in
    let taken = names_taken layout c 0 (min (names_in_line_of layout) n) names (omega arith) first.apart in
    let from : names_from layout (fresh_line layout c) (first_name_of layout) (min (names_in_line_of layout) n) names ≡ Ok taken.0 = rw (← first_column layout) taken.1 in
    let counted = names_counted layout (fresh_line layout c) (first_name_of layout) (min (names_in_line_of layout) n) names taken.0 from in
    let further : further_types_of layout (fresh_line layout c) names n ≡ Ok (type_list taken.0 (n - names_in_line_of layout)) = rw (fresh_line-label layout c, fresh_line-mark layout c, from) refl in
    record {
      line = fresh_line layout c;
      short = fresh_line-short layout c first.from first.below;
      all = taken.0;
      few = omega (arith, counted, few);
      admits = rw further refl;
    }

-- ---- each state in a header that can be reached

module _ {S F : Type 0} (r : HeaderReader S F) (body_done : (h : Header) → Completes r.rules (r.after (Whole h))) where
  -- one line more
  line_done : (s : InHeader) (l : AfterLine) (line : List ℕ) → IsShortLine line → admit_header r.layout s line ≡ Ok l → Completes r.rules (r.after l) → Completes r.rules (inside r s)
  line_done s l line short admits rest = with_line r.rules (inside r s) (r.after l) line short.0 short.1 (step r s l line admits) rest

  listed_done : (h : HeaderSoFar) (types : List (List ℕ)) → h.types ≡ Some types → Completes r.rules (inside r (Next h))
  listed_done h types e =
      let ended : ended_header r.layout h h.types ≡ Ok (Whole (whole_header h types)) = rw e refl in
      let admits : admit_header r.layout (Next h) end_line ≡ Ok (Whole (whole_header h types)) = rw (end_line-says r.layout h.system) ended in
      line_done (Next h) (Whole (whole_header h types)) end_line (refl, lit≤ tt) admits (body_done (whole_header h types))

  next_done : (h : HeaderSoFar) → Completes r.rules (inside r (Next h))
  next_done h = by_types h.types refl
    where
      by_types : (t : Option (List (List ℕ))) → h.types ≡ t → Completes r.rules (inside r (Next h))
      by_types (Some types) e = listed_done h types e
      by_types None e =
          let admits : admit_header r.layout (Next h) (types_line r.layout h.system) ≡ Ok (Inside (Next (with_types h (its_types r.layout)))) =
          rw (types_line-says r.layout h.system, e, types_line-lists r.layout h.system) refl in
          line_done (Next h) (Inside (Next (with_types h (its_types r.layout)))) (types_line r.layout h.system) (types_line-short r.layout h.system) admits
          (listed_done (with_types h (its_types r.layout)) (its_types r.layout) refl)

  more_done : (fuel : ℕ) (h : HeaderSoFar) (names : List (List ℕ)) (n : ℕ) → n ≤ fuel → length names + n ≤ MOST_TYPES → Completes r.rules (inside r (more_types h names n))
  more_done fuel h names zero le few = next_done (with_types h names)
  more_done zero h names (suc k) le few = absurd (omega (arith, le))
  more_done (suc fuel) h names (suc k) le few =
      let fresh = more_step r.layout h names (suc k) few in
      let left = suc k - names_in_line_of r.layout in
      line_done (More h names (suc k)) (Inside (more_types h fresh.all left)) fresh.line fresh.short fresh.admits
      (more_done fuel h fresh.all left (omega (arith, le, some_in_line r.layout)) fresh.few)

  pub header_done : (s : InHeader) → HasFew s → Completes r.rules (inside r s)
  header_done (First system) few =
      let admits : admit_header r.layout (First system) (version_line r.layout) ≡ Ok (Inside (Next (bare_header system (its_version r.layout)))) = rw (version_line-says r.layout system) refl in
      line_done (First system) (Inside (Next (bare_header system (its_version r.layout)))) (version_line r.layout) (version_line-short r.layout) admits (next_done (bare_header system (its_version r.layout)))
  header_done (Next h) few = next_done h
  header_done (More h names n) few =
      let fresh = more_step r.layout h names n few in
      let left = n - names_in_line_of r.layout in
      line_done (More h names n) (Inside (more_types h fresh.all left)) fresh.line fresh.short fresh.admits (more_done left h fresh.all left (omega arith) fresh.few)
