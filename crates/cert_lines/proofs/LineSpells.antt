-- What each line gives where it is spelled, and that it isn't too long.
use Rattle.std.proofs.Common.{◌≡◌, ◌^◌, ◌<◌, ◌≤◌, ℕ, zero, suc, ℤ, pos, negsuc, Bool, true, false, List, [], ◌∷◌, ◌++◌, length, take, get_or, codes, All, refl, ap, subst, arith, ◌+◌, ◌-◌, ◌*◌, neg_ℤ, nat_le, slice_get, drop, unsigned_abs, Result, Ok, Some, None, Option, sym, ◌∙◌, length-append}
use Rattle.std.proofs.lemmas.Int.{ints}
use Rattle.std.proofs.lemmas.Bool.Decides.{nat_tests}
use Rattle.std.proofs.lemmas.List.Elements.{All-head, All-tail}
use Rattle.std.specs.Fmt.{signed_decimal}
use Rattle.std.proofs.lemmas.Fmt.{length-decimal-le_wide}
use Rattle.std.proofs.lemmas.List.{append-nil, drop-drop, get_or-drop, length-map}
use Rattle.std.proofs.lemmas.Option.{slice_get-get_or}
use Rattle.decimal_text.specs.Whole.{size_of}
use Rattle.obs_rows.specs.declared.arcs.Arc.{Arc}
use Rattle.obs_rows.specs.declared.rows.Row.{Row}
use Rattle.obs_rows.specs.Ranges.{IsWithin, IsBelow, IsRadius, IsPoint}
use Rattle.obs_rows.specs.Arcs.{IsArcInRange, IsOfPair}
use Rattle.cert_words.specs.Spelling.{behind_blanks}
use Rattle.cert_words.proofs.NumberLaws.{AreSmall, IsWordEnd, placed, past, line_written, text_written, more_written, capped_small, values_placed}
use Rattle.cert_lines.specs.Lines.{vector_line, arc_line, kind_text, row_numbers, count_line, pair_line, row_line}
use Rattle.cert_lines.specs.declared.version.Version.{Version}
use Rattle.cert_lines.specs.declared.version.Version.TheVariants.{One, Two}
use Rattle.cert_lines.specs.Places.{select, spread, put_within}
use Rattle.obs_rows.specs.Signals.{used_signals}
use Rattle.obs_rows.specs.CountedSignals.{phase_bands}
use Rattle.cert_words.specs.declared.numbers.TheConstants.{MOST_NUMBERS}
use Rattle.cert_words.specs.declared.ranges.Range.{Range}
use Rattle.cert_words.specs.Numbers.{IsIn, Part, part, some_then, behind_text, at_end, more_numbers, number_in, number_at, numbers_behind, natural_within, within_range, all_within, IsBetween}
use Rattle.cert_words.proofs.RangeLaws.{AreIn, natural_holds, within_holds, placed_within}
use Rattle.rinex_head.specs.Places.{and_then}
use Rattle.cert_words.specs.declared.numbers.Number.{Number}
use Rattle.cert_lines.specs.declared.ranges.TheConstants.{SHIFTS, OBSERVATIONS, DIRECTIONS, RADII, ENTRIES, MOVES, COORDINATES}
use Rattle.cert_lines.specs.Forms.{count_in, vector_in, kind_in, with_shifts, words_of_arc, arc_words, arc_of, arc_numbers, may_stand, arc_in, pair_head, pair_in, arc_at, behind_y, row_in}
use Rattle.cert_lines.specs.Versions.{most_sat, group_limit, groups}
use Rattle.cert_lines.proofs.Spreading.{bands_good}
use Rattle.obs_rows.specs.declared.units.TheConstants.{SIGNALS, PHASES}
use Rattle.obs_rows.specs.Unused.{HasUsedShifts}
use Rattle.obs_rows.specs.declared.limits.TheConstants.{MOST_PAIRS, LAST_PAIR, MOST_COORDINATE, MOST_SATELLITES, MOST_ARCS}
use Rattle.rinex_head.specs.declared.place.Flaw.{Flaw}
use Rattle.cert_lines.specs.Lengths.{IsWholeArc, IsWholeRow}
use Rattle.cert_lines.proofs.Sizes.{below_small, row_small, shifts_small, select_in, point_small}

-- ---- lengths

number_length : (z : ℤ) → size_of z < 2 ^ 126 → length (signed_decimal z) ≤ 40
number_length (pos n) small =
    let short = length-decimal-le_wide 39 n (omega arith) (omega arith) (omega arith) in
    omega (arith, short)
number_length (negsuc n) small =
    let short = length-decimal-le_wide 39 (suc n) (omega arith) (omega arith) (omega arith) in
    omega (arith, short)

pub numbers_length : (zs : List ℤ) → AreSmall zs → length (behind_blanks zs) ≤ 41 * length zs
numbers_length [] small = omega arith
numbers_length (z ∷ zs) small =
    let one = number_length z small.0 in
    let rest = numbers_length zs small.1 in
    let both = length-append (signed_decimal z) (behind_blanks zs) in
    omega (arith, one, rest, both)

pub line_length : (word : List ℕ) (zs : List ℤ) → length word ≤ 100 → length zs ≤ MOST_NUMBERS → AreSmall zs → length (word ++ behind_blanks zs) ≤ 4096
line_length word zs short few small =
    let numbers = numbers_length zs small in
    let both = length-append word (behind_blanks zs) in
    omega (arith, numbers, both)

-- ---- one number, and numbers of one range

pub count_spells : (word : List ℕ) (low high n : ℕ) → low ≤ n → n ≤ high → high < 2 ^ 126 → count_in word low high (count_line word n) ≡ Ok n
count_spells word low high n from to small =
    let fits : n < 2 ^ 126 = omega arith in
    let value : (number_in (1 + length word + 1) (pos n)).value ≡ pos n = capped_small (pos n) fits in
    rw (line_written word (pos n ∷ []) (fits, tt)) (natural_holds low high n (number_in (1 + length word + 1) (pos n)) value from to)

pub vector_spells : (word : List ℕ) (n : ℕ) (range : Range) (zs : List ℤ) → length zs ≡ n → AreSmall zs → AreIn range zs → vector_in word n range (vector_line word zs) ≡ Ok zs
vector_spells word n range zs many small inside =
    let written : numbers_behind word n (word ++ behind_blanks zs) ≡ Ok (placed (1 + length word) zs) = subst
    (λ (k : ℕ). numbers_behind word k (word ++ behind_blanks zs) ≡ Ok (placed (1 + length word) zs)) many (line_written word zs small) in
    rw written (placed_within range (placed (1 + length word) zs) zs (values_placed (1 + length word) zs small) inside)

-- what holds of each is a range of each
pub are_in : (P : ℤ → Type 0) (range : Range) (zs : List ℤ) → ((z : ℤ) → P z → IsIn range z) → All P zs → AreIn range zs
are_in P range [] inside all = tt
are_in P range (z ∷ zs) inside all = (inside z (All-head P z zs all), are_in P range zs inside (All-tail P z zs all))

pub within_is : (m : ℕ) (z : ℤ) → IsWithin m z → IsBetween (neg_ℤ (pos m)) (pos m) z
within_is m (pos n) h = (omega (arith, ints, h), omega (arith, ints, h))
within_is m (negsuc n) h = (omega (arith, ints, h), omega (arith, ints, h))

pub below_is : (m k : ℕ) (z : ℤ) → m ≡ k + 1 → IsBelow m z → IsBetween (neg_ℤ (pos k)) (pos k) z
below_is m k (pos n) is h = (omega (arith, ints, h), omega (arith, ints, h))
below_is m k (negsuc n) is h = (omega (arith, ints, h), omega (arith, ints, h))

-- ---- the numbers in their places

-- the numbers of a line, each with its value
abbrev pub HaveValues : List Number → List ℤ → Type 0
HaveValues [] [] = Unit {0}
HaveValues [] (z ∷ zs) = ⊥
HaveValues (n ∷ ns) [] = ⊥
HaveValues (n ∷ ns) (z ∷ zs) = (n.value ≡ z) × HaveValues ns zs

pub placed_values : (column : ℕ) (zs : List ℤ) → AreSmall zs → HaveValues (placed column zs) zs
placed_values column [] small = tt
placed_values column (z ∷ zs) small = (capped_small z small.0, placed_values (column + 1 + length (signed_decimal z)) zs small.1)

pub range_at : (range : Range) (n : Number) (z : ℤ) → n.value ≡ z → IsIn range z → within_range range n ≡ Ok z
range_at range n z is inside = within_holds range.low range.high n (rw is inside) ∙ ap Ok is

-- ---- a pair's line

pair_numbers : (version : Version) (least number tag count : ℕ) (group : ℤ) (ns : List Number) → HaveValues ns (pos number ∷ pos tag ∷ group ∷ pos count ∷ []) → least ≤ number
    → number ≤ LAST_PAIR → tag ≤ 9_223_372_036_854_775_807 → IsIn (groups version) group → 1 ≤ count → count ≤ MOST_SATELLITES
    → and_then (natural_within least LAST_PAIR (number_at ns 0)) (λ number.
    and_then (natural_within 0 9_223_372_036_854_775_807 (number_at ns 1)) (λ tag.
    and_then (within_range (groups version) (number_at ns 2)) (λ group.
    and_then (natural_within 1 MOST_SATELLITES (number_at ns 3)) (λ count. Ok (pair_head number tag group count))))) ≡ Ok (pair_head number tag group count)
pair_numbers version least number tag count group [] have from to tag_to inside count_from count_to = absurd have
pair_numbers version least number tag count group (a ∷ []) have from to tag_to inside count_from count_to = absurd have.1
pair_numbers version least number tag count group (a ∷ b ∷ []) have from to tag_to inside count_from count_to = absurd have.1.1
pair_numbers version least number tag count group (a ∷ b ∷ c ∷ []) have from to tag_to inside count_from count_to = absurd have.1.1.1
pair_numbers version least number tag count group (a ∷ b ∷ c ∷ d ∷ []) have from to tag_to inside count_from count_to =
    rw (
      natural_holds least LAST_PAIR number a have.0 from to,
      natural_holds 0 9_223_372_036_854_775_807 tag b have.1.0 (omega arith) tag_to,
      range_at
          (groups version) c group have.1.1.0 inside,
      natural_holds 1 MOST_SATELLITES count d have.1.1.1.0 count_from count_to,
    ) refl
pair_numbers version least number tag count group (a ∷ b ∷ c ∷ d ∷ e ∷ ns) have from to tag_to inside count_from count_to = absurd have.1.1.1.1

group_is : (version : Version) (z : ℤ) → unsigned_abs z < group_limit version → IsIn (groups version) z
group_is One z h = below_is (2 ^ 50) 1_125_899_906_842_623 z refl h
group_is Two z h = below_is (2 ^ 55) 36_028_797_018_963_967 z refl h

group_small : (version : Version) (z : ℤ) → unsigned_abs z < group_limit version → size_of z < 2 ^ 126
group_small One z h = below_small (2 ^ 50) z (omega arith) h
group_small Two z h = below_small (2 ^ 55) z (omega arith) h

pub pair_spells : (version : Version) (least number tag count : ℕ) (group : ℤ) → least ≤ number → number < MOST_PAIRS → tag < 2 ^ 63 → unsigned_abs group < group_limit version → 1 ≤ count
    → count ≤ MOST_SATELLITES → pair_in version least (pair_line number tag group count) ≡ Ok (pair_head number tag group count)
pair_spells version least number tag count group from to tag_to group_in count_from count_to =
    let numbers : List ℤ = pos number ∷ pos tag ∷ group ∷ pos count ∷ [] in
    let small : AreSmall numbers = (omega (arith, to), (omega (arith, tag_to), (group_small version group group_in, (omega (arith, count_to), tt)))) in
    let inside : IsIn (groups version) group = group_is version group group_in in
    rw (line_written (codes "pair") numbers small) (pair_numbers version least number tag count group (placed (1 + 4) numbers) (placed_values (1 + 4) numbers small) from (omega (arith, to))
    (omega (arith, tag_to)) inside count_from count_to)

-- ---- a row's line

pub values_at : (range : Range) (ns : List Number) (zs : List ℤ) → HaveValues ns zs → AreIn range zs → all_within range ns ≡ Ok zs
unfolding all_within
values_at range [] [] have inside = refl
values_at range [] (z ∷ zs) have inside = absurd have
values_at range (n ∷ ns) [] have inside = absurd have
values_at range (n ∷ ns) (z ∷ zs) have inside = rw (range_at range n z have.0 inside.0, values_at range ns zs have.1 inside.1) refl

-- the numbers of a list and those after it
pub split_values : (ns : List Number) (xs ys : List ℤ) → HaveValues ns (xs ++ ys) → HaveValues (take (length xs) ns) xs × HaveValues (drop (length xs) ns) ys
split_values ns [] ys have = (tt, have)
split_values [] (x ∷ xs) ys have = absurd have
split_values (n ∷ ns) (x ∷ xs) ys have = let rest = split_values ns xs ys have.1 in ((have.0, rest.0), rest.1)

-- the first
head_at : (ns : List Number) (z : ℤ) (zs : List ℤ) → HaveValues ns (z ∷ zs) → (number_at ns 0).value ≡ z
head_at [] z zs have = absurd have
head_at (n ∷ ns) z zs have = have.0

tail_at : (ns : List Number) (z : ℤ) (zs : List ℤ) → HaveValues ns (z ∷ zs) → HaveValues (drop 1 ns) zs
tail_at [] z zs have = absurd have
tail_at (n ∷ ns) z zs have = have.1

-- the parts of a row's numbers
record RowParts (ns : List Number) (n arc : ℕ) (y : List ℤ) (ry : ℤ) (u ru : List ℤ) : Type 0 where
  pub arc_is : (number_at ns 0).value ≡ pos arc
  pub y_is : HaveValues (take n (drop 1 ns)) y
  pub ry_is : (number_at ns (1 + n)).value ≡ ry
  pub u_is : HaveValues (take 3 (drop (1 + n + 1) ns)) u
  pub ru_is : HaveValues (take 3 (drop (1 + n + 4) ns)) ru

row_parts : (ns : List Number) (n arc : ℕ) (y : List ℤ) (ry : ℤ) (u ru : List ℤ) → length y ≡ n → length u ≡ 3 → length ru ≡ 3 → HaveValues ns (pos arc ∷ (y ++ (ry ∷ (u ++ ru))))
    → RowParts ns n arc y ry u ru
row_parts ns n arc y ry u ru many three three_too have =
    let first = tail_at ns (pos arc) (y ++ (ry ∷ (u ++ ru))) have in
    let signals_split = split_values (drop 1 ns) y (ry ∷ (u ++ ru)) first in
    let y_is = subst (λ (k : ℕ). HaveValues (take k (drop 1 ns)) y) many signals_split.0 in
    let behind_y = subst (λ (l : List Number). HaveValues l (ry ∷ (u ++ ru))) (drop-drop n 1 ns) (subst (λ (k : ℕ). HaveValues (drop k (drop 1 ns)) (ry ∷ (u ++ ru))) many signals_split.1) in
    let ry_is : (number_at (drop (1 + n) ns) 0).value ≡ ry = head_at (drop (1 + n) ns) ry (u ++ ru) behind_y in
    let none : Number = record { column = 0; value = pos 0 } in
    let same : 1 + n + 0 ≡ 1 + n = omega arith in
    let there : number_at (drop (1 + n) ns) 0 ≡ number_at ns (1 + n) = get_or-drop (1 + n) ns 0 none ∙ ap (λ (k : ℕ). number_at ns k) same in
    let behind_ry = subst (λ (l : List Number). HaveValues l (u ++ ru)) (drop-drop 1 (1 + n) ns) (tail_at (drop (1 + n) ns) ry (u ++ ru) behind_y) in
    let directions_split = split_values (drop (1 + n + 1) ns) u ru behind_ry in
    let u_is = subst (λ (k : ℕ). HaveValues (take k (drop (1 + n + 1) ns)) u) three directions_split.0 in
    let four_on : 1 + n + 1 + 3 ≡ 1 + n + 4 = omega arith in
    let behind_u = subst (λ (k : ℕ). HaveValues (drop k ns) ru) four_on
    (subst (λ (l : List Number). HaveValues l ru) (drop-drop 3 (1 + n + 1) ns) (subst (λ (k : ℕ). HaveValues (drop k (drop (1 + n + 1) ns)) ru) three directions_split.1)) in
    let rus = split_values (drop (1 + n + 4) ns) ru [] (subst (λ (l : List ℤ). HaveValues (drop (1 + n + 4) ns) l) (sym (append-nil ru)) behind_u) in
    record {
      arc_is = head_at ns (pos arc) (y ++ (ry ∷ (u ++ ru))) have;
      y_is = y_is;
      ry_is = ap (λ (n : Number). n.value) (sym there) ∙ ry_is;
      u_is = u_is;
      ru_is = subst (λ (k : ℕ). HaveValues (take k (drop (1 + n + 4) ns)) ru) three_too rus.0;
    }

-- the arc of a row is found
arc_at_spelled : (arcs : List Arc) (number least : ℕ) (r : Row) (n : Number) → n.value ≡ pos r.arc → IsOfPair arcs number r → least ≤ r.arc → arc_at arcs number least n ≡ Ok r.arc
arc_at_spelled arcs number least r n is of_pair from = by_get (slice_get arcs r.arc) refl
  where
    found : natural_within least (length arcs - 1) n ≡ Ok r.arc
    found = natural_holds least (length arcs - 1) r.arc n is from (omega (arith, of_pair.arc_in))

    by_get : (o : Option Arc) → slice_get arcs r.arc ≡ o → arc_at arcs number least n ≡ Ok r.arc
    by_get None e =
        let arc : Arc = record { sat = 0; first = 0; last = 0; datum = true; shift = [] } in
        let some = slice_get-get_or arcs r.arc arc of_pair.arc_in in
        absurd (cc (e, some))
    by_get (Some a) e =
        let from_first : nat_le a.first number ≡ true = grind (arith, nat_tests, of_pair.from_first a e) in
        let to_last : nat_le number a.last ≡ true = grind (arith, nat_tests, of_pair.to_last a e) in
        rw (found, e, from_first, to_last) refl

-- how many numbers stand in a row's line
pub row_count : (ss : List ℕ) (r : Row) → IsWholeRow r → length (row_numbers ss r) ≡ behind_y ss + 7
row_count ss r whole =
    let chosen = select ss r.y in
    let many : length chosen ≡ length ss = length-map ss (λ p. get_or r.y p (pos 0)) in
    omega (arith, length-append chosen (r.ry ∷ (r.u ++ r.ru)), length-append r.u r.ru, many, whole.u, whole.ru)

pub row_spells : (ss : List ℕ) (arcs : List Arc) (number least : ℕ) (r : Row) → length arcs ≤ MOST_ARCS → IsOfPair arcs number r → IsWholeRow r → least ≤ r.arc
    → row_in ss arcs number least (row_line ss r) ≡ Ok r.arc
row_spells ss arcs number least r few of_pair whole from =
    let numbers = row_numbers ss r in
    let own = select ss r.y in
    let small = row_small ss arcs number r few of_pair in
    let count = row_count ss r whole in
    let many : length own ≡ length ss = length-map ss (λ p. get_or r.y p (pos 0)) in
    let placed_numbers = placed (1 + 3) numbers in
    let written : numbers_behind (codes "row") (behind_y ss + 7) (row_line ss r) ≡ Ok placed_numbers = subst (λ (k : ℕ). numbers_behind (codes "row") k (row_line ss r) ≡ Ok placed_numbers) count
    (line_written (codes "row") numbers small) in
    let parts = row_parts placed_numbers (length ss) r.arc own r.ry r.u r.ru many whole.u whole.ru (placed_values (1 + 3) numbers small) in
    let signals_read = ap (λ (v : Result (List ℤ) Flaw). and_then v (λ vs. Ok (spread SIGNALS ss vs)))
    (values_at OBSERVATIONS (take (length ss) (drop 1 placed_numbers)) own parts.y_is (select_in (IsWithin (2 ^ 34)) OBSERVATIONS ss r.y (omega arith) (λ z h. within_is (2 ^ 34) z h) r.y_in)) in
    let radius_read = range_at RADII (number_at placed_numbers (behind_y ss)) r.ry parts.ry_is r.ry_in in
    let directions_read = values_at DIRECTIONS (take 3 (drop (behind_y ss + 1) placed_numbers)) r.u parts.u_is (are_in (IsWithin (2 ^ 24)) DIRECTIONS r.u (λ z h. within_is (2 ^ 24) z h) r.u_in) in
    let radii_read = values_at RADII (take 3 (drop (behind_y ss + 4) placed_numbers)) r.ru parts.ru_is (are_in IsRadius RADII r.ru (λ z h. h) r.ru_in) in
    rw (written, arc_at_spelled arcs number least r (number_at placed_numbers 0) parts.arc_is of_pair from, signals_read, radius_read, directions_read, radii_read) refl

-- ---- an arc's line

have_append : (ms ns : List Number) (xs ys : List ℤ) → HaveValues ms xs → HaveValues ns ys → HaveValues (ms ++ ns) (xs ++ ys)
have_append [] ns [] ys a b = b
have_append [] ns (x ∷ xs) ys a b = absurd a
have_append (m ∷ ms) ns [] ys a b = absurd a
have_append (m ∷ ms) ns (x ∷ xs) ys a b = (a.0, have_append ms ns xs ys a.1 b)

kind_written : (datum : Bool) (ns : List Number) (column : ℕ) (rest : List ℕ) → kind_in (part ns column (kind_text datum ++ rest)) ≡ Some (datum, part ns (column + length (kind_text datum)) rest)
kind_written true ns column rest = refl
kind_written false ns column rest = refl

words_written : (n : ℕ) (datum : Bool) (three shifts : List ℤ) → length three ≡ 3 → length shifts ≡ n → AreSmall three → AreSmall shifts
    → (ns : List Number) × ((arc_words n (codes "arc" ++ (behind_blanks three ++ (kind_text datum ++ behind_blanks shifts))) ≡ Ok (words_of_arc datum ns)) × HaveValues ns (three ++ shifts))
words_written n datum three shifts is_three is_two small small_too =
    let behind = kind_text datum ++ behind_blanks shifts in
    let column = past 4 three in
    let later = column + length (kind_text datum) in
    let front = placed 4 three in
    let back = placed later shifts in
    let end : IsWordEnd behind = word_end datum in
    let text = text_written (codes "arc") [] 1 (behind_blanks three ++ behind) in
    let first = subst (λ (k : ℕ). more_numbers k (part [] 4 (behind_blanks three ++ behind)) ≡ Some (part front column behind)) is_three (more_written three [] 4 behind small end) in
    let kind = kind_written datum front column (behind_blanks shifts) in
    let whole : behind_blanks shifts ≡ behind_blanks shifts ++ [] = sym (append-nil (behind_blanks shifts)) in
    let second = subst (λ (l : List ℕ). more_numbers n (part front later l) ≡ Some (part (front ++ back) (past later shifts) [])) (sym whole)
    (subst (λ (k : ℕ). more_numbers k (part front later (behind_blanks shifts ++ [])) ≡ Some (part (front ++ back) (past later shifts) [])) is_two (more_written shifts front later [] small_too tt)) in
    let one : some_then (behind_text (codes "arc") (part [] 1 (codes "arc" ++ (behind_blanks three ++ behind)))) (λ p. more_numbers 3 p) ≡ Some (part front column behind) = ap
    (λ (o : Option Part). some_then o (λ p. more_numbers 3 p)) text ∙ first in
    let two : some_then (some_then (behind_text (codes "arc") (part [] 1 (codes "arc" ++ (behind_blanks three ++ behind)))) (λ p. more_numbers 3 p)) (λ p. kind_in p) ≡ Some
    (datum, part front later (behind_blanks shifts)) =
    ap (λ (o : Option Part). some_then o (λ p. kind_in p)) one ∙ kind in
    let words : arc_words n (codes "arc" ++ (behind_blanks three ++ behind)) ≡ Ok (words_of_arc datum (front ++ back)) =
    ap (λ (o : Option (Bool × Part)). with_shifts n o) two ∙ ap (λ (o : Option Part). and_then (at_end o) (λ (ns : List Number). Ok (words_of_arc datum ns))) second in
    (front ++ back, (words, have_append front back three shifts (placed_values 4 three small) (placed_values later shifts small_too)))
  where
    word_end : (datum : Bool) → IsWordEnd (kind_text datum ++ behind_blanks shifts)
    word_end true = refl
    word_end false = refl

sat_from : (version : Version) (sat : ℕ) (n : Number) → n.value ≡ pos sat → 1 ≤ sat → sat ≤ most_sat version → natural_within 1 (most_sat version) n ≡ Ok sat
sat_from version sat n is from to = natural_holds 1 (most_sat version) sat n is from to

arc_read : (version : Version) (bands : List ℕ) (datum : Bool) (sat first last : ℕ) (shift : List ℤ) (ns : List Number) → HaveValues ns (pos sat ∷ pos first ∷ pos last ∷ select bands shift)
    → spread PHASES bands (select bands shift) ≡ shift → 1 ≤ sat → sat ≤ most_sat version
    → first ≤ last → last < MOST_PAIRS → AreIn SHIFTS (select bands shift) → arc_numbers version bands datum ns ≡ Ok (arc_of datum sat first last shift)
arc_read version bands datum sat first last shift [] have whole from to order below inside = absurd have
arc_read version bands datum sat first last shift (a ∷ []) have whole from to order below inside = absurd have.1
arc_read version bands datum sat first last shift (a ∷ b ∷ []) have whole from to order below inside = absurd have.1.1
arc_read version bands datum sat first last shift (a ∷ b ∷ c ∷ ns) have whole from to order below inside =
    let own = select bands shift in
    let many : length own ≡ length bands = length-map bands (λ p. get_or shift p (pos 0)) in
    let all = split_values ns own [] (subst (λ (l : List ℤ). HaveValues ns l) (sym (append-nil own)) have.1.1.1) in
    let values = values_at SHIFTS (take (length bands) ns) own (subst (λ (k : ℕ). HaveValues (take k ns) own) many all.0) inside in
    let shifts : put_within PHASES SHIFTS bands (take (length bands) ns) ≡ Ok shift = ap (λ (v : Result (List ℤ) Flaw). and_then v (λ vs. Ok (spread PHASES bands vs))) values ∙ ap Ok whole in
    rw (
      sat_from version sat a have.0 from to,
      natural_holds 0 LAST_PAIR first b have.1.0 (omega arith) (omega (arith, order, below)),
      natural_holds first LAST_PAIR last c have.1.1.0 order
          (omega (arith, below)),
      shifts,
    ) refl

pub arc_spells : (version : Version) (l2 l5 : ℕ) (free left : ℕ) (a : Arc) → IsArcInRange a → a.sat ≤ most_sat version → HasUsedShifts (used_signals l2 l5) a → IsWholeArc a
    → may_stand free left a.datum ≡ true
    → arc_in version (used_signals l2 l5) free left (arc_line (used_signals l2 l5) a) ≡ Ok a
arc_spells version l2 l5 free left a is sat_to used whole stands =
    let bands = phase_bands (used_signals l2 l5) in
    let own = select bands a.shift in
    let shifts : AreSmall own = shifts_small bands a is in
    let many : length own ≡ length bands = length-map bands (λ p. get_or a.shift p (pos 0)) in
    let three : List ℤ = pos a.sat ∷ pos a.first ∷ pos a.last ∷ [] in
    let small : AreSmall three = (omega (arith, is.sat_to), (omega (arith, is.order, is.last_in), (omega (arith, is.last_in), tt))) in
    let words = words_written (length bands) a.datum three own refl many small shifts in
    let inside = select_in (IsBelow (2 ^ 40)) SHIFTS bands a.shift (omega arith) (λ z h. below_is (2 ^ 40) 1_099_511_627_775 z refl h) is.shifts_in in
    let back : spread PHASES bands own ≡ a.shift = (bands_good l2 l5).whole a.shift whole used in
    rw (words.1.0, stands) (arc_read version bands a.datum a.sat a.first a.last a.shift words.0 words.1.1 back is.sat_from sat_to is.order is.last_in inside)

-- ---- points, vectors and moves

pub point_spells : (word : List ℕ) (p : List ℤ) → length p ≡ 3 → IsPoint p → vector_in word 3 COORDINATES (vector_line word p) ≡ Ok p
point_spells word p three is = vector_spells word 3 COORDINATES p three (point_small p is) (are_in (IsWithin MOST_COORDINATE) COORDINATES p (λ z h. within_is MOST_COORDINATE z h) is)

pub point_length : (word : List ℕ) (p : List ℤ) → length word ≤ 100 → length p ≡ 3 → IsPoint p → length (vector_line word p) ≤ 4096
point_length word p short three is = line_length word p short (omega (arith, three)) (point_small p is)

pub entries_in : (n : ℕ) (z : List ℤ) → ((i : ℕ) → IsBelow (2 ^ 30) (get_or z i (pos 0))) → AreIn ENTRIES (take n z)
entries_in zero z h = tt
entries_in (suc n) [] h = tt
entries_in (suc n) (x ∷ xs) h = (below_is (2 ^ 30) 1_073_741_823 x refl (h 0), entries_in n xs (λ i. h (suc i)))

pub moves_in : (m : List ℤ) → All (IsBelow (2 ^ 46)) m → AreIn MOVES m
moves_in m all = are_in (IsBelow (2 ^ 46)) MOVES m (λ z b. below_is (2 ^ 46) 70_368_744_177_663 z refl b) all
