-- A line of the head or of an arc that is read is the spelling of what it gives, whose numbers are in their ranges.
use Rattle.std.proofs.Common.{◌≡◌, ◌+◌, ◌^◌, ◌<◌, ◌≤◌, ◌==◌, ◌||◌, ◌&&◌, ℕ, ℤ, pos, negsuc, neg_ℤ, Bool, true, false, if◌then◌else◌, IsTrue, List, [], ◌∷◌, ◌++◌, length, map, take, drop, codes, All, Result, Ok, Err, refl, sym, ap, ◌∙◌, subst, arith, lit<}
use Rattle.std.proofs.lemmas.Int.{ints}
use Rattle.std.proofs.lemmas.Bool.Decides.{nat_tests}
use Rattle.std.proofs.lemmas.List.{length-map}
use Rattle.std.proofs.lemmas.List.Elements.{All-nil, All-cons}
use Rattle.std.proofs.lemmas.Slice.Eq.{bytes_eq-Decides}
use Rattle.std.specs.Str.{bytes_eq}
use Rattle.obs_rows.specs.declared.arcs.Arc.{Arc}
use Rattle.obs_rows.specs.declared.bands.Signals.{Signals}
use Rattle.obs_rows.specs.declared.bands.TheConstants.{L1_LETTERS, L2_LETTERS, L5_LETTERS}
use Rattle.obs_rows.specs.declared.units.TheConstants.{PHASES}
use Rattle.obs_rows.specs.Letters.{is_letter}
use Rattle.obs_rows.specs.Ranges.{IsWithin, IsBelow, IsPoint, IsSystem}
use Rattle.obs_rows.specs.Arcs.{IsArcInRange}
use Rattle.obs_rows.specs.Unused.{IsZeroOff, HasUsedShifts}
use Rattle.obs_rows.specs.Signals.{used_signals}
use Rattle.obs_rows.specs.CountedSignals.{phase_bands}
use Rattle.obs_rows.specs.declared.limits.TheConstants.{LAST_PAIR, MOST_COORDINATE}
use Rattle.rinex_head.specs.declared.place.Flaw.{Flaw}
use Rattle.rinex_head.specs.declared.place.What.TheVariants.{BadLine}
use Rattle.rinex_head.specs.Places.{flawed}
use Rattle.rinex_head.proofs.TakenLines.{and_then_took}
use Rattle.cert_words.specs.declared.numbers.Number.{Number}
use Rattle.cert_words.specs.declared.ranges.Range.{Range}
use Rattle.cert_words.specs.Spelling.{behind_blanks}
use Rattle.cert_words.specs.Numbers.{capped, part, some_then, behind_text, more_numbers, numbers_behind, number_at, natural_within, all_within, IsIn, IsBetween}
use Rattle.cert_words.proofs.NumberLaws.{AreSmall, values, took_end, some_took, took_text, took_more, line_read, values-length}
use Rattle.cert_words.proofs.RangeLaws.{AreIn, natural_passed, all_passed, passed_in, in_small}
use Rattle.cert_lines.specs.declared.arcs.ArcWords.{ArcWords}
use Rattle.cert_lines.specs.declared.ranges.TheConstants.{COORDINATES, SHIFTS}
use Rattle.cert_lines.specs.declared.version.Version.{Version}
use Rattle.cert_lines.specs.declared.version.Version.TheVariants.{One, Two}
use Rattle.cert_lines.specs.Versions.{most_sat}
use Rattle.cert_lines.specs.Places.{spread}
use Rattle.cert_lines.specs.Lengths.{IsWholeArc}
use Rattle.cert_lines.specs.Lines.{count_line, vector_line, system_line, letters_text, signals_line, arc_line}
use Rattle.cert_lines.specs.Forms.{count_in, vector_in, system_letter, system_in, two_of, three_of, two_letters, three_letters, Letters as LettersOf, letters, or_else, on_12, on_15, on_125, signals_in, arc_words, may_stand, arc_numbers, arc_in}
use Rattle.cert_lines.proofs.Values.{one_value}
use Rattle.cert_lines.proofs.Spelled.{behind_word, some_l2, some_l5, spelled_15, spelled_125}
use Rattle.cert_lines.proofs.Spreading.{bands_good, spread_all, spread_off, spread_length}
use Rattle.cert_lines.proofs.ArcLaws.{arc_read, words_count, arc_parts}
use Rattle.cert_lines.proofs.LetterLaws.{not_one, letters_of_signals}
use Rattle.cert_text.specs.LineParts.{word_in}

-- ---- a word

pub word_was : (word line : List ℕ) (u : Unit {0}) → word_in word line ≡ Ok u → line ≡ word
word_was word line u e = by_test (bytes_eq line word) refl e
  where
    by_test : (t : Bool) → bytes_eq line word ≡ t → if◌then◌else◌ {A = Result (Unit {0}) Flaw} t (Ok tt) (flawed 1 BadLine) ≡ Ok u → line ≡ word
    by_test true is given = (bytes_eq-Decides line word).0 is
    by_test false is given = absurd cc

-- ---- numbers

numbers_count : (word : List ℕ) (n : ℕ) (line : List ℕ) (ns : List Number) → numbers_behind word n line ≡ Ok ns → length ns ≡ n
numbers_count word n line ns e =
    let end = took_end (some_then (behind_text word (part [] 1 line)) (λ p. more_numbers n p)) ns e in
    let both = some_took (behind_text word (part [] 1 line)) (λ p. more_numbers n p) end.0 end.1 in
    let text = took_text word (part [] 1 line) both.0 both.1 in
    let took = took_more n both.0 end.0 both.2 in
    let none : values both.0.numbers ≡ [] = ap values text.1 in
    let are : values ns ≡ map capped took.numbers = ap values (sym end.3) ∙ took.are ∙ ap (λ (zs : List ℤ). zs ++ map capped took.numbers) none in
    sym (values-length ns) ∙ ap length are ∙ length-map took.numbers capped ∙ took.count

pub record CountRead (word : List ℕ) (low high : ℕ) (line : List ℕ) (n : ℕ) : Type 0 where
  pub line_is : line ≡ count_line word n
  pub from : low ≤ n
  pub to : n ≤ high

pub count_was : (word : List ℕ) (low high : ℕ) (line : List ℕ) (n : ℕ) → high < 2 ^ 64 → count_in word low high line ≡ Ok n → CountRead word low high line n
count_was word low high line n few e =
    let both = and_then_took (numbers_behind word 1 line) (λ (ns : List Number). natural_within low high (number_at ns 0)) n e in
    let numbers : List Number = both.0 in
    let passed = natural_passed low high n (number_at numbers 0) both.2 in
    let to : n ≤ high = passed.to in
    let are : values numbers ≡ pos n ∷ [] = one_value numbers (numbers_count word 1 line numbers both.1) ∙ ap (λ (z : ℤ). z ∷ []) passed.value in
    let small : AreSmall (pos n ∷ []) = (omega arith, tt) in
    record {
      line_is = line_read word 1 line numbers both.1 (subst AreSmall (sym are) small) ∙ ap (λ (zs : List ℤ). word ++ behind_blanks zs) are;
      from = passed.from;
      to = to;
    }

-- what holds of each number in a range
all_in : (P : ℤ → Type 0) (range : Range) → ((z : ℤ) → IsIn range z → P z) → (zs : List ℤ) → AreIn range zs → All P zs
all_in P range each [] inside = All-nil P
all_in P range each (z ∷ zs) inside = All-cons P z zs (each z inside.0) (all_in P range each zs inside.1)

is_within : (m : ℕ) (z : ℤ) → IsBetween (neg_ℤ (pos m)) (pos m) z → IsWithin m z
is_within m (pos n) h = let at_most = h.1 in omega (arith, ints)
is_within m (negsuc n) h = let from = h.0 in omega (arith, ints)

is_below : (m k : ℕ) (z : ℤ) → m ≡ k + 1 → IsBetween (neg_ℤ (pos k)) (pos k) z → IsBelow m z
is_below m k (pos n) is h = let at_most = h.1 in omega (arith, ints)
is_below m k (negsuc n) is h = let from = h.0 in omega (arith, ints)

pub record PointRead (word line : List ℕ) (p : List ℤ) : Type 0 where
  pub line_is : line ≡ vector_line word p
  pub point : IsPoint p
  pub three : length p ≡ 3

pub point_was : (word line : List ℕ) (p : List ℤ) → vector_in word 3 COORDINATES line ≡ Ok p → PointRead word line p
point_was word line p e =
    let both = and_then_took (numbers_behind word 3 line) (λ (ns : List Number). all_within COORDINATES ns) p e in
    let numbers : List Number = both.0 in
    let are : p ≡ values numbers = all_passed COORDINATES numbers p both.2 in
    let inside : AreIn COORDINATES p = passed_in COORDINATES numbers p both.2 in
    let small : AreSmall p = in_small MOST_COORDINATE COORDINATES p (lit< tt) (record { low = omega (arith, ints); high = omega (arith, ints) }) inside in
    record {
      line_is = line_read word 3 line numbers both.1 (subst AreSmall are small) ∙ ap (λ (zs : List ℤ). word ++ behind_blanks zs) (sym are);
      point = all_in (IsWithin MOST_COORDINATE) COORDINATES (is_within MOST_COORDINATE) p inside;
      three = ap length are ∙ values-length numbers ∙ numbers_count word 3 line numbers both.1;
    }

-- ---- the system

pub system_was : (line : List ℕ) (s : ℕ) → system_in line ≡ Ok s → (line ≡ system_line s) × IsSystem s
system_was line s e = by_word (bytes_eq (take 6 line) (codes "system")) refl e
  where
    by_tests : (x a : ℕ) (t u : Bool) → (x == 32) ≡ t → ((a == 71) || (a == 69)) ≡ u → if◌then◌else◌ {A = Result ℕ Flaw} (t && u) (Ok a) (flawed 1 BadLine) ≡ Ok s
        → (x ∷ a ∷ [] ≡ 32 ∷ s ∷ []) × IsSystem s
    by_tests x a true true blank is given =
        let same : a ≡ s = cc (given) in
        let first : x ≡ 32 = grind (arith, nat_tests) in
        ((λ i. first i ∷ same i ∷ []), subst IsSystem same is)
    by_tests x a true false blank is given = absurd cc
    by_tests x a false u blank is given = absurd cc

    letter : (l : List ℕ) → system_letter l ≡ Ok s → (l ≡ 32 ∷ s ∷ []) × IsSystem s
    letter [] given = absurd cc
    letter (x ∷ []) given = absurd cc
    letter (x ∷ a ∷ []) given = by_tests x a (x == 32) ((a == 71) || (a == 69)) refl refl given
    letter (x ∷ a ∷ b ∷ l) given = absurd cc

    by_word : (t : Bool) → bytes_eq (take 6 line) (codes "system") ≡ t → if◌then◌else◌ {A = Result ℕ Flaw} t (system_letter (drop 6 line)) (flawed 1 BadLine) ≡ Ok s → (line ≡ system_line s) × IsSystem s
    by_word true is given = let rest = letter (drop 6 line) given in (behind_word (codes "system") line is ∙ ap (λ (l : List ℕ). codes "system" ++ l) rest.0, rest.1)
    by_word false is given = absurd cc

-- ---- the letters

blank_is : (x : ℕ) → (x == 32) ≡ true → x ≡ 32
blank_is x is = grind (arith, nat_tests)

record TwoRead (others l : List ℕ) (p : ℕ × ℕ) : Type 0 where
  pub is : l ≡ letters_text (p.0 ∷ p.1 ∷ [])
  pub first : IsTrue (is_letter L1_LETTERS p.0)
  pub second : IsTrue (is_letter others p.1)

two_was : (others l : List ℕ) (p : ℕ × ℕ) → two_of others l ≡ Ok p → TwoRead others l p
two_was others [] p e = absurd cc
two_was others (x ∷ []) p e = absurd cc
two_was others (x ∷ a ∷ []) p e = absurd cc
two_was others (x ∷ a ∷ y ∷ []) p e = absurd cc
two_was others (x ∷ a ∷ y ∷ b ∷ []) p e = by_tests (x == 32) (y == 32) (is_letter L1_LETTERS a) (is_letter others b) refl refl refl refl e
  where
    by_tests : (s t u v : Bool) → (x == 32) ≡ s → (y == 32) ≡ t → is_letter L1_LETTERS a ≡ u → is_letter others b ≡ v
        → if◌then◌else◌ {A = Result (ℕ × ℕ) Flaw} ((s && t) && (u && v)) (Ok (a, b)) (flawed 1 BadLine) ≡ Ok p → TwoRead others (x ∷ a ∷ y ∷ b ∷ []) p
    by_tests true true true true one two left right given =
        let same : (a, b) ≡ p = cc (given) in
        let blank = blank_is x one in
        let between = blank_is y two in
        subst (TwoRead others (x ∷ a ∷ y ∷ b ∷ [])) same (record { is = λ i. blank i ∷ a ∷ between i ∷ b ∷ []; first = left; second = right })
    by_tests true true true false one two left right given = absurd cc
    by_tests true true false v one two left right given = absurd cc
    by_tests true false u v one two left right given = absurd cc
    by_tests false t u v one two left right given = absurd cc
two_was others (x ∷ a ∷ y ∷ b ∷ z ∷ l) p e = absurd cc

record ThreeRead (l : List ℕ) (p : ℕ × ℕ × ℕ) : Type 0 where
  pub is : l ≡ letters_text (p.0 ∷ p.1 ∷ p.2 ∷ [])
  pub first : IsTrue (is_letter L1_LETTERS p.0)
  pub second : IsTrue (is_letter L2_LETTERS p.1)
  pub third : IsTrue (is_letter L5_LETTERS p.2)

three_was : (l : List ℕ) (p : ℕ × ℕ × ℕ) → three_of l ≡ Ok p → ThreeRead l p
three_was [] p e = absurd cc
three_was (x ∷ []) p e = absurd cc
three_was (x ∷ a ∷ []) p e = absurd cc
three_was (x ∷ a ∷ y ∷ []) p e = absurd cc
three_was (x ∷ a ∷ y ∷ b ∷ []) p e = absurd cc
three_was (x ∷ a ∷ y ∷ b ∷ z ∷ []) p e = absurd cc
three_was (x ∷ a ∷ y ∷ b ∷ z ∷ c ∷ []) p e = by_blanks (x == 32) (y == 32) (z == 32) refl refl refl e
  where
    by_letters : (s t u : Bool) → is_letter L1_LETTERS a ≡ s → is_letter L2_LETTERS b ≡ t → is_letter L5_LETTERS c ≡ u
        → x ≡ 32 → y ≡ 32 → z ≡ 32 → if◌then◌else◌ {A = Result (ℕ × ℕ × ℕ) Flaw} (s && (t && u)) (Ok (a, b, c)) (flawed 1 BadLine) ≡ Ok p → ThreeRead (x ∷ a ∷ y ∷ b ∷ z ∷ c ∷ []) p
    by_letters true true true one two three before between behind given =
        let same : (a, b, c) ≡ p = cc (given) in
        subst (ThreeRead (x ∷ a ∷ y ∷ b ∷ z ∷ c ∷ [])) same (record { is = λ i. before i ∷ a ∷ between i ∷ b ∷ behind i ∷ c ∷ []; first = one; second = two; third = three })
    by_letters true true false one two three before between behind given = absurd cc
    by_letters true false u one two three before between behind given = absurd cc
    by_letters false t u one two three before between behind given = absurd cc

    by_blanks : (s t u : Bool) → (x == 32) ≡ s → (y == 32) ≡ t → (z == 32) ≡ u
        → if◌then◌else◌ {A = Result (ℕ × ℕ × ℕ) Flaw} ((s && (t && u)) && (is_letter L1_LETTERS a && (is_letter L2_LETTERS b && is_letter L5_LETTERS c))) (Ok (a, b, c)) (flawed 1 BadLine) ≡ Ok p
        → ThreeRead (x ∷ a ∷ y ∷ b ∷ z ∷ c ∷ []) p
    by_blanks true true true one two three given =
        by_letters (is_letter L1_LETTERS a) (is_letter L2_LETTERS b) (is_letter L5_LETTERS c) refl refl refl (blank_is x one) (blank_is y two) (blank_is z three) given
    by_blanks true true false one two three given = absurd cc
    by_blanks true false u one two three given = absurd cc
    by_blanks false t u one two three given = absurd cc
three_was (x ∷ a ∷ y ∷ b ∷ z ∷ c ∷ d ∷ l) p e = absurd cc

two_behind : (word others line : List ℕ) (p : ℕ × ℕ) → two_letters word others line ≡ Ok p → (l : List ℕ) × (line ≡ word ++ l) × TwoRead others l p
two_behind word others line p e = by_word (bytes_eq (take (length word) line) word) refl e
  where
    by_word : (t : Bool) → bytes_eq (take (length word) line) word ≡ t → if◌then◌else◌ {A = Result (ℕ × ℕ) Flaw} t (two_of others (drop (length word) line)) (flawed 1 BadLine) ≡ Ok p
        → (l : List ℕ) × (line ≡ word ++ l) × TwoRead others l p
    by_word true is given = (drop (length word) line, behind_word word line is, two_was others (drop (length word) line) p given)
    by_word false is given = absurd cc

three_behind : (word line : List ℕ) (p : ℕ × ℕ × ℕ) → three_letters word line ≡ Ok p → (l : List ℕ) × (line ≡ word ++ l) × ThreeRead l p
three_behind word line p e = by_word (bytes_eq (take (length word) line) word) refl e
  where
    by_word : (t : Bool) → bytes_eq (take (length word) line) word ≡ t → if◌then◌else◌ {A = Result (ℕ × ℕ × ℕ) Flaw} t (three_of (drop (length word) line)) (flawed 1 BadLine) ≡ Ok p
        → (l : List ℕ) × (line ≡ word ++ l) × ThreeRead l p
    by_word true is given = (drop (length word) line, behind_word word line is, three_was (drop (length word) line) p given)
    by_word false is given = absurd cc

-- ---- the signals

pub record SignalsRead (version : Version) (line : List ℕ) (l : LettersOf) : Type 0 where
  pub signals : Signals
  pub same : letters_of_signals signals ≡ l
  pub line_is : line ≡ signals_line version signals.l1 signals.l2 signals.l5
  pub old : version ≡ One → signals.l5 ≡ 0

abbrev signals_12 : (a b : ℕ) → IsTrue (is_letter L1_LETTERS a) → IsTrue (is_letter L2_LETTERS b) → Signals
signals_12 a b one two = record { l1 = a; l2 = b; l5 = 0; on_l1 = one; on_l2 = rw (some_l2 b two) two; on_l5 = refl; two_bands = rw (some_l2 b two) refl }

abbrev signals_15 : (a c : ℕ) → IsTrue (is_letter L1_LETTERS a) → IsTrue (is_letter L5_LETTERS c) → Signals
signals_15 a c one three = record { l1 = a; l2 = 0; l5 = c; on_l1 = one; on_l2 = refl; on_l5 = rw (some_l5 c three) three; two_bands = rw (some_l5 c three) refl }

abbrev signals_125 : (a b c : ℕ) → IsTrue (is_letter L1_LETTERS a) → IsTrue (is_letter L2_LETTERS b) → IsTrue (is_letter L5_LETTERS c) → Signals
signals_125 a b c one two three =
    record { l1 = a; l2 = b; l5 = c; on_l1 = one; on_l2 = rw (some_l2 b two) two; on_l5 = rw (some_l5 c three) three; two_bands = rw (some_l2 b two) refl }

-- on L1 and L2, by the word of the version
was_12 : (version : Version) (word line : List ℕ) (l : LettersOf) → ((a b : ℕ) → signals_line version a b 0 ≡ word ++ letters_text (a ∷ b ∷ [])) → on_12 word line ≡ Ok l → SignalsRead version line l
was_12 version word line l spelled e =
    let both = and_then_took (two_letters word L2_LETTERS line) (λ (p : ℕ × ℕ). Ok (letters p.0 p.1 0)) l e in
    let read = two_behind word L2_LETTERS line both.0 both.1 in
    record {
      signals = signals_12 both.0.0 both.0.1 read.2.first read.2.second;
      same = cc (both.2);
      line_is = read.1 ∙ ap (λ (t : List ℕ). word ++ t) read.2.is ∙ sym (spelled both.0.0 both.0.1);
      old = λ first. refl;
    }

was_15 : (line : List ℕ) (l : LettersOf) → on_15 line ≡ Ok l → SignalsRead Two line l
was_15 line l e =
    let both = and_then_took (two_letters (codes "signals 15") L5_LETTERS line) (λ (p : ℕ × ℕ). Ok (letters p.0 0 p.1)) l e in
    let read = two_behind (codes "signals 15") L5_LETTERS line both.0 both.1 in
    record {
      signals = signals_15 both.0.0 both.0.1 read.2.first read.2.second;
      same = cc (both.2);
      line_is = read.1 ∙ ap (λ (t : List ℕ). codes "signals 15" ++ t) read.2.is ∙ sym (spelled_15 both.0.0 both.0.1 read.2.second);
      old = λ first. absurd (not_one first);
    }

was_125 : (line : List ℕ) (l : LettersOf) → on_125 line ≡ Ok l → SignalsRead Two line l
was_125 line l e =
    let both = and_then_took (three_letters (codes "signals 125") line) (λ (p : ℕ × ℕ × ℕ). Ok (letters p.0 p.1 p.2)) l e in
    let read = three_behind (codes "signals 125") line both.0 both.1 in
    record {
      signals = signals_125 both.0.0 both.0.1 both.0.2 read.2.first read.2.second read.2.third;
      same = cc (both.2);
      line_is = read.1 ∙ ap (λ (t : List ℕ). codes "signals 125" ++ t) read.2.is ∙ sym (spelled_125 both.0.0 both.0.1 both.0.2 read.2.second read.2.third);
      old = λ first. absurd (not_one first);
    }

pub signals_were : (version : Version) (line : List ℕ) (l : LettersOf) → signals_in version line ≡ Ok l → SignalsRead version line l
signals_were One line l e = was_12 One (codes "signals") line l (λ a b. refl) e
signals_were Two line l e = by_12 (on_12 (codes "signals 12") line) refl e
  where
    by_15 : (r : Result LettersOf Flaw) → on_15 line ≡ r → or_else r (on_125 line) ≡ Ok l → SignalsRead Two line l
    by_15 (Ok x) is given = was_15 line l (is ∙ given)
    by_15 (Err flaw) is given = was_125 line l given

    by_12 : (r : Result LettersOf Flaw) → on_12 (codes "signals 12") line ≡ r → or_else r (or_else (on_15 line) (on_125 line)) ≡ Ok l → SignalsRead Two line l
    by_12 (Ok x) is given = was_12 Two (codes "signals 12") line l (λ a b. refl) (is ∙ given)
    by_12 (Err flaw) is given = by_15 (on_15 line) refl given

-- ---- an arc

-- an arc of the version that has shifts of these signals alone
pub record IsArcOf (version : Version) (ss : List ℕ) (a : Arc) : Type 0 where
  pub in_range : IsArcInRange a
  pub sat : a.sat ≤ most_sat version
  pub used : HasUsedShifts ss a
  pub whole : IsWholeArc a

sat_most : (version : Version) → most_sat version ≤ 36
sat_most One = omega arith
sat_most Two = omega arith

numbers_were : (version : Version) (ss : List ℕ) (datum : Bool) (ns : List Number) (a : Arc) → arc_numbers version (phase_bands ss) datum ns ≡ Ok a → (a.datum ≡ datum) × IsArcOf version ss a
numbers_were version ss datum ns a e =
    let bands = phase_bands ss in
    let arc_holds = arc_parts version bands datum ns a e in
    let own = take (length bands) (drop 3 ns) in
    let sat_to : a.sat ≤ most_sat version = arc_holds.sat.to in
    let last_to : a.last ≤ LAST_PAIR = arc_holds.last.to in
    let put = and_then_took (all_within SHIFTS own) (λ (vs : List ℤ). Ok (spread PHASES bands vs)) a.shift arc_holds.shift in
    let spread_is : spread PHASES bands put.0 ≡ a.shift = cc (put.2) in
    let below : All (IsBelow (2 ^ 40)) put.0 = all_in (IsBelow (2 ^ 40)) SHIFTS (λ z. is_below (2 ^ 40) 1_099_511_627_775 z (omega arith)) put.0 (passed_in SHIFTS own put.0 put.1) in
    let shifts : All (IsBelow (2 ^ 40)) a.shift = subst (All (IsBelow (2 ^ 40))) spread_is (spread_all (IsBelow (2 ^ 40)) PHASES bands put.0 (omega arith) below) in (
      arc_holds.kind,
      record {
        in_range = record { sat_from = arc_holds.sat.from; sat_to = omega (arith, sat_most version, sat_to); order = arc_holds.last.from; last_in = omega (arith, last_to); shifts_in = shifts };
        sat = sat_to;
        used = subst (IsZeroOff bands) spread_is (spread_off PHASES bands put.0);
        whole = sym (ap length spread_is) ∙ spread_length PHASES bands put.0;
      },
    )

pub record ArcRead (version : Version) (ss : List ℕ) (free left : ℕ) (line : List ℕ) (a : Arc) : Type 0 where
  pub line_is : line ≡ arc_line ss a
  pub of_version : IsArcOf version ss a
  pub stands : may_stand free left a.datum ≡ true

pub arc_was : (version : Version) (l2 l5 free left : ℕ) (line : List ℕ) (a : Arc) → arc_in version (used_signals l2 l5) free left line ≡ Ok a → ArcRead version (used_signals l2 l5) free left line a
arc_was version l2 l5 free left line a e =
    let words = and_then_took (arc_words (length bands) line) (λ (w : ArcWords). if may_stand free left w.datum then arc_numbers version bands w.datum w.numbers else flawed 1 BadLine) a e in
    by_test words.0 words.1 (may_stand free left words.0.datum) refl words.2
  where
    bands : List ℕ
    bands = phase_bands (used_signals l2 l5)

    by_test : (w : ArcWords) → arc_words (length bands) line ≡ Ok w → (t : Bool) → may_stand free left w.datum ≡ t
        → if◌then◌else◌ {A = Result Arc Flaw} t (arc_numbers version bands w.datum w.numbers) (flawed 1 BadLine) ≡ Ok a → ArcRead version (used_signals l2 l5) free left line a
    by_test w words true may given =
        let numbers = numbers_were version (used_signals l2 l5) w.datum w.numbers a given in
        record {
          line_is = arc_read version bands line w a (bands_good l2 l5) words (words_count (length bands) line w words) given;
          of_version = numbers.1;
          stands = ap (λ (d : Bool). may_stand free left d) numbers.0 ∙ may;
        }
    by_test w words false may given = absurd cc
