-- Arcs and rows are accepted where they are spelled, in any form of text.
use Rattle.std.proofs.Common.{◌≡◌, ◌^◌, ◌<◌, ◌≤◌, ℕ, zero, suc, ℤ, pos, Bool, true, false, ◌||◌, List, [], ◌∷◌, ◌++◌, length, get_or, codes, All, refl, ap, subst, arith, ◌+◌, ◌-◌, Result, Ok, sym, ◌∙◌, length-append, lit≤, nat_lt, cond, AllPairs, append_assoc}
use Rattle.std.proofs.lemmas.Bool.Decides.{nat_tests}
use Rattle.std.proofs.lemmas.List.Elements.{All-head, All-tail}
use Rattle.std.proofs.lemmas.List.{append-nil, length-map}
use Rattle.std.proofs.lemmas.List.Sums.{sum_by-append}
use Rattle.obs_rows.specs.declared.arcs.Arc.{Arc}
use Rattle.obs_rows.specs.declared.rows.Row.{Row}
use Rattle.obs_rows.specs.Arcs.{IsArcInRange, IsOfPair, is_free, free_count, AreArcs}
use Rattle.obs_rows.specs.declared.units.TheConstants.{MOST_FREE_ARCS, PHASES, SIGNALS}
use Rattle.cert_words.specs.declared.numbers.TheConstants.{MOST_NUMBERS}
use Rattle.cert_words.specs.Spelling.{behind_blanks}
use Rattle.cert_words.proofs.NumberLaws.{AreSmall}
use Rattle.cert_lines.specs.Lines.{arc_line, kind_text, row_numbers, row_lines, arc_lines, counted_arcs, count_line, row_line}
use Rattle.cert_lines.specs.declared.version.Version.{Version}
use Rattle.cert_lines.specs.Places.{select}
use Rattle.obs_rows.specs.Signals.{used_signals}
use Rattle.obs_rows.specs.CountedSignals.{phase_bands}
use Rattle.rinex_head.specs.Places.{and_then, at_line}
use Rattle.cert_lines.specs.Forms.{count_in, may_stand, arc_in, row_in}
use Rattle.cert_lines.specs.Versions.{most_sat}
use Rattle.cert_lines.proofs.Spreading.{bands_good}
use Rattle.obs_rows.specs.Unused.{HasUsedShifts}
use Rattle.obs_rows.specs.declared.limits.TheConstants.{MOST_ARCS}
use Rattle.rinex_head.specs.declared.place.Flaw.{Flaw}
use Rattle.cert_lines.specs.Lengths.{IsWholeArc, IsWholeRow}
use Rattle.cert_lines.proofs.Sizes.{row_small, shifts_small}
use Rattle.rinex_head.proofs.LineRuleLaws.{walk-takes, walk-end}
use Rattle.rinex_head.specs.LineRules.{walk, Rules}
use Rattle.cert_lines.proofs.LineSpells.{line_length, count_spells, numbers_length, row_count, row_spells, arc_spells}
use Rattle.cert_text.specs.Parts.{free_by, ArcsAreTaken, RowsAreTaken}
use Rattle.cert_text.proofs.ArcSteps.{free_push}
use Rattle.cert_text.specs.LineParts.{TakesLine}

-- ---- lines that are admitted where s is expected, up to the end

abbrev pub AreAccepted : {S : Type 0} → Rules S (Unit {0}) → S → List (List ℕ) → Type 0
AreAccepted rules s lines = (n : ℕ) → walk rules lines n s ≡ Ok tt

pub step : {S : Type 0} (rules : Rules S (Unit {0})) (s next : S) (line : List ℕ) (lines : List (List ℕ)) → length line ≤ 4096 → rules.admit s line ≡ Ok next → AreAccepted rules next lines
    → AreAccepted rules s (line ∷ lines)
step rules s next line lines short is rest = λ n. walk-takes rules s next line lines n short is ∙ rest (n + 1)

-- a line of a form that is expected
pub line_accepted : {S X : Type 0} (rules : Rules S (Unit {0})) (s : S) (form : List ℕ → Result X Flaw) (next : X → S) (x : X) (line : List ℕ) (lines : List (List ℕ)) → TakesLine rules s form next
    → length line ≤ 4096 → form line ≡ Ok x → AreAccepted rules (next x) lines → AreAccepted rules s (line ∷ lines)
line_accepted {S} {X} rules s form next x line lines takes short reads rest =
    step rules s (next x) line lines short (takes.admits line ∙ ap (λ (r : Result X Flaw). and_then r (λ y. Ok (next y))) reads) rest

pub end_accepted : {S : Type 0} (rules : Rules S (Unit {0})) (s : S) → rules.finish s ≡ Ok tt → AreAccepted rules s []
end_accepted rules s ends = λ n. walk-end rules s n ∙ ap (λ (r : Result (Unit {0}) Flaw). at_line (n + 1) r) ends

-- ---- keys that rise, from a least one on

abbrev pub RisesFrom : {X : Type 0} → (X → ℕ) → ℕ → List X → Type 0
RisesFrom key least [] = Unit {0}
RisesFrom key least (x ∷ xs) = (least ≤ key x) × RisesFrom key (key x + 1) xs

pub rises : {X : Type 0} (key : X → ℕ) (least : ℕ) (xs : List X) → AllPairs (λ x y. key x < key y) xs → ((d : X) → 0 < length xs → least ≤ key (get_or xs 0 d)) → RisesFrom key least xs
rises key least [] rising first = tt
rises key least (x ∷ xs) rising first = (first x (omega arith), rises key (key x + 1) xs (λ i j d before inside. rising (suc i) (suc j) d (omega arith) (omega arith)) (λ d some. next d some))
  where
    next : (d : _) → 0 < length xs → key x + 1 ≤ key (get_or xs 0 d)
    next d some = let rises_here : key x < key (get_or xs 0 d) = rising zero (suc zero) d (omega arith) (omega arith) in omega (arith, rises_here)

-- ---- the rows of a pair

pub rows_accepted : {S : Type 0} (rules : Rules S (Unit {0})) (ss : List ℕ) (arcs : List Arc) (number : ℕ) (before : ℕ → ℕ → S) (after : S) (least : ℕ) (rows : List Row) (rest : List (List ℕ))
    → RowsAreTaken rules ss arcs number before after → length ss ≤ SIGNALS → length arcs ≤ MOST_ARCS → All (IsOfPair arcs number) rows → All IsWholeRow rows → RisesFrom (λ (r : Row). r.arc) least rows
    → AreAccepted rules after rest → AreAccepted rules (before (length rows) least) (row_lines ss rows ++ rest)
rows_accepted {S} rules ss arcs number before after least [] rest taken signals few of_pair whole rising behind = subst (λ (s : S). AreAccepted rules s rest) (sym (taken.ends least)) behind
rows_accepted {S} rules ss arcs number before after least (r ∷ rows) rest taken signals few of_pair whole rising behind =
    let is_of_pair = All-head (IsOfPair arcs number) r rows of_pair in
    let wide = All-head IsWholeRow r rows whole in
    let numbers_small = row_small ss arcs number r few is_of_pair in
    let count : length (row_numbers ss r) ≤ MOST_NUMBERS = omega (arith, row_count ss r wide, signals) in
    let short = line_length (codes "row") (row_numbers ss r) (lit≤ tt) count numbers_small in
    let left : ℕ = suc (length rows) in
    let fewer : suc (length rows) - 1 ≡ length rows = omega arith in
    let reads = row_spells ss arcs number least r few is_of_pair wide rising.0 in
    let later = rows_accepted rules ss arcs number before after (r.arc + 1) rows rest taken signals few
    (All-tail (IsOfPair arcs number) r rows of_pair) (All-tail IsWholeRow r rows whole) rising.1 behind in
    let next = subst (λ (n : ℕ). AreAccepted rules (before n (r.arc + 1)) (row_lines ss rows ++ rest)) (sym fewer) later in
    line_accepted rules (before left least) (row_in ss arcs number least) (λ (k : ℕ). before (left - 1) (k + 1)) r.arc (row_line ss r) (row_lines ss rows ++ rest)
    (taken.takes left least (omega arith)) short reads next

-- ---- arcs

arc_length : (ss : List ℕ) (a : Arc) → IsArcInRange a → length (phase_bands ss) ≤ PHASES → length (arc_line ss a) ≤ 4096
arc_length ss a is bands =
    let own = select (phase_bands ss) a.shift in
    let whole : length own ≡ length (phase_bands ss) = length-map (phase_bands ss) (λ p. get_or a.shift p (pos 0)) in
    let three : List ℤ = pos a.sat ∷ pos a.first ∷ pos a.last ∷ [] in
    let small : AreSmall three = (omega (arith, is.sat_to), (omega (arith, is.order, is.last_in), (omega (arith, is.last_in), tt))) in
    let shifts : AreSmall own = shifts_small (phase_bands ss) a is in
    let front = numbers_length three small in
    let back = numbers_length own shifts in
    let kind : length (kind_text a.datum) ≤ 6 = kind_length a.datum in
    let one = length-append (codes "arc") (behind_blanks three ++ (kind_text a.datum ++ behind_blanks own)) in
    let two = length-append (behind_blanks three) (kind_text a.datum ++ behind_blanks own) in
    let last = length-append (kind_text a.datum) (behind_blanks own) in
    let sizes : length three ≤ 3 = lit≤ tt in
    omega (arith, front, back, kind, one, two, last, whole, bands, sizes)
  where
    kind_length : (d : Bool) → length (kind_text d) ≤ 6
    kind_length true = lit≤ tt
    kind_length false = lit≤ tt

free_more : (a : Arc) (arcs : List Arc) → free_count (a ∷ arcs) ≡ free_by a.datum + free_count arcs
free_more a arcs = sum_by-append (λ (x : Arc). cond (is_free x) 1 0) (a ∷ []) arcs ∙ ap (λ (n : ℕ). n + free_count arcs) (free_push [] a ∙ (omega arith))

stands : (free left more : ℕ) (datum : Bool) → 1 ≤ left → (free + free_by datum) + more ≤ MOST_FREE_ARCS → 1 ≤ (free + free_by datum) + more → (left ≤ 1 → more ≡ 0) → may_stand free left datum ≡ true
stands free left more true some few has last = by_left (nat_lt 1 left) refl
  where
    by_left : (t : Bool) → nat_lt 1 left ≡ t → (t || nat_lt 0 free) ≡ true
    by_left true is = refl
    by_left false is =
        let short : left ≤ 1 = grind (arith, nat_tests) in
        let none = last short in
        let some_free : 0 < free = omega (arith, none, has) in
        grind (arith, nat_tests, some_free)
stands free left more false some few has last = let room : free < MOST_FREE_ARCS = omega (arith, few) in grind (arith, nat_tests, room)

abbrev pub HasSatOf : Version → Arc → Type 0
HasSatOf version a = a.sat ≤ most_sat version

pub arcs_accepted : {S : Type 0} (rules : Rules S (Unit {0})) (version : Version) (l2 l5 : ℕ) (before : ℕ → List Arc → S) (done arcs : List Arc) (rest : List (List ℕ))
    → ArcsAreTaken rules version (used_signals l2 l5) before → All IsArcInRange arcs → All (HasSatOf version) arcs → All (HasUsedShifts (used_signals l2 l5)) arcs → All IsWholeArc arcs
    → free_count done + free_count arcs ≤ MOST_FREE_ARCS → 1 ≤ free_count done + free_count arcs
    → AreAccepted rules (before 0 (done ++ arcs)) rest → AreAccepted rules (before (length arcs) done) (arc_lines (used_signals l2 l5) arcs ++ rest)
arcs_accepted rules version l2 l5 before done [] rest taken ranges sats used whole few some behind = subst (λ (l : List Arc). AreAccepted rules (before 0 l) rest) (append-nil done) behind
arcs_accepted rules version l2 l5 before done (a ∷ arcs) rest taken ranges sats used whole few some behind =
    let signals = used_signals l2 l5 in
    let is_in_range = All-head IsArcInRange a arcs ranges in
    let sat = All-head (HasSatOf version) a arcs sats in
    let off = All-head (HasUsedShifts signals) a arcs used in
    let wide = All-head IsWholeArc a arcs whole in
    let more = free_more a arcs in
    let pushed = free_push done a in
    let left : ℕ = suc (length arcs) in
    let fewer : suc (length arcs) - 1 ≡ length arcs = omega arith in
    let may : may_stand (free_count done) left a.datum ≡ true =
    stands (free_count done) left (free_count arcs) a.datum (omega arith) (omega (arith, few, more)) (omega (arith, some, more)) (λ short. none_free arcs (omega (arith, short))) in
    let reads = arc_spells version l2 l5 (free_count done) left a is_in_range sat off wide may in
    let with_this = subst (λ (l : List Arc). AreAccepted rules (before 0 l) rest) (sym (append_assoc done (a ∷ []) arcs)) behind in
    let later = arcs_accepted rules version l2 l5 before (done ++ a ∷ []) arcs rest taken (All-tail IsArcInRange a arcs ranges) (All-tail (HasSatOf version) a arcs sats)
    (All-tail (HasUsedShifts signals) a arcs used) (All-tail IsWholeArc a arcs whole) (omega (arith, pushed, more, few)) (omega (arith, pushed, more, some)) with_this in
    let next = subst (λ (n : ℕ). AreAccepted rules (before n (done ++ a ∷ [])) (arc_lines signals arcs ++ rest)) (sym fewer) later in
    line_accepted rules (before left done) (arc_in version signals (free_count done) left) (λ (x : Arc). before (left - 1) (done ++ x ∷ [])) a (arc_line signals a) (arc_lines signals arcs ++ rest)
    (taken.takes left done (omega arith)) (arc_length signals a is_in_range (bands_good l2 l5).few) reads next
  where
    none_free : (xs : List Arc) → length xs ≤ 0 → free_count xs ≡ 0
    none_free [] h = refl
    none_free (x ∷ xs) h = absurd (omega arith)

-- the number of arcs, and the arcs
pub counted_arcs_accepted : {S : Type 0} (rules : Rules S (Unit {0})) (version : Version) (l2 l5 : ℕ) (s : S) (before : ℕ → List Arc → S) (arcs : List Arc) (rest : List (List ℕ))
    → TakesLine rules s (count_in (codes "arcs") 2 MOST_ARCS) (λ n. before n []) → ArcsAreTaken rules version (used_signals l2 l5) before → AreArcs arcs → All (HasSatOf version) arcs
    → All (HasUsedShifts (used_signals l2 l5)) arcs → All IsWholeArc arcs → AreAccepted rules (before 0 arcs) rest → AreAccepted rules s (counted_arcs (used_signals l2 l5) arcs ++ rest)
counted_arcs_accepted rules version l2 l5 s before arcs rest takes taken are sats used whole behind =
    let signals = used_signals l2 l5 in
    let arc_count = length arcs in
    let few : arc_count < 2 ^ 126 = omega (arith, are.few) in
    let short = line_length (codes "arcs") (pos arc_count ∷ []) (lit≤ tt) (lit≤ tt) (few, tt) in
    let reads = count_spells (codes "arcs") 2 MOST_ARCS arc_count are.some are.few (omega arith) in
    let later = arcs_accepted rules version l2 l5 before [] arcs rest taken are.ranges sats used whole (omega (arith, are.few_free)) (omega (arith, are.some_free)) behind in
    line_accepted rules s (count_in (codes "arcs") 2 MOST_ARCS) (λ (arc_count : ℕ). before arc_count []) arc_count (count_line (codes "arcs") arc_count) (arc_lines signals arcs ++ rest) takes short reads later
