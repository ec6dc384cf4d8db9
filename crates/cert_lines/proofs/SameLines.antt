-- Lines that are the same say the same.
use Rattle.std.proofs.Common.{◌≡◌, ◌^◌, ◌<◌, ◌≤◌, ℕ, ℤ, pos, Bool, true, false, List, [], ◌∷◌, ◌++◌, length, get_or, codes, All, refl, ap, subst, arith, ◌+◌, Ok, sym, ◌∙◌}
use Rattle.std.proofs.lemmas.List.Elements.{All-head, All-tail}
use Rattle.std.proofs.lemmas.List.{length-map}
use Rattle.obs_rows.specs.declared.arcs.Arc.{Arc}
use Rattle.obs_rows.specs.declared.rows.Row.{Row}
use Rattle.obs_rows.specs.declared.bands.Signals.{Signals}
use Rattle.obs_rows.specs.declared.pair_rows.PairRows.{PairRows}
use Rattle.obs_rows.specs.Arcs.{IsArcInRange, IsOfPair, AreArcs}
use Rattle.cert_words.specs.Spelling.{behind_blanks}
use Rattle.cert_words.proofs.NumberLaws.{AreSmall, placed, line_written, values_placed, values}
use Rattle.cert_lines.specs.Lines.{signals_line, arc_line, row_numbers, row_lines, arc_lines, counted_arcs, count_line, pair_line, row_line, system_line}
use Rattle.cert_lines.specs.declared.version.Version.{Version}
use Rattle.cert_lines.specs.declared.version.Version.TheVariants.{One, Two}
use Rattle.cert_lines.specs.Places.{select, spread}
use Rattle.cert_words.specs.Numbers.{numbers_behind}
use Rattle.cert_lines.specs.Forms.{may_stand, arc_in, pair_head, pair_in, behind_y, signals_in, Letters}
use Rattle.obs_rows.specs.declared.units.TheConstants.{SIGNALS}
use Rattle.obs_rows.specs.Signals.{used_signals}
use Rattle.obs_rows.specs.Unused.{HasUsedShifts, IsZeroOff}
use Rattle.obs_rows.specs.declared.limits.TheConstants.{MOST_ARCS}
use Rattle.cert_lines.specs.Lengths.{IsWholeArc, IsWholeRow}
use Rattle.cert_lines.proofs.Sizes.{row_small}
use Rattle.cert_lines.proofs.Spreading.{signals_good}
use Rattle.cert_lines.proofs.LineSpells.{pair_spells, row_count, arc_spells}
use Rattle.cert_lines.specs.declared.pairs.PairHead.{PairHead}
use Rattle.cert_lines.proofs.LetterLaws.{letters_of_signals, letters_spell}
use Rattle.cert_lines.proofs.SameStructs.{row_same, signals_same}

pub cons_same : {X : Type 0} → (x y : X) (xs ys : List X) → x ∷ xs ≡ y ∷ ys → (x ≡ y) × (xs ≡ ys)
cons_same x y xs ys e = (cc, cc)

pub split_same : {X : Type 0} → (xs ys zs ws : List X) → length xs ≡ length zs → xs ++ ys ≡ zs ++ ws → (xs ≡ zs) × (ys ≡ ws)
split_same [] ys [] ws l e = (refl, e)
split_same [] ys (z ∷ zs) ws l e = absurd (omega (arith, l))
split_same (x ∷ xs) ys [] ws l e = absurd (omega (arith, l))
split_same (x ∷ xs) ys (z ∷ zs) ws l e =
    let parts = cons_same x z (xs ++ ys) (zs ++ ws) e in
    let rest = split_same xs ys zs ws (omega (arith, l)) parts.1 in
    ((λ i. parts.0 i ∷ rest.0 i), rest.1)

-- ---- numbers after a word

pub numbers_same : (word : List ℕ) (n : ℕ) (xs ys : List ℤ) → length xs ≡ n → length ys ≡ n → AreSmall xs → AreSmall ys → word ++ behind_blanks xs ≡ word ++ behind_blanks ys → xs ≡ ys
numbers_same word n xs ys lx ly sx sy e =
    let left_read : numbers_behind word n (word ++ behind_blanks xs) ≡ Ok (placed (1 + length word) xs) = subst
    (λ (k : ℕ). numbers_behind word k (word ++ behind_blanks xs) ≡ Ok (placed (1 + length word) xs)) lx (line_written word xs sx) in
    let right_read : numbers_behind word n (word ++ behind_blanks ys) ≡ Ok (placed (1 + length word) ys) = subst
    (λ (k : ℕ). numbers_behind word k (word ++ behind_blanks ys) ≡ Ok (placed (1 + length word) ys)) ly (line_written word ys sy) in
    let both : Ok (placed (1 + length word) xs) ≡ Ok (placed (1 + length word) ys) = sym left_read ∙ ap (λ (l : List ℕ). numbers_behind word n l) e ∙ right_read in
    let same : placed (1 + length word) xs ≡ placed (1 + length word) ys = cc in
    sym (values_placed (1 + length word) xs sx) ∙ ap values same ∙ values_placed (1 + length word) ys sy

pub count_same : (word : List ℕ) (n m : ℕ) → n < 2 ^ 126 → m < 2 ^ 126 → count_line word n ≡ count_line word m → n ≡ m
count_same word n m sn sm e =
    let lists : pos n ∷ [] ≡ pos m ∷ [] = numbers_same word 1 (pos n ∷ []) (pos m ∷ []) refl refl (sn, tt) (sm, tt) e in
    let numbers : pos n ≡ pos m = (cons_same (pos n) (pos m) [] [] lists).0 in
    cc

-- ---- the system and the signals

pub system_line_same : (s t : ℕ) → system_line s ≡ system_line t → s ≡ t
system_line_same s t e =
    let letter = split_same (codes "system") (32 ∷ s ∷ []) (codes "system") (32 ∷ t ∷ []) refl e in
    let behind = cons_same 32 32 (s ∷ []) (t ∷ []) letter.1 in
    (cons_same s t [] [] behind.1).0

pub signals_line_same : (version : Version) (a b : Signals) → (version ≡ One → a.l5 ≡ 0) → (version ≡ One → b.l5 ≡ 0)
    → signals_line version a.l1 a.l2 a.l5 ≡ signals_line version b.l1 b.l2 b.l5 → a ≡ b
signals_line_same version a b old_a old_b e =
    let both : Ok (letters_of_signals a) ≡ Ok (letters_of_signals b) = sym (letters_spell version a old_a) ∙ ap (signals_in version) e ∙ letters_spell version b old_b in
    let letters : letters_of_signals a ≡ letters_of_signals b = cc in
    signals_same a b (ap (λ (l : Letters). l.l1) letters) (ap (λ (l : Letters). l.l2) letters) (ap (λ (l : Letters). l.l5) letters)

-- ---- rows

abbrev pub HasUsedY : ℕ → ℕ → Row → Type 0
HasUsedY l2 l5 r = IsZeroOff (used_signals l2 l5) r.y

pub row_line_same : (l2 l5 : ℕ) (arcs arcs' : List Arc) (k k' : ℕ) (r s : Row) → length arcs ≤ MOST_ARCS → length arcs' ≤ MOST_ARCS → IsOfPair arcs k r → IsOfPair arcs' k' s → IsWholeRow r
    → IsWholeRow s → HasUsedY l2 l5 r → HasUsedY l2 l5 s
    → row_line (used_signals l2 l5) r ≡ row_line (used_signals l2 l5) s → r ≡ s
row_line_same l2 l5 arcs arcs' k k' r s few few' of_r of_s wr ws ur us e =
    let signals = used_signals l2 l5 in
    let good = signals_good l2 l5 in
    let left_values = select signals r.y in
    let right_values = select signals s.y in
    let all = numbers_same (codes "row") (behind_y signals + 7) (row_numbers signals r) (row_numbers signals s) (row_count signals r wr) (row_count signals s ws) (row_small signals arcs k r few of_r)
    (row_small signals arcs' k' s few' of_s) e in
    let first = cons_same (pos r.arc) (pos s.arc) (left_values ++ (r.ry ∷ (r.u ++ r.ru))) (right_values ++ (s.ry ∷ (s.u ++ s.ru))) all in
    let arc_z : pos r.arc ≡ pos s.arc = first.0 in
    let arc : r.arc ≡ s.arc = cc in
    let many : length left_values ≡ length right_values = length-map signals (λ p. get_or r.y p (pos 0)) ∙ sym (length-map signals (λ p. get_or s.y p (pos 0))) in
    let selected = split_same left_values (r.ry ∷ (r.u ++ r.ru)) right_values (s.ry ∷ (s.u ++ s.ru)) many first.1 in
    let same_signals : r.y ≡ s.y = sym (good.whole r.y wr.y ur) ∙ ap (λ (vs : List ℤ). spread SIGNALS signals vs) selected.0 ∙ good.whole s.y ws.y us in
    let rest = cons_same r.ry s.ry (r.u ++ r.ru) (s.u ++ s.ru) selected.1 in
    let split_same_way = split_same r.u r.ru s.u s.ru (wr.u ∙ sym ws.u) rest.1 in
    row_same r s arc same_signals rest.0 split_same_way.0 split_same_way.1

pub rows_same : (l2 l5 : ℕ) (arcs arcs' : List Arc) (k k' : ℕ) (rows rows' : List Row) (rest rest' : List (List ℕ)) → length arcs ≤ MOST_ARCS → length arcs' ≤ MOST_ARCS → All (IsOfPair arcs k) rows
    → All (IsOfPair arcs' k') rows' → All IsWholeRow rows → All IsWholeRow rows'
    → All (HasUsedY l2 l5) rows → All (HasUsedY l2 l5) rows' → length rows ≡ length rows' → row_lines (used_signals l2 l5) rows ++ rest ≡ row_lines (used_signals l2 l5) rows' ++ rest'
    → (rows ≡ rows') × (rest ≡ rest')
rows_same l2 l5 arcs arcs' k k' [] [] rest rest' few few' o o' w w' u u' l e = (refl, e)
rows_same l2 l5 arcs arcs' k k' [] (s ∷ rows') rest rest' few few' o o' w w' u u' l e = absurd (omega (arith, l))
rows_same l2 l5 arcs arcs' k k' (r ∷ rows) [] rest rest' few few' o o' w w' u u' l e = absurd (omega (arith, l))
rows_same l2 l5 arcs arcs' k k' (r ∷ rows) (s ∷ rows') rest rest' few few' o o' w w' u u' l e =
    let signals = used_signals l2 l5 in
    let lines = cons_same (row_line signals r) (row_line signals s) (row_lines signals rows ++ rest) (row_lines signals rows' ++ rest') e in
    let one = row_line_same l2 l5 arcs arcs' k k' r s few few' (All-head (IsOfPair arcs k) r rows o) (All-head (IsOfPair arcs' k') s rows' o') (All-head IsWholeRow r rows w)
    (All-head IsWholeRow s rows' w')
    (All-head (HasUsedY l2 l5) r rows u) (All-head (HasUsedY l2 l5) s rows' u') lines.0 in
    let more = rows_same l2 l5 arcs arcs' k k' rows rows' rest rest' few few' (All-tail (IsOfPair arcs k) r rows o) (All-tail (IsOfPair arcs' k') s rows' o') (All-tail IsWholeRow r rows w)
    (All-tail IsWholeRow s rows' w')
    (All-tail (HasUsedY l2 l5) r rows u) (All-tail (HasUsedY l2 l5) s rows' u') (omega (arith, l)) lines.1 in
    ((λ i. one i ∷ more.0 i), more.1)

-- ---- the head of a pair

pub pair_line_same : (p q : PairRows) → pair_line p.number p.tag.0 p.group (length p.rows) ≡ pair_line q.number q.tag.0 q.group (length q.rows)
    → (p.number ≡ q.number) × (p.tag.0 ≡ q.tag.0) × (p.group ≡ q.group) × (length p.rows ≡ length q.rows)
pair_line_same p q e =
    let left_read = pair_spells Two 0 p.number p.tag.0 (length p.rows) p.group (omega arith) p.number_in p.tag_in p.group_in p.some_rows p.few_rows in
    let right_read = pair_spells Two 0 q.number q.tag.0 (length q.rows) q.group (omega arith) q.number_in q.tag_in q.group_in q.some_rows q.few_rows in
    let heads : Ok (pair_head p.number p.tag.0 p.group (length p.rows)) ≡ Ok (pair_head q.number q.tag.0 q.group (length q.rows)) = sym left_read ∙ ap (λ (l : List ℕ). pair_in Two 0 l) e ∙ right_read in
    let head : pair_head p.number p.tag.0 p.group (length p.rows) ≡ pair_head q.number q.tag.0 q.group (length q.rows) = cc in
    (ap (λ (x : PairHead). x.number) head, ap (λ (x : PairHead). x.tag.0) head, ap (λ (x : PairHead). x.group) head, ap (λ (x : PairHead). x.count) head)

-- ---- arcs

pub arcs_same : (l2 l5 : ℕ) (arcs arcs' : List Arc) (rest rest' : List (List ℕ)) → All IsArcInRange arcs → All IsArcInRange arcs' → All (HasUsedShifts (used_signals l2 l5)) arcs
    → All (HasUsedShifts (used_signals l2 l5)) arcs' → All IsWholeArc arcs → All IsWholeArc arcs'
    → length arcs ≡ length arcs' → arc_lines (used_signals l2 l5) arcs ++ rest ≡ arc_lines (used_signals l2 l5) arcs' ++ rest' → (arcs ≡ arcs') × (rest ≡ rest')
arcs_same l2 l5 [] [] rest rest' h h' u u' w w' l e = (refl, e)
arcs_same l2 l5 [] (b ∷ arcs') rest rest' h h' u u' w w' l e = absurd (omega (arith, l))
arcs_same l2 l5 (a ∷ arcs) [] rest rest' h h' u u' w w' l e = absurd (omega (arith, l))
arcs_same l2 l5 (a ∷ arcs) (b ∷ arcs') rest rest' h h' u u' w w' l e =
    let signals = used_signals l2 l5 in
    let in_a = All-head IsArcInRange a arcs h in
    let in_b = All-head IsArcInRange b arcs' h' in
    let lines = cons_same (arc_line signals a) (arc_line signals b) (arc_lines signals arcs ++ rest) (arc_lines signals arcs' ++ rest') e in
    let left_read = arc_spells Two l2 l5 1 2 a in_a in_a.sat_to (All-head (HasUsedShifts signals) a arcs u) (All-head IsWholeArc a arcs w) (stands a.datum) in
    let right_read = arc_spells Two l2 l5 1 2 b in_b in_b.sat_to (All-head (HasUsedShifts signals) b arcs' u') (All-head IsWholeArc b arcs' w') (stands b.datum) in
    let both : Ok a ≡ Ok b = sym left_read ∙ ap (λ (l : List ℕ). arc_in Two signals 1 2 l) lines.0 ∙ right_read in
    let one : a ≡ b = cc in
    let more = arcs_same l2 l5 arcs arcs' rest rest' (All-tail IsArcInRange a arcs h) (All-tail IsArcInRange b arcs' h') (All-tail (HasUsedShifts signals) a arcs u)
    (All-tail (HasUsedShifts signals) b arcs' u') (All-tail IsWholeArc a arcs w) (All-tail IsWholeArc b arcs' w')
    (omega (arith, l)) lines.1 in
    ((λ i. one i ∷ more.0 i), more.1)
  where
    stands : (d : Bool) → may_stand 1 2 d ≡ true
    stands true = refl
    stands false = refl

pub counted_arcs_same : (l2 l5 : ℕ) (arcs arcs' : List Arc) (rest rest' : List (List ℕ)) → AreArcs arcs → AreArcs arcs' → All (HasUsedShifts (used_signals l2 l5)) arcs
    → All (HasUsedShifts (used_signals l2 l5)) arcs' → All IsWholeArc arcs → All IsWholeArc arcs'
    → counted_arcs (used_signals l2 l5) arcs ++ rest ≡ counted_arcs (used_signals l2 l5) arcs' ++ rest' → (arcs ≡ arcs') × (rest ≡ rest')
counted_arcs_same l2 l5 arcs arcs' rest rest' h h' u u' w w' e =
    let signals = used_signals l2 l5 in
    let lines = cons_same (count_line (codes "arcs") (length arcs)) (count_line (codes "arcs") (length arcs')) (arc_lines signals arcs ++ rest) (arc_lines signals arcs' ++ rest') e in
    let count = count_same (codes "arcs") (length arcs) (length arcs') (omega (arith, h.few)) (omega (arith, h'.few)) lines.0 in
    arcs_same l2 l5 arcs arcs' rest rest' h.ranges h'.ranges u u' w w' count lines.1
