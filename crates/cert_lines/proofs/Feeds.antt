-- No line has a line feed.
use Rattle.std.proofs.Common.{◌≡◌, ◌^◌, ◌<◌, ◌≤◌, ℕ, ℤ, pos, Bool, true, false, ◌==◌, not, List, [], ◌∷◌, ◌++◌, length, take, get_or, codes, All, refl, subst, arith}
use Rattle.std.proofs.lemmas.Bool.Decides.{nat_tests}
use Rattle.std.proofs.lemmas.List.Elements.{All-head, All-tail}
use Rattle.obs_rows.specs.declared.arcs.Arc.{Arc}
use Rattle.obs_rows.specs.declared.rows.Row.{Row}
use Rattle.obs_rows.specs.declared.pair_rows.PairRows.{PairRows}
use Rattle.obs_rows.specs.Ranges.{IsBelow, IsPoint}
use Rattle.obs_rows.specs.Arcs.{IsArcInRange, IsOfPair, AreArcs}
use Rattle.cert_words.specs.Spelling.{behind_blanks}
use Rattle.cert_words.proofs.NumberLaws.{AreSmall}
use Rattle.cert_words.proofs.TextLaws.{has_no_feed, AreLines, feed-append, numbers_feed}
use Rattle.cert_lines.specs.Lines.{vector_line, arc_line, kind_text, row_numbers, row_lines, arc_lines, counted_arcs, count_line, pair_line, values_line, weak_line}
use Rattle.cert_lines.specs.Places.{select}
use Rattle.obs_rows.specs.CountedSignals.{phase_bands}
use Rattle.obs_rows.specs.declared.limits.TheConstants.{MOST_ARCS}
use Rattle.cert_lines.proofs.Sizes.{row_small, shifts_small, entries_small, point_small, values_small, pair_small, weak_small}

pub worded : (word : List ℕ) (zs : List ℤ) → has_no_feed word ≡ true → AreSmall zs → has_no_feed (word ++ behind_blanks zs) ≡ true
worded word zs h small = feed-append word (behind_blanks zs) h (numbers_feed zs small)

is_feed : (x : ℕ) → (x == 10) ≡ true → x ≡ 10
is_feed x e = grind (arith, nat_tests)

-- a line feed isn't among these, so it isn't this one
pub among_feed : (P : ℕ → Type 0) (x : ℕ) → (P 10 → ⊥) → P x → not (x == 10) ≡ true
among_feed P x none is = by_test (x == 10) refl
  where
    by_test : (t : Bool) → (x == 10) ≡ t → not t ≡ true
    by_test true e = absurd (none (subst P (is_feed x e) is))
    by_test false e = refl

pub count_feed : (word : List ℕ) (n : ℕ) → has_no_feed word ≡ true → n < 2 ^ 126 → has_no_feed (count_line word n) ≡ true
count_feed word n h small = worded word (pos n ∷ []) h (small, tt)

pub point_feed : (word : List ℕ) (p : List ℤ) → has_no_feed word ≡ true → IsPoint p → has_no_feed (vector_line word p) ≡ true
point_feed word p h is = worded word p h (point_small p is)

pub entries_feed : (word : List ℕ) (n : ℕ) (z : List ℤ) → has_no_feed word ≡ true → ((i : ℕ) → IsBelow (2 ^ 30) (get_or z i (pos 0))) → has_no_feed (vector_line word (take n z)) ≡ true
entries_feed word n z h small = worded word (take n z) h (entries_small n z small)

-- ---- arcs and rows

pub arc_feed : (ss : List ℕ) (a : Arc) → IsArcInRange a → has_no_feed (arc_line ss a) ≡ true
arc_feed ss a is =
    let own = select (phase_bands ss) a.shift in
    let shifts : AreSmall own = shifts_small (phase_bands ss) a is in
    let sat : a.sat < 2 ^ 126 = omega (arith, is.sat_to) in
    let last : a.last < 2 ^ 126 = omega (arith, is.last_in) in
    let first : a.first < 2 ^ 126 = omega (arith, is.last_in, is.order) in
    feed-append (codes "arc") (behind_blanks (pos a.sat ∷ pos a.first ∷ pos a.last ∷ []) ++ (kind_text a.datum ++ behind_blanks own)) refl
    (feed-append (behind_blanks (pos a.sat ∷ pos a.first ∷ pos a.last ∷ [])) (kind_text a.datum ++ behind_blanks own)
    (numbers_feed (pos a.sat ∷ pos a.first ∷ pos a.last ∷ []) (sat, (first, (last, tt))))
    (feed-append (kind_text a.datum) (behind_blanks own) (kind a.datum) (numbers_feed own shifts)))
  where
    kind : (d : Bool) → has_no_feed (kind_text d) ≡ true
    kind true = refl
    kind false = refl

pub arcs_feed : (ss : List ℕ) (arcs : List Arc) → All IsArcInRange arcs → AreLines (arc_lines ss arcs)
arcs_feed ss [] all = tt
arcs_feed ss (a ∷ arcs) all = (arc_feed ss a (All-head IsArcInRange a arcs all), arcs_feed ss arcs (All-tail IsArcInRange a arcs all))

pub counted_arcs_feed : (ss : List ℕ) (arcs : List Arc) → AreArcs arcs → AreLines (counted_arcs ss arcs)
counted_arcs_feed ss arcs are = (count_feed (codes "arcs") (length arcs) refl (omega (arith, are.few)), arcs_feed ss arcs are.ranges)

pub rows_feed : (ss : List ℕ) (arcs : List Arc) (number : ℕ) (rows : List Row) → length arcs ≤ MOST_ARCS → All (IsOfPair arcs number) rows → AreLines (row_lines ss rows)
rows_feed ss arcs number [] few all = tt
rows_feed ss arcs number (r ∷ rows) few all = (
  worded (codes "row") (row_numbers ss r) refl (row_small ss arcs number r few (All-head (IsOfPair arcs number) r rows all)),
  rows_feed ss arcs number rows few
      (All-tail (IsOfPair arcs number) r rows all),
)

pub pair_line_feed : (p : PairRows) → has_no_feed (pair_line p.number p.tag.0 p.group (length p.rows)) ≡ true
pair_line_feed p = worded (codes "pair") (pos p.number ∷ pos p.tag.0 ∷ p.group ∷ pos (length p.rows) ∷ []) refl (pair_small p)

-- ---- a tail

pub values_feed : (h : ℕ) (p1 p2 top : ℤ) → h ≤ 127 → IsBelow (2 ^ 126) p1 → IsBelow (2 ^ 126) p2 → IsBelow (2 ^ 126) top → has_no_feed (values_line h p1 p2 top) ≡ true
values_feed h p1 p2 top to b1 b2 b3 = worded (codes "values") (pos h ∷ p1 ∷ p2 ∷ top ∷ []) refl (values_small h p1 p2 top to b1 b2 b3)

pub weak_feed : (words : List ℕ) (column : ℕ) (pivot : ℤ) → has_no_feed words ≡ true → column < 2 ^ 126 → IsBelow (2 ^ 52) pivot → has_no_feed (weak_line words column pivot) ≡ true
weak_feed words column pivot h few below = worded words (pos column ∷ pivot ∷ []) h (weak_small column pivot few below)
