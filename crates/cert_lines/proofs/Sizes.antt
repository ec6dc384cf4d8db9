-- Numbers in their ranges are below 2^126 in size.
use Rattle.std.proofs.Common.{◌^◌, ◌<◌, ◌≤◌, ℕ, zero, suc, ℤ, pos, negsuc, List, [], ◌∷◌, ◌++◌, length, take, get_or, All, arith}
use Rattle.std.proofs.lemmas.Int.{ints}
use Rattle.std.proofs.lemmas.List.Elements.{All-head, All-tail}
use Rattle.decimal_text.specs.Whole.{size_of}
use Rattle.decimal_text.proofs.Numbers.{size_is}
use Rattle.obs_rows.specs.declared.arcs.Arc.{Arc}
use Rattle.obs_rows.specs.declared.rows.Row.{Row}
use Rattle.obs_rows.specs.declared.pair_rows.PairRows.{PairRows}
use Rattle.obs_rows.specs.Ranges.{IsWithin, IsBelow, IsRadius, IsPoint}
use Rattle.obs_rows.specs.Arcs.{IsArcInRange, IsOfPair}
use Rattle.obs_rows.specs.declared.limits.TheConstants.{MOST_COORDINATE, MOST_ARCS}
use Rattle.cert_words.proofs.NumberLaws.{AreSmall}
use Rattle.cert_lines.specs.Lines.{row_numbers}
use Rattle.cert_lines.proofs.Values.{small_append}
use Rattle.cert_lines.specs.Places.{select}
use Rattle.cert_words.specs.declared.ranges.Range.{Range}
use Rattle.cert_words.specs.Numbers.{IsIn}
use Rattle.cert_words.proofs.RangeLaws.{AreIn}

pub below_small : (m : ℕ) (z : ℤ) → m ≤ 2 ^ 126 → IsBelow m z → size_of z < 2 ^ 126
below_small m z few h = rw (size_is z) (omega (arith, few, h))

pub within_small : (m : ℕ) (z : ℤ) → m < 2 ^ 126 → IsWithin m z → size_of z < 2 ^ 126
within_small m z few h = rw (size_is z) (omega (arith, few, h))

pub radius_small : (z : ℤ) → IsRadius z → size_of z < 2 ^ 126
radius_small (pos n) h = let at_most = h.1 in omega (arith, ints)
radius_small (negsuc n) h = let from = h.0 in absurd (omega (arith, ints))

pub each_small : (P : ℤ → Type 0) (zs : List ℤ) → ((z : ℤ) → P z → size_of z < 2 ^ 126) → All P zs → AreSmall zs
each_small P [] small all = tt
each_small P (z ∷ zs) small all = (small z (All-head P z zs all), each_small P zs small (All-tail P z zs all))

-- the entries of a vector before some place
from_places : (n : ℕ) (z : List ℤ) → ((i : ℕ) → size_of (get_or z i (pos 0)) < 2 ^ 126) → AreSmall (take n z)
from_places zero z h = tt
from_places (suc n) [] h = tt
from_places (suc n) (x ∷ xs) h = (h 0, from_places n xs (λ i. h (suc i)))

lit30 : 2 ^ 30 ≤ 2 ^ 126
lit30 = omega arith

pub entries_small : (n : ℕ) (z : List ℤ) → ((i : ℕ) → IsBelow (2 ^ 30) (get_or z i (pos 0))) → AreSmall (take n z)
entries_small n z small = from_places n z (λ i. below_small (2 ^ 30) (get_or z i (pos 0)) lit30 (small i))

-- ---- numbers at places

at_place : (P : ℤ → Type 0) (zs : List ℤ) (p : ℕ) → P (pos 0) → All P zs → P (get_or zs p (pos 0))
at_place P [] p none all = none
at_place P (z ∷ zs) zero none all = All-head P z zs all
at_place P (z ∷ zs) (suc p) none all = at_place P zs p none (All-tail P z zs all)

pub select_small : (P : ℤ → Type 0) (places : List ℕ) (zs : List ℤ) → P (pos 0) → ((z : ℤ) → P z → size_of z < 2 ^ 126) → All P zs → AreSmall (select places zs)
select_small P [] zs none small all = tt
select_small P (p ∷ ps) zs none small all = (small (get_or zs p (pos 0)) (at_place P zs p none all), select_small P ps zs none small all)

pub select_in : (P : ℤ → Type 0) (range : Range) (places : List ℕ) (zs : List ℤ) → P (pos 0) → ((z : ℤ) → P z → IsIn range z) → All P zs → AreIn range (select places zs)
select_in P range [] zs none inside all = tt
select_in P range (p ∷ ps) zs none inside all = (inside (get_or zs p (pos 0)) (at_place P zs p none all), select_in P range ps zs none inside all)

pub shifts_small : (bands : List ℕ) (a : Arc) → IsArcInRange a → AreSmall (select bands a.shift)
shifts_small bands a is = select_small (IsBelow (2 ^ 40)) bands a.shift (omega arith) (λ z h. below_small (2 ^ 40) z (omega arith) h) is.shifts_in

-- ---- the numbers of a line

pub row_small : (ss : List ℕ) (arcs : List Arc) (number : ℕ) (r : Row) → length arcs ≤ MOST_ARCS → IsOfPair arcs number r → AreSmall (row_numbers ss r)
row_small ss arcs number r few is =
    let signals_small = select_small (IsWithin (2 ^ 34)) ss r.y (omega arith) (λ z h. within_small (2 ^ 34) z (omega arith) h) r.y_in in
    let directions_small = each_small (IsWithin (2 ^ 24)) r.u (λ z h. within_small (2 ^ 24) z (omega arith) h) r.u_in in
    let radii_small = each_small IsRadius r.ru radius_small r.ru_in in
    let arc : r.arc < 2 ^ 126 = omega (arith, few, is.arc_in) in
    (arc, small_append (select ss r.y) (r.ry ∷ (r.u ++ r.ru)) signals_small (radius_small r.ry r.ry_in, small_append r.u r.ru directions_small radii_small))

pub point_small : (p : List ℤ) → IsPoint p → AreSmall p
point_small p is = each_small (IsWithin MOST_COORDINATE) p (λ z h. within_small MOST_COORDINATE z (omega arith) h) is

pub moves_small : (m : List ℤ) → All (IsBelow (2 ^ 46)) m → AreSmall m
moves_small m all = each_small (IsBelow (2 ^ 46)) m (λ z b. below_small (2 ^ 46) z (omega arith) b) all

pub pair_small : (p : PairRows) → AreSmall (pos p.number ∷ pos p.tag.0 ∷ p.group ∷ pos (length p.rows) ∷ [])
pair_small p = (omega (arith, p.number_in), (omega (arith, p.tag_in), (below_small (2 ^ 55) p.group (omega arith) p.group_in, (omega (arith, p.few_rows), tt))))

pub values_small : (h : ℕ) (p1 p2 top : ℤ) → h ≤ 127 → IsBelow (2 ^ 126) p1 → IsBelow (2 ^ 126) p2 → IsBelow (2 ^ 126) top → AreSmall (pos h ∷ p1 ∷ p2 ∷ top ∷ [])
values_small h p1 p2 top to b1 b2 b3 =
    let whole : 2 ^ 126 ≤ 2 ^ 126 = omega arith in
    (omega (arith, to), (below_small (2 ^ 126) p1 whole b1, (below_small (2 ^ 126) p2 whole b2, (below_small (2 ^ 126) top whole b3, tt))))

pub weak_small : (column : ℕ) (pivot : ℤ) → column < 2 ^ 126 → IsBelow (2 ^ 52) pivot → AreSmall (pos column ∷ pivot ∷ [])
weak_small column pivot few below = (few, (below_small (2 ^ 52) pivot (omega arith) below, tt))
