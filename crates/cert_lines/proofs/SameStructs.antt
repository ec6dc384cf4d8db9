-- Two rows, two pairs and two lists of letters with the same ordinary fields are the same.
use mathlib.Core.HLevel.{is_prop→PathP}
use Rattle.std.proofs.Common.{◌≡◌, ◌^◌, ◌<◌, ◌≤◌, ℕ, ℤ, Bool, ◌==◌, ◌||◌, ◌&&◌, not, List, length, All, IsTrue, unsigned_abs, AllPairs}
use Rattle.std.proofs.Props.{props}
use Rattle.std.proofs.Math.Bridge.{le_prop}
use Rattle.obs_rows.specs.declared.arcs.Arc.{Arc}
use Rattle.obs_rows.specs.declared.rows.Row.{Row}
use Rattle.obs_rows.specs.declared.bands.Signals.{Signals}
use Rattle.obs_rows.specs.declared.bands.TheConstants.{L1_LETTERS, L2_LETTERS, L5_LETTERS}
use Rattle.obs_rows.specs.declared.pair_rows.PairRows.{PairRows}
use Rattle.obs_rows.specs.Letters.{is_letter}
use Rattle.obs_rows.specs.Ranges.{IsWithin, IsRadius, IsSystem, IsPoint, IsScale}
use Rattle.obs_rows.specs.Unused.{HasUsedShifts, HasUsedRows}
use Rattle.obs_rows.specs.Arcs.{AreArcs}
use Rattle.obs_rows.specs.Pairs.{ArePairs}
use Rattle.obs_rows.specs.declared.limits.TheConstants.{MOST_PAIRS, MOST_SATELLITES}

pub within_prop : (m : ℕ) (zs : List ℤ) → IsProp (All (IsWithin m) zs)
within_prop m zs = Prim.hlevel props

pub radius_prop : (z : ℤ) → IsProp (IsRadius z)
radius_prop z = Prim.hlevel props

pub radii_prop : (zs : List ℤ) → IsProp (All IsRadius zs)
radii_prop zs = Prim.hlevel props

pub true_prop : (t : Bool) → IsProp (IsTrue t)
true_prop t = Prim.hlevel props

pub system_prop : (n : ℕ) → IsProp (IsSystem n)
system_prop n = Prim.hlevel props

pub rows_prop : (ss : List ℕ) (pairs : List PairRows) → IsProp (All (HasUsedRows ss) pairs)
rows_prop ss pairs = Prim.hlevel props

pub shifts_prop : (ss : List ℕ) (arcs : List Arc) → IsProp (All (HasUsedShifts ss) arcs)
shifts_prop ss arcs = Prim.hlevel props

pub rise_prop : (rows : List Row) → IsProp (AllPairs (λ r s. r.arc < s.arc) rows)
rise_prop rows = Prim.hlevel props

pub scale_prop : (n : ℕ) → IsProp (IsScale n)
scale_prop n = Prim.hlevel props

pub point_prop : (p : List ℤ) → IsProp (IsPoint p)
point_prop p = Prim.hlevel props

pub arcs_prop : (arcs : List Arc) → IsProp (AreArcs arcs)
arcs_prop arcs = Prim.hlevel props

pub pairs_prop : (arcs : List Arc) (pairs : List PairRows) → IsProp (ArePairs arcs pairs)
pairs_prop arcs pairs = Prim.hlevel props

pub row_same : (r s : Row) → r.arc ≡ s.arc → r.y ≡ s.y → r.ry ≡ s.ry → r.u ≡ s.u → r.ru ≡ s.ru → r ≡ s
row_same r s arc y ry u ru = λ i. record {
  arc = arc i;
  y = y i;
  ry = ry i;
  u = u i;
  ru = ru i;
  y_in = is_prop→PathP (λ j. All (IsWithin (2 ^ 34)) (y j)) (λ j. within_prop (2 ^ 34) (y j)) r.y_in s.y_in i;
  ry_in = is_prop→PathP (λ j. IsRadius (ry j)) (λ j. radius_prop (ry j)) r.ry_in s.ry_in i;
  u_in = is_prop→PathP (λ j. All (IsWithin (2 ^ 24)) (u j)) (λ j. within_prop (2 ^ 24) (u j)) r.u_in s.u_in i;
  ru_in = is_prop→PathP (λ j. All IsRadius (ru j)) (λ j. radii_prop (ru j)) r.ru_in s.ru_in i;
}

pub signals_same : (a b : Signals) → a.l1 ≡ b.l1 → a.l2 ≡ b.l2 → a.l5 ≡ b.l5 → a ≡ b
signals_same a b l1 l2 l5 = λ i. record {
  l1 = l1 i;
  l2 = l2 i;
  l5 = l5 i;
  on_l1 = is_prop→PathP (λ j. IsTrue (is_letter L1_LETTERS (l1 j))) (λ j. true_prop (is_letter L1_LETTERS (l1 j))) a.on_l1 b.on_l1 i;
  on_l2 = is_prop→PathP (λ j. IsTrue ((l2 j == 0) || is_letter L2_LETTERS (l2 j))) (λ j. true_prop ((l2 j == 0) || is_letter L2_LETTERS (l2 j))) a.on_l2 b.on_l2 i;
  on_l5 = is_prop→PathP (λ j. IsTrue ((l5 j == 0) || is_letter L5_LETTERS (l5 j))) (λ j. true_prop ((l5 j == 0) || is_letter L5_LETTERS (l5 j))) a.on_l5 b.on_l5 i;
  two_bands = is_prop→PathP (λ j. IsTrue (not ((l2 j == 0) && (l5 j == 0)))) (λ j. true_prop (not ((l2 j == 0) && (l5 j == 0)))) a.two_bands b.two_bands i;
}

pub pair_same : (p q : PairRows) → p.number ≡ q.number → p.tag.0 ≡ q.tag.0 → p.group ≡ q.group → p.rows ≡ q.rows → p ≡ q
pair_same p q number tag group rows = λ i. record {
  number = number i;
  tag = record { 0 = tag i };
  group = group i;
  rows = rows i;
  number_in = is_prop→PathP (λ j. number j < MOST_PAIRS) (λ j. le_prop) p.number_in q.number_in i;
  tag_in = is_prop→PathP (λ j. tag j < 2 ^ 63) (λ j. le_prop) p.tag_in q.tag_in i;
  group_in = is_prop→PathP (λ j. unsigned_abs (group j) < 2 ^ 55) (λ j. le_prop) p.group_in q.group_in i;
  some_rows = is_prop→PathP (λ j. 1 ≤ length (rows j)) (λ j. le_prop) p.some_rows q.some_rows i;
  few_rows = is_prop→PathP (λ j. length (rows j) ≤ MOST_SATELLITES) (λ j. le_prop) p.few_rows q.few_rows i;
  arcs_rise = is_prop→PathP (λ j. AllPairs (λ r s. r.arc < s.arc) (rows j)) (λ j. rise_prop (rows j)) p.arcs_rise q.arcs_rise i;
}
