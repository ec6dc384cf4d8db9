-- The reach of a row from what a move gives of it.
use Rattle.std.proofs.Common.{◌≡◌, ℕ, ◌^◌, ◌<◌, [], ◌∷◌, List, length, get_or, slice_index_or, Option, None, ℤ, pos, ◌+ℤ◌, ◌-ℤ◌, ◌*ℤ◌, ◌≤ℤ◌, ◌<ℤ◌, arith, sym, ap, ap₂, ◌∙◌, refl, pow_pos}
use Rattle.std.proofs.lemmas.List.{get_or-map}
use Rattle.whole_math.specs.Rounding.{floor_div, ceil_div}
use Rattle.whole_math.proofs.Order.{lins}
use Rattle.whole_math.proofs.Ring.{◌⊖◌, ◌⊗◌}
use Rattle.whole_math.proofs.Inequalities.{same_by}
use Rattle.whole_math.proofs.Rounding.{floor_unique, ceil_le, ceil_lt}
use Rattle.obs_rows.specs.declared.arcs.Arc.{Arc}
use Rattle.obs_rows.specs.declared.rows.Row.{Row}
use Rattle.obs_rows.specs.Signals.{cycle}
use Rattle.obs_rows.specs.Integers.{integer_place, integer}
use Rattle.obs_rows.specs.Data.{number_at}
use Rattle.obs_rows.specs.Best.{move_exponent}
use Rattle.fix_decide.specs.declared.reaches.ResidualBox.{ResidualBox}
use Rattle.fix_decide.specs.declared.reaches.RowReach.{RowReach}
use Rattle.fix_decide.specs.RowReaches.{row_reach, reach_at, AreSeen}
use Rattle.fix_decide.specs.UpperSums.{scalar_product, centre, rad, reach_of}

-- ⌊(y m - p) / m⌋ = y - ⌈p / m⌉
floor_by_ceil : (y p : ℤ) (m : ℕ) → 0 < m → floor_div ((y *ℤ pos m) -ℤ p) m ≡ y -ℤ ceil_div p m
floor_by_ceil y p m h =
    let c : ℤ = ceil_div p m in
    let product_expands : (y -ℤ c) *ℤ pos m ≡ (y *ℤ pos m) -ℤ (c *ℤ pos m) = same_by (y ∷ c ∷ pos m ∷ []) (λ y c m. ((y ⊖ c) ⊗ m, y ⊗ m ⊖ c ⊗ m)) refl in
    sym (floor_unique ((y *ℤ pos m) -ℤ p) (y -ℤ c) m h
    (rw product_expands (low (y *ℤ pos m) (c *ℤ pos m) p (ceil_le p m h)))
    (rw product_expands (high (y *ℤ pos m) (c *ℤ pos m) p (pos m) (ceil_lt p m h))))
  where
    low : (a b p : ℤ) → p ≤ℤ b → (a -ℤ b) ≤ℤ (a -ℤ p)
    low a b p h = omega (arith, lins)

    high : (a b p m : ℤ) → b <ℤ (p +ℤ m) → (a -ℤ p) <ℤ ((a -ℤ b) +ℤ m)
    high a b p m h = omega (arith, lins)

pub centre_is : (arcs : List Arc) (ss : List ℕ) (z m : List ℤ) (s : ℕ) (r : Row) →
    (number_at r.y s -ℤ ceil_div (scalar_product r.u m) (2 ^ move_exponent)) -ℤ (cycle s *ℤ integer arcs ss z r.arc s) ≡ centre arcs ss z m s r
centre_is arcs ss z m s r = ap (λ x. x -ℤ (cycle s *ℤ integer arcs ss z r.arc s)) (sym (floor_by_ceil (number_at r.y s) (scalar_product r.u m) (2 ^ move_exponent) (pow_pos move_exponent)))

reach_is : (arcs : List Arc) (ss : List ℕ) (z m : List ℤ) (s : ℕ) (r : Row) (a : RowReach) (place : Option ℕ) → a ≡ row_reach m r → place ≡ integer_place arcs ss r.arc s →
    reach_at z s r a place ≡ reach_of arcs ss z m s r
reach_is arcs ss z m s r a place e f = ap₂ (λ (b : RowReach) (p : Option ℕ). reach_at z s r b p) e f ∙ ap (λ x. reach x (rad m r)) (centre_is arcs ss z m s r)
  where
    reach : ℤ → ℤ → ResidualBox
    reach x y = record { centre = x; rad = y }

-- row number k, seen at its place and with what the move gives of it
pub seen_row : (arcs : List Arc) (ss : List ℕ) (z m : List ℤ) (s : ℕ) (rows : List Row) (places : List (Option ℕ)) (moves : List RowReach) → AreSeen arcs ss m s rows places moves →
    (k : ℕ) (r : Row) (d : RowReach) → k < length rows → r ≡ get_or rows k r → reach_at z s r (get_or moves k d) (slice_index_or places k None) ≡ reach_of arcs ss z m s r
seen_row arcs ss z m s rows places moves seen k r d inside is = reach_is arcs ss z m s r (get_or moves k d) (slice_index_or places k None)
    (ap (λ (l : List RowReach). get_or l k d) seen.are_moves ∙ get_or-map (row_reach m) rows k r d inside ∙ ap (row_reach m) (sym is))
    (seen.are_places k r inside ∙ ap (λ (q : Row). integer_place arcs ss q.arc s) (sym is))
