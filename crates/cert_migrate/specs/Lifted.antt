-- A session of version 1 in the unit that is kept now: κ is 23 ι, so 2^-18 κ is 23/32 of 2^-13 ι.
use Rattle.std.specs.Prelude.{◌≡◌, ℕ, ◌*◌, ◌^◌, ℤ, pos, ◌+ℤ◌, ◌*ℤ◌, List, [], ◌∷◌, map}
use Rattle.std.specs.List.{AllZip}
use Rattle.std.proofs.Common.{lit<}
use Rattle.whole_math.specs.Rounding.{nearest_div, ceil_div}
use Rattle.whole_math.specs.Rational.{Rational, ◌≈◌, ◌*ʳ◌}
use Rattle.whole_math.specs.Spread.{Baseline}
use Rattle.obs_rows.specs.declared.arcs.Arc.{Arc}
use Rattle.obs_rows.specs.declared.rows.Row.{Row}
use Rattle.obs_rows.specs.declared.pair_rows.PairRows.{PairRows}
use Rattle.obs_rows.specs.declared.sessions.Session.{Session}
use Rattle.obs_rows.specs.Signals.{fine_signals}
use Rattle.obs_rows.specs.Data.{Observed, AreData}
use Rattle.obs_rows.specs.SumOfSquares.{sum_of_squares}
use Rattle.cert_data.specs.declared.tails.Tail.{Tail}
use Rattle.cert_check.specs.Settled.{WhereFixed}
use Rattle.cert_migrate.specs.declared.old_arcs.OldArc.{OldArc}
use Rattle.cert_migrate.specs.declared.old_rows.OldRow.{OldRow}
use Rattle.cert_migrate.specs.declared.old_pairs.OldPair.{OldPair}
use Rattle.cert_migrate.specs.declared.old_sessions.OldSession.{OldSession}
use Rattle.cert_migrate.specs.OldSums.{OldObserved, at, AreOldData, old_sum, IsOldBest, IsOldBestByRatio}

-- ---- numbers
-- the nearest to 23/32 of it
abbrev pub lifted_y : ℤ → ℤ
lifted_y y = nearest_div (pos 23 *ℤ y) 32

-- 23/32 of it, rounded up, and 1 for the rounding of the centre
abbrev pub lifted_radius : ℤ → ℤ
lifted_radius ry = ceil_div (pos 23 *ℤ ry) 32 +ℤ pos 1

-- the six observations of a row, of which those on L5 are 0
abbrev pub lifted_ys : List ℤ → List ℤ
lifted_ys y = lifted_y (at y 0) ∷ lifted_y (at y 1) ∷ lifted_y (at y 2) ∷ lifted_y (at y 3) ∷ pos 0 ∷ pos 0 ∷ []

-- the same arc, with no shift on L5
abbrev pub lifted_arc : OldArc → Arc
lifted_arc a = record { sat = a.sat; first = a.first; last = a.last; datum = a.datum; shift = at a.shift 0 ∷ at a.shift 1 ∷ pos 0 ∷ [] }

pub record IsLiftedRow (old : OldRow) (r : Row) : Type 0 where
  pub arc : r.arc ≡ old.arc
  pub y : r.y ≡ lifted_ys old.y
  pub ry : r.ry ≡ lifted_radius old.ry
  pub u : r.u ≡ old.u
  pub ru : r.ru ≡ old.ru

pub record IsLiftedPair (old : OldPair) (p : PairRows) : Type 0 where
  pub number : p.number ≡ old.number
  pub tag : p.tag ≡ old.tag
  pub group : p.group ≡ pos 23 *ℤ old.group
  pub rows : AllZip IsLiftedRow old.rows p.rows

-- a fine GPS session on L1 and L2 with the same letters, points and arcs, whose pairs are lifted
pub record IsLiftedSession (old : OldSession) (s : Session) : Type 0 where
  pub scale : s.scale ≡ 0
  pub system : s.system ≡ 71
  pub base : s.base ≡ old.base
  pub point : s.point ≡ old.point
  pub l1 : s.signals.l1 ≡ old.signals.l1
  pub l2 : s.signals.l2 ≡ old.signals.l2
  pub l5 : s.signals.l5 ≡ 0
  pub arcs : s.arcs ≡ map lifted_arc old.arcs
  pub pairs : AllZip IsLiftedPair old.pairs s.pairs

-- ---- data
abbrev pub unit_ratio : Rational
unit_ratio = record { num = pos 23; den = 32; positive = lit< tt }

-- each observation times 23/32, with the same direction
abbrev pub scaled_row : OldObserved → Observed
scaled_row q = record { y = λ s. unit_ratio *ʳ q.y s; u1 = q.u1; u2 = q.u2; u3 = q.u3 }

abbrev pub scaled : List (List OldObserved) → List (List Observed)
scaled observed = map (λ qs. map scaled_row qs) observed

abbrev pub scaled_baseline : Baseline → Baseline
scaled_baseline b = record { b1 = unit_ratio *ʳ b.b1; b2 = unit_ratio *ʳ b.b2; b3 = unit_ratio *ʳ b.b3 }

-- all data of the old session, scaled, are data of the new one
abbrev pub HasScaledData : OldSession → Session → Type 0
HasScaledData old s = (observed : List (List OldObserved)) → AreOldData old.pairs observed → AreData (fine_signals s.signals) s.pairs (scaled observed)

-- for all data, all integers and all baselines the new sum of squares at what is scaled is the old one times (23/32)²
abbrev pub HasScaledSums : OldSession → Session → Type 0
HasScaledSums old s = (observed : List (List OldObserved)) (z : List ℤ) (b : Baseline) →
    sum_of_squares s.arcs (fine_signals s.signals) s.pairs z (scaled_baseline b) (scaled observed) ≈ unit_ratio *ʳ unit_ratio *ʳ old_sum old.arcs old.pairs z b observed

-- ---- best
-- A move m, in 2^-5 ι, as a baseline in the old unit, 2^6 κ: m / (2^5 · 23) κ over 2^6 κ is 32 m / (23 · 2^16)
abbrev pub in_old_unit : List ℤ → Baseline
in_old_unit m = record { b1 = part (at m 0); b2 = part (at m 1); b3 = part (at m 2) }
  where
    part : ℤ → Rational
    part k = record { num = pos 32 *ℤ k; den = 23 * 2 ^ 16; positive = lit< tt }

-- where the new tail is fixed, its first integers with its move are strictly best in the old boxes
abbrev pub IsOldBestWhereFixed : OldSession → Tail → Type 0
IsOldBestWhereFixed old = WhereFixed (λ z m. IsOldBest old z (in_old_unit m))

-- where the new tail is fixed, they are best by the ratio in the old boxes
abbrev pub IsOldBestByRatioWhereFixed : ℕ → OldSession → Tail → Type 0
IsOldBestByRatioWhereFixed ratio old = WhereFixed (λ z m. IsOldBestByRatio ratio old z (in_old_unit m))
