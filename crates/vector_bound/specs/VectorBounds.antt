-- How far from a move the baselines may lie at which the sum of squares is no greater than at the move.
use Rattle.std.specs.Prelude.{ℕ, ◌+◌, ◌^◌, ◌<◌, ◌≤◌, List, length, ℤ, pos, ◌+ℤ◌, ◌-ℤ◌, ◌*ℤ◌, ◌<ℤ◌, ◌≤ℤ◌, unsigned_abs, slice_index_or}
use Rattle.std.proofs.Common.{◌*◌, mul-pos, lit<, pow_pos}
use Rattle.whole_math.specs.Rounding.{floor_div, ceil_div, nearest_div, IsCeil}
use Rattle.whole_math.specs.Vectors.{dot}
use Rattle.whole_math.specs.Rational.{Rational, ◌≤ʳ◌, AreWithin}
use Rattle.quadratic_form.specs.Places.{list_from}
use Rattle.quadratic_form.specs.Rows.{columns_at}
use Rattle.whole_math.specs.Spread.{Baseline}
use Rattle.quadratic_form.specs.UpperSum.{size}
use Rattle.quadratic_form.specs.Tables.{entry}
use Rattle.obs_rows.specs.declared.arcs.Arc.{Arc}
use Rattle.obs_rows.specs.declared.pair_rows.PairRows.{PairRows}
use Rattle.obs_rows.specs.declared.units.TheConstants.{UNIT_FREQUENCY}
use Rattle.obs_rows.specs.declared.sessions.Session.{Session}
use Rattle.obs_rows.specs.Signals.{fine_signals}
use Rattle.obs_rows.specs.Data.{Observed, number_at, AreData}
use Rattle.obs_rows.specs.SumOfSquares.{sum_of_squares}
use Rattle.obs_rows.specs.Best.{moved, move_exponent}
use Rattle.obs_rows.specs.SignalGroups.{whole_move}
use Rattle.normal_sum.specs.declared.normal.Normal.{Normal}
use Rattle.normal_sum.specs.Normals.{IsNormalOf}
use Rattle.fix_decide.specs.Bounds.{StaysAtMost}
use Rattle.vector_bound.specs.Curvatures.{IsCurvatureOf}
use Rattle.vector_bound.specs.Reaches.{IsLeastReach}

-- ---- what is promised
-- x units of 2^-5 ι, in the unit of a baseline
abbrev pub move_units : ℤ → Rational
move_units x = record { num = x; den = 2 ^ move_exponent; positive = pow_pos move_exponent }

-- x hundredths of a millimetre, in the unit of a baseline, 2^11 ι. A metre is UNIT_FREQUENCY / LIGHT_SPEED ι
abbrev pub hundredths_of_mm : ℤ → Rational
hundredths_of_mm x = record { num = x *ℤ UNIT_FREQUENCY; den = 299792458 * (100000 * 2 ^ 11); positive = mul-pos {m = 299792458} (lit< tt) (mul-pos {m = 100000} (lit< tt) (pow_pos 11)) }

-- in each coordinate the two are at most d apart
pub record AreNear (d : Rational) (b c : Baseline) : Type 0 where
  pub b1 : AreWithin d b.b1 c.b1
  pub b2 : AreWithin d b.b2 c.b2
  pub b3 : AreWithin d b.b3 c.b3

-- of all baselines b has the least sum of squares with the integers z, of these data
abbrev pub IsLeastSquares : List Arc → List ℕ → List PairRows → List ℤ → List (List Observed) → Baseline → Type 0
IsLeastSquares arcs ss pairs z observed b = (c : Baseline) →
    sum_of_squares arcs ss pairs z b observed ≤ʳ sum_of_squares arcs ss pairs z c observed

-- for all data in the boxes, every rational baseline whose sum of squares with the integers z is at most that of the move m is within d of the move:
-- so the least-squares baseline of the data is
pub record KeepsNear (arcs : List Arc) (ss : List ℕ) (pairs : List PairRows) (z m : List ℤ) (d : Rational) : Type 0 where
  pub near : (observed : List (List Observed)) → AreData ss pairs observed → (b : Baseline) →
      sum_of_squares arcs ss pairs z b observed ≤ʳ sum_of_squares arcs ss pairs z (moved m) observed → AreNear d b (moved m)
  pub least : (observed : List (List Observed)) → AreData ss pairs observed → (b : Baseline) →
      IsLeastSquares arcs ss pairs z observed b → AreNear d b (moved m)

abbrev pub KeepsSessionNear : Session → List ℤ → List ℤ → Rational → Type 0
KeepsSessionNear s z m d = KeepsNear s.arcs (fine_signals s.signals) s.pairs z m d

-- for all data in the boxes, the sum of squares at the move is at most t times 2^h
abbrev pub StaysWithin : Session → ℕ → List ℤ → List ℤ → ℤ → Type 0
StaysWithin s h z m t = StaysAtMost s.arcs (fine_signals s.signals) s.pairs z m (pos (2 ^ h) *ℤ t)

-- ---- the number
-- what is kept of the normal matrix of the baseline's columns: 59 times it, less 2^32 + 16128 times the squares of the radii, over 2^(h + 10)
abbrev pub kept_own : Normal → ℕ → ℕ → ℤ
kept_own n h j = floor_div (pos 59 *ℤ entry n.c j j -ℤ pos 4294983424 *ℤ slice_index_or n.r j (pos 0)) (2 ^ (h + 10)) -ℤ pos 3

abbrev pub kept_other : Normal → ℕ → ℕ → ℕ → ℤ
kept_other n h i j = nearest_div (pos 59 *ℤ entry n.c i j) (2 ^ (h + 10))

-- mu is the least curvature of what is kept, and 1 or more: mu times the square of each coordinate is at most its value
pub record IsCurvature (n : Normal) (h : ℕ) (mu : ℤ) : Type 0 where
  pub first : pos 1 ≤ℤ kept_own n h 0
  pub second : pos 1 ≤ℤ kept_own n h 1
  pub some : pos 1 ≤ℤ mu
  pub is : IsCurvatureOf (kept_own n h 0) (kept_own n h 1) (kept_own n h 2) (kept_other n h 0 1) (kept_other n h 0 2) (kept_other n h 1 2) mu

-- half the derivative of the sum of squares at the centres, by coordinate j, at z and the move
abbrev pub slope : Normal → List ℤ → List ℤ → ℕ → ℤ
slope n z m j = dot (list_from (entry n.c j) 0 n.columns) (columns_at (pos (2 ^ 16)) z (whole_move m))

abbrev pub steepness : Normal → ℕ → List ℤ → List ℤ → ℤ
steepness n h z m = ceil_div (size (slope n z m 0) +ℤ (size (slope n z m 1) +ℤ size (slope n z m 2))) (2 ^ (h + 3))

-- the squares of the radii at the move
abbrev pub radii_at_move : Normal → List ℤ → ℤ
radii_at_move n m = slice_index_or n.r 0 (pos 0) *ℤ (number_at m 0 *ℤ number_at m 0) +ℤ (slice_index_or n.r 1 (pos 0) *ℤ (number_at m 1 *ℤ number_at m 1)
    +ℤ (slice_index_or n.r 2 (pos 0) *ℤ (number_at m 2 *ℤ number_at m 2) +ℤ slice_index_or n.r 3 (pos 0) *ℤ (pos (2 ^ 16) *ℤ pos (2 ^ 16))))

-- what the data and the share of the sum of squares add, where t bounds the sum in units of 2^h
abbrev pub slack : Normal → ℕ → List ℤ → ℤ → ℤ
slack n h m t = ceil_div (pos 4 *ℤ radii_at_move n m) (2 ^ h) +ℤ t *ℤ pos 16

-- x is the least number that is enough: the curvature times its square is at least the slopes times it and the slack
pub record IsVectorBound (n : Normal) (h : ℕ) (z m : List ℤ) (t x : ℤ) : Type 0 where
  pub mu : ℤ
  pub curvature : IsCurvature n h mu
  pub slack_from : pos 0 ≤ℤ slack n h m t
  pub reach : IsLeastReach mu (steepness n h z m) (slack n h m t) x

-- ---- where there is none
-- what is kept of the normal matrix is of a size that fits
pub record FitsMatrix (n : Normal) (h : ℕ) : Type 0 where
  pub radii : (j : ℕ) → j < 3 → slice_index_or n.r j (pos 0) <ℤ pos (2 ^ 89)
  pub own : (j : ℕ) → j < 3 → kept_own n h j ≤ℤ pos (2 ^ 40)
  pub others : (i j : ℕ) → i < j → j < 3 → unsigned_abs (kept_other n h i j) ≤ 2 ^ 40

-- so is each term of the slope by coordinate j
pub record FitsTerms (n : Normal) (z m : List ℤ) (j : ℕ) : Type 0 where
  pub integers : (k : ℕ) → k < length z → unsigned_abs (entry n.c j (3 + k) *ℤ number_at z k) ≤ 2 ^ 96
  pub constant : unsigned_abs (entry n.c j (3 + length z)) ≤ 2 ^ 96
  pub move : (k : ℕ) → k < 3 → unsigned_abs (entry n.c j k *ℤ number_at m k) ≤ 2 ^ 118

pub record FitsSlopes (n : Normal) (h : ℕ) (z m : List ℤ) : Type 0 where
  pub terms : (j : ℕ) → j < 3 → FitsTerms n z m j
  pub steep : steepness n h z m ≤ℤ pos (2 ^ 90)

pub record FitsSlack (n : Normal) (h : ℕ) (m : List ℤ) (t : ℤ) : Type 0 where
  pub squares : (j : ℕ) → j < 3 → (slice_index_or n.r j (pos 0) *ℤ (number_at m j *ℤ number_at m j)) ≤ℤ pos (2 ^ 118)
  pub constant : (slice_index_or n.r 3 (pos 0) *ℤ (pos (2 ^ 16) *ℤ pos (2 ^ 16))) ≤ℤ pos (2 ^ 118)
  pub whole : slack n h m t ≤ℤ pos (2 ^ 126)

-- each number on the way to a bound is of a size that fits
pub record FitsWords (n : Normal) (h : ℕ) (z m : List ℤ) (t : ℤ) : Type 0 where
  pub matrix : FitsMatrix n h
  pub slopes : FitsSlopes n h z m
  pub slack : FitsSlack n h m t

-- ---- by rows
-- x is the bound by the normal matrix of these rows
pub record IsBoundOf (arcs : List Arc) (ss : List ℕ) (pairs : List PairRows) (h : ℕ) (z m : List ℤ) (t x : ℤ) : Type 0 where
  pub normal : Normal
  pub of_rows : IsNormalOf arcs ss pairs normal
  pub bound : IsVectorBound normal h z m t x

-- no number is, or one on the way to it doesn't fit
pub record LacksBound (arcs : List Arc) (ss : List ℕ) (pairs : List PairRows) (h : ℕ) (z m : List ℤ) (t : ℤ) : Type 0 where
  pub normal : Normal
  pub of_rows : IsNormalOf arcs ss pairs normal
  pub none : FitsWords normal h z m t → (x : ℤ) → IsVectorBound normal h z m t x → ⊥

abbrev pub IsSessionBound : Session → ℕ → List ℤ → List ℤ → ℤ → ℤ → Type 0
IsSessionBound s h z m t x = IsBoundOf s.arcs (fine_signals s.signals) s.pairs h z m t x

abbrev pub LacksSessionBound : Session → ℕ → List ℤ → List ℤ → ℤ → Type 0
LacksSessionBound s h z m t = LacksBound s.arcs (fine_signals s.signals) s.pairs h z m t

-- y is the least number of hundredths of a millimetre that is at least x units of 2^-5 ι
abbrev pub IsInHundredths : ℤ → ℤ → Type 0
IsInHundredths x y = IsCeil (x *ℤ pos 299792458) 695705472 y
