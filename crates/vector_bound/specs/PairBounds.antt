-- How far the least-squares baseline of one pair of a track may lie from the pair's move, and the greatest of these numbers.
-- With the integers held each pair has its own rows, data and baseline, so no pair's depends on another.
use Rattle.std.specs.Prelude.{◌≡◌, ◌⊎◌, ℕ, ◌<◌, List, [], ◌∷◌, length, get_or, ℤ, pos, ◌≤ℤ◌}
use Rattle.whole_math.specs.Rational.{Rational}
use Rattle.quadratic_form.specs.Lowering.{IsExponent}
use Rattle.obs_rows.specs.declared.arcs.Arc.{Arc}
use Rattle.obs_rows.specs.declared.pair_rows.PairRows.{PairRows}
use Rattle.normal_sum.specs.Values.{form_of}
use Rattle.fix_decide.specs.UpperSums.{top}
use Rattle.fix_decide.specs.Widths.{IsWide}
use Rattle.vector_bound.specs.VectorBounds.{KeepsNear, IsBoundOf, LacksBound, IsInHundredths}

-- ---- one pair
-- for all data in the boxes of the pair's rows, every rational baseline whose sum of squares over these rows with the integers z
-- is at most that of the move m is within d of the move: so the pair's least-squares baseline is
abbrev pub KeepsPairNear : List Arc → List ℕ → PairRows → List ℤ → List ℤ → Rational → Type 0
KeepsPairNear arcs ss p z m d = KeepsNear arcs ss (p ∷ []) z m d

-- x is the bound by the pair's rows alone: h is the exponent of their normal matrix, and their upper sum stands in units of 2^h
pub record IsPairBound (arcs : List Arc) (ss : List ℕ) (p : PairRows) (z m : List ℤ) (x : ℤ) : Type 0 where
  pub h : ℕ
  pub bound : IsBoundOf arcs ss (p ∷ []) h z m (top h arcs ss (p ∷ []) z m) x
  pub exponent : IsExponent h (form_of bound.normal)

-- y is that in hundredths of a millimetre
pub record IsRoundedPairBound (arcs : List Arc) (ss : List ℕ) (p : PairRows) (z m : List ℤ) (y : ℤ) : Type 0 where
  pub units : ℤ
  pub bound : IsPairBound arcs ss p z m units
  pub rounded : IsInHundredths units y

-- no number is, or one on the way to it doesn't fit
pub record LacksOwnBound (arcs : List Arc) (ss : List ℕ) (p : PairRows) (z m : List ℤ) : Type 0 where
  pub h : ℕ
  pub lacks : LacksBound arcs ss (p ∷ []) h z m (top h arcs ss (p ∷ []) z m)
  pub exponent : IsExponent h (form_of lacks.normal)

-- the residual of some row may lie too far from 0 for an upper sum, or that
abbrev pub LacksPairBound : List Arc → List ℕ → PairRows → List ℤ → List ℤ → Type 0
LacksPairBound arcs ss p z m = IsWide arcs ss z m p ⊎ LacksOwnBound arcs ss p z m

-- ---- all pairs of a track
-- R holds of each pair with its move
abbrev pub OfEachPair : (PairRows → List ℤ → Type 0) → List PairRows → List (List ℤ) → Type 0
OfEachPair R pairs moves = (k : ℕ) → k < length pairs → (p : PairRows) (m : List ℤ) → R (get_or pairs k p) (get_or moves k m)

-- R holds of one of the first n pairs with its move
pub record OfSomePair (R : PairRows → List ℤ → Type 0) (n : ℕ) (pairs : List PairRows) (moves : List (List ℤ)) : Type 0 where
  pub place : ℕ
  pub inside : place < n
  pub holds : (p : PairRows) (m : List ℤ) → R (get_or pairs place p) (get_or moves place m)

-- the pair has a bound, which is at most x
pub record HasBoundWithin (arcs : List Arc) (ss : List ℕ) (z : List ℤ) (x : ℤ) (p : PairRows) (m : List ℤ) : Type 0 where
  pub bound : ℤ
  pub is : IsRoundedPairBound arcs ss p z m bound
  pub within : bound ≤ℤ x

-- x is the greatest of the pairs' bounds in hundredths of a millimetre, each at the pair's own move, and 0 of no pair
pub record IsGreatestBound (arcs : List Arc) (ss : List ℕ) (pairs : List PairRows) (z : List ℤ) (moves : List (List ℤ)) (x : ℤ) : Type 0 where
  pub each : OfEachPair (HasBoundWithin arcs ss z x) pairs moves
  pub one : (x ≡ pos 0) ⊎ OfSomePair (λ p m. IsRoundedPairBound arcs ss p z m x) (length pairs) pairs moves
