-- The greatest of the bounds of a track's pairs.
use Rattle.std.proofs.Common.{◌≡◌, ◌⊎◌, inl, inr, ⊎_elim, ℕ, ◌+◌, ◌*◌, ◌^◌, ◌<◌, ◌≤◌, List, length, get_or, ℤ, pos, ◌≤ℤ◌, unsigned_abs, [], ◌∷◌, arith, refl, below_more}
use Rattle.std.specs.Int.{int_max}
use Rattle.std.proofs.lemmas.Int.{ints}
use Rattle.std.proofs.Math.Numerals.{lt-add-one}
use Rattle.whole_math.proofs.Ring.{◌⊖◌, ◌⊗◌}
use Rattle.whole_math.proofs.Extremes.{max_is, max_case}
use Rattle.whole_math.proofs.Inequalities.{le_by, prod_nn, less_nn, pos_nn, nat, le_trans_ℤ}
use Rattle.whole_math.specs.Rational.{◌≤ʳ◌}
use Rattle.obs_rows.specs.declared.arcs.Arc.{Arc}
use Rattle.obs_rows.specs.declared.pair_rows.PairRows.{PairRows}
use Rattle.obs_rows.specs.Integers.{integer_count}
use Rattle.vector_bound.specs.VectorBounds.{hundredths_of_mm}
use Rattle.vector_bound.specs.PairBounds.{KeepsPairNear, IsRoundedPairBound, OfEachPair, OfSomePair, HasBoundWithin, IsGreatestBound}
use Rattle.vector_bound.proofs.Sessions.{wider_distance}
use Rattle.vector_bound.proofs.PairLaws.{rounded_near}

-- the first k pairs have bounds that are at most x, and x is one of them or 0
pub record AreBounded (arcs : List Arc) (ss : List ℕ) (pairs : List PairRows) (z : List ℤ) (moves : List (List ℤ)) (k : ℕ) (x : ℤ) : Type 0 where
  pub each : (j : ℕ) → j < k → (p : PairRows) (m : List ℤ) → HasBoundWithin arcs ss z x (get_or pairs j p) (get_or moves j m)
  pub one : (x ≡ pos 0) ⊎ OfSomePair (λ p m. IsRoundedPairBound arcs ss p z m x) k pairs moves
  pub size : unsigned_abs x ≤ 2 ^ 62

pub none_bounded : (arcs : List Arc) (ss : List ℕ) (pairs : List PairRows) (z : List ℤ) (moves : List (List ℤ)) → AreBounded arcs ss pairs z moves 0 (pos 0)
none_bounded arcs ss pairs z moves = record { each = λ j l p m. absurd (omega (arith, l)); one = inl refl; size = omega (arith, ints) }

pub one_more : (arcs : List Arc) (ss : List ℕ) (pairs : List PairRows) (z : List ℤ) (moves : List (List ℤ)) (k : ℕ) (x y : ℤ) → AreBounded arcs ss pairs z moves k x →
    ((p : PairRows) (m : List ℤ) → IsRoundedPairBound arcs ss (get_or pairs k p) z (get_or moves k m) y) → unsigned_abs y ≤ 2 ^ 60 → AreBounded arcs ss pairs z moves (k + 1) (int_max x y)
one_more arcs ss pairs z moves k x y is bound size = record {
  each = below_more (λ j. (p : PairRows) (m : List ℤ) → HasBoundWithin arcs ss z (int_max x y) (get_or pairs j p) (get_or moves j m)) k
      (λ j l p m. further (get_or pairs j p) (get_or moves j m) (is.each j l p m)) (λ p m. record { bound = y; is = bound p m; within = (max_is x y).1 });
  one = max_case (λ v. (v ≡ pos 0) ⊎ OfSomePair (λ p m. IsRoundedPairBound arcs ss p z m v) (k + 1) pairs moves) x y
      (⊎_elim (λ e. inl e) (λ some. inr (record { place = some.place; inside = before some.place k some.inside; holds = some.holds })) is.one)
      (inr (record { place = k; inside = lt-add-one k; holds = bound }));
  size = max_case (λ v. unsigned_abs v ≤ 2 ^ 62) x y is.size (omega (arith, size));
}
  where
    further : (p : PairRows) (m : List ℤ) → HasBoundWithin arcs ss z x p m → HasBoundWithin arcs ss z (int_max x y) p m
    further p m has = record { bound = has.bound; is = has.is; within = le_trans_ℤ has.within (max_is x y).0 }

    before : (a n : ℕ) → a < n → a < n + 1
    before a n l = omega (arith, l)

-- in hundredths of a millimetre a greater number is a greater distance
more_hundredths : (x y : ℤ) → x ≤ℤ y → hundredths_of_mm x ≤ʳ hundredths_of_mm y
more_hundredths x y h = le_by (x ∷ y ∷ []) (λ x y. (
  x ⊗ nat 2174079600000 ⊗ nat (299792458 * (100000 * 2 ^ 11)),
  y ⊗ nat 2174079600000 ⊗ nat (299792458 * (100000 * 2 ^ 11)),
  nat (2174079600000 * (299792458 * (100000 * 2 ^ 11))) ⊗ (y ⊖ x),
)) refl (prod_nn (pos_nn (2174079600000 * (299792458 * (100000 * 2 ^ 11)))) (less_nn h))

pub greatest_near : (arcs : List Arc) (ss : List ℕ) (pairs : List PairRows) (z : List ℤ) (moves : List (List ℤ)) (x : ℤ) → length z ≡ integer_count arcs ss →
    IsGreatestBound arcs ss pairs z moves x → OfEachPair (λ p m. KeepsPairNear arcs ss p z m (hundredths_of_mm x)) pairs moves
greatest_near arcs ss pairs z moves x entries is k inside p m = of_pair (get_or pairs k p) (get_or moves k m) (is.each k inside p m)
  where
    of_pair : (p : PairRows) (m : List ℤ) → HasBoundWithin arcs ss z x p m → KeepsPairNear arcs ss p z m (hundredths_of_mm x)
    of_pair p m has = wider_distance arcs ss (p ∷ []) z m (hundredths_of_mm has.bound) (hundredths_of_mm x) (more_hundredths has.bound x has.within) (rounded_near arcs ss p z m has.bound entries has.is)
