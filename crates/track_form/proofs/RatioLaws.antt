-- No sum of squares of a track is below 0, so what is best by a ratio of 1000 or more is strictly best.
use Rattle.std.proofs.Common.{◌≡◌, ◌≢◌, ℕ, ◌≤◌, List, [], ◌∷◌, length, map, ℤ, pos, ◌≤ℤ◌, arith}
use Rattle.std.specs.List.{AllZip}
use Rattle.whole_math.specs.Vectors.{len}
use Rattle.whole_math.proofs.Order.{lins}
use Rattle.whole_math.proofs.Inequalities.{both_nn, prod_nn, pos_nn}
use Rattle.whole_math.specs.Rational.{Rational}
use Rattle.whole_math.specs.Spread.{Baseline}
use Rattle.obs_rows.specs.declared.arcs.Arc.{Arc}
use Rattle.obs_rows.specs.declared.pair_rows.PairRows.{PairRows}
use Rattle.obs_rows.specs.Best.{moved}
use Rattle.obs_rows.specs.Data.{Observed}
use Rattle.obs_rows.proofs.RatioLaws.{sum_from, less_by_ratio}
use Rattle.track_form.specs.Best.{track_sum}
use Rattle.track_form.specs.SumDecided.{pair_sum, IsPairData, IsStrictlyBest, IsBestByRatio}

track_sum_from : (arcs : List Arc) (ss : List ℕ) (z : List ℤ) (pairs : List PairRows) (ds : List (List Observed)) (bs : List Baseline) → AllZip (IsPairData ss) pairs ds →
    pos 0 ≤ℤ (track_sum (pair_sum arcs ss) pairs ds z bs).num
track_sum_from arcs ss z [] ds bs h = omega (arith, lins)
track_sum_from arcs ss z (p ∷ ps) [] bs h = omega (arith, lins)
track_sum_from arcs ss z (p ∷ ps) (d ∷ ds) [] h = omega (arith, lins)
track_sum_from arcs ss z (p ∷ ps) (d ∷ ds) (b ∷ bs) h =
    both_nn (prod_nn (sum_from arcs ss (p ∷ []) z b (d ∷ []) h.0) (pos_nn _)) (prod_nn (track_sum_from arcs ss z ps ds bs h.1) (pos_nn _))

pub ratio_is_strict : (ratio : ℕ) (arcs : List Arc) (ss : List ℕ) (pairs : List PairRows) (z : List ℤ) (moves : List (List ℤ)) → 1000 ≤ ratio → IsBestByRatio ratio arcs ss pairs z moves →
    IsStrictlyBest arcs ss pairs z moves
ratio_is_strict ratio arcs ss pairs z moves large best = record {
  entries = best.entries;
  move_each = best.move_each;
  best = record {
    best = λ (ds : List (List Observed)) (held : AllZip (IsPairData ss) pairs ds) (w : List ℤ) (l : len w ≡ len z) (other : w ≢ z) (bs : List Baseline) (as_many : length bs ≡ length pairs).
        let ours : Rational = track_sum (pair_sum arcs ss) pairs ds z (map moved moves) in
        let theirs : Rational = track_sum (pair_sum arcs ss) pairs ds w bs in
        less_by_ratio ratio large ours theirs (track_sum_from arcs ss z pairs ds (map moved moves) held) (best.best.best ds held w l other bs as_many);
  };
}
