-- The clauses of the pairs, summed: the least integers of the track's form with the moves are best by the ratio for all data.
use Rattle.std.proofs.Common.{◌≡◌, ◌≢◌, ℕ, ◌≤◌, List, [], ◌∷◌, length, All, ℤ, pos, ◌+ℤ◌, arith}
use Rattle.std.specs.List.{AllZip}
use Rattle.whole_math.specs.Vectors.{len}
use Rattle.whole_math.specs.Rational.{Rational}
use Rattle.quadratic_form.specs.Rows.{value}
use Rattle.quadratic_form.specs.TwoLeast.{TwoLeast}
use Rattle.fix_decide.specs.Decisions.{IsSeparated}
use Rattle.obs_rows.specs.Best.{IsLessByRatio}
use Rattle.track_form.specs.Fronts.{Front, track_form, track_top, BoundsPair, IsAtMost}
use Rattle.track_form.specs.Best.{pair_sums, IsTrackBestBy, IsBoundedBy, AreBoundedAbove}
use Rattle.track_form.proofs.Decision.{decided_by_ratio}

bounded_below : {P D B : Type 0} (f : P → D → List ℤ → B → Rational) (is_data : P → D → Type 0) (n : ℕ) (z w : List ℤ) (ps : List P) (fs : List Front) (ds : List D) (bs : List B) →
    AllZip (IsBoundedBy f is_data n z) ps fs → AllZip is_data ps ds → len w ≡ len z → length bs ≡ length ps → AllZip (BoundsPair n w) fs (pair_sums f ps ds w bs)
bounded_below f is_data n z w [] [] ds bs h k l e = tt
bounded_below f is_data n z w [] (g ∷ fs) ds bs h k l e = absurd h
bounded_below f is_data n z w (p ∷ ps) [] ds bs h k l e = absurd h
bounded_below f is_data n z w (p ∷ ps) (g ∷ fs) [] bs h k l e = absurd k
bounded_below f is_data n z w (p ∷ ps) (g ∷ fs) (d ∷ ds) [] h k l e = absurd (omega (arith, e))
bounded_below f is_data n z w (p ∷ ps) (g ∷ fs) (d ∷ ds) (b ∷ bs) h k l e = (h.0 d w b k.0 l, bounded_below f is_data n z w ps fs ds bs h.1 k.1 l (omega (arith, e)))

bounded_above : {P D B : Type 0} (f : P → D → List ℤ → B → Rational) (is_data : P → D → Type 0) (z : List ℤ) (ps : List P) (ms : List B) (us : List ℤ) (ds : List D) →
    AreBoundedAbove f is_data z ps ms us → AllZip is_data ps ds → AllZip IsAtMost (pair_sums f ps ds z ms) us
bounded_above f is_data z [] [] [] ds h k = tt
bounded_above f is_data z [] [] (u ∷ us) ds h k = absurd h
bounded_above f is_data z [] (m ∷ ms) us ds h k = absurd h
bounded_above f is_data z (p ∷ ps) [] us ds h k = absurd h
bounded_above f is_data z (p ∷ ps) (m ∷ ms) [] ds h k = absurd h
bounded_above f is_data z (p ∷ ps) (m ∷ ms) (u ∷ us) [] h k = absurd k
bounded_above f is_data z (p ∷ ps) (m ∷ ms) (u ∷ us) (d ∷ ds) h k = (h.0 d k.0, bounded_above f is_data z ps ms us ds h.1 k.1)

pub best_by_ratio : {P D B : Type 0} (f : P → D → List ℤ → B → Rational) (is_data : P → D → Type 0) (n h : ℕ) (ps : List P) (fs : List Front) (ms : List B) (us : List ℤ) (ratio : ℕ) (z1 z2 : List ℤ) →
    All (λ g. g.h ≤ h) fs → pos 1 +ℤ len z1 ≡ pos n → TwoLeast (track_form n h fs) (len z1) z1 z2 → IsSeparated (pos ratio) (track_top h us) (value (track_form n h fs) z2) →
    AllZip (IsBoundedBy f is_data n z1) ps fs → AreBoundedAbove f is_data z1 ps ms us → IsTrackBestBy (IsLessByRatio ratio) f is_data ps z1 ms
best_by_ratio {P} {D} {B} f is_data n h ps fs ms us ratio z1 z2 all e least separated below above = record {
  best = λ (ds : List D) (data_are : AllZip is_data ps ds) (w : List ℤ) (l : len w ≡ len z1) (other : w ≢ z1) (bs : List B) (as_many : length bs ≡ length ps).
      decided_by_ratio n h fs ratio us z1 z2 w (pair_sums f ps ds z1 ms) (pair_sums f ps ds w bs) all e least separated l other
      (bounded_above f is_data z1 ps ms us ds above data_are) (bounded_below f is_data n z1 w ps fs ds bs below data_are l as_many);
}
