-- What it means that integers with a move for each pair are best on a track. A pair P has data D, and a sum of squares at data,
-- integers and a baseline B.
use Rattle.std.specs.Prelude.{◌≡◌, ◌≢◌, ℕ, List, [], ◌∷◌, length, ℤ}
use Rattle.std.specs.List.{AllZip}
use Rattle.whole_math.specs.Vectors.{len}
use Rattle.whole_math.specs.Rational.{Rational}
use Rattle.whole_math.specs.Spread.{sum_of_rationals}
use Rattle.track_form.specs.Fronts.{Front, BoundsPair, IsAtMost}

-- the sum of squares of each pair, at its own data and baseline
abbrev pub pair_sums : {P D B : Type 0} → (P → D → List ℤ → B → Rational) → List P → List D → List ℤ → List B → List Rational
pair_sums f [] ds z bs = []
pair_sums f (p ∷ ps) [] z bs = []
pair_sums f (p ∷ ps) (d ∷ ds) z [] = []
pair_sums f (p ∷ ps) (d ∷ ds) z (b ∷ bs) = f p d z b ∷ pair_sums f ps ds z bs

-- F of a track
abbrev pub track_sum : {P D B : Type 0} → (P → D → List ℤ → B → Rational) → List P → List D → List ℤ → List B → Rational
track_sum f ps ds z bs = sum_of_rationals (pair_sums f ps ds z bs)

-- For all data of the pairs the sum at z with these moves is below that at every other vector of whole numbers of any size with any list of
-- baselines, one for each pair. What below means is said by the first argument.
pub record IsTrackBestBy {P D B : Type 0} (Below : Rational → Rational → Type 0) (f : P → D → List ℤ → B → Rational)
    (is_data : P → D → Type 0) (ps : List P) (z : List ℤ) (moves : List B) : Type 0 where
  pub best : (ds : List D) → AllZip is_data ps ds → (w : List ℤ) → len w ≡ len z → w ≢ z → (bs : List B) → length bs ≡ length ps →
      Below (track_sum f ps ds z moves) (track_sum f ps ds w bs)

-- What is known of a pair whose form has n columns: for all data, integers and baselines the bound of its front
abbrev pub IsBoundedBy : {P D B : Type 0} → (P → D → List ℤ → B → Rational) → (P → D → Type 0) → ℕ → List ℤ → P → Front → Type 0
IsBoundedBy {P} {D} {B} f is_data n z p front = (d : D) (w : List ℤ) (b : B) → is_data p d → len w ≡ len z → BoundsPair n w front (f p d w b)

-- and for all data that at z with its move the sum is at most u
abbrev pub AreBoundedAbove : {P D B : Type 0} → (P → D → List ℤ → B → Rational) → (P → D → Type 0) → List ℤ → List P → List B → List ℤ → Type 0
AreBoundedAbove f is_data z [] [] [] = Unit {0}
AreBoundedAbove {P} {D} {B} f is_data z (p ∷ ps) (m ∷ ms) (u ∷ us) = ((d : D) → is_data p d → IsAtMost (f p d z m) u) × AreBoundedAbove f is_data z ps ms us
AreBoundedAbove f is_data z _ _ _ = ⊥
