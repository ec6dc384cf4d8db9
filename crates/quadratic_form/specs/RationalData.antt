-- The sum of squares over rational data, rational baselines and whole integers: what the proofs are about.
use Rattle.std.specs.Prelude.{◌≡◌, ◌^◌, List, [], ◌∷◌, ℤ, pos}
use Rattle.std.specs.List.{AllZip}
use Rattle.std.proofs.Common.{pow_pos}
use Rattle.whole_math.specs.Rational.{Near, Rational, ◌<ʳ◌, of_whole, ◌+ʳ◌, ◌-ʳ◌, ◌*ʳ◌}
use Rattle.quadratic_form.specs.Rows.{SignalRow, WholeBaseline, SignalGroup, share}
use Rattle.whole_math.specs.Vectors.{dot, len}
use Rattle.whole_math.specs.Spread.{Baseline, spread_of_rationals}

-- three directions and y
pub record RowData : Type 0 where
  pub u1 : Rational
  pub u2 : Rational
  pub u3 : Rational
  pub y : Rational

abbrev pub InBoxes : SignalRow → RowData → Type 0
InBoxes r q = Near r.u1 r.ru1 q.u1 × Near r.u2 r.ru2 q.u2 × Near r.u3 r.ru3 q.u3 × Near r.y r.ry q.y

-- data for each row, in its boxes
abbrev pub Fits : List SignalRow → List RowData → Type 0
Fits rs qs = AllZip InBoxes rs qs

abbrev pub FitsAll : List SignalGroup → List (List RowData) → Type 0
FitsAll gs qs = AllZip (λ g q. Fits g.rows q) gs qs

-- y - u·b + cycles·z
abbrev pub residual : List ℤ → Baseline → SignalRow → RowData → Rational
residual z b r q = q.y -ʳ (q.u1 *ʳ b.b1 +ʳ (q.u2 *ʳ b.b2 +ʳ q.u3 *ʳ b.b3)) +ʳ of_whole (dot r.cycles z)

abbrev pub residuals : List ℤ → Baseline → List SignalRow → List RowData → List Rational
residuals z b [] qs = []
residuals z b (r ∷ rs) [] = []
residuals z b (r ∷ rs) (q ∷ qs) = residual z b r q ∷ residuals z b rs qs

-- F: over the pairs and signals, (360360 / n) w (n Σ s² - (Σ s)²)
abbrev pub sum_of_squares : List ℤ → Baseline → List SignalGroup → List (List RowData) → Rational
sum_of_squares z b [] qs = of_whole (pos 0)
sum_of_squares z b (g ∷ gs) [] = of_whole (pos 0)
sum_of_squares z b (g ∷ gs) (q ∷ qs) = of_whole (share g) *ʳ spread_of_rationals (residuals z b g.rows q) +ʳ sum_of_squares z b gs qs

-- m / 2^16
abbrev pub moved : WholeBaseline → Baseline
moved m = record { b1 = part m.b1; b2 = part m.b2; b3 = part m.b3 }
  where
    part : ℤ → Rational
    part k = record { num = k; den = 2 ^ 16; positive = pow_pos 16 }

-- for all data in the boxes: any other integers, with any baseline, have a greater sum of squares than z with m
pub record IsBest (gs : List SignalGroup) (z : List ℤ) (m : WholeBaseline) : Type 0 where
  pub best : (qs : List (List RowData)) → FitsAll gs qs → (v : List ℤ) → len v ≡ len z → (v ≡ z → ⊥) → (b : Baseline) →
      sum_of_squares z (moved m) gs qs <ʳ sum_of_squares v b gs qs
