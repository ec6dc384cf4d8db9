-- Rows, the data that lie in their boxes, the sum of squares over the data, and the normal form of the rows.
use Rattle.std.specs.Prelude.{ℕ, suc, ◌≡◌, ◌/◌, ◌^◌, ◌<◌, ◌≤◌, List, [], ◌∷◌, ◌++◌, length, ℤ, pos, negsuc, ◌+ℤ◌, ◌-ℤ◌, ◌*ℤ◌, neg_ℤ, ◌≤ℤ◌}
use Rattle.std.specs.List.{AllZip}
use Rattle.whole_math.specs.Bounds.{Within}
use Rattle.quadratic_form.specs.Forms.{Column, quad, plus, times, outer}
use Rattle.quadratic_form.specs.Elimination.{rounded}
use Rattle.whole_math.specs.Vectors.{len, dot, scaled, added, zeros}
use Rattle.quadratic_form.specs.Spread.{spread}

-- a row as one signal sees it: centres and radii of three directions, the coefficients of the integers, centre and radius of y
pub record SignalRow : Type 0 where
  pub u1 : ℤ
  pub u2 : ℤ
  pub u3 : ℤ
  pub ru1 : ℤ
  pub ru2 : ℤ
  pub ru3 : ℤ
  pub cycles : List ℤ
  pub y : ℤ
  pub ry : ℤ

-- the data of a row, over one denominator
pub record WholeData : Type 0 where
  pub u1 : ℤ
  pub u2 : ℤ
  pub u3 : ℤ
  pub y : ℤ

pub record WholeBaseline : Type 0 where
  pub b1 : ℤ
  pub b2 : ℤ
  pub b3 : ℤ

-- the rows of one pair and signal, and its weight
pub record SignalGroup : Type 0 where
  pub weight : ℤ
  pub rows : List SignalRow

-- the datum over D lies in the row's boxes
pub record WholeInBoxes (d : ℤ) (r : SignalRow) (t : WholeData) : Type 0 where
  pub u1 : Within (d *ℤ r.ru1) (t.u1 -ℤ (d *ℤ r.u1))
  pub u2 : Within (d *ℤ r.ru2) (t.u2 -ℤ (d *ℤ r.u2))
  pub u3 : Within (d *ℤ r.ru3) (t.u3 -ℤ (d *ℤ r.u3))
  pub y : Within (d *ℤ r.ry) (t.y -ℤ (d *ℤ r.y))

abbrev pub WholeFits : ℤ → List SignalRow → List WholeData → Type 0
WholeFits d rs ts = AllZip (WholeInBoxes d) rs ts

abbrev pub WholeFitsAll : ℤ → List SignalGroup → List (List WholeData) → Type 0
WholeFitsAll d gs ts = AllZip (λ g t. WholeFits d g.rows t) gs ts

-- d e times the residual, at data over d, a baseline over e and integers z
abbrev pub whole_residual : ℤ → ℤ → List ℤ → WholeBaseline → SignalRow → WholeData → ℤ
whole_residual d e z b r t = t.y *ℤ e -ℤ (t.u1 *ℤ b.b1 +ℤ (t.u2 *ℤ b.b2 +ℤ t.u3 *ℤ b.b3)) +ℤ d *ℤ e *ℤ dot r.cycles z

abbrev pub whole_residuals : ℤ → ℤ → List ℤ → WholeBaseline → List SignalRow → List WholeData → List ℤ
whole_residuals d e z b [] ts = []
whole_residuals d e z b (r ∷ rs) [] = []
whole_residuals d e z b (r ∷ rs) (t ∷ ts) = whole_residual d e z b r t ∷ whole_residuals d e z b rs ts

-- 360360 w / n, whole for n from 1 to 15
abbrev pub share : SignalGroup → ℤ
share g = pos (360360 / length g.rows) *ℤ g.weight

-- (d e)² times the sum of squares
abbrev pub whole_sum_of_squares : ℤ → ℤ → List ℤ → WholeBaseline → List SignalGroup → List (List WholeData) → ℤ
whole_sum_of_squares d e z b [] ts = pos 0
whole_sum_of_squares d e z b (g ∷ gs) [] = pos 0
whole_sum_of_squares d e z b (g ∷ gs) (t ∷ ts) = (share g *ℤ spread (whole_residuals d e z b g.rows t)) +ℤ whole_sum_of_squares d e z b gs ts

-- ---- the normal form
abbrev pub coefficients : SignalRow → List ℤ
coefficients r = neg_ℤ r.u1 ∷ (neg_ℤ r.u2 ∷ (neg_ℤ r.u3 ∷ (r.cycles ++ (r.y ∷ []))))

-- the form with these own entries and no others
abbrev pub diagonal : List ℤ → List Column
diagonal [] = []
diagonal (k ∷ ks) = record { own = k; others = zeros (length ks) } ∷ diagonal ks

-- three of the baseline, one for each of i integers, and the constant
abbrev pub columns : ℕ → ℕ
columns i = suc (suc (suc (suc i)))

abbrev pub sum_coefficients : ℕ → List SignalRow → List ℤ
sum_coefficients i [] = zeros (columns i)
sum_coefficients i (r ∷ rs) = added (coefficients r) (sum_coefficients i rs)

abbrev pub sum_outer : ℕ → List SignalRow → List Column
sum_outer i [] = diagonal (zeros (columns i))
sum_outer i (r ∷ rs) = plus (outer (coefficients r)) (sum_outer i rs)

abbrev pub group_matrix : ℕ → SignalGroup → List Column
group_matrix i g = times (share g) (plus (times (len g.rows) (sum_outer i g.rows)) (times (negsuc 0) (outer (sum_coefficients i g.rows))))

abbrev pub matrix : ℕ → List SignalGroup → List Column
matrix i [] = diagonal (zeros (columns i))
matrix i (g ∷ gs) = plus (group_matrix i g) (matrix i gs)

pub record Radii : Type 0 where
  pub r1 : ℤ
  pub r2 : ℤ
  pub r3 : ℤ
  pub ry : ℤ

abbrev pub no_radii : Radii
no_radii = record { r1 = pos 0; r2 = pos 0; r3 = pos 0; ry = pos 0 }

abbrev pub add_radii : Radii → Radii → Radii
add_radii p q = record { r1 = p.r1 +ℤ q.r1; r2 = p.r2 +ℤ q.r2; r3 = p.r3 +ℤ q.r3; ry = p.ry +ℤ q.ry }

-- 360360 w times the sums of the squares of the radii
abbrev pub row_radii : ℤ → List SignalRow → Radii
row_radii w [] = no_radii
row_radii w (r ∷ rs) = add_radii (record {
  r1 = pos 360360 *ℤ w *ℤ (r.ru1 *ℤ r.ru1);
  r2 = pos 360360 *ℤ w *ℤ (r.ru2 *ℤ r.ru2);
  r3 = pos 360360 *ℤ w *ℤ (r.ru3 *ℤ r.ru3);
  ry = pos 360360 *ℤ w *ℤ (r.ry *ℤ r.ry);
}) (row_radii w rs)

abbrev pub radii : List SignalGroup → Radii
radii [] = no_radii
radii (g ∷ gs) = add_radii (row_radii g.weight g.rows) (radii gs)

-- the form of three baseline columns, i integers and the constant, that bounds 64 F over all data
abbrev pub bounding_form : ℕ → List Column → Radii → List Column
bounding_form i c r = plus (times (pos 63) c) (diagonal ((negsuc 16127 *ℤ r.r1) ∷ ((negsuc 16127 *ℤ r.r2) ∷ ((negsuc 16127 *ℤ r.r3) ∷ (zeros i ++ ((negsuc 16127 *ℤ r.ry) ∷ []))))))

-- e times (b, z, 1), where b is over e
abbrev pub columns_at : ℤ → List ℤ → WholeBaseline → List ℤ
columns_at e z b = b.b1 ∷ (b.b2 ∷ (b.b3 ∷ (scaled e z ++ (e ∷ []))))

-- each group has 1 to 15 rows, a weight that is not negative, and a coefficient for each integer
abbrev pub RowsOf : ℤ → List SignalRow → Type 0
RowsOf n [] = Unit {0}
RowsOf n (r ∷ rs) = (len r.cycles ≡ n) × RowsOf n rs

abbrev pub GroupsOf : ℤ → List SignalGroup → Type 0
GroupsOf n [] = Unit {0}
GroupsOf n (g ∷ gs) = (0 < length g.rows) × (length g.rows ≤ 15) × (pos 0 ≤ℤ g.weight) × RowsOf n g.rows × GroupsOf n gs

-- the form after the first rounding, by 2^h
abbrev pub first_rounding : ℕ → ℕ → List SignalGroup → List Column
first_rounding h i gs = rounded (2 ^ h) (pos (columns i)) (bounding_form i (matrix i gs) (radii gs))

-- P: the value of a form of the integers and the constant
abbrev pub value : List Column → List ℤ → ℤ
value p z = quad p (z ++ (pos 1 ∷ []))
