-- The claim over rationals, from the one over whole numbers.
use Rattle.std.proofs.Common.{◌≡◌, ℕ, ◌*◌, ◌<◌, ◌^◌, List, [], ◌∷◌, length, ℤ, pos, ◌+ℤ◌, ◌*ℤ◌, ◌≤ℤ◌, ◌<ℤ◌, Ok, mul-pos, pow_pos, arith, ap, refl, subst}
use Rattle.whole_math.proofs.Ring.{◌⊕◌, ◌⊖◌, ◌⊗◌}
use Rattle.whole_math.proofs.Inequalities.{le_by, prod_nn, less_nn, pos_nn, pos_one, later, strict, same_by, nat}
use Rattle.whole_math.proofs.Order.{square_nn}
use Rattle.quadratic_form.proofs.Bound.{bound}
use Rattle.quadratic_form.proofs.NormalForm.{bounding_form_below}
use Rattle.quadratic_form.proofs.Decision.{decided}
use Rattle.quadratic_form.proofs.UpperSum.{sums_below}
use Rattle.whole_math.proofs.Over.{Over, over_whole, over_zero, over_add, over_sub, over_mul, over_times, over_wide, over_le, over_lt, over_box}
use Rattle.quadratic_form.specs.Forms.{Column, quad}
use Rattle.quadratic_form.specs.Elimination.{Factor, steps}
use Rattle.quadratic_form.specs.Rows.{SignalRow, WholeData, WholeBaseline, SignalGroup, WholeFits, WholeFitsAll, whole_residual, whole_residuals, share, whole_sum_of_squares, matrix, radii, bounding_form, columns_at, GroupsOf, first_rounding, value}
use Rattle.quadratic_form.specs.UpperSum.{upper_sum, top}
use Rattle.quadratic_form.specs.TwoLeast.{TwoLeast}
use Rattle.whole_math.specs.Rational.{Rational, ◌≤ʳ◌, ◌<ʳ◌, of_whole, ◌+ʳ◌, ◌-ʳ◌, ◌*ʳ◌}
use Rattle.quadratic_form.specs.RationalData.{RowData, Fits, FitsAll, residual, residuals, sum_of_squares, moved, IsBest}
use Rattle.whole_math.specs.Spread.{Baseline, sum_of_rationals, squared_norm_of_rationals, spread_of_rationals}
use Rattle.whole_math.specs.Vectors.{sum, squared_norm, dot, len}
use Rattle.whole_math.specs.Over.{AreOver}
use Rattle.quadratic_form.specs.Spread.{spread}

-- ---- data and baseline over one denominator
pub record OverDatum (d : ℤ) (t : WholeData) (q : RowData) : Type 0 where
  pub u1 : Over d t.u1 q.u1
  pub u2 : Over d t.u2 q.u2
  pub u3 : Over d t.u3 q.u3
  pub y : Over d t.y q.y

pub record OverBase (e : ℤ) (c : WholeBaseline) (b : Baseline) : Type 0 where
  pub b1 : Over e c.b1 b.b1
  pub b2 : Over e c.b2 b.b2
  pub b3 : Over e c.b3 b.b3

abbrev pub OverRows : ℤ → List WholeData → List RowData → Type 0
OverRows d [] [] = Unit {0}
OverRows d [] (q ∷ qs) = ⊥
OverRows d (t ∷ ts) [] = ⊥
OverRows d (t ∷ ts) (q ∷ qs) = OverDatum d t q × OverRows d ts qs

abbrev pub OverAll : ℤ → List (List WholeData) → List (List RowData) → Type 0
OverAll d [] [] = Unit {0}
OverAll d [] (q ∷ qs) = ⊥
OverAll d (t ∷ ts) [] = ⊥
OverAll d (t ∷ ts) (q ∷ qs) = OverRows d t q × OverAll d ts qs

-- ---- F over one denominator
residual_over : (d e : ℤ) (z : List ℤ) (c : WholeBaseline) (b : Baseline) (r : SignalRow) (t : WholeData) (q : RowData) → OverDatum d t q → OverBase e c b →
    Over (d *ℤ e) (whole_residual d e z c r t) (residual z b r q)
residual_over d e z c b r t q h k =
    over_add (d *ℤ e) _ _ (q.y -ʳ s) (of_whole (dot r.cycles z)) (over_sub (d *ℤ e) _ _ q.y s (over_wide d e t.y q.y h.y)
    (over_add (d *ℤ e) _ _ (q.u1 *ʳ b.b1) (q.u2 *ʳ b.b2 +ʳ q.u3 *ʳ b.b3) (over_mul d e _ _ q.u1 b.b1 h.u1 k.b1)
    (over_add (d *ℤ e) _ _ (q.u2 *ʳ b.b2) (q.u3 *ʳ b.b3) (over_mul d e _ _ q.u2 b.b2 h.u2 k.b2) (over_mul d e _ _ q.u3 b.b3 h.u3 k.b3))))
    (over_whole (d *ℤ e) (dot r.cycles z))
  where
    s : Rational
    s = q.u1 *ʳ b.b1 +ʳ (q.u2 *ʳ b.b2 +ʳ q.u3 *ʳ b.b3)

residuals_over : (d e : ℤ) (z : List ℤ) (c : WholeBaseline) (b : Baseline) (rs : List SignalRow) (ts : List WholeData) (qs : List RowData) → OverRows d ts qs → OverBase e c b →
    AreOver (d *ℤ e) (whole_residuals d e z c rs ts) (residuals z b rs qs)
residuals_over d e z c b [] ts qs h k = tt
residuals_over d e z c b (r ∷ rs) [] [] h k = tt
residuals_over d e z c b (r ∷ rs) [] (q ∷ qs) h k = absurd h
residuals_over d e z c b (r ∷ rs) (t ∷ ts) [] h k = absurd h
residuals_over d e z c b (r ∷ rs) (t ∷ ts) (q ∷ qs) h k = (residual_over d e z c b r t q h.0 k, residuals_over d e z c b rs ts qs h.1 k)

list_len : (k : ℤ) (t : List ℤ) (s : List Rational) → AreOver k t s → len t ≡ len s
list_len k [] [] h = refl
list_len k [] (q ∷ s) h = absurd h
list_len k (n ∷ t) [] h = absurd h
list_len k (n ∷ t) (q ∷ s) h = ap (λ m. pos 1 +ℤ m) (list_len k t s h.1)

sum_over : (k : ℤ) (t : List ℤ) (s : List Rational) → AreOver k t s → Over k (sum t) (sum_of_rationals s)
sum_over k [] [] h = over_zero k
sum_over k [] (q ∷ s) h = absurd h
sum_over k (n ∷ t) [] h = absurd h
sum_over k (n ∷ t) (q ∷ s) h = over_add k n (sum t) q (sum_of_rationals s) h.0 (sum_over k t s h.1)

sumsq_over : (k : ℤ) (t : List ℤ) (s : List Rational) → AreOver k t s → Over (k *ℤ k) (squared_norm t) (squared_norm_of_rationals s)
sumsq_over k [] [] h = over_zero (k *ℤ k)
sumsq_over k [] (q ∷ s) h = absurd h
sumsq_over k (n ∷ t) [] h = absurd h
sumsq_over k (n ∷ t) (q ∷ s) h = over_add (k *ℤ k) (n *ℤ n) (squared_norm t) (q *ʳ q) (squared_norm_of_rationals s) (over_mul k k n n q q h.0 h.0) (sumsq_over k t s h.1)

pub spread_over : (k : ℤ) (t : List ℤ) (s : List Rational) → AreOver k t s → Over (k *ℤ k) (spread t) (spread_of_rationals s)
spread_over k t s h = over_sub (k *ℤ k) (len t *ℤ squared_norm t) (sum t *ℤ sum t) (of_whole (len s) *ʳ squared_norm_of_rationals s) (sum_of_rationals s *ʳ sum_of_rationals s)
    (subst (λ (n : ℤ). Over (k *ℤ k) (len t *ℤ squared_norm t) (of_whole n *ʳ squared_norm_of_rationals s)) (list_len k t s h)
    (over_times (k *ℤ k) (len t) (squared_norm t) (squared_norm_of_rationals s) (sumsq_over k t s h)))
    (over_mul k k (sum t) (sum t) (sum_of_rationals s) (sum_of_rationals s) (sum_over k t s h) (sum_over k t s h))

pub F_over : (d e : ℤ) (z : List ℤ) (c : WholeBaseline) (b : Baseline) (gs : List SignalGroup) (ts : List (List WholeData)) (qs : List (List RowData)) → OverAll d ts qs → OverBase e c b →
    Over ((d *ℤ e) *ℤ (d *ℤ e)) (whole_sum_of_squares d e z c gs ts) (sum_of_squares z b gs qs)
F_over d e z c b [] ts qs h k = over_zero ((d *ℤ e) *ℤ (d *ℤ e))
F_over d e z c b (g ∷ gs) [] [] h k = over_zero ((d *ℤ e) *ℤ (d *ℤ e))
F_over d e z c b (g ∷ gs) [] (q ∷ qs) h k = absurd h
F_over d e z c b (g ∷ gs) (t ∷ ts) [] h k = absurd h
F_over d e z c b (g ∷ gs) (t ∷ ts) (q ∷ qs) h k = over_add ((d *ℤ e) *ℤ (d *ℤ e)) _ _ (of_whole (share g) *ʳ spread_of_rationals (residuals z b g.rows q)) (sum_of_squares z b gs qs)
    (over_times ((d *ℤ e) *ℤ (d *ℤ e)) (share g) (spread (whole_residuals d e z c g.rows t)) (spread_of_rationals (residuals z b g.rows q))
    (spread_over (d *ℤ e) (whole_residuals d e z c g.rows t) (residuals z b g.rows q) (residuals_over d e z c b g.rows t q h.0 k)))
    (F_over d e z c b gs ts qs h.1 k)

-- ---- a common denominator
pub record CommonDatum (q : RowData) : Type 0 where
  pub d : ℕ
  pub positive : 0 < d
  pub over : WholeData
  pub is : OverDatum (pos d) over q

pub record CommonRows (qs : List RowData) : Type 0 where
  pub d : ℕ
  pub positive : 0 < d
  pub over : List WholeData
  pub is : OverRows (pos d) over qs

pub record CommonAll (qs : List (List RowData)) : Type 0 where
  pub d : ℕ
  pub positive : 0 < d
  pub over : List (List WholeData)
  pub is : OverAll (pos d) over qs

pub record CommonBase (b : Baseline) : Type 0 where
  pub d : ℕ
  pub positive : 0 < d
  pub over : WholeBaseline
  pub is : OverBase (pos d) over b

abbrev pub wide : ℤ → WholeData → WholeData
wide k t = record { u1 = t.u1 *ℤ k; u2 = t.u2 *ℤ k; u3 = t.u3 *ℤ k; y = t.y *ℤ k }

abbrev pub wide_rows : ℤ → List WholeData → List WholeData
wide_rows k [] = []
wide_rows k (t ∷ ts) = wide k t ∷ wide_rows k ts

abbrev pub wide_all : ℤ → List (List WholeData) → List (List WholeData)
wide_all k [] = []
wide_all k (t ∷ ts) = wide_rows k t ∷ wide_all k ts

pub wide_is : (j k : ℤ) (t : WholeData) (q : RowData) → OverDatum j t q → OverDatum (j *ℤ k) (wide k t) q
wide_is j k t q h = record { u1 = over_wide j k t.u1 q.u1 h.u1; u2 = over_wide j k t.u2 q.u2 h.u2; u3 = over_wide j k t.u3 q.u3 h.u3; y = over_wide j k t.y q.y h.y }

pub wide_rows_is : (j k : ℤ) (ts : List WholeData) (qs : List RowData) → OverRows j ts qs → OverRows (j *ℤ k) (wide_rows k ts) qs
wide_rows_is j k [] [] h = tt
wide_rows_is j k [] (q ∷ qs) h = absurd h
wide_rows_is j k (t ∷ ts) [] h = absurd h
wide_rows_is j k (t ∷ ts) (q ∷ qs) h = (wide_is j k t q h.0, wide_rows_is j k ts qs h.1)

pub wide_all_is : (j k : ℤ) (ts : List (List WholeData)) (qs : List (List RowData)) → OverAll j ts qs → OverAll (j *ℤ k) (wide_all k ts) qs
wide_all_is j k [] [] h = tt
wide_all_is j k [] (q ∷ qs) h = absurd h
wide_all_is j k (t ∷ ts) [] h = absurd h
wide_all_is j k (t ∷ ts) (q ∷ qs) h = (wide_rows_is j k t q h.0, wide_all_is j k ts qs h.1)

pub swap : (j k : ℕ) → pos j *ℤ pos k ≡ pos k *ℤ pos j
swap j k = same_by (pos j ∷ pos k ∷ []) (λ j k. (j ⊗ k, k ⊗ j)) refl

pub common_datum : (q : RowData) → CommonDatum q
common_datum q = record {
  d = (q.u1.den * q.u2.den) * (q.u3.den * q.y.den);
  positive = mul-pos (mul-pos q.u1.positive q.u2.positive) (mul-pos q.u3.positive q.y.positive);
  over = record {
    u1 = q.u1.num *ℤ (pos q.u2.den *ℤ (pos q.u3.den *ℤ pos q.y.den));
    u2 = q.u2.num *ℤ (pos q.u1.den *ℤ (pos q.u3.den *ℤ pos q.y.den));
    u3 = q.u3.num *ℤ (pos q.u1.den *ℤ (pos q.u2.den *ℤ pos q.y.den));
    y = q.y.num *ℤ (pos q.u1.den *ℤ (pos q.u2.den *ℤ pos q.u3.den));
  };
  is = record {
    u1 = one q.u1.num (pos q.u1.den) (pos q.u2.den) (pos q.u3.den) (pos q.y.den);
    u2 = two q.u2.num (pos q.u1.den) (pos q.u2.den) (pos q.u3.den) (pos q.y.den);
    u3 = three q.u3.num (pos q.u1.den) (pos q.u2.den) (pos q.u3.den) (pos q.y.den);
    y = last q.y.num (pos q.u1.den) (pos q.u2.den) (pos q.u3.den) (pos q.y.den);
  };
}
  where
    one : (n a b c e : ℤ) → n *ℤ (a *ℤ b *ℤ (c *ℤ e)) ≡ n *ℤ (b *ℤ (c *ℤ e)) *ℤ a
    one n a b c e = same_by (n ∷ a ∷ b ∷ c ∷ e ∷ []) (λ n a b c e. (n ⊗ (a ⊗ b ⊗ (c ⊗ e)), n ⊗ (b ⊗ (c ⊗ e)) ⊗ a)) refl

    two : (n a b c e : ℤ) → n *ℤ (a *ℤ b *ℤ (c *ℤ e)) ≡ n *ℤ (a *ℤ (c *ℤ e)) *ℤ b
    two n a b c e = same_by (n ∷ a ∷ b ∷ c ∷ e ∷ []) (λ n a b c e. (n ⊗ (a ⊗ b ⊗ (c ⊗ e)), n ⊗ (a ⊗ (c ⊗ e)) ⊗ b)) refl

    three : (n a b c e : ℤ) → n *ℤ (a *ℤ b *ℤ (c *ℤ e)) ≡ n *ℤ (a *ℤ (b *ℤ e)) *ℤ c
    three n a b c e = same_by (n ∷ a ∷ b ∷ c ∷ e ∷ []) (λ n a b c e. (n ⊗ (a ⊗ b ⊗ (c ⊗ e)), n ⊗ (a ⊗ (b ⊗ e)) ⊗ c)) refl

    last : (n a b c e : ℤ) → n *ℤ (a *ℤ b *ℤ (c *ℤ e)) ≡ n *ℤ (a *ℤ (b *ℤ c)) *ℤ e
    last n a b c e = same_by (n ∷ a ∷ b ∷ c ∷ e ∷ []) (λ n a b c e. (n ⊗ (a ⊗ b ⊗ (c ⊗ e)), n ⊗ (a ⊗ (b ⊗ c)) ⊗ e)) refl

pub common_rows : (qs : List RowData) → CommonRows qs
common_rows [] = record { d = 1; positive = omega arith; over = []; is = tt }
common_rows (q ∷ qs) =
    let datum_common : CommonDatum q = common_datum q in
    let rows_common : CommonRows qs = common_rows qs in
    record {
      d = datum_common.d * rows_common.d;
      positive = mul-pos datum_common.positive rows_common.positive;
      over = wide (pos rows_common.d) datum_common.over ∷ wide_rows (pos datum_common.d) rows_common.over;
      is = (wide_is (pos datum_common.d) (pos rows_common.d) datum_common.over q datum_common.is, subst (λ (n : ℤ). OverRows n (wide_rows (pos datum_common.d) rows_common.over) qs) (swap rows_common.d datum_common.d) (wide_rows_is (pos rows_common.d) (pos datum_common.d) rows_common.over qs rows_common.is));
    }

pub common : (qs : List (List RowData)) → CommonAll qs
common [] = record { d = 1; positive = omega arith; over = []; is = tt }
common (q ∷ qs) =
    let rows_common : CommonRows q = common_rows q in
    let all_common : CommonAll qs = common qs in
    record {
      d = rows_common.d * all_common.d;
      positive = mul-pos rows_common.positive all_common.positive;
      over = wide_rows (pos all_common.d) rows_common.over ∷ wide_all (pos rows_common.d) all_common.over;
      is = (wide_rows_is (pos rows_common.d) (pos all_common.d) rows_common.over q rows_common.is, subst (λ (n : ℤ). OverAll n (wide_all (pos rows_common.d) all_common.over) qs) (swap all_common.d rows_common.d) (wide_all_is (pos all_common.d) (pos rows_common.d) all_common.over qs all_common.is));
    }

pub common_base : (b : Baseline) → CommonBase b
common_base b = record {
  d = b.b1.den * (b.b2.den * b.b3.den);
  positive = mul-pos b.b1.positive (mul-pos b.b2.positive b.b3.positive);
  over = record { b1 = b.b1.num *ℤ (pos b.b2.den *ℤ pos b.b3.den); b2 = b.b2.num *ℤ (pos b.b1.den *ℤ pos b.b3.den); b3 = b.b3.num *ℤ (pos b.b1.den *ℤ pos b.b2.den) };
  is = record {
    b1 = one b.b1.num (pos b.b1.den) (pos b.b2.den) (pos b.b3.den);
    b2 = two b.b2.num (pos b.b1.den) (pos b.b2.den) (pos b.b3.den);
    b3 = three b.b3.num (pos b.b1.den) (pos b.b2.den) (pos b.b3.den);
  };
}
  where
    one : (n a b c : ℤ) → n *ℤ (a *ℤ (b *ℤ c)) ≡ n *ℤ (b *ℤ c) *ℤ a
    one n a b c = same_by (n ∷ a ∷ b ∷ c ∷ []) (λ n a b c. (n ⊗ (a ⊗ (b ⊗ c)), n ⊗ (b ⊗ c) ⊗ a)) refl

    two : (n a b c : ℤ) → n *ℤ (a *ℤ (b *ℤ c)) ≡ n *ℤ (a *ℤ c) *ℤ b
    two n a b c = same_by (n ∷ a ∷ b ∷ c ∷ []) (λ n a b c. (n ⊗ (a ⊗ (b ⊗ c)), n ⊗ (a ⊗ c) ⊗ b)) refl

    three : (n a b c : ℤ) → n *ℤ (a *ℤ (b *ℤ c)) ≡ n *ℤ (a *ℤ b) *ℤ c
    three n a b c = same_by (n ∷ a ∷ b ∷ c ∷ []) (λ n a b c. (n ⊗ (a ⊗ (b ⊗ c)), n ⊗ (a ⊗ b) ⊗ c)) refl

pub fits_over : (d : ℤ) (rs : List SignalRow) (ts : List WholeData) (qs : List RowData) → pos 0 ≤ℤ d → OverRows d ts qs → Fits rs qs → WholeFits d rs ts
fits_over d [] [] qs i h f = tt
fits_over d [] (t ∷ ts) [] i h f = absurd h
fits_over d [] (t ∷ ts) (q ∷ qs) i h f = absurd f
fits_over d (r ∷ rs) [] [] i h f = absurd f
fits_over d (r ∷ rs) [] (q ∷ qs) i h f = absurd h
fits_over d (r ∷ rs) (t ∷ ts) [] i h f = absurd h
fits_over d (r ∷ rs) (t ∷ ts) (q ∷ qs) i h f = (
  record {
    u1 = over_box d t.u1 r.u1 r.ru1 q.u1 i h.0.u1 f.0.0;
    u2 = over_box d t.u2 r.u2 r.ru2 q.u2 i h.0.u2 f.0.1;
    u3 = over_box d t.u3 r.u3 r.ru3 q.u3 i h.0.u3 f.0.2;
    y = over_box d t.y r.y r.ry q.y i h.0.y f.0.3;
  },
  fits_over d rs ts qs i h.1 f.1,
)

pub fits_all_over : (d : ℤ) (gs : List SignalGroup) (ts : List (List WholeData)) (qs : List (List RowData)) → pos 0 ≤ℤ d → OverAll d ts qs → FitsAll gs qs → WholeFitsAll d gs ts
fits_all_over d [] [] qs i h f = tt
fits_all_over d [] (t ∷ ts) [] i h f = absurd h
fits_all_over d [] (t ∷ ts) (q ∷ qs) i h f = absurd f
fits_all_over d (g ∷ gs) [] [] i h f = absurd f
fits_all_over d (g ∷ gs) [] (q ∷ qs) i h f = absurd h
fits_all_over d (g ∷ gs) (t ∷ ts) [] i h f = absurd h
fits_all_over d (g ∷ gs) (t ∷ ts) (q ∷ qs) i h f = (fits_over d g.rows t q i h.0 f.0, fits_all_over d gs ts qs i h.1 f.1)

-- ---- the bound and the decision
-- 64 F is at least 2^h P(z), for all rational data in the boxes, all integers and all rational baselines
pub bound_over_rationals : (h : ℕ) (z : List ℤ) (b : Baseline) (gs : List SignalGroup) (qs : List (List RowData)) (p : List Factor × List Column) →
    GroupsOf (len z) gs → FitsAll gs qs → steps 0 3 (first_rounding h (length z) gs) ≡ Ok p →
    of_whole (pos (2 ^ h) *ℤ value p.1 z) ≤ʳ of_whole (pos 64) *ʳ sum_of_squares z b gs qs
bound_over_rationals h z b gs qs p g f s =
    over_le 1 q (pos (2 ^ h) *ℤ value p.1 z) (pos 64 *ℤ n) (of_whole (pos (2 ^ h) *ℤ value p.1 z)) (of_whole (pos 64) *ʳ sum_of_squares z b gs qs)
    (omega arith) (mul-pos (mul-pos t.positive c.positive) (mul-pos t.positive c.positive)) refl
    (over_times (pos q) (pos 64) n (sum_of_squares z b gs qs) (F_over (pos t.d) (pos c.d) z c.over b gs t.over qs t.is c.is))
    (step (pos t.d) (pos c.d) (pos (2 ^ h) *ℤ value p.1 z) n (bound (pos t.d) (pos c.d) h z c.over gs t.over p g (fits_all_over (pos t.d) gs t.over qs (pos_nn t.d) t.is f) s))
  where
    t : CommonAll qs
    t = common qs

    c : CommonBase b
    c = common_base b

    q : ℕ
    q = (t.d * c.d) * (t.d * c.d)

    n : ℤ
    n = whole_sum_of_squares (pos t.d) (pos c.d) z c.over gs t.over

    step : (d e v f : ℤ) → (d *ℤ e *ℤ (d *ℤ e) *ℤ v) ≤ℤ (pos 64 *ℤ f) → (v *ℤ (d *ℤ e *ℤ (d *ℤ e))) ≤ℤ (pos 64 *ℤ f *ℤ pos 1)
    step d e v f h = le_by (v ∷ d ∷ e ∷ f ∷ []) (λ v d e f. (v ⊗ (d ⊗ e ⊗ (d ⊗ e)), nat 64 ⊗ f ⊗ nat 1, nat 64 ⊗ f ⊖ d ⊗ e ⊗ (d ⊗ e) ⊗ v)) refl (less_nn h)

-- 64 F is at least the bounding form at the columns, over the square of the denominator e of the baseline
pub bounding_over_rationals : (e : ℕ) (z : List ℤ) (c : WholeBaseline) (b : Baseline) (gs : List SignalGroup) (qs : List (List RowData)) (r : Rational) → 0 < e → OverBase (pos e) c b →
    GroupsOf (len z) gs → FitsAll gs qs → Over (pos (e * e)) (quad (bounding_form (length z) (matrix (length z) gs) (radii gs)) (columns_at (pos e) z c)) r →
    r ≤ʳ of_whole (pos 64) *ʳ sum_of_squares z b gs qs
bounding_over_rationals e z c b gs qs r h o g f w =
    over_le (e * e) q v (pos 64 *ℤ n) r (of_whole (pos 64) *ʳ sum_of_squares z b gs qs) (mul-pos h h) (mul-pos (mul-pos t.positive h) (mul-pos t.positive h)) w
    (over_times (pos q) (pos 64) n (sum_of_squares z b gs qs) (F_over (pos t.d) (pos e) z c b gs t.over qs t.is o))
    (step (pos t.d) (pos e) v n (bounding_form_below (pos t.d) (pos e) z c gs t.over g (fits_all_over (pos t.d) gs t.over qs (pos_nn t.d) t.is f)))
  where
    t : CommonAll qs
    t = common qs

    q : ℕ
    q = (t.d * e) * (t.d * e)

    v : ℤ
    v = quad (bounding_form (length z) (matrix (length z) gs) (radii gs)) (columns_at (pos e) z c)

    n : ℤ
    n = whole_sum_of_squares (pos t.d) (pos e) z c gs t.over

    step : (d e v f : ℤ) → (d *ℤ d *ℤ v) ≤ℤ (pos 64 *ℤ f) → (v *ℤ (d *ℤ e *ℤ (d *ℤ e))) ≤ℤ (pos 64 *ℤ f *ℤ (e *ℤ e))
    step d e v f h = le_by (v ∷ d ∷ e ∷ f ∷ []) (λ v d e f. (v ⊗ (d ⊗ e ⊗ (d ⊗ e)), nat 64 ⊗ f ⊗ (e ⊗ e), (nat 64 ⊗ f ⊖ d ⊗ d ⊗ v) ⊗ (e ⊗ e))) refl (prod_nn (less_nn h) (square_nn e))

-- the sum of squares at the integers z and the move m is at most the upper sum, for all rational data in the boxes
pub upper_over_rationals : (z : List ℤ) (m : WholeBaseline) (gs : List SignalGroup) (qs : List (List RowData)) → GroupsOf (len z) gs → FitsAll gs qs →
    sum_of_squares z (moved m) gs qs ≤ʳ of_whole (upper_sum z m gs)
upper_over_rationals z m gs qs g f =
    over_le q 1 n (upper_sum z m gs) (sum_of_squares z (moved m) gs qs) (of_whole (upper_sum z m gs))
    (mul-pos (mul-pos t.positive (pow_pos 16)) (mul-pos t.positive (pow_pos 16))) (omega arith)
    (F_over (pos t.d) (pos (2 ^ 16)) z m (moved m) gs t.over qs t.is (record { b1 = refl; b2 = refl; b3 = refl })) refl
    (step (pos t.d *ℤ pos (2 ^ 16)) n (upper_sum z m gs) (sums_below (len z) (pos t.d) z m gs t.over (pos_nn t.d) g (fits_all_over (pos t.d) gs t.over qs (pos_nn t.d) t.is f)))
  where
    t : CommonAll qs
    t = common qs

    q : ℕ
    q = (t.d * 2 ^ 16) * (t.d * 2 ^ 16)

    n : ℤ
    n = whole_sum_of_squares (pos t.d) (pos (2 ^ 16)) z m gs t.over

    step : (k n u : ℤ) → n ≤ℤ (k *ℤ k *ℤ u) → (n *ℤ pos 1) ≤ℤ (u *ℤ (k *ℤ k))
    step k n u h = le_by (n ∷ u ∷ k ∷ []) (λ n u k. (n ⊗ nat 1, u ⊗ (k ⊗ k), k ⊗ k ⊗ u ⊖ n)) refl (less_nn h)

pub decided_best : (h : ℕ) (ratio : ℤ) (z1 z2 : List ℤ) (m : WholeBaseline) (gs : List SignalGroup) (p : List Factor × List Column) →
    GroupsOf (len z1) gs → steps 0 3 (first_rounding h (length z1) gs) ≡ Ok p → TwoLeast p.1 (len z1) z1 z2 →
    pos 1000 ≤ℤ ratio → (pos 64 *ℤ (ratio *ℤ top h z1 m gs)) <ℤ (pos 1000 *ℤ value p.1 z2) → IsBest gs z1 m
decided_best h ratio z1 z2 m gs p g s t r c = record {
  best = λ (qs : List (List RowData)) (f : FitsAll gs qs) (v : List ℤ) (k : len v ≡ len z1) (o : v ≡ z1 → ⊥) (b : Baseline).
      go qs f v k o b (common qs) (common_base b);
}
  where
    go : (qs : List (List RowData)) → FitsAll gs qs → (v : List ℤ) → len v ≡ len z1 → (v ≡ z1 → ⊥) → (b : Baseline) → CommonAll qs → CommonBase b →
        sum_of_squares z1 (moved m) gs qs <ʳ sum_of_squares v b gs qs
    go qs f v k o b w u = over_lt ((w.d * 2 ^ 16) * (w.d * 2 ^ 16)) ((w.d * u.d) * (w.d * u.d))
        (whole_sum_of_squares (pos w.d) (pos (2 ^ 16)) z1 m gs w.over) (whole_sum_of_squares (pos w.d) (pos u.d) v u.over gs w.over) (sum_of_squares z1 (moved m) gs qs) (sum_of_squares v b gs qs)
        (mul-pos (mul-pos w.positive (pow_pos 16)) (mul-pos w.positive (pow_pos 16))) (mul-pos (mul-pos w.positive u.positive) (mul-pos w.positive u.positive))
        (F_over (pos w.d) (pos (2 ^ 16)) z1 m (moved m) gs w.over qs w.is moved_over) (F_over (pos w.d) (pos u.d) v u.over b gs w.over qs w.is u.is)
        (last w.d (pos u.d) _ _ w.positive
        (decided w.d u.d h ratio z1 z2 v m u.over gs w.over p w.positive u.positive g (fits_all_over (pos w.d) gs w.over qs (pos_nn w.d) w.is f) s t r c k o))
      where
        moved_over : OverBase (pos (2 ^ 16)) m (moved m)
        moved_over = record { b1 = refl; b2 = refl; b3 = refl }

        last : (d : ℕ) (e a b : ℤ) → 0 < d → (a *ℤ (e *ℤ e)) <ℤ (b *ℤ (pos (2 ^ 16) *ℤ pos (2 ^ 16))) → (a *ℤ (pos d *ℤ e *ℤ (pos d *ℤ e))) <ℤ (b *ℤ (pos d *ℤ pos (2 ^ 16) *ℤ (pos d *ℤ pos (2 ^ 16))))
        last d e a b h i = strict (pos_one (d * d) (mul-pos h h))
            (le_by (a ∷ pos d ∷ e ∷ b ∷ []) (λ a d e b. (
              a ⊗ (d ⊗ e ⊗ (d ⊗ e)) ⊕ d ⊗ d,
              b ⊗ (d ⊗ nat (2 ^ 16) ⊗ (d ⊗ nat (2 ^ 16))),
              d ⊗ d ⊗ (b ⊗ (nat (2 ^ 16) ⊗ nat (2 ^ 16)) ⊖ (a ⊗ (e ⊗ e) ⊕ nat 1)),
            )) refl (prod_nn (pos_nn (d * d)) (less_nn (later i))))
