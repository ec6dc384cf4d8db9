-- What the boxes hold, step by step.
use Rattle.std.proofs.Common.{◌≡◌, ℕ, Bool, true, false, not, IsTrue, cond, ◌+◌, ◌*◌, ◌^◌, ◌<◌, [], ◌∷◌, ℤ, pos, ◌+ℤ◌, ◌-ℤ◌, ◌*ℤ◌, neg_ℤ, ◌≤ℤ◌, ◌<ℤ◌, unsigned_abs, arith, refl, sym, subst, lit<, pow_pos, ⊎_elim}
use Rattle.std.proofs.lemmas.Int.{ints}
use Rattle.std.proofs.lemmas.Bool.{false≢true}
use Rattle.whole_math.specs.Rounding.{floor_div, ceil_div, IsFloor, IsCeil}
use Rattle.whole_math.proofs.Rounding.{floor_is, ceil_is, floor_le_ceil}
use Rattle.whole_math.proofs.IntLaws.{mul_one_ℤ}
use Rattle.whole_math.proofs.Ring.{◌⊗◌}
use Rattle.whole_math.proofs.Order.{lins, mul_le_right}
use Rattle.whole_math.proofs.Inequalities.{same_by, pos_nn, le_refl_ℤ, le_eq}
use Rattle.whole_math.specs.Rational.{Rational, of_whole, ◌-ʳ◌, ◌*ʳ◌, divided, Near, InBox}
use Rattle.whole_math.proofs.Boxes.{wider}
use Rattle.iv_core.proofs.SumLaws.{sub_holds}
use Rattle.obs_rows.specs.Ranges.{IsScale}
use Rattle.obs_rows.specs.Signals.{wavelength, is_phase}
use Rattle.obs_rows.specs.declared.units.TheConstants.{LIGHT_SPEED, ROW_EXPONENT}
use Rattle.row_boxes.specs.declared.pseudoranges.TheConstants.{METRE_UNITS, HALF_LIGHT_SPEED}
use Rattle.row_boxes.specs.declared.prefits.TheConstants.{MILLIMETRE_UNITS}
use Rattle.row_boxes.specs.Terms.{prefit_width, y_width, pseudorange, iota_exponent}
use Rattle.row_boxes.specs.Sightings.{metre, light_speed, observed, row_unit, in_row_unit}
use Rattle.row_boxes.specs.YBoxes.{most_radius, MeetsOne}
use Rattle.row_boxes.proofs.Scaling.{scaled_box}
use Rattle.row_boxes.proofs.Ends.{scale_cases}

-- ---- exact steps
-- a whole multiple
times_low : (a x n k d : ℤ) → pos 0 ≤ℤ n → (a *ℤ d) ≤ℤ (x *ℤ k) → ((a *ℤ n) *ℤ d) ≤ℤ ((n *ℤ x) *ℤ k)
times_low a x n k d n0 h = step ((a *ℤ d) *ℤ n) ((x *ℤ k) *ℤ n) ((a *ℤ n) *ℤ d) ((n *ℤ x) *ℤ k) (mul_le_right n (a *ℤ d) (x *ℤ k) n0 h)
    (same_by (a ∷ n ∷ d ∷ []) (λ a n d. ((a ⊗ n) ⊗ d, (a ⊗ d) ⊗ n)) refl) (same_by (n ∷ x ∷ k ∷ []) (λ n x k. ((n ⊗ x) ⊗ k, (x ⊗ k) ⊗ n)) refl)
  where
    step : (p q r s : ℤ) → p ≤ℤ q → r ≡ p → s ≡ q → r ≤ℤ s
    step p q r s h e f = omega (arith, lins)

times_high : (a x n k d : ℤ) → pos 0 ≤ℤ n → (x *ℤ k) ≤ℤ (a *ℤ d) → ((n *ℤ x) *ℤ k) ≤ℤ ((a *ℤ n) *ℤ d)
times_high a x n k d n0 h = step ((x *ℤ k) *ℤ n) ((a *ℤ d) *ℤ n) ((n *ℤ x) *ℤ k) ((a *ℤ n) *ℤ d) (mul_le_right n (x *ℤ k) (a *ℤ d) n0 h)
    (same_by (n ∷ x ∷ k ∷ []) (λ n x k. ((n ⊗ x) ⊗ k, (x ⊗ k) ⊗ n)) refl) (same_by (a ∷ n ∷ d ∷ []) (λ a n d. ((a ⊗ n) ⊗ d, (a ⊗ d) ⊗ n)) refl)
  where
    step : (p q r s : ℤ) → p ≤ℤ q → r ≡ p → s ≡ q → r ≤ℤ s
    step p q r s h e f = omega (arith, lins)

of_light : (lo hi : ℤ) (t : Rational) → InBox 60 lo hi t → InBox 60 (lo *ℤ LIGHT_SPEED) (hi *ℤ LIGHT_SPEED) (light_speed *ʳ t)
of_light lo hi t h = (
  times_low lo t.num LIGHT_SPEED (pos (2 ^ 60)) (pos (1 * t.den)) (pos_nn (unsigned_abs LIGHT_SPEED)) (rw (one t.den) h.0),
  times_high hi t.num LIGHT_SPEED (pos (2 ^ 60))
      (pos (1 * t.den)) (pos_nn (unsigned_abs LIGHT_SPEED)) (rw (one t.den) h.1),
)
  where
    one : (d : ℕ) → 1 * d ≡ d
    one d = omega arith

-- from 2^-36 to 2^-60
finer : (lo hi : ℤ) (r : Rational) → InBox 36 lo hi r → InBox 60 (lo *ℤ pos (2 ^ 24)) (hi *ℤ pos (2 ^ 24)) r
finer lo hi r h = (
  low lo (pos r.den) (r.num) h.0,
  high hi (pos r.den) (r.num) h.1,
)
  where
    same : (l d : ℤ) → (l *ℤ pos (2 ^ 24)) *ℤ d ≡ (l *ℤ d) *ℤ pos (2 ^ 24)
    same l d = same_by (l ∷ d ∷ pos (2 ^ 24) ∷ []) (λ l d n. ((l ⊗ n) ⊗ d, (l ⊗ d) ⊗ n)) refl

    step : (p x q : ℤ) → p ≤ℤ (x *ℤ pos (2 ^ 36)) → q ≡ p *ℤ pos (2 ^ 24) → q ≤ℤ (x *ℤ pos (2 ^ 60))
    step p x q h e = omega (arith, ints)

    step' : (p x q : ℤ) → (x *ℤ pos (2 ^ 36)) ≤ℤ p → q ≡ p *ℤ pos (2 ^ 24) → (x *ℤ pos (2 ^ 60)) ≤ℤ q
    step' p x q h e = omega (arith, ints)

    low : (l d x : ℤ) → (l *ℤ d) ≤ℤ (x *ℤ pos (2 ^ 36)) → ((l *ℤ pos (2 ^ 24)) *ℤ d) ≤ℤ (x *ℤ pos (2 ^ 60))
    low l d x h = step (l *ℤ d) x ((l *ℤ pos (2 ^ 24)) *ℤ d) h (same l d)

    high : (l d x : ℤ) → (x *ℤ pos (2 ^ 36)) ≤ℤ (l *ℤ d) → (x *ℤ pos (2 ^ 60)) ≤ℤ ((l *ℤ pos (2 ^ 24)) *ℤ d)
    high l d x h = step' (l *ℤ d) x ((l *ℤ pos (2 ^ 24)) *ℤ d) h (same l d)

pub pseudorange_holds : (rl rh tl th f g : ℤ) (r t : Rational) →
    IsFloor (((rl *ℤ pos (2 ^ 24)) -ℤ (th *ℤ LIGHT_SPEED)) *ℤ pos METRE_UNITS) (HALF_LIGHT_SPEED * 2 ^ 39) f →
    IsCeil (((rh *ℤ pos (2 ^ 24)) -ℤ (tl *ℤ LIGHT_SPEED)) *ℤ pos METRE_UNITS) (HALF_LIGHT_SPEED * 2 ^ 39) g →
    InBox 36 rl rh r → InBox 60 tl th t → InBox iota_exponent f g (pseudorange r t)
pseudorange_holds rl rh tl th f g r t k l h i =
    scaled_box 60 15 ((rl *ℤ pos (2 ^ 24)) -ℤ (th *ℤ LIGHT_SPEED)) ((rh *ℤ pos (2 ^ 24)) -ℤ (tl *ℤ LIGHT_SPEED)) (pos METRE_UNITS) f g (HALF_LIGHT_SPEED * 2 ^ 39) metre (r -ʳ light_speed *ʳ t)
    (lit< tt) (pos_nn METRE_UNITS) refl k l (sub_holds 60 (rl *ℤ pos (2 ^ 24)) (rh *ℤ pos (2 ^ 24)) (tl *ℤ LIGHT_SPEED) (th *ℤ LIGHT_SPEED) r (light_speed *ʳ t) (finer rl rh r h) (of_light tl th t i))

-- ---- observed
whole_in : (a : ℤ) → InBox 0 a a (of_whole a)
whole_in a = (le_refl_ℤ (a *ℤ pos 1), le_refl_ℤ (a *ℤ pos 1))

pub observed_code : (s : ℕ) (a f g : ℤ) → IsTrue (not (is_phase s)) → IsFloor (a *ℤ MILLIMETRE_UNITS) HALF_LIGHT_SPEED f → IsCeil (a *ℤ MILLIMETRE_UNITS) HALF_LIGHT_SPEED g → InBox iota_exponent f g (observed s a)
observed_code s a f g c k l = by_kind (is_phase s) c
  where
    by_kind : (b : Bool) → IsTrue (not b) → InBox iota_exponent f g (cond b (divided (of_whole (wavelength s)) 1000 (lit< tt)) (divided metre 1000 (lit< tt)) *ʳ of_whole a)
    by_kind true h = absurd (false≢true h)
    by_kind false h = scaled_box 0 15 a a MILLIMETRE_UNITS f g HALF_LIGHT_SPEED (divided metre 1000 (lit< tt)) (of_whole a) (lit< tt) (pos_nn 35620120166400) refl k l (whole_in a)

-- ---- observed less computed
pub prefit_holds : (hl hh bl bh rl rh : ℤ) (o b r : Rational) → InBox iota_exponent hl hh o → InBox iota_exponent bl bh b
    → InBox iota_exponent rl rh r → InBox iota_exponent (hl -ℤ (rh -ℤ bl)) (hh -ℤ (rl -ℤ bh)) (o -ʳ (r -ʳ b))
prefit_holds hl hh bl bh rl rh o b r h i j = sub_holds 15 hl hh (rl -ℤ bh) (rh -ℤ bl) o (r -ʳ b) h (sub_holds 15 rl rh bl bh r b j i)

-- ---- in the unit of a row
unit_is : (s : ℕ) → IsScale s → (pos 1 *ℤ pos (2 ^ s)) *ℤ pos (2 ^ 15) ≡ (pos (2 ^ ROW_EXPONENT) *ℤ pos (2 ^ 0)) *ℤ pos (2 ^ (s + 2))
unit_is s h = ⊎_elim (λ (e : s ≡ 0). subst (λ (i : ℕ). (pos 1 *ℤ pos (2 ^ i)) *ℤ pos (2 ^ 15) ≡ (pos (2 ^ ROW_EXPONENT) *ℤ pos (2 ^ 0)) *ℤ pos (2 ^ (i + 2))) (sym e) refl)
    (λ (e : s ≡ 14). subst (λ (i : ℕ). (pos 1 *ℤ pos (2 ^ i)) *ℤ pos (2 ^ 15) ≡ (pos (2 ^ ROW_EXPONENT) *ℤ pos (2 ^ 0)) *ℤ pos (2 ^ (i + 2))) (sym e) refl) (scale_cases s h)

pub whole_at : (w : ℤ) → InBox iota_exponent (w *ℤ pos 32768) (w *ℤ pos 32768) (of_whole w)
whole_at w = (same (w *ℤ pos 32768), same' (w *ℤ pos 32768))
  where
    same : (x : ℤ) → (x *ℤ pos 1) ≤ℤ x
    same x = omega (arith, ints)

    same' : (x : ℤ) → x ≤ℤ (x *ℤ pos 1)
    same' x = omega (arith, ints)

-- the ends after a whole number of ι is taken off, and the middle and radius of a box around them
pub record AreYEnds (s : ℕ) (lo hi w c r : ℤ) : Type 0 where
  pub scale : IsScale s
  pub ordered : lo ≤ℤ hi
  pub narrow : (hi -ℤ lo) ≤ℤ prefit_width
  pub top : c +ℤ r ≡ ceil_div (hi -ℤ (w *ℤ pos 32768)) (2 ^ (s + 2))
  pub bottom : (c -ℤ r) ≤ℤ floor_div (lo -ℤ (w *ℤ pos 32768)) (2 ^ (s + 2))
  pub half : (pos 2 *ℤ r) ≤ℤ ((ceil_div (hi -ℤ (w *ℤ pos 32768)) (2 ^ (s + 2)) -ℤ floor_div (lo -ℤ (w *ℤ pos 32768)) (2 ^ (s + 2))) +ℤ pos 1)

pub y_holds : (s : ℕ) (lo hi w c r : ℤ) (q : Rational) → AreYEnds s lo hi w c r → InBox iota_exponent lo hi q → Near c r (in_row_unit s (q -ʳ of_whole w))
y_holds s lo hi w c r q a h =
    let e : ℕ = 2 ^ (s + 2) in
    let l : ℤ = lo -ℤ (w *ℤ pos 32768) in
    let u : ℤ = hi -ℤ (w *ℤ pos 32768) in
    let x : Rational = q -ʳ of_whole w in
    wider 0 (floor_div l e) (ceil_div u e) (c -ℤ r) (c +ℤ r) (in_row_unit s x) a.bottom (le_eq (sym a.top))
    (scaled_box 15 0 l u (pos 1) (floor_div l e) (ceil_div u e) e (row_unit s) x (pow_pos (s + 2)) (pos_nn 1) (unit_is s a.scale)
    (rw (mul_one_ℤ l) (floor_is l e (pow_pos (s + 2)))) (rw (mul_one_ℤ u) (ceil_is u e (pow_pos (s + 2))))
    (sub_holds 15 lo hi (w *ℤ pos 32768) (w *ℤ pos 32768) q (of_whole w) h (whole_at w)))

-- how the ends are rounded, over e
record Rounded (e : ℕ) (l u f g : ℤ) : Type 0 where
  low : (f *ℤ pos e) ≤ℤ l
  below : l <ℤ ((f *ℤ pos e) +ℤ pos e)
  high : u ≤ℤ (g *ℤ pos e)
  above : (g *ℤ pos e) <ℤ (u +ℤ pos e)

rounded : (e : ℕ) (l u : ℤ) → 0 < e → Rounded e l u (floor_div l e) (ceil_div u e)
rounded e l u h = let is_floor = floor_is l e h in let is_ceil = ceil_is u e h in record { low = is_floor.0; below = is_floor.1; high = is_ceil.0; above = is_ceil.1 }

pub y_narrow : (s : ℕ) (lo hi x : ℤ) → IsScale s → (hi -ℤ lo) ≤ℤ prefit_width → (ceil_div (hi -ℤ x) (2 ^ (s + 2)) -ℤ floor_div (lo -ℤ x) (2 ^ (s + 2))) ≤ℤ y_width
y_narrow s lo hi x t h = ⊎_elim (λ (e : s ≡ 0). subst (λ (i : ℕ). (ceil_div (hi -ℤ x) (2 ^ (i + 2)) -ℤ floor_div (lo -ℤ x) (2 ^ (i + 2))) ≤ℤ y_width) (sym e)
    (four (lo -ℤ x) (hi -ℤ x) _ _ (rounded 4 (lo -ℤ x) (hi -ℤ x) (lit< tt)) (same lo hi x h)))
    (λ (e : s ≡ 14). subst (λ (i : ℕ). (ceil_div (hi -ℤ x) (2 ^ (i + 2)) -ℤ floor_div (lo -ℤ x) (2 ^ (i + 2))) ≤ℤ y_width) (sym e)
    (many (lo -ℤ x) (hi -ℤ x) _ _ (rounded 65536 (lo -ℤ x) (hi -ℤ x) (lit< tt)) (same lo hi x h))) (scale_cases s t)
  where
    four : (l u f g : ℤ) → Rounded 4 l u f g → (u -ℤ l) ≤ℤ prefit_width → (g -ℤ f) ≤ℤ y_width
    four l u f g k h = omega (arith, ints)

    many : (l u f g : ℤ) → Rounded 65536 l u f g → (u -ℤ l) ≤ℤ prefit_width → (g -ℤ f) ≤ℤ y_width
    many l u f g k h = omega (arith, ints)

    same : (lo hi x : ℤ) → (hi -ℤ lo) ≤ℤ prefit_width → ((hi -ℤ x) -ℤ (lo -ℤ x)) ≤ℤ prefit_width
    same lo hi x h = omega (arith, lins)

pub y_ordered : (s : ℕ) (lo hi x : ℤ) → lo ≤ℤ hi → floor_div (lo -ℤ x) (2 ^ (s + 2)) ≤ℤ ceil_div (hi -ℤ x) (2 ^ (s + 2))
y_ordered s lo hi x h = floor_le_ceil (lo -ℤ x) (hi -ℤ x) (2 ^ (s + 2)) (pow_pos (s + 2)) (less lo hi x h)
  where
    less : (lo hi x : ℤ) → lo ≤ℤ hi → (lo -ℤ x) ≤ℤ (hi -ℤ x)
    less lo hi x h = omega (arith, lins)

pub y_radius : (s : ℕ) (lo hi w c r : ℤ) → AreYEnds s lo hi w c r → r ≤ℤ most_radius s
y_radius s lo hi w c r a = ⊎_elim (λ (e : s ≡ 0). subst (λ (i : ℕ). r ≤ℤ most_radius i) (sym e) (fine (subst (λ (i : ℕ). AreYEnds i lo hi w c r) e a)))
    (λ (e : s ≡ 14). subst (λ (i : ℕ). r ≤ℤ most_radius i) (sym e) (coarse (subst (λ (i : ℕ). AreYEnds i lo hi w c r) e a))) (scale_cases s a.scale)
  where
    four : (l u f g r : ℤ) → Rounded 4 l u f g → (u -ℤ l) ≤ℤ prefit_width → (pos 2 *ℤ r) ≤ℤ ((g -ℤ f) +ℤ pos 1) → r ≤ℤ most_radius 0
    four l u f g r k h i = omega (arith, ints)

    many : (l u f g r : ℤ) → Rounded 65536 l u f g → (u -ℤ l) ≤ℤ prefit_width → (pos 2 *ℤ r) ≤ℤ ((g -ℤ f) +ℤ pos 1) → r ≤ℤ most_radius 14
    many l u f g r k h i = omega (arith, ints)

    same : (lo hi x : ℤ) → (hi -ℤ lo) ≤ℤ prefit_width → ((hi -ℤ x) -ℤ (lo -ℤ x)) ≤ℤ prefit_width
    same lo hi x h = omega (arith, lins)

    fine : AreYEnds 0 lo hi w c r → r ≤ℤ most_radius 0
    fine a = four _ _ _ _ r (rounded 4 (lo -ℤ (w *ℤ pos 32768)) (hi -ℤ (w *ℤ pos 32768)) (lit< tt)) (same lo hi (w *ℤ pos 32768) a.narrow) a.half

    coarse : AreYEnds 14 lo hi w c r → r ≤ℤ most_radius 14
    coarse a = many _ _ _ _ r (rounded 65536 (lo -ℤ (w *ℤ pos 32768)) (hi -ℤ (w *ℤ pos 32768)) (lit< tt)) (same lo hi (w *ℤ pos 32768) a.narrow) a.half

-- the box around the middle of the ends
pub middle_ends : (s : ℕ) (lo hi w : ℤ) → IsScale s → lo ≤ℤ hi → (hi -ℤ lo) ≤ℤ prefit_width →
    let f : ℤ = floor_div (lo -ℤ (w *ℤ pos 32768)) (2 ^ (s + 2)) in
    let g : ℤ = ceil_div (hi -ℤ (w *ℤ pos 32768)) (2 ^ (s + 2)) in
    AreYEnds s lo hi w (floor_div (f +ℤ g) 2) (g -ℤ floor_div (f +ℤ g) 2)
middle_ends s lo hi w t h k =
    let f : ℤ = floor_div (lo -ℤ (w *ℤ pos 32768)) (2 ^ (s + 2)) in
    let g : ℤ = ceil_div (hi -ℤ (w *ℤ pos 32768)) (2 ^ (s + 2)) in
    let c : ℤ = floor_div (f +ℤ g) 2 in
    let middle_is_floor = floor_is (f +ℤ g) 2 (lit< tt) in
    record { scale = t; ordered = h; narrow = k; top = sum c g; bottom = below f g c middle_is_floor.0; half = half f g c middle_is_floor.1 }
  where
    sum : (c g : ℤ) → c +ℤ (g -ℤ c) ≡ g
    sum c g = omega (arith, lins)

    below : (f g c : ℤ) → (c *ℤ pos 2) ≤ℤ (f +ℤ g) → (c -ℤ (g -ℤ c)) ≤ℤ f
    below f g c h = omega (arith, ints)

    half : (f g c : ℤ) → (f +ℤ g) <ℤ ((c *ℤ pos 2) +ℤ pos 2) → (pos 2 *ℤ (g -ℤ c)) ≤ℤ ((g -ℤ f) +ℤ pos 1)
    half f g c h = omega (arith, ints)

pub y_meets : (s : ℕ) (lo hi w c r : ℤ) → AreYEnds s lo hi w c r → neg_ℤ (pos (2 ^ 14)) ≤ℤ (lo -ℤ (w *ℤ pos 32768)) → (hi -ℤ (w *ℤ pos 32768)) ≤ℤ (pos (2 ^ 14) +ℤ prefit_width) → MeetsOne s c r
y_meets s lo hi w c r a h k = ⊎_elim (λ (e : s ≡ 0). subst (λ (i : ℕ). MeetsOne i c r) (sym e) (fine (subst (λ (i : ℕ). AreYEnds i lo hi w c r) e a)))
    (λ (e : s ≡ 14). subst (λ (i : ℕ). MeetsOne i c r) (sym e) (coarse (subst (λ (i : ℕ). AreYEnds i lo hi w c r) e a))) (scale_cases s a.scale)
  where
    -- x and y are the ends of the box, which reach to f and to g
    four : (l u f g x y : ℤ) → Rounded 4 l u f g → neg_ℤ (pos (2 ^ 14)) ≤ℤ l → u ≤ℤ (pos (2 ^ 14) +ℤ prefit_width) → l ≤ℤ u → x ≤ℤ f → y ≡ g →
        ((pos 1 *ℤ x) ≤ℤ pos (2 ^ ROW_EXPONENT)) × (neg_ℤ (pos (2 ^ ROW_EXPONENT)) ≤ℤ (pos 1 *ℤ y))
    four l u f g x y k h i j m e = (omega (arith, ints), omega (arith, ints))

    many : (l u f g x y : ℤ) → Rounded 65536 l u f g → neg_ℤ (pos (2 ^ 14)) ≤ℤ l → u ≤ℤ (pos (2 ^ 14) +ℤ prefit_width) → l ≤ℤ u → x ≤ℤ f → y ≡ g →
        ((pos 16384 *ℤ x) ≤ℤ pos (2 ^ ROW_EXPONENT)) × (neg_ℤ (pos (2 ^ ROW_EXPONENT)) ≤ℤ (pos 16384 *ℤ y))
    many l u f g x y k h i j m e = (omega (arith, ints), omega (arith, ints))

    less : (lo hi x : ℤ) → lo ≤ℤ hi → (lo -ℤ x) ≤ℤ (hi -ℤ x)
    less lo hi x h = omega (arith, lins)

    fine : AreYEnds 0 lo hi w c r → MeetsOne 0 c r
    fine a = four (lo -ℤ (w *ℤ pos 32768)) (hi -ℤ (w *ℤ pos 32768)) _ _ (c -ℤ r) (c +ℤ r) (rounded 4 (lo -ℤ (w *ℤ pos 32768)) (hi -ℤ (w *ℤ pos 32768)) (lit< tt)) h k
        (less lo hi (w *ℤ pos 32768) a.ordered) a.bottom a.top

    coarse : AreYEnds 14 lo hi w c r → MeetsOne 14 c r
    coarse a = many (lo -ℤ (w *ℤ pos 32768)) (hi -ℤ (w *ℤ pos 32768)) _ _ (c -ℤ r) (c +ℤ r) (rounded 65536 (lo -ℤ (w *ℤ pos 32768)) (hi -ℤ (w *ℤ pos 32768)) (lit< tt)) h k
        (less lo hi (w *ℤ pos 32768) a.ordered) a.bottom a.top
