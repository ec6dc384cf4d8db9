-- Widths and sizes of the boxes' ends, and numbers as the code reads them.
use Rattle.std.proofs.Common.{◌≡◌, ℕ, ◌+◌, ◌*◌, ◌^◌, ◌<◌, ◌≤◌, ◌⊎◌, ℤ, pos, ◌+ℤ◌, ◌-ℤ◌, ◌*ℤ◌, ◌≤ℤ◌, ◌<ℤ◌, unsigned_abs, Bool, true, IsTrue, inl, inr, ⊎_elim, arith, to_z, of_z}
use Rattle.std.specs.Int.{w64, w128}
use Rattle.std.proofs.lemmas.Int.{ints}
use Rattle.std.proofs.lemmas.Bool.{or_cases, eqb-true}
use Rattle.std.specs.Prelude.{◌==◌}
use Rattle.whole_math.specs.Rounding.{IsFloor, IsCeil}
use Rattle.obs_rows.specs.Ranges.{IsScale}
use Rattle.obs_rows.specs.declared.units.TheConstants.{LIGHT_SPEED}
use Rattle.row_boxes.specs.declared.pseudoranges.TheConstants.{METRE_UNITS, HALF_LIGHT_SPEED}
use Rattle.row_boxes.specs.Terms.{pseudorange_width, prefit_width}
use Rattle.whole_math.proofs.Words.{as_w64}

-- ---- as the code reads them
pub plain_size : (x : ℤ) (m : ℕ) → m ≤ 2 ^ 100 → unsigned_abs x ≤ m → to_z w128 (of_z w128 x) ≡ x
plain_size x m h k = omega (arith, ints)

pub read_small : (x : ℤ) → unsigned_abs x < 2 ^ 48 → to_z w64 (of_z w64 x) ≡ x
read_small x small = as_w64 x (omega (arith, small))

pub scale_cases : (s : ℕ) → IsScale s → (s ≡ 0) ⊎ (s ≡ 14)
scale_cases s h = ⊎_elim (λ (e : (s == 0) ≡ true). inl (eqb-true s 0 e)) (λ (e : (s == 14) ≡ true). inr (eqb-true s 14 e)) (or_cases (s == 0) (s == 14) (to_true _ h))
  where
    to_true : (b : Bool) → IsTrue b → b ≡ true
    to_true b h = h

-- ---- pseudoranges
pub pseudorange_ordered : (f g v w : ℤ) → v ≤ℤ w → IsFloor (v *ℤ pos METRE_UNITS) (HALF_LIGHT_SPEED * 2 ^ 39) f → IsCeil (w *ℤ pos METRE_UNITS) (HALF_LIGHT_SPEED * 2 ^ 39) g → f ≤ℤ g
pseudorange_ordered f g v w h k l = step h k.0 l.0
  where
    step : v ≤ℤ w → (f *ℤ pos (HALF_LIGHT_SPEED * 2 ^ 39)) ≤ℤ (v *ℤ pos METRE_UNITS) → (w *ℤ pos METRE_UNITS) ≤ℤ (g *ℤ pos (HALF_LIGHT_SPEED * 2 ^ 39)) → f ≤ℤ g
    step h k l = omega (arith, ints)

pub pseudorange_narrow : (f g v w : ℤ) → (w -ℤ v) ≤ℤ (pos (2 ^ 43) +ℤ (pos (2 ^ 10) *ℤ LIGHT_SPEED)) → IsFloor (v *ℤ pos METRE_UNITS) (HALF_LIGHT_SPEED * 2 ^ 39) f → IsCeil (w *ℤ pos METRE_UNITS) (HALF_LIGHT_SPEED * 2 ^ 39) g →
    (g -ℤ f) ≤ℤ pseudorange_width
pseudorange_narrow f g v w h k l = step h k.1 l.1
  where
    step : (w -ℤ v) ≤ℤ (pos (2 ^ 43) +ℤ (pos (2 ^ 10) *ℤ LIGHT_SPEED)) → (v *ℤ pos METRE_UNITS) <ℤ (f *ℤ pos (HALF_LIGHT_SPEED * 2 ^ 39) +ℤ pos (HALF_LIGHT_SPEED * 2 ^ 39)) →
        (g *ℤ pos (HALF_LIGHT_SPEED * 2 ^ 39)) <ℤ (w *ℤ pos METRE_UNITS +ℤ pos (HALF_LIGHT_SPEED * 2 ^ 39)) → (g -ℤ f) ≤ℤ pseudorange_width
    step h k l = omega (arith, ints)

-- ---- prefits
pub record ArePrefitEnds (hl hh bl bh rl rh : ℤ) : Type 0 where
  pub held_ordered : hl ≤ℤ hh
  pub held_narrow : (hh -ℤ hl) ≤ℤ pos 1
  pub base_ordered : bl ≤ℤ bh
  pub base_narrow : (bh -ℤ bl) ≤ℤ pseudorange_width
  pub rover_ordered : rl ≤ℤ rh
  pub rover_narrow : (rh -ℤ rl) ≤ℤ pseudorange_width

pub prefit_ordered : (hl hh bl bh rl rh : ℤ) → ArePrefitEnds hl hh bl bh rl rh → (hl -ℤ (rh -ℤ bl)) ≤ℤ (hh -ℤ (rl -ℤ bh))
prefit_ordered hl hh bl bh rl rh a = omega (arith, ints)

pub prefit_narrow : (hl hh bl bh rl rh : ℤ) → ArePrefitEnds hl hh bl bh rl rh → ((hh -ℤ (rl -ℤ bh)) -ℤ (hl -ℤ (rh -ℤ bl))) ≤ℤ prefit_width
prefit_narrow hl hh bl bh rl rh a = omega (arith, ints)

pub prefit_size : (m n : ℕ) (h r b : ℤ) → m + 2 ^ 56 ≤ n → unsigned_abs h ≤ m → unsigned_abs r ≤ 2 ^ 55 → unsigned_abs b ≤ 2 ^ 55 → unsigned_abs (h -ℤ (r -ℤ b)) ≤ n
prefit_size m n h r b l i j k = omega (arith, ints)

pub prefit_phase : (m : ℕ) (h r b : ℤ) → 1000 * unsigned_abs h ≤ m + 1000 → unsigned_abs r ≤ 2 ^ 55 → unsigned_abs b ≤ 2 ^ 55 → 1000 * unsigned_abs (h -ℤ (r -ℤ b)) ≤ m + 1000 * 2 ^ 57
prefit_phase m h r b i j k = omega (arith, ints)
