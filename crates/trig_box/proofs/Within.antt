-- A box of angles that reaches as far below its middle as above it.
use Rattle.std.proofs.Common.{◌≡◌, ℕ, ◌*◌, ◌^◌, ◌≤◌, ℤ, pos, ◌+ℤ◌, ◌-ℤ◌, ◌*ℤ◌, neg_ℤ, ◌≤ℤ◌, inl, refl, arith, ap, ◌∙◌, sym, unsigned_abs}
use Rattle.std.proofs.lemmas.Int.{ints, to_z-of_z}
use Rattle.std.specs.Int.{w64}
use mir.Val.{SFits}
use Rattle.whole_math.specs.Rounding.{floor_div}
use Rattle.trig_box.specs.Chain.{code_pair}
use Rattle.trig_box.proofs.Start.{IsMade, cast_64, fits_64, fits_pair}

-- what the calls of `within` say of their results
pub record IsWithinOf (a r w c s cl ch sl sh : ℤ) : Type 0 where
  pub range : unsigned_abs a ≤ 2 ^ 60
  pub radius_low : pos 0 ≤ℤ r
  pub radius_high : r ≤ℤ pos (2 ^ 15)
  pub low : neg_ℤ (pos (2 ^ 60)) ≤ℤ (a -ℤ r)
  pub high : (a +ℤ r) ≤ℤ pos (2 ^ 60)
  pub fits_w : SFits w64 w
  pub cos_size : unsigned_abs c ≤ 3 * 2 ^ 61
  pub sin_size : unsigned_abs s ≤ 3 * 2 ^ 61
  pub pad : w ≡ pos 183 +ℤ (pos 32 *ℤ cast_64 r)
  pub cos_is : c ≡ (code_pair 5 a).cos
  pub sin_is : s ≡ (code_pair 5 a).sin
  pub cos_lo : cl ≡ (floor_div (cast_64 c) 4 -ℤ cast_64 w)
  pub cos_hi : ch ≡ ((floor_div (cast_64 c) 4 +ℤ pos 1) +ℤ cast_64 w)
  pub sin_lo : sl ≡ (floor_div (cast_64 s) 4 -ℤ cast_64 w)
  pub sin_hi : sh ≡ ((floor_div (cast_64 s) 4 +ℤ pos 1) +ℤ cast_64 w)

fits_low : (a r : ℤ) → neg_ℤ (pos (2 ^ 60)) ≤ℤ (a -ℤ r) → (a +ℤ r) ≤ℤ pos (2 ^ 60) → pos 0 ≤ℤ r → unsigned_abs (a -ℤ r) ≤ 2 ^ 62
fits_low a r h k l = omega (arith, ints)

fits_high : (a r : ℤ) → neg_ℤ (pos (2 ^ 60)) ≤ℤ (a -ℤ r) → (a +ℤ r) ≤ℤ pos (2 ^ 60) → pos 0 ≤ℤ r → unsigned_abs (a +ℤ r) ≤ 2 ^ 62
fits_high a r h k l = omega (arith, ints)

fits_middle : (a : ℤ) → unsigned_abs a ≤ 2 ^ 60 → unsigned_abs a ≤ 2 ^ 62
fits_middle a h = omega arith

least : (a r : ℤ) → neg_ℤ (pos (2 ^ 60)) ≤ℤ (a -ℤ r) → neg_ℤ (pos (2 ^ 62)) ≤ℤ (a -ℤ r)
least a r h = omega (arith, ints)

most : (a r : ℤ) → (a +ℤ r) ≤ℤ pos (2 ^ 60) → (a +ℤ r) ≤ℤ pos (2 ^ 62)
most a r h = omega (arith, ints)

narrow : (a r : ℤ) → r ≤ℤ pos (2 ^ 15) → ((a +ℤ r) -ℤ (a -ℤ r)) ≤ℤ pos (2 ^ 16)
narrow a r h = omega (arith, ints)

above : (a r l : ℤ) → l ≡ a -ℤ r → pos 0 ≤ℤ r → l ≤ℤ a
above a r l e h = omega (arith, ints)

below : (a r h : ℤ) → h ≡ a +ℤ r → pos 0 ≤ℤ r → a ≤ℤ h
below a r h e k = omega (arith, ints)

nearer : (a r l h : ℤ) → l ≡ a -ℤ r → h ≡ a +ℤ r → (a -ℤ l) ≤ℤ (h -ℤ a)
nearer a r l h e f = omega (arith, ints)

half : (a r l h : ℤ) → l ≡ a -ℤ r → h ≡ a +ℤ r → ((h -ℤ a) +ℤ (h -ℤ a)) ≤ℤ ((h -ℤ l) +ℤ pos 1)
half a r l h e f = omega (arith, ints)

reaches : (a r h m : ℤ) → h ≡ a +ℤ r → m ≡ a → r ≡ h -ℤ m
reaches a r h m e f = omega (arith, ints)

pub made_within : (a r w c s cl ch sl sh : ℤ) → IsWithinOf a r w c s cl ch sl sh → IsMade 5 (a -ℤ r) (a +ℤ r) (a -ℤ r) (a +ℤ r) a w c s cl ch sl sh
made_within a r w c s cl ch sl sh d =
    let middle_fits : SFits w64 a = fits_64 a (fits_middle a d.range) in
    let low_end_is : cast_64 (a -ℤ r) ≡ a -ℤ r = to_z-of_z w64 (a -ℤ r) (fits_64 (a -ℤ r) (fits_low a r d.low d.high d.radius_low)) in
    let high_end_is : cast_64 (a +ℤ r) ≡ a +ℤ r = to_z-of_z w64 (a +ℤ r) (fits_64 (a +ℤ r) (fits_high a r d.low d.high d.radius_low)) in
    let middle_is : cast_64 a ≡ a = to_z-of_z w64 a middle_fits in
    record {
      choice = inl refl;
      five = λ e. (d.low, d.high);
      least = least a r d.low;
      most = most a r d.high;
      narrow = narrow a r d.radius_high;
      fits_m = middle_fits;
      fits_w = d.fits_w;
      fits_c = fits_pair c d.cos_size;
      fits_s = fits_pair s d.sin_size;
      low_end = low_end_is;
      high_end = high_end_is;
      above = above a r (cast_64 (a -ℤ r)) low_end_is d.radius_low;
      below = below a r (cast_64 (a +ℤ r)) high_end_is d.radius_low;
      nearer = nearer a r (cast_64 (a -ℤ r)) (cast_64 (a +ℤ r)) low_end_is high_end_is;
      half = half a r (cast_64 (a -ℤ r)) (cast_64 (a +ℤ r)) low_end_is high_end_is;
      pad_five = λ e. d.pad ∙ ap (λ (z : ℤ). pos 183 +ℤ (pos 32 *ℤ cast_64 z)) (reaches a r (cast_64 (a +ℤ r)) (cast_64 a) high_end_is middle_is);
      pad_seven = λ e. absurd (odd 5 refl e);
      cos_is = d.cos_is ∙ ap (λ (z : ℤ). (code_pair 5 z).cos) (back a middle_is);
      sin_is = d.sin_is ∙ ap (λ (z : ℤ). (code_pair 5 z).sin) (back a middle_is);
      cos_lo = d.cos_lo;
      cos_hi = d.cos_hi;
      sin_lo = d.sin_lo;
      sin_hi = d.sin_hi;
    }
  where
    odd : (k : ℕ) → k ≡ 5 → k ≡ 7 → ⊥
    odd k e f = omega arith

    back : (a : ℤ) → cast_64 a ≡ a → a ≡ cast_64 a
    back a e = sym e

-- the width by the radius
pub width_by_radius : (a r d : ℤ) → d ≤ℤ (pos 512 +ℤ (pos 32 *ℤ ((a +ℤ r) -ℤ (a -ℤ r)))) → d ≤ℤ (pos 512 +ℤ (pos 64 *ℤ r))
width_by_radius a r d h = omega (arith, ints)
