-- The tag of an epoch's line.
use Rattle.std.proofs.Common.{◌≡◌, ◌<ℤ◌, ◌≤ℤ◌, ℕ, ℤ, pos, negsuc, Bool, true, false, Ok, refl, arith, unsigned_abs, to_z, of_z, w64, SFits}
use Rattle.std.proofs.lemmas.Int.{ints, to_z-of_z}
use Rattle.gps_time.specs.Ticks.{IsMoment, is_moment, ticks_since}
use Rattle.gps_time.proofs.MomentTests.{is_moment-holds, is_moment-true}
use Rattle.rinex_head.specs.declared.place.What.TheVariants.{BadDate}
use Rattle.rinex_head.specs.Places.{flawed}
use Rattle.obs_fields.specs.declared.layout.Layout.{Layout}
use Rattle.obs_fields.specs.Layouts.{date_column_of}
use Rattle.obs_fields.specs.EpochFields.{moment_of}

-- the bits of a number from 0 on are the number
pub same_part : (z : ℤ) → SFits w64 z → pos 0 ≤ℤ z → z ≡ pos (unsigned_abs (to_z w64 (of_z w64 z)))
same_part z fits above = rw (to_z-of_z w64 z fits) (size z above)
  where
    size : (z : ℤ) → pos 0 ≤ℤ z → z ≡ pos (unsigned_abs z)
    size (pos n) above = refl
    size (negsuc n) above = absurd (omega (arith, ints, above))

pub no_moment : (layout : Layout) (y m d h n p : ℕ) → (IsMoment y m d h n p → ⊥) → moment_of layout y m d h n (pos p) ≡ flawed (date_column_of layout) BadDate
unfolding moment_of
no_moment layout y m d h n p none = by_test (is_moment y m d h n p) refl
  where
    by_test : (t : Bool) → is_moment y m d h n p ≡ t → moment_of layout y m d h n (pos p) ≡ flawed (date_column_of layout) BadDate
    by_test true is = absurd (none (is_moment-holds y m d h n p is))
    by_test false is = rw is refl

pub a_moment : (layout : Layout) (y m d h n p : ℕ) → IsMoment y m d h n p → moment_of layout y m d h n (pos p) ≡ Ok (record { 0 = ticks_since y m d h n p })
unfolding moment_of
a_moment layout y m d h n p are = let is_a_moment : is_moment y m d h n p ≡ true = is_moment-true y m d h n p are in rw is_a_moment refl

pub below_zero : (layout : Layout) (y m d h n : ℕ) (z : ℤ) → z <ℤ pos 0 → moment_of layout y m d h n z ≡ flawed (date_column_of layout) BadDate
unfolding moment_of
below_zero layout y m d h n (pos p) less = absurd (omega (arith, ints, less))
below_zero layout y m d h n (negsuc p) less = refl

pub too_late : (layout : Layout) (y m d h n : ℕ) (z : ℤ) → pos 599_999_999 <ℤ z → moment_of layout y m d h n z ≡ flawed (date_column_of layout) BadDate
too_late layout y m d h n (pos p) more = no_moment layout y m d h n p (λ are. absurd (omega (arith, ints, more, are.part_in)))
too_late layout y m d h n (negsuc p) more = absurd (omega (arith, ints, more))
