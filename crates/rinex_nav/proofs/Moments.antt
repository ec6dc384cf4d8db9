-- The time of a record.
use Rattle.std.proofs.Common.{◌≡◌, ◌*◌, ℕ, Bool, true, false, Ok, refl}
use Rattle.gps_time.specs.Ticks.{IsMoment, is_moment, ticks_since}
use Rattle.gps_time.proofs.MomentTests.{is_moment-holds, is_moment-true}
use Rattle.rinex_head.specs.declared.place.What.TheVariants.{BadDate}
use Rattle.rinex_head.specs.Places.{flawed}
use Rattle.rinex_nav.specs.RecordLines.{moment_of}

pub no_moment : (y m d h n s : ℕ) → (IsMoment y m d h n (s * 10_000_000) → ⊥) → moment_of y m d h n s ≡ flawed 5 BadDate
unfolding moment_of
no_moment y m d h n s none = by_test (is_moment y m d h n (s * 10_000_000)) refl
  where
    by_test : (t : Bool) → is_moment y m d h n (s * 10_000_000) ≡ t → moment_of y m d h n s ≡ flawed 5 BadDate
    by_test true is = absurd (none (is_moment-holds y m d h n (s * 10_000_000) is))
    by_test false is = rw is refl

pub a_moment : (y m d h n s : ℕ) → IsMoment y m d h n (s * 10_000_000) → moment_of y m d h n s ≡ Ok (record { 0 = ticks_since y m d h n (s * 10_000_000) })
unfolding moment_of
a_moment y m d h n s are = let moment_is : is_moment y m d h n (s * 10_000_000) ≡ true = is_moment-true y m d h n (s * 10_000_000) are in rw moment_is refl
