-- The test of a moment holds exactly for moments.
use Rattle.std.proofs.Common.{◌≡◌, ◌≤ℤ◌, ℕ, ℤ, pos, negsuc, Bool, T, true, false, ◌&&◌, nat_le, refl}
use Rattle.std.proofs.lemmas.Bool.{and_parts, and_from, leb-true, le-leb}
use Rattle.std.specs.Int.Signed.{le_z}
use Rattle.jiff_core.specs.Calendar.{days_from_civil, days_in_month}
use Rattle.gps_time.specs.Ticks.{first_day, last_day, IsGpsDate, IsMoment, is_gps_date, is_moment}

from_true : (t : Bool) → t ≡ true → T t
from_true true is = tt
from_true false is = absurd cc

to_true : (t : Bool) → T t → t ≡ true
to_true true is = refl
to_true false is = absurd is

below : (a b : ℤ) → le_z a b ≡ true → a ≤ℤ b
below a b is = record { le = from_true (le_z a b) is }

test_z : (a b : ℤ) → a ≤ℤ b → le_z a b ≡ true
test_z a b is = to_true (le_z a b) is.le

pub is_gps_date-holds : (y m d : ℕ) → is_gps_date y m d ≡ true → IsGpsDate y m d
is_gps_date-holds y m d is =
    let year_at_most = nat_le y 9999 in
    let month_at_least = nat_le 1 m in
    let month_at_most = nat_le m 12 in
    let day_at_least = nat_le 1 d in
    let day_at_most = nat_le d (days_in_month (pos y) m) in
    let not_before_first = le_z first_day (days_from_civil (pos y) m d) in
    let not_after_last = le_z (days_from_civil (pos y) m d) last_day in
    let first_six_hold : (year_at_most && month_at_least && month_at_most && day_at_least && day_at_most && not_before_first) ≡ true = (and_parts _ not_after_last is).0 in
    let first_five_hold : (year_at_most && month_at_least && month_at_most && day_at_least && day_at_most) ≡ true = (and_parts _ not_before_first first_six_hold).0 in
    let first_four_hold : (year_at_most && month_at_least && month_at_most && day_at_least) ≡ true = (and_parts _ day_at_most first_five_hold).0 in
    let first_three_hold : (year_at_most && month_at_least && month_at_most) ≡ true = (and_parts _ day_at_least first_four_hold).0 in
    let first_two_hold : (year_at_most && month_at_least) ≡ true = (and_parts _ month_at_most first_three_hold).0 in
    record {
      civil = (
        (below (negsuc 9998) (pos y) refl, below (pos y) (pos 9999) (and_parts year_at_most month_at_least first_two_hold).0),
        (leb-true 1 m (and_parts year_at_most month_at_least first_two_hold).1, leb-true m 12 (and_parts _ month_at_most first_three_hold).1),
        (leb-true 1 d (and_parts _ day_at_least first_four_hold).1, leb-true d (days_in_month (pos y) m) (and_parts _ day_at_most first_five_hold).1),
      );
      from_first = below first_day (days_from_civil (pos y) m d) (and_parts _ not_before_first first_six_hold).1;
      to_last = below (days_from_civil (pos y) m d) last_day (and_parts _ not_after_last is).1;
    }

pub is_moment-holds : (y m d h n p : ℕ) → is_moment y m d h n p ≡ true → IsMoment y m d h n p
unfolding is_moment
is_moment-holds y m d h n p is =
    let date = is_gps_date y m d in
    let holds_to_minute : (date && nat_le h 23 && nat_le n 59) ≡ true = (and_parts _ (nat_le p 599_999_999) is).0 in
    let holds_to_hour : (date && nat_le h 23) ≡ true = (and_parts _ (nat_le n 59) holds_to_minute).0 in
    record {
      date = is_gps_date-holds y m d (and_parts date (nat_le h 23) holds_to_hour).0;
      hour_in = leb-true h 23 (and_parts date (nat_le h 23) holds_to_hour).1;
      minute_in = leb-true n 59 (and_parts _ (nat_le n 59) holds_to_minute).1;
      part_in = leb-true p 599_999_999 (and_parts _ (nat_le p 599_999_999) is).1;
    }

pub is_moment-true : (y m d h n p : ℕ) → IsMoment y m d h n p → is_moment y m d h n p ≡ true
unfolding is_moment
is_moment-true y m d h n p are =
    let civil = are.date.civil in
    and_from _ _ (and_from _ _ (and_from _ _
    (and_from _ _ (and_from _ _ (and_from _ _ (and_from _ _ (and_from _ _ (and_from _ _ (test_z (pos y) (pos 9999) civil.0.1) (le-leb 1 m civil.1.0)) (le-leb m 12 civil.1.1)) (le-leb 1 d civil.2.0)) (le-leb d _ civil.2.1))
    (test_z _ _ are.date.from_first)) (test_z _ _ are.date.to_last))
    (le-leb h 23 are.hour_in)) (le-leb n 59 are.minute_in)) (le-leb p 599_999_999 are.part_in)
