-- Moments of 2024-01-01.
use Rattle.std.proofs.Common.{◌≡◌, ℕ, pos, ◌≤◌, ◌+◌, ◌*◌, true, refl, sym, arith}
use Rattle.jiff_core.specs.Calendar.{days_from_civil, IsCivilDate}
use Rattle.jiff_core.proofs.SignedLemmas.{signed_arith}
use Rattle.jiff_core.proofs.MarchLemmas.{day_count-early}
use Rattle.jiff_core.proofs.CalendarLemmas.{days_from_civil-day_count}
use Rattle.gps_time.specs.Ticks.{IsGpsDate, is_moment, days_since, ticks_since}
use Rattle.gps_time.proofs.Days.{in_range, days_are}
use Rattle.gps_time.proofs.MomentTests.{is_moment-true}

day_is : days_from_civil (pos 2024) 1 1 ≡ pos 19723
day_is =
    omega (arith, signed_arith, days_from_civil-day_count (pos 2024) 1 1, day_count-early (pos 2024) 12023 1 1 refl (omega arith) (omega arith) (omega arith))

civil_is : IsCivilDate (pos 2024) 1 1
civil_is = ((omega (arith, signed_arith), omega (arith, signed_arith)), (omega arith, omega arith), (omega arith, omega arith))

date_is : IsGpsDate 2024 1 1
date_is = in_range 2024 1 1 (pos 19723) (sym day_is) civil_is (omega (arith, signed_arith)) (omega (arith, signed_arith))

pub moment_is : (hour minute part : ℕ) → hour ≤ 23 → minute ≤ 59 → part ≤ 599_999_999 → is_moment 2024 1 1 hour minute part ≡ true
moment_is hour minute part h m p = is_moment-true 2024 1 1 hour minute part (record { date = date_is; hour_in = h; minute_in = m; part_in = p })

pub days_is : days_since 2024 1 1 ≡ 16066
days_is = sym (days_are 2024 1 1 (pos 19723) (sym day_is))

pub ticks_are : (hour minute part : ℕ) → ticks_since 2024 1 1 hour minute part ≡ 13_881_024_000_000_000 + (hour * 60 + minute) * 600_000_000 + part
ticks_are hour minute part = rw days_is (omega arith)
