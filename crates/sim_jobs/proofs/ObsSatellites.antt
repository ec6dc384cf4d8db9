-- A satellite's line, read again.
use Rattle.std.proofs.Common.{◌≡◌, ℕ, ◌+◌, ◌-◌, ◌/◌, ◌%◌, ◌^◌, ◌≤◌, ◌<◌, true, false, ◌==◌, nat_le, List, [], ◌∷◌, ◌++◌, length, Result, Ok, Some, Option, All, refl, ap, ◌∙◌, arith}
use Rattle.std.proofs.lemmas.Bool.Decides.{nat_tests}
use Rattle.std.proofs.lemmas.List.{append_assoc}
use Rattle.std.proofs.lemmas.List.Elements.{All-from_recursion}
use Rattle.std.specs.List.{AllByRecursion}
use Rattle.decimal_text.specs.Whole.{is_digit}
use Rattle.decimal_text.specs.Write.{last_digits}
use Rattle.line_source.specs.Lines.{lines_of}
use Rattle.obs_store.specs.declared.values.SatObs.{SatObs}
use Rattle.obs_store.specs.declared.values.Value.{Value}
use Rattle.obs_store.specs.Missing.{missing_values}
use Rattle.obs_store.specs.Satellites.{has_satellite, satellite_of}
use Rattle.rinex_head.specs.Columns.{column}
use Rattle.rinex_head.specs.Systems.{letter_of}
use Rattle.rinex_head.specs.declared.place.Flaw.{Flaw}
use Rattle.rinex_head.specs.declared.system.System.{System}
use Rattle.rinex_head.specs.declared.system.System.TheVariants.{Gps, Galileo}
use Rattle.obs_fields.specs.declared.layout.Layout.TheVariants.{Rinex3}
use Rattle.obs_fields.specs.declared.types.KeptType.{KeptType}
use Rattle.obs_fields.specs.SatFields.{values_in, digit_of, number_at, satellite_at}
use Rattle.rinex_obs.specs.SatLines.{satellite_line_of}
use Rattle.sim_session.specs.declared.signals.Signals.{Signals}
use Rattle.sim_session.specs.declared.signals.Tracking.{Tracking}
use Rattle.sim_session.specs.declared.signals.Tracking.TheVariants.{GpsL1L2, GpsL1L2L5, GalileoE1E5a}
use Rattle.sim_session.specs.ObservationText.{fields_text, satellite_line, IsInColumns, AreInColumns}
use Rattle.sim_session.specs.Tracked.{system_letter, amounts_of}
use Rattle.sim_jobs.specs.Printed.{are_printed}
use Rattle.sim_jobs.proofs.Printed.{printed-append, line_first}
use Rattle.sim_jobs.specs.ObsFiles.{system_in, types_of, values_of}
use Rattle.sim_jobs.proofs.ObsFields.{printed_fields, length-fields, numbered, placed, values_read}
use Rattle.sim_jobs.proofs.Digits.{printed_digits}

pub content : Tracking → ℕ → Signals → List ℕ
content t n s = system_letter t ∷ (last_digits 2 n ++ fields_text (amounts_of t s))

-- ---- the line in the text
line_is : (t : Tracking) (n : ℕ) (s : Signals) (rest : List ℕ) → satellite_line t n s ++ rest ≡ content t n s ++ 10 ∷ rest
unfolding satellite_line content
line_is t n s rest = ap (λ (l : List ℕ). system_letter t ∷ (last_digits 2 n ++ l)) (append_assoc (fields_text (amounts_of t s)) (10 ∷ []) rest)

have_room : (t : Tracking) (s : Signals) → AreInColumns s → All IsInColumns (amounts_of t s)
have_room GpsL1L2 s room = All-from_recursion IsInColumns (amounts_of GpsL1L2 s) (room.code, (room.l1, (room.code, (room.l2, tt))))
have_room GpsL1L2L5 s room = All-from_recursion IsInColumns (amounts_of GpsL1L2L5 s) (room.code, (room.l1, (room.code, (room.l2, (room.code, (room.l5, tt))))))
have_room GalileoE1E5a s room = All-from_recursion IsInColumns (amounts_of GalileoE1E5a s) (room.code, (room.l1, (room.code, (room.l5, tt))))

printed_letter : (t : Tracking) → nat_le 32 (system_letter t) ≡ true
printed_letter GpsL1L2 = refl
printed_letter GpsL1L2L5 = refl
printed_letter GalileoE1E5a = refl

printed_content : (t : Tracking) (n : ℕ) (s : Signals) → AreInColumns s → are_printed (content t n s) ≡ true
unfolding content
printed_content t n s room =
    rw (printed_letter t) (printed-append (last_digits 2 n) (fields_text (amounts_of t s)) (printed_digits 2 n) (printed_fields (amounts_of t s) (have_room t s room)))

pub line_read : (t : Tracking) (n : ℕ) (s : Signals) (rest : List ℕ) → AreInColumns s → lines_of (satellite_line t n s ++ rest) ≡ content t n s ∷ lines_of rest
line_read t n s rest room = ap lines_of (line_is t n s rest) ∙ line_first (content t n s) rest (printed_content t n s room)

few_amounts : (t : Tracking) (s : Signals) → length (amounts_of t s) ≤ 6
few_amounts GpsL1L2 s = omega arith
few_amounts GpsL1L2L5 s = omega arith
few_amounts GalileoE1E5a s = omega arith

pub short : (t : Tracking) (n : ℕ) (s : Signals) → AreInColumns s → length (content t n s) ≤ 4096
unfolding content
short t n s room = omega (arith, length-fields (amounts_of t s) (have_room t s room), few_amounts t s)

-- ---- its values
-- the types of the header, with their numbers
unfoldable pub the_kept : Tracking → List KeptType
the_kept t = numbered 0 (types_of t)

as_many : (t : Tracking) (s : Signals) → length (types_of t) ≡ length (amounts_of t s)
as_many GpsL1L2 s = refl
as_many GpsL1L2L5 s = refl
as_many GalileoE1E5a s = refl

values_are : (t : Tracking) (s : Signals) → placed (types_of t) (amounts_of t s) missing_values ≡ values_of t s
values_are GpsL1L2 s = refl
values_are GpsL1L2L5 s = refl
values_are GalileoE1E5a s = refl

values_given : (t : Tracking) (n : ℕ) (s : Signals) → AreInColumns s → values_in Rinex3 0 (the_kept t) (content t n s) missing_values ≡ Ok (values_of t s)
unfolding content the_kept
values_given t n s room =
    values_read (content t n s) 0 (types_of t) (amounts_of t s) missing_values (as_many t s) (have_room t s room) refl
    ∙ ap (λ (values : List (Option Value)). let given : Result (List (Option Value)) Flaw = Ok values in given) (values_are t s)

-- ---- the satellite's number
digit_is : (d : ℕ) → d < 10 → digit_of (48 + d) ≡ Some d
digit_is d h =
    let blank : (48 + d == 32) ≡ false = grind (arith, nat_tests) in
    let digit : is_digit (48 + d) ≡ true = grind (arith, nat_tests) in
    let back : 48 + d - 48 ≡ d = omega arith in
    rw (blank, digit, back) refl

number_is : (t : Tracking) (n : ℕ) (s : Signals) → n < 100 → number_at (content t n s) 1 ≡ n
unfolding content
number_is t n s few =
    let tens : n / 10 ^ 1 % 10 < 10 = omega arith in
    let ones : n / 10 ^ 0 % 10 < 10 = omega arith in
    rw (digit_is (n / 10 ^ 1 % 10) tens, digit_is (n / 10 ^ 0 % 10) ones) (omega arith)

letter_is : (t : Tracking) (n : ℕ) (s : Signals) → column (content t n s) 1 ≡ letter_of (system_in t)
unfolding content
letter_is GpsL1L2 n s = refl
letter_is GpsL1L2L5 n s = refl
letter_is GalileoE1E5a n s = refl

-- a letter of the system and a number up to 32
sat_in : (system : System) (line : List ℕ) (n : ℕ) → column line 1 ≡ letter_of system → number_at line 1 ≡ n → 1 ≤ n → n ≤ 32 → satellite_at system false line 1 ≡ Ok (Some n)
unfolding satellite_at
sat_in Gps line n letter number low high =
    let above : nat_le 1 n ≡ true = grind (arith, nat_tests) in
    let below : nat_le n 32 ≡ true = grind (arith, nat_tests) in
    rw (letter, number, above, below) refl
sat_in Galileo line n letter number low high =
    let above : nat_le 1 n ≡ true = grind (arith, nat_tests) in
    let below : nat_le n 36 ≡ true = grind (arith, nat_tests) in
    rw (letter, number, above, below) refl

sat_is : (t : Tracking) (n : ℕ) (s : Signals) → 1 ≤ n → n ≤ 32 → satellite_at (system_in t) false (content t n s) 1 ≡ Ok (Some n)
sat_is t n s low high = sat_in (system_in t) (content t n s) n (letter_is t n s) (number_is t n s (omega arith)) low high

-- all satellites before have lower numbers
pub AreBelow : ℕ → List SatObs → Type 0
AreBelow n sats = AllByRecursion (λ (s : SatObs). s.number ≤ n) sats

pub none_below : (n : ℕ) → AreBelow n []
unfolding AreBelow
none_below n = tt

no_twin : (n : ℕ) (sats : List SatObs) → AreBelow n sats → has_satellite (n + 1) sats ≡ false
unfolding AreBelow
no_twin n [] h = refl
no_twin n (s ∷ sats) h = rw (other n s.number h.0) (no_twin n sats h.1)
  where
    other : (n m : ℕ) → m ≤ n → (n + 1 == m) ≡ false
    other n m h = grind (arith, nat_tests)

pub more_below : (n : ℕ) (sats : List SatObs) (s : SatObs) → AreBelow n sats → s.number ≡ n + 1 → AreBelow (n + 1) (sats ++ s ∷ [])
unfolding AreBelow
more_below n [] s h is = (omega (arith, is), tt)
more_below n (x ∷ sats) s h is = (omega (arith, h.0), more_below n sats s h.1 is)

pub read_as : (t : Tracking) (n : ℕ) (s : Signals) (before : List SatObs) → AreInColumns s → n + 1 ≤ 32 → AreBelow n before →
    satellite_line_of (system_in t) (the_kept t) before (content t (n + 1) s) ≡ Ok (Some (satellite_of (n + 1) (values_of t s)))
unfolding satellite_line_of
read_as t n s before room few below =
    let number : satellite_at (system_in t) false (content t (n + 1) s) 1 ≡ Ok (Some (n + 1)) = sat_is t (n + 1) s (omega arith) few in
    rw (number, no_twin n before below, values_given t (n + 1) s room) refl
