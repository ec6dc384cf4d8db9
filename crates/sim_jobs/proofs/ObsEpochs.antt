-- The lines of an epoch, read again.
use Rattle.std.proofs.Common.{◌≡◌, ℕ, pos, suc, ◌+◌, ◌*◌, ◌/◌, ◌%◌, ◌^◌, ◌≤◌, ◌<◌, true, false, nat_le, nat_lt, List, [], ◌∷◌, ◌++◌, length, drop, get_or, Ok, Some, Option, Result, refl, sym, ap, ◌∙◌, arith, length-append}
use Rattle.std.proofs.lemmas.Bool.Decides.{nat_tests}
use Rattle.std.proofs.Math.Nat.{mul-add, div-div-eq-div-mul}
use Rattle.std.proofs.lemmas.List.{append_assoc}
use Rattle.std.proofs.lemmas.List.Elements.{All-head, All-tail}
use Rattle.std.specs.Prelude.{codes}
use Rattle.std.specs.List.{All}
use Rattle.decimal_text.specs.Write.{last_digits}
use Rattle.decimal_text.specs.Fixed.{are_blank, fixed_of}
use Rattle.gps_time.specs.declared.Tick.{Tick}
use Rattle.line_source.specs.Lines.{lines_of}
use Rattle.obs_store.specs.declared.series.Epoch.{Epoch}
use Rattle.obs_store.specs.Satellites.{satellite_of}
use Rattle.obs_store.specs.declared.values.SatObs.{SatObs}
use Rattle.obs_store.specs.Epochs.{last_tag_of}
use Rattle.rinex_head.specs.declared.place.Flaw.{Flaw}
use Rattle.rinex_head.specs.Columns.{column, columns, padded}
use Rattle.rinex_head.specs.Places.{and_then}
use Rattle.rinex_head.specs.Fields.{filled_of, fixed_in as fixed_field, readable, required}
use Rattle.obs_fields.specs.declared.layout.Layout.TheVariants.{Rinex3}
use Rattle.obs_fields.specs.EpochFields.{count_in, moment_of, is_later}
use Rattle.rinex_obs.specs.EpochLines.{tag_in, epoch_in, epoch_line_of}
use Rattle.rinex_obs.specs.ObsForm.{EpochPart, Part, Epoch_, IsEpochPart, AreSatLines, AreParts, epoch_in_part, lines_of_part, body_lines}
use Rattle.rinex_obs.specs.ObsForm.{satellites_of as satellites_in, epochs_of as epochs_in}
use Rattle.rinex_obs.specs.declared.epoch_lines.EpochLine.TheVariants as line
use Rattle.sim_session.specs.declared.signals.Signals.{Signals}
use Rattle.sim_session.specs.declared.signals.Tracking.{Tracking}
use Rattle.sim_session.specs.Columns.{fixed_in}
use Rattle.sim_session.specs.ObservationText.{epoch_line, satellite_line, satellite_lines, epoch_text, epochs_text, AreInColumns}
use Rattle.sim_session.proofs.TextLengths.{length-second, length-count}
use Rattle.sim_jobs.specs.Printed.{are_printed}
use Rattle.sim_jobs.proofs.Printed.{printed-append, line_first}
use Rattle.sim_jobs.proofs.Fields.{drop-behind, get-behind, padded-front, padded-whole, whole_digits}
use Rattle.sim_jobs.proofs.Dates.{moment_is, ticks_are}
use Rattle.sim_jobs.specs.ObsFiles.{system_in, values_of, satellites_of, tick_at, epochs_of, HaveRoom}
use Rattle.sim_jobs.proofs.ObsTexts.{printed_fixed, fixed_is, count_is}
use Rattle.sim_jobs.proofs.ObsSatellites.{content, line_read, short, the_kept, AreBelow, none_below, more_below, read_as}
use Rattle.sim_jobs.proofs.Digits.{printed_digits}

-- ---- an epoch's line
second_text : ℕ → List ℕ
second_text seconds = fixed_in 11 (pos (seconds % 60 * 10000000)) 7

count_text : ℕ → List ℕ
count_text sats = fixed_in 3 (pos sats) 0

behind_time : List ℕ → List ℕ → List ℕ
behind_time second count = second ++ (32 ∷ 32 ∷ 48 ∷ count)

epoch_content : ℕ → ℕ → List ℕ
epoch_content seconds sats = codes "> 2024 01 01 " ++ (last_digits 2 (seconds / 3600) ++ (codes " " ++ (last_digits 2 (seconds / 60 % 60) ++ behind_time (second_text seconds) (count_text sats))))

regroup : (second count rest : List ℕ) → (second ++ (32 ∷ 32 ∷ 48 ∷ (count ++ 10 ∷ []))) ++ rest ≡ behind_time second count ++ 10 ∷ rest
unfolding behind_time
regroup second count rest = simp append_assoc

line_is : (seconds sats : ℕ) (rest : List ℕ) → epoch_line seconds sats ++ rest ≡ epoch_content seconds sats ++ 10 ∷ rest
unfolding epoch_line epoch_content second_text count_text
line_is seconds sats rest =
    ap (λ (l : List ℕ). codes "> 2024 01 01 " ++ (last_digits 2 (seconds / 3600) ++ (codes " " ++ (last_digits 2 (seconds / 60 % 60) ++ l))))
    (regroup (fixed_in 11 (pos (seconds % 60 * 10000000)) 7) (fixed_in 3 (pos sats) 0) rest)

printed_second : (seconds : ℕ) → are_printed (second_text seconds) ≡ true
unfolding second_text
printed_second seconds = printed_fixed 11 (pos (seconds % 60 * 10000000)) 7 (small seconds)
  where
    small : (s : ℕ) → s % 60 * 10000000 / 10 ^ 7 < 2 ^ 64
    small s = omega arith

printed_count : (sats : ℕ) → sats ≤ 99 → are_printed (count_text sats) ≡ true
unfolding count_text
printed_count sats few = printed_fixed 3 (pos sats) 0 (small sats few)
  where
    small : (n : ℕ) → n ≤ 99 → n / 10 ^ 0 < 2 ^ 64
    small n h = omega arith

printed_content : (seconds sats : ℕ) → sats ≤ 99 → are_printed (epoch_content seconds sats) ≡ true
unfolding epoch_content behind_time
printed_content seconds sats few =
    printed-append (last_digits 2 (seconds / 3600)) (32 ∷ (last_digits 2 (seconds / 60 % 60) ++ (second_text seconds ++ (32 ∷ 32 ∷ 48 ∷ count_text sats)))) (printed_digits 2 (seconds / 3600))
    (printed-append (last_digits 2 (seconds / 60 % 60)) (second_text seconds ++ (32 ∷ 32 ∷ 48 ∷ count_text sats)) (printed_digits 2 (seconds / 60 % 60))
    (printed-append (second_text seconds) (32 ∷ 32 ∷ 48 ∷ count_text sats) (printed_second seconds) (printed_count sats few)))

epoch_read : (seconds sats : ℕ) (rest : List ℕ) → sats ≤ 99 → lines_of (epoch_line seconds sats ++ rest) ≡ epoch_content seconds sats ∷ lines_of rest
epoch_read seconds sats rest few = ap lines_of (line_is seconds sats rest) ∙ line_first (epoch_content seconds sats) rest (printed_content seconds sats few)

long_second : (seconds : ℕ) → length (second_text seconds) ≡ 11
unfolding second_text
long_second seconds = length-second seconds

long_count : (sats : ℕ) → sats ≤ 99 → length (count_text sats) ≡ 3
unfolding count_text
long_count sats few = length-count sats few

length-epoch : (seconds sats : ℕ) → sats ≤ 99 → length (epoch_content seconds sats) ≡ 35
unfolding epoch_content behind_time
length-epoch seconds sats few =
    let second = long_second seconds in
    let count = long_count sats few in
    simp (length-append, second, count) refl

-- ---- its columns
at_second : (second count : List ℕ) → length second ≡ 11 → padded (behind_time second count) 11 ≡ second
unfolding behind_time
at_second second count long = padded-front second (32 ∷ 32 ∷ 48 ∷ count) 11 (sym long)

at_flag : (second count : List ℕ) → length second ≡ 11 → get_or (behind_time second count) 13 32 ≡ 48
unfolding behind_time
at_flag second count long = get-behind second (32 ∷ 32 ∷ 48 ∷ count) 13 2 32 (omega (arith, long))

at_count : (second count : List ℕ) → length second ≡ 11 → length count ≡ 3 → padded (drop 14 (behind_time second count)) 3 ≡ count
unfolding behind_time
at_count second count long three =
    ap (λ (l : List ℕ). padded l 3) (drop-behind second (32 ∷ 32 ∷ 48 ∷ count) 14 3 (omega (arith, long))) ∙ padded-whole count 3 (sym three)

year_is : (seconds sats : ℕ) → filled_of 3 (columns (epoch_content seconds sats) 3 4) ≡ Ok 2024
unfolding epoch_content padded
year_is seconds sats = refl

month_is : (seconds sats : ℕ) → filled_of 8 (columns (epoch_content seconds sats) 8 2) ≡ Ok 1
unfolding epoch_content padded
month_is seconds sats = refl

day_is : (seconds sats : ℕ) → filled_of 11 (columns (epoch_content seconds sats) 11 2) ≡ Ok 1
unfolding epoch_content padded
day_is seconds sats = refl

hour_columns : (seconds sats : ℕ) → columns (epoch_content seconds sats) 14 2 ≡ last_digits 2 (seconds / 3600)
unfolding epoch_content padded
hour_columns seconds sats = refl

hour_is : (seconds sats : ℕ) → seconds < 86400 → filled_of 14 (columns (epoch_content seconds sats) 14 2) ≡ Ok (seconds / 3600)
hour_is seconds sats day =
    let few : seconds / 3600 < 10 ^ 2 = omega arith in
    ap (filled_of 14) (hour_columns seconds sats) ∙ ap (λ (r : Result (Option ℕ) Flaw). and_then r (λ n. required 14 n)) (whole_digits 14 1 (seconds / 3600) few)

minute_columns : (seconds sats : ℕ) → columns (epoch_content seconds sats) 17 2 ≡ last_digits 2 (seconds / 60 % 60)
unfolding epoch_content padded
minute_columns seconds sats = refl

minute_is : (seconds sats : ℕ) → filled_of 17 (columns (epoch_content seconds sats) 17 2) ≡ Ok (seconds / 60 % 60)
minute_is seconds sats =
    let few : seconds / 60 % 60 < 10 ^ 2 = omega arith in
    ap (filled_of 17) (minute_columns seconds sats) ∙ ap (λ (r : Result (Option ℕ) Flaw). and_then r (λ n. required 17 n)) (whole_digits 17 1 (seconds / 60 % 60) few)

second_columns : (seconds sats : ℕ) → columns (epoch_content seconds sats) 19 11 ≡ second_text seconds
unfolding epoch_content
second_columns seconds sats = at_second (second_text seconds) (count_text sats) (long_second seconds)

part_is : (seconds sats : ℕ) → fixed_field (epoch_content seconds sats) 19 11 7 ≡ Ok (pos (seconds % 60 * 10000000))
unfolding fixed_field second_text
part_is seconds sats =
    let small : seconds % 60 * 10000000 < 10 ^ 18 = omega arith in
    ap (λ (text : List ℕ). readable 19 (fixed_of text 7)) (second_columns seconds sats)
    ∙ ap (readable 19) (fixed_is 11 (pos (seconds % 60 * 10000000)) 7 (omega arith) small)

moment : (seconds : ℕ) → seconds < 86400 → moment_of Rinex3 2024 1 1 (seconds / 3600) (seconds / 60 % 60) (pos (seconds % 60 * 10000000)) ≡ Ok (tick_at seconds)
unfolding moment_of
moment seconds day =
    rw (moment_is (seconds / 3600) (seconds / 60 % 60) (seconds % 60 * 10000000) (omega arith) (omega arith) (omega arith))
    (ap (λ (n : ℕ). let tick : Tick = record { 0 = n } in Ok tick) (ticks_are (seconds / 3600) (seconds / 60 % 60) (seconds % 60 * 10000000) ∙ together seconds))
  where
    together : (s : ℕ) → 13_881_024_000_000_000 + (s / 3600 * 60 + s / 60 % 60) * 600_000_000 + s % 60 * 10000000 ≡ 13_881_024_000_000_000 + s * 10_000_000
    together s = omega (arith, div-div-eq-div-mul s 60 60)

tag_is : (seconds sats : ℕ) → seconds < 86400 → tag_in (epoch_content seconds sats) ≡ Ok (tick_at seconds)
unfolding tag_in
tag_is seconds sats day =
    rw (year_is seconds sats, month_is seconds sats, day_is seconds sats, hour_is seconds sats day, minute_is seconds sats, part_is seconds sats) (moment seconds day)

flag_is : (seconds sats : ℕ) → column (epoch_content seconds sats) 32 ≡ 48
unfolding epoch_content
flag_is seconds sats = at_flag (second_text seconds) (count_text sats) (long_second seconds)

count_columns : (seconds sats : ℕ) → sats ≤ 99 → columns (epoch_content seconds sats) 33 3 ≡ count_text sats
unfolding epoch_content
count_columns seconds sats few = at_count (second_text seconds) (count_text sats) (long_second seconds) (long_count sats few)

counted : (seconds sats : ℕ) → sats ≤ 99 → count_in Rinex3 (epoch_content seconds sats) ≡ Ok sats
unfolding count_in count_text
counted seconds sats few = rw (count_columns seconds sats few, count_is sats few) refl

begins : (seconds sats : ℕ) → are_blank (epoch_content seconds sats) ≡ false
unfolding epoch_content
begins seconds sats = refl

letter_is : (seconds sats : ℕ) → column (epoch_content seconds sats) 1 ≡ 62
unfolding epoch_content
letter_is seconds sats = refl

-- after fewer than 20,000 epochs whose last one is earlier
line_says : (epochs : List Epoch) (seconds sats : ℕ) → length epochs < 20000 → seconds < 86400 → sats ≤ 99 → is_later (last_tag_of epochs) (tick_at seconds) ≡ true →
    epoch_line_of epochs (epoch_content seconds sats) ≡ Ok (line.Epoch (tick_at seconds) false sats)
unfolding epoch_line_of epoch_in
line_says epochs seconds sats few day small later =
    let room : nat_le 20000 (length epochs) ≡ false = grind (arith, nat_tests) in
    rw (begins seconds sats, letter_is seconds sats, flag_is seconds sats, room, tag_is seconds sats day, later, counted seconds sats small) refl

-- ---- its satellites
contents : Tracking → ℕ → List Signals → List (List ℕ)
contents t n [] = []
contents t n (s ∷ sats) = content t (n + 1) s ∷ contents t (n + 1) sats

length-contents : (t : Tracking) (n : ℕ) (sats : List Signals) → length (contents t n sats) ≡ length sats
unfolding contents
length-contents t n [] = refl
length-contents t n (s ∷ sats) = omega (arith, length-contents t (n + 1) sats)

found : Tracking → ℕ → List Signals → List (Option SatObs)
found t n [] = []
found t n (s ∷ sats) = Some (satellite_of (n + 1) (values_of t s)) ∷ found t (n + 1) sats

found_are : (t : Tracking) (n : ℕ) (sats : List Signals) → satellites_in (found t n sats) ≡ satellites_of t n sats
unfolding found
found_are t n [] = refl
found_are t n (s ∷ sats) = ap (λ (l : List SatObs). satellite_of (n + 1) (values_of t s) ∷ l) (found_are t (n + 1) sats)

satellites_read : (t : Tracking) (n : ℕ) (sats : List Signals) (rest : List ℕ) → All AreInColumns sats → lines_of (satellite_lines t n sats ++ rest) ≡ contents t n sats ++ lines_of rest
unfolding contents
satellites_read t n [] rest h = refl
satellites_read t n (s ∷ sats) rest h =
    ap lines_of (append_assoc (satellite_line t (n + 1) s) (satellite_lines t (n + 1) sats) rest) ∙ line_read t (n + 1) s (satellite_lines t (n + 1) sats ++ rest) (All-head AreInColumns s sats h)
    ∙ ap (λ (l : List (List ℕ)). content t (n + 1) s ∷ l) (satellites_read t (n + 1) sats rest (All-tail AreInColumns s sats h))

satellites_say : (t : Tracking) (n : ℕ) (sats : List Signals) (before : List SatObs) → All AreInColumns sats → n + length sats ≤ 32 → AreBelow n before →
    AreSatLines (system_in t) (the_kept t) before (contents t n sats) (found t n sats)
unfolding contents found
satellites_say t n [] before h few below = tt
satellites_say t n (s ∷ sats) before h few below =
    let room = All-head AreInColumns s sats h in (
      short t (n + 1) s room,
      read_as t n s before room (omega arith) below,
      satellites_say t (n + 1) sats (before ++ satellite_of (n + 1) (values_of t s) ∷ []) (All-tail AreInColumns s sats h) (omega arith)
          (more_below n before (satellite_of (n + 1) (values_of t s)) below refl),
    )

-- ---- epochs
part_of : Tracking → ℕ → List Signals → EpochPart
part_of t seconds sats = record { bytes = epoch_content seconds (length sats); tag = tick_at seconds; power = false; sat_lines = contents t 0 sats; found = found t 0 sats }

part_is_epoch : (t : Tracking) (epochs : List Epoch) (seconds : ℕ) (sats : List Signals) → length epochs < 20000 → seconds < 86400 → HaveRoom sats
    → is_later (last_tag_of epochs) (tick_at seconds) ≡ true →
    IsEpochPart (system_in t) (the_kept t) epochs (part_of t seconds sats)
unfolding part_of
part_is_epoch t epochs seconds sats few day room later = record {
  short = omega (arith, length-epoch seconds (length sats) (omega (arith, room.few)));
  is_read = line_says epochs seconds (length sats) few day (omega (arith, room.few)) later ∙ ap (λ (n : ℕ). Ok (line.Epoch (tick_at seconds) false n)) (sym (length-contents t 0 sats));
  sats = satellites_say t 0 sats [] room.columns (omega (arith, room.few)) (none_below 0);
}

pub parts_of : Tracking → ℕ → ℕ → List (List Signals) → List Part
parts_of t step i [] = []
parts_of t step i (sats ∷ epochs) = Epoch_ (part_of t (step * i) sats) ∷ parts_of t step (i + 1) epochs

epoch_text_read : (t : Tracking) (seconds : ℕ) (sats : List Signals) (rest : List ℕ) → HaveRoom sats
    → lines_of (epoch_text t seconds sats ++ rest) ≡ lines_of_part (Epoch_ (part_of t seconds sats)) ++ lines_of rest
unfolding part_of
epoch_text_read t seconds sats rest room =
    ap lines_of (append_assoc (epoch_line seconds (length sats)) (satellite_lines t 0 sats) rest)
    ∙ epoch_read seconds (length sats) (satellite_lines t 0 sats ++ rest) (omega (arith, room.few))
    ∙ ap (λ (l : List (List ℕ)). epoch_content seconds (length sats) ∷ l) (satellites_read t 0 sats rest room.columns)

pub epochs_read : (t : Tracking) (step i : ℕ) (epochs : List (List Signals)) → All HaveRoom epochs → lines_of (epochs_text t step i epochs) ≡ body_lines (parts_of t step i epochs)
unfolding parts_of
epochs_read t step i [] rooms = refl
epochs_read t step i (sats ∷ epochs) rooms =
    epoch_text_read t (step * i) sats (epochs_text t step (i + 1) epochs) (All-head HaveRoom sats epochs rooms)
    ∙ ap (λ (l : List (List ℕ)). lines_of_part (Epoch_ (part_of t (step * i) sats)) ++ l) (epochs_read t step (i + 1) epochs (All-tail HaveRoom sats epochs rooms))

part_gives : (t : Tracking) (seconds : ℕ) (sats : List Signals) → epoch_in_part (part_of t seconds sats) ≡ record { tag = tick_at seconds; power = false; sats = satellites_of t 0 sats }
unfolding part_of
part_gives t seconds sats = ap (λ (l : List SatObs). let epoch : Epoch = record { tag = tick_at seconds; power = false; sats = l } in epoch) (found_are t 0 sats)

pub epochs_are : (t : Tracking) (step i : ℕ) (epochs : List (List Signals)) → epochs_in (parts_of t step i epochs) ≡ epochs_of t step i epochs
unfolding parts_of
epochs_are t step i [] = refl
epochs_are t step i (sats ∷ epochs) =
    let epoch : Epoch = record { tag = tick_at (step * i); power = false; sats = satellites_of t 0 sats } in
    ap (λ (e : Epoch). e ∷ epochs_in (parts_of t step (i + 1) epochs)) (part_gives t (step * i) sats) ∙ ap (λ (l : List Epoch). epoch ∷ l) (epochs_are t step (i + 1) epochs)

last_is : (epochs : List Epoch) (e : Epoch) → last_tag_of (epochs ++ e ∷ []) ≡ Some e.tag
last_is [] e = refl
last_is (x ∷ []) e = refl
last_is (x ∷ y ∷ epochs) e = last_is (y ∷ epochs) e

sucs : (a b : ℕ) → a * (b + 1) ≡ a * b + a
sucs a b = omega (arith, mul-add a b 1)

later : (step i : ℕ) → 0 < step → nat_lt (13_881_024_000_000_000 + step * i * 10_000_000) (13_881_024_000_000_000 + step * (i + 1) * 10_000_000) ≡ true
later step i some = by (step * i) (step * (i + 1)) (sucs step i)
  where
    by : (a b : ℕ) → b ≡ a + step → nat_lt (13_881_024_000_000_000 + a * 10_000_000) (13_881_024_000_000_000 + b * 10_000_000) ≡ true
    by a b is = grind (arith, nat_tests)

in_day : (a b c : ℕ) → 0 < a → a * (b + suc c) ≤ 86400 → a * b < 86400
in_day a b c some h =
    let same : suc c ≡ c + 1 = omega arith in
    let more : a * suc c ≡ a * c + a = ap (λ (n : ℕ). a * n) same ∙ sucs a c in
    omega (arith, mul-add a b (suc c))

moved : (a b c : ℕ) → a * (b + suc c) ≤ 86400 → a * (b + 1 + c) ≤ 86400
moved a b c h = let same : b + 1 + c ≡ b + suc c = omega arith in rw same h

follows : (t : Tracking) (step i : ℕ) (sats : List Signals) → 0 < step → is_later (Some (epoch_in_part (part_of t (step * i) sats)).tag) (tick_at (step * (i + 1))) ≡ true
unfolding part_of
follows t step i sats some = later step i some

pub parts_are : (t : Tracking) (step i : ℕ) (epochs : List (List Signals)) (before : List Epoch) → 0 < step → step * (i + length epochs) ≤ 86400
    → length before + length epochs ≤ 20000 → All HaveRoom epochs →
    is_later (last_tag_of before) (tick_at (step * i)) ≡ true → AreParts (system_in t) (the_kept t) before (parts_of t step i epochs)
unfolding parts_of
parts_are t step i [] before some day few rooms late = tt
parts_are t step i (sats ∷ epochs) before some day few rooms late = (
  part_is_epoch t before (step * i) sats (omega arith) (in_day step i (length epochs) some day) (All-head HaveRoom sats epochs rooms) late,
  parts_are t step (i + 1) epochs (before ++ epoch_in_part (part_of t (step * i) sats) ∷ []) some (moved step i (length epochs) day)
      (omega (arith, length-append before (epoch_in_part (part_of t (step * i) sats) ∷ [])))
      (All-tail HaveRoom sats epochs rooms) (rw (last_is before (epoch_in_part (part_of t (step * i) sats))) (follows t step i sats some)),
)
