-- The place of a refusal is the first failing line by the grammar: every state that can be reached can be completed to a file.
use Rattle.std.proofs.Common.{◌≡◌, ◌<◌, ◌≤◌, ◌+◌, ◌-◌, ◌*◌, ◌/◌, ◌%◌, ℕ, zero, suc, nat_lt, Bool, true, false, ◌==◌, min, List, [], ◌∷◌, ◌++◌, drop, codes, Result, Ok, Err, Option, Some, None, refl, sym, ap, ◌∙◌, arith, lit≤, IfOk, slice_set}
use Rattle.std.proofs.lemmas.Bool.Decides.{nat_tests}
use Rattle.gps_time.specs.declared.Tick.{Tick}
use Rattle.obs_store.specs.declared.file.ObsFile.{ObsFile}
use Rattle.obs_store.specs.declared.series.Epoch.{Epoch}
use Rattle.obs_store.specs.declared.values.Value.{Value}
use Rattle.obs_store.specs.declared.values.SatObs.{SatObs}
use Rattle.obs_store.specs.Kinds.{slot_of}
use Rattle.obs_store.specs.Missing.{missing_values}
use Rattle.rinex_head.specs.declared.place.TextFault.{TextFault}
use Rattle.rinex_head.specs.declared.place.Flaw.{Flaw}
use Rattle.rinex_head.specs.declared.system.System.TheVariants.{Gps}
use Rattle.rinex_head.specs.Columns.{padded}
use Rattle.rinex_head.specs.Head.{trimmed}
use Rattle.rinex_head.specs.LineRules.{text_gives, Gives}
use Rattle.rinex_head.specs.FirstFailing.{IsFileOf}
use Rattle.rinex_head.proofs.Stops.{Completes, CanEnd, with_line, with_end}
use Rattle.obs_fields.specs.declared.layout.Layout.TheVariants.{Rinex2}
use Rattle.obs_fields.specs.declared.types.KeptType.{KeptType}
use Rattle.obs_fields.specs.Labels.{label_in, event_line_of}
use Rattle.obs_fields.specs.SatFields.{satellite_at, amount_in, value_in, values_in}
use Rattle.rinex2_obs.specs.Profile.{kept_of}
use Rattle.rinex2_obs.specs.SatNames
use Rattle.rinex2_obs.specs.SatNames.{further_mark_of}
use Rattle.rinex2_obs.specs.Rows.{rows_of, row_of}
use Rattle.obs_fields.specs.declared.header.Header.{Header}
use Rattle.rinex2_obs.specs.Obs2Rules.{Expected, Head, Body, Names, Row, Further, Skip, file_of, more_sats, more_names, more_rows, more_lines, more_slips, with_satellite, admit, obs2_rules}
use Rattle.rinex2_obs.specs.Obs2Form.{IsObs2File, HasObs2File}
use Rattle.obs_fields.proofs.HeaderEnds.{header_done}
use Rattle.rinex2_obs.proofs.Headers.{header_reader}
use Rattle.rinex2_obs.proofs.ListedTypes.{Holds, kept}
use Rattle.rinex2_obs.proofs.Steps.{rows_due, rows_all}
use Rattle.rinex2_obs.proofs.FormLaws.{file_given}
use Rattle.rinex2_obs.proofs.FormTook.{file_took}

body_done : (h : Header) (epochs : List Epoch) → Completes obs2_rules (Body h epochs)
body_done h epochs = with_end obs2_rules (Body h epochs) (file_of h epochs) refl

-- ---- satellites, whose lines are empty

drop_nil : (n : ℕ) → drop {A = ℕ} n [] ≡ []
drop_nil zero = refl
drop_nil (suc n) = refl

no_value : (first : ℕ) → value_in [] first ≡ Ok None
unfolding value_in amount_in padded
no_value first = rw (drop_nil (first - 1)) refl

abbrev IsSet : ℕ → List KeptType → List (Option Value) → Type 0
IsSet at kept values = (set : List (Option Value)) × (values_in Rinex2 at kept [] values ≡ Ok set)

empty_values : (kept : List KeptType) (at : ℕ) (values : List (Option Value)) → IsSet at kept values
unfolding values_in
empty_values [] at values = (values, refl)
empty_values (k ∷ kept) at values = by_line (k.number / 5 == at) refl (λ values. empty_values kept at values)
  where
    by_line : (t : Bool) → (k.number / 5 == at) ≡ t → ((values : List (Option Value)) → IsSet at kept values) → IsSet at (k ∷ kept) values
    by_line true is again =
        let rest = again (slice_set values (slot_of k.kind) None) in
        (rest.0, rw (is, no_value (1 + 16 * (k.number % 5))) rest.1)
    by_line false is again =
        let rest = again values in
        (rest.0, rw is rest.1)

empty_row : (kept : List KeptType) (name : Option ℕ) (at : ℕ) (values : List (Option Value)) → (set : List (Option Value)) × (row_of kept name at [] values ≡ Ok set)
unfolding row_of
empty_row kept None at values = (values, refl)
empty_row kept (Some number) at values = empty_values kept at values

rows_over : (h : Header) (epochs : List Epoch) (tag : Tick) (power : Bool) (sats : List SatObs) (name : Option ℕ) (names : List (Option ℕ)) (at : ℕ)
    (values : List (Option Value)) → rows_of h.types ≤ at
    → ((sats : List SatObs) → Completes obs2_rules (more_sats h epochs tag power sats names)) → Completes obs2_rules (more_rows h epochs tag power sats name names at values)
rows_over h epochs tag power sats name names at values all others = rw (rows_all h epochs tag power sats name names at values all) (others (with_satellite sats name values))

-- one line more
row_done : (h : Header) (epochs : List Epoch) (tag : Tick) (power : Bool) (sats : List SatObs) (name : Option ℕ) (names : List (Option ℕ)) (at : ℕ) (values : List (Option Value))
    → ((set : List (Option Value)) → Completes obs2_rules (more_rows h epochs tag power sats name names (at + 1) set)) → Completes obs2_rules (Row h epochs tag power sats name names at values)
row_done h epochs tag power sats name names at values rest =
    let row = empty_row (kept_of h.types) name at values in
    let admits : admit (Row h epochs tag power sats name names at values) [] ≡ Ok (more_rows h epochs tag power sats name names (at + 1) row.0) = rw (row.1) refl in
    with_line obs2_rules (Row h epochs tag power sats name names at values) (more_rows h epochs tag power sats name names (at + 1) row.0) [] refl (lit≤ tt) admits (rest row.0)

rows_done : (fuel : ℕ) (h : Header) (epochs : List Epoch) (tag : Tick) (power : Bool) (sats : List SatObs) (name : Option ℕ) (names : List (Option ℕ))
    (at : ℕ) (values : List (Option Value)) → rows_of h.types ≤ at + fuel
    → ((sats : List SatObs) → Completes obs2_rules (more_sats h epochs tag power sats names)) → Completes obs2_rules (more_rows h epochs tag power sats name names at values)
rows_done zero h epochs tag power sats name names at values enough others = rows_over h epochs tag power sats name names at values (omega (arith, enough)) others
rows_done (suc fuel) h epochs tag power sats name names at values enough others =
    by_test (nat_lt at (rows_of h.types)) refl (λ set. rows_done fuel h epochs tag power sats name names (at + 1) set (omega (arith, enough)) others)
  where
    by_test : (t : Bool) → nat_lt at (rows_of h.types) ≡ t
        → ((set : List (Option Value)) → Completes obs2_rules (more_rows h epochs tag power sats name names (at + 1) set))
        → Completes obs2_rules (more_rows h epochs tag power sats name names at values)
    by_test false test rest = rows_over h epochs tag power sats name names at values (grind (arith, nat_tests)) others
    by_test true test rest = rw (rows_due h epochs tag power sats name names at values (grind (arith, nat_tests))) (row_done h epochs tag power sats name names at values rest)

sats_done : (names : List (Option ℕ)) (h : Header) (epochs : List Epoch) (tag : Tick) (power : Bool) (sats : List SatObs) → Completes obs2_rules (more_sats h epochs tag power sats names)
sats_done [] h epochs tag power sats = body_done h _
sats_done (name ∷ names) h epochs tag power sats =
    row_done h epochs tag power sats name names 0 missing_values
    (λ set. rows_done (rows_of h.types) h epochs tag power sats name names 1 set (omega arith) (λ sats. sats_done names h epochs tag power sats))

-- ---- names, all of another system

abbrev other_names : List ℕ
other_names = codes "                                R01R01R01R01R01R01R01R01R01R01R01R01"

other_at : (j : ℕ) → j < 12 → satellite_at Gps true other_names (33 + 3 * j) ≡ Ok None
unfolding satellite_at
other_at zero less = refl
other_at (suc zero) less = refl
other_at (suc (suc zero)) less = refl
other_at (suc (suc (suc zero))) less = refl
other_at (suc (suc (suc (suc zero)))) less = refl
other_at (suc (suc (suc (suc (suc zero))))) less = refl
other_at (suc (suc (suc (suc (suc (suc zero)))))) less = refl
other_at (suc (suc (suc (suc (suc (suc (suc zero))))))) less = refl
other_at (suc (suc (suc (suc (suc (suc (suc (suc zero)))))))) less = refl
other_at (suc (suc (suc (suc (suc (suc (suc (suc (suc zero))))))))) less = refl
other_at (suc (suc (suc (suc (suc (suc (suc (suc (suc (suc zero)))))))))) less = refl
other_at (suc (suc (suc (suc (suc (suc (suc (suc (suc (suc (suc zero))))))))))) less = refl
other_at (suc (suc (suc (suc (suc (suc (suc (suc (suc (suc (suc (suc j)))))))))))) less = absurd (omega (arith, less))

-- m names from number j on are taken
others_taken : (j m : ℕ) (names : List (Option ℕ)) → j + m ≤ 12 → (all : List (Option ℕ)) × (SatNames.names_from other_names (33 + 3 * j) m names ≡ Ok all)
unfolding SatNames.names_from
others_taken j zero names few = (names, refl)
others_taken j (suc m) names few =
    let next : 33 + 3 * j + 3 ≡ 33 + 3 * (j + 1) = omega arith in
    let rest = others_taken (j + 1) m (names ++ None ∷ []) (omega arith) in
    (rest.0, rw (other_at j (omega arith), next) rest.1)

names_step : (h : Header) (epochs : List Epoch) (tag : Tick) (power : Bool) (names : List (Option ℕ)) (n : ℕ)
    → (all : List (Option ℕ)) × (admit (Names h epochs tag power names n) other_names ≡ Ok (more_names h epochs tag power all (n - 12)))
unfolding further_mark_of padded
names_step h epochs tag power names n =
    let taken = others_taken 0 (min 12 n) names (omega arith) in
    (taken.0, rw (taken.1) refl)

names_done : (fuel : ℕ) (h : Header) (epochs : List Epoch) (tag : Tick) (power : Bool) (names : List (Option ℕ)) (n : ℕ) → n ≤ fuel → Completes obs2_rules (more_names h epochs tag power names n)
names_done fuel h epochs tag power names zero le = sats_done names h epochs tag power []
names_done zero h epochs tag power names (suc k) le = absurd (omega (arith, le))
names_done (suc fuel) h epochs tag power names (suc k) le =
    let step = names_step h epochs tag power names (suc k) in
    with_line obs2_rules (Names h epochs tag power names (suc k)) (more_names h epochs tag power step.0 (suc k - 12)) other_names refl (lit≤ tt) step.1
    (names_done fuel h epochs tag power step.0 (suc k - 12) (omega (arith, le)))

-- ---- events, whose lines are empty

empty_line : (h : Header) (epochs : List Epoch) (changes : Bool) (n : ℕ) → admit (Skip h epochs changes n) [] ≡ Ok (more_lines h epochs changes (n - 1))
unfolding event_line_of label_in trimmed
empty_line h epochs true n = refl
empty_line h epochs false n = refl

lines_done : (h : Header) (epochs : List Epoch) (changes : Bool) (n : ℕ) → Completes obs2_rules (more_lines h epochs changes n)
lines_done h epochs changes zero = body_done h epochs
lines_done h epochs changes (suc k) =
    let one_less : suc k - 1 ≡ k = omega arith in
    let next : ℕ → Result Expected Flaw = λ j. Ok (more_lines h epochs changes j) in
    with_line obs2_rules (Skip h epochs changes (suc k)) (more_lines h epochs changes k) [] refl (lit≤ tt) (empty_line h epochs changes (suc k) ∙ ap next one_less) (lines_done h epochs changes k)

empty_mark : (h : Header) (epochs : List Epoch) (n rows : ℕ) → admit (Further h epochs n rows) [] ≡ Ok (more_slips h epochs (n - 1) rows)
unfolding further_mark_of padded
empty_mark h epochs n rows = refl

slips_done : (h : Header) (epochs : List Epoch) (n rows : ℕ) → Completes obs2_rules (more_slips h epochs n rows)
slips_done h epochs zero rows = lines_done h epochs false rows
slips_done h epochs (suc k) rows =
    let one_less : suc k - 1 ≡ k = omega arith in
    let next : ℕ → Result Expected Flaw = λ j. Ok (more_slips h epochs j rows) in
    with_line obs2_rules (Further h epochs (suc k) rows) (more_slips h epochs k rows) [] refl (lit≤ tt) (empty_mark h epochs (suc k) rows ∙ ap next one_less) (slips_done h epochs k rows)

completed : (s : Expected) → Holds s → Completes obs2_rules s
completed (Head s) holds = header_done header_reader (λ h. body_done h []) s holds
completed (Body h epochs) holds = body_done h epochs
completed (Names h epochs tag power names n) holds =
    let step = names_step h epochs tag power names n in
    with_line obs2_rules (Names h epochs tag power names n) (more_names h epochs tag power step.0 (n - 12)) other_names refl (lit≤ tt) step.1
    (names_done (n - 12) h epochs tag power step.0 (n - 12) (omega arith))
completed (Row h epochs tag power sats name names at values) holds =
    row_done h epochs tag power sats name names at values
    (λ set. rows_done (rows_of h.types) h epochs tag power sats name names (at + 1) set (omega arith) (λ sats. sats_done names h epochs tag power sats))
completed (Further h epochs n rows) holds = with_line obs2_rules (Further h epochs n rows) (more_slips h epochs (n - 1) rows) [] refl (lit≤ tt) (empty_mark h epochs n rows) (slips_done h epochs (n - 1) rows)
completed (Skip h epochs changes n) holds = with_line obs2_rules (Skip h epochs changes n) (more_lines h epochs changes (n - 1)) [] refl (lit≤ tt)
    (empty_line h epochs changes n) (lines_done h epochs changes (n - 1))

pub ends : CanEnd obs2_rules
ends = record { Holds = Holds; kept = kept; completed = completed }

-- the grammar and the rules have the same files
pub file_of_rules : (lines : List (List ℕ)) → HasObs2File lines → IsFileOf obs2_rules lines
file_of_rules lines is = (is.0, file_given lines is.0 is.1)

pub rules_of_file : (lines : List (List ℕ)) → IsFileOf obs2_rules lines → HasObs2File lines
rules_of_file lines is = (is.0, file_took lines is.0 is.1)

pub ok_exit : (lines : List (List ℕ)) (r : Result ObsFile TextFault) → Gives (text_gives obs2_rules lines) (λ file. file) r → IfOk r (λ file. IsObs2File lines file)
ok_exit lines (Ok file) given = file_took lines file given
ok_exit lines (Err fault) given = tt

-- a text has at most one file
pub only_exit : (lines : List (List ℕ)) (r : Result ObsFile TextFault) → Gives (text_gives obs2_rules lines) (λ file. file) r
    → IfOk r (λ file. (other : ObsFile) → IsObs2File lines other → other ≡ file)
only_exit lines (Ok file) given = λ other is. let same : Ok other ≡ Ok file = sym (file_given lines other is) ∙ given in cc (same)
only_exit lines (Err fault) given = tt
