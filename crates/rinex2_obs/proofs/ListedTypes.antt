-- What holds of each state that can be reached: of the types at most 200 are listed and due.
use Rattle.std.proofs.Common.{◌≡◌, ◌+◌, ◌-◌, ◌*◌, ℕ, zero, suc, nat_lt, Bool, true, false, List, [], ◌∷◌, Ok, Option, if◌then◌else◌}
use Rattle.gps_time.specs.declared.Tick.{Tick}
use Rattle.obs_store.specs.declared.series.Epoch.{Epoch}
use Rattle.obs_store.specs.declared.values.SatObs.{SatObs}
use Rattle.obs_store.specs.declared.values.Value.{Value}
use Rattle.rinex_head.proofs.Stops.{IsKept}
use Rattle.rinex_head.proofs.TakenLines.{then_holds}
use Rattle.obs_fields.specs.declared.layout.Layout.TheVariants.{Rinex2}
use Rattle.obs_fields.specs.Labels.{event_line_of}
use Rattle.obs_fields.specs.HeaderRules.{AfterLine, Inside, Whole, admit_header}
use Rattle.obs_fields.proofs.HeaderSteps.{HasFew, HasFewAfter, few_kept}
use Rattle.rinex2_obs.specs.Profile.{kept_of}
use Rattle.rinex2_obs.specs.SatNames.{further_mark_of, further_names_of}
use Rattle.rinex2_obs.specs.EpochLines.{epoch_line_of}
use Rattle.rinex2_obs.specs.Rows.{rows_of, further_lines_of, row_of}
use Rattle.obs_fields.specs.declared.header.Header.{Header}
use Rattle.rinex2_obs.specs.declared.epoch_lines.EpochLine.{EpochLine}
use Rattle.rinex2_obs.specs.declared.epoch_lines.EpochLine.TheVariants as line
use Rattle.rinex2_obs.specs.Obs2Rules.{Expected, Head, Body, Names, Row, Further, Skip, with_satellite, more_sats, more_names, more_rows, more_lines, more_slips, after_header, after_epoch, admit, obs2_rules}

abbrev pub Holds : Expected → Type 0
Holds (Head s) = HasFew s
Holds (Body h epochs) = Unit {0}
Holds (Names h epochs tag power names n) = Unit {0}
Holds (Row h epochs tag power sats name names at values) = Unit {0}
Holds (Further h epochs n rows) = Unit {0}
Holds (Skip h epochs changes n) = Unit {0}

sats_hold : (h : Header) (epochs : List Epoch) (tag : Tick) (power : Bool) (sats : List SatObs) (names : List (Option ℕ)) → Holds (more_sats h epochs tag power sats names)
sats_hold h epochs tag power sats [] = tt
sats_hold h epochs tag power sats (name ∷ names) = tt

names_hold : (h : Header) (epochs : List Epoch) (tag : Tick) (power : Bool) (names : List (Option ℕ)) (n : ℕ) → Holds (more_names h epochs tag power names n)
names_hold h epochs tag power names zero = sats_hold h epochs tag power [] names
names_hold h epochs tag power names (suc n) = tt

rows_hold : (h : Header) (epochs : List Epoch) (tag : Tick) (power : Bool) (sats : List SatObs) (name : Option ℕ) (names : List (Option ℕ)) (at : ℕ) (values : List (Option Value))
    → Holds (more_rows h epochs tag power sats name names at values)
rows_hold h epochs tag power sats name names at values = by_test (nat_lt at (rows_of h.types))
  where
    by_test : (t : Bool) → Holds (if t then Row h epochs tag power sats name names at values else more_sats h epochs tag power (with_satellite sats name values) names)
    by_test true = tt
    by_test false = sats_hold h epochs tag power (with_satellite sats name values) names

lines_hold : (h : Header) (epochs : List Epoch) (changes : Bool) (n : ℕ) → Holds (more_lines h epochs changes n)
lines_hold h epochs changes zero = tt
lines_hold h epochs changes (suc n) = tt

slips_hold : (h : Header) (epochs : List Epoch) (n rows : ℕ) → Holds (more_slips h epochs n rows)
slips_hold h epochs zero rows = lines_hold h epochs false rows
slips_hold h epochs (suc n) rows = tt

epoch_holds : (h : Header) (epochs : List Epoch) (l : EpochLine) → Holds (after_epoch h epochs l)
epoch_holds h epochs line.Blank = tt
epoch_holds h epochs (line.Event changes n) = lines_hold h epochs changes n
epoch_holds h epochs (line.Slips n) = slips_hold h epochs (further_lines_of n) (n * rows_of h.types)
epoch_holds h epochs (line.Epoch tag power list) = names_hold h epochs tag power list.names list.left

header_holds : (l : AfterLine) → HasFewAfter l → Holds (after_header l)
header_holds (Inside s) few = few
header_holds (Whole h) few = tt

line_holds : (s next : Expected) (bytes : List ℕ) → Holds s → admit s bytes ≡ Ok next → Holds next
line_holds (Head s) next bytes holds is = then_holds Holds (admit_header Rinex2 s bytes) (λ l. after_header l) next (λ l gives. header_holds l (few_kept Rinex2 s bytes l holds gives)) is
line_holds (Body h epochs) next bytes holds is = then_holds Holds (epoch_line_of epochs bytes) (λ l. after_epoch h epochs l) next (λ l gives. epoch_holds h epochs l) is
line_holds (Names h epochs tag power names n) next bytes holds is =
    then_holds Holds (further_names_of bytes names n) (λ list. more_names h epochs tag power list.names list.left) next
    (λ list gives. names_hold h epochs tag power list.names list.left) is
line_holds (Row h epochs tag power sats name names at values) next bytes holds is =
    then_holds Holds (row_of (kept_of h.types) name at bytes values) (λ set. more_rows h epochs tag power sats name names (at + 1) set) next
    (λ set gives. rows_hold h epochs tag power sats name names (at + 1) set) is
line_holds (Further h epochs n rows) next bytes holds is =
    then_holds Holds (further_mark_of bytes) (λ u. more_slips h epochs (n - 1) rows) next (λ u gives. slips_hold h epochs (n - 1) rows) is
line_holds (Skip h epochs changes n) next bytes holds is =
    then_holds Holds (event_line_of Rinex2 changes bytes) (λ u. more_lines h epochs changes (n - 1)) next (λ u gives. lines_hold h epochs changes (n - 1)) is

pub kept : IsKept obs2_rules Holds
kept = record { starts = tt; keeps = line_holds }
