-- What one line gives in its place.
use Rattle.std.proofs.Common.{◌≡◌, ◌≤◌, ◌<◌, ◌-◌, ◌+◌, ℕ, zero, suc, nat_lt, Bool, true, false, List, [], ◌∷◌, ◌++◌, Result, Ok, Err, Option, Some, None, refl, sym, ◌∙◌, arith, append_assoc}
use Rattle.std.proofs.lemmas.Bool.Decides.{nat_tests}
use Rattle.gps_time.specs.declared.Tick.{Tick}
use Rattle.obs_store.specs.declared.series.Epoch.{Epoch}
use Rattle.obs_store.specs.declared.values.Value.{Value}
use Rattle.obs_store.specs.declared.values.SatObs.{SatObs}
use Rattle.obs_store.specs.Missing.{missing_values}
use Rattle.rinex_head.specs.declared.place.What.TheVariants.{Truncated}
use Rattle.line_source.specs.Lines.{Reading}
use Rattle.rinex_head.specs.declared.place.TextFault.{TextFault}
use Rattle.rinex_head.specs.Places.{and_then, flawed}
use Rattle.rinex_head.specs.LineRules.{rest_gives, Reads}
use Rattle.rinex_head.proofs.LineRuleLaws.{handed_on}
use Rattle.obs_fields.specs.declared.layout.Layout.TheVariants.{Rinex2}
use Rattle.obs_fields.specs.declared.types.KeptType.{KeptType}
use Rattle.obs_fields.specs.SatFields.{values_in}
use Rattle.obs_fields.specs.Labels.{event_line_of}
use Rattle.rinex2_obs.specs.Profile.{kept_of}
use Rattle.rinex2_obs.specs.Rows.{rows_of, row_of}
use Rattle.rinex2_obs.specs.SatNames.{further_mark_of, further_names_of}
use Rattle.obs_fields.specs.declared.header.Header.{Header}
use Rattle.rinex2_obs.specs.Obs2Rules.{Expected, Row, Skip, more_sats, more_names, more_rows, more_lines, more_slips, with_satellite, admit, finish, obs2_rules}
use Rattle.rinex2_obs.specs.Obs2Form.{if_of_gps}

-- ---- the names and the lines of satellites

pub finish_names : (h : Header) (epochs : List Epoch) (tag : Tick) (power : Bool) (names : List (Option ℕ)) (n : ℕ) → 0 < n → finish (more_names h epochs tag power names n) ≡ flawed 1 Truncated
finish_names h epochs tag power names zero some = absurd (omega arith)
finish_names h epochs tag power names (suc n) some = refl

pub admit_names : (h : Header) (epochs : List Epoch) (tag : Tick) (power : Bool) (names : List (Option ℕ)) (n : ℕ) (bytes : List ℕ) → 0 < n
    → admit (more_names h epochs tag power names n) bytes ≡ and_then (further_names_of bytes names n) (λ list. Ok (more_names h epochs tag power list.names list.left))
admit_names h epochs tag power names zero bytes some = absurd (omega arith)
admit_names h epochs tag power names (suc n) bytes some = refl

-- no name is due
pub names_all : (h : Header) (epochs : List Epoch) (tag : Tick) (power : Bool) (names : List (Option ℕ)) (n : ℕ) → n ≤ 0 → more_names h epochs tag power names n ≡ more_sats h epochs tag power [] names
names_all h epochs tag power names zero none = refl
names_all h epochs tag power names (suc n) none = absurd (omega arith)

pub rows_due : (h : Header) (epochs : List Epoch) (tag : Tick) (power : Bool) (sats : List SatObs) (name : Option ℕ) (names : List (Option ℕ))
    (at : ℕ) (values : List (Option Value)) → at < rows_of h.types
    → more_rows h epochs tag power sats name names at values ≡ Row h epochs tag power sats name names at values
rows_due h epochs tag power sats name names at values less = let test : nat_lt at (rows_of h.types) ≡ true = grind (arith, nat_tests) in rw test refl

pub rows_all : (h : Header) (epochs : List Epoch) (tag : Tick) (power : Bool) (sats : List SatObs) (name : Option ℕ) (names : List (Option ℕ))
    (at : ℕ) (values : List (Option Value)) → rows_of h.types ≤ at
    → more_rows h epochs tag power sats name names at values ≡ more_sats h epochs tag power (with_satellite sats name values) names
rows_all h epochs tag power sats name names at values all = let test : nat_lt at (rows_of h.types) ≡ false = grind (arith, nat_tests) in rw test refl

-- each satellite has a line
pub rows_begin : (h : Header) (epochs : List Epoch) (tag : Tick) (power : Bool) (sats : List SatObs) (name : Option ℕ) (names : List (Option ℕ))
    → more_sats h epochs tag power sats (name ∷ names) ≡ more_rows h epochs tag power sats name names 0 missing_values
rows_begin h epochs tag power sats name names = sym (rows_due h epochs tag power sats name names 0 missing_values (omega arith))

pub finish_rows : (h : Header) (epochs : List Epoch) (tag : Tick) (power : Bool) (sats : List SatObs) (name : Option ℕ) (names : List (Option ℕ))
    (at : ℕ) (values : List (Option Value)) → at < rows_of h.types
    → finish (more_rows h epochs tag power sats name names at values) ≡ flawed 1 Truncated
finish_rows h epochs tag power sats name names at values less = rw (rows_due h epochs tag power sats name names at values less) refl

pub admit_rows : (h : Header) (epochs : List Epoch) (tag : Tick) (power : Bool) (sats : List SatObs) (name : Option ℕ) (names : List (Option ℕ))
    (at : ℕ) (values : List (Option Value)) (bytes : List ℕ) → at < rows_of h.types
    → admit (more_rows h epochs tag power sats name names at values) bytes
    ≡ and_then (row_of (kept_of h.types) name at bytes values) (λ set. Ok (more_rows h epochs tag power sats name names (at + 1) set))
admit_rows h epochs tag power sats name names at values bytes less = rw (rows_due h epochs tag power sats name names at values less) refl

-- the same for a satellite of GPS, with the kept types of the header's list
pub admit_mine : (kept : List KeptType) (h : Header) (epochs : List Epoch) (tag : Tick) (power : Bool) (sats : List SatObs) (number : ℕ)
    (names : List (Option ℕ)) (at : ℕ) (values : List (Option Value)) (bytes : List ℕ) → kept ≡ kept_of h.types → at < rows_of h.types
    → admit (more_rows h epochs tag power sats (Some number) names at values) bytes
    ≡ and_then (values_in Rinex2 at kept bytes values) (λ set. Ok (more_rows h epochs tag power sats (Some number) names (at + 1) set))
unfolding row_of
admit_mine kept h epochs tag power sats number names at values bytes same less = rw same (admit_rows h epochs tag power sats (Some number) names at values bytes less)

-- and for one of another system
pub admit_other : (h : Header) (epochs : List Epoch) (tag : Tick) (power : Bool) (sats : List SatObs) (names : List (Option ℕ)) (at : ℕ)
    (values : List (Option Value)) (bytes : List ℕ) → at < rows_of h.types
    → admit (more_rows h epochs tag power sats None names at values) bytes ≡ Ok (more_rows h epochs tag power sats None names (at + 1) values)
unfolding row_of
admit_other h epochs tag power sats names at values bytes less = admit_rows h epochs tag power sats None names at values bytes less

-- the satellite of a name stands after the others
pub one_satellite : (sats : List SatObs) (name : Option ℕ) (values : List (Option Value)) (others : List SatObs) → with_satellite sats name values ++ others ≡ sats ++ (if_of_gps name values ++ others)
one_satellite sats None values others = refl
one_satellite sats (Some number) values others = append_assoc sats (if_of_gps (Some number) values) others

-- ---- events

pub finish_lines : (h : Header) (epochs : List Epoch) (changes : Bool) (n : ℕ) → 0 < n → finish (more_lines h epochs changes n) ≡ flawed 1 Truncated
finish_lines h epochs changes zero some = absurd (omega arith)
finish_lines h epochs changes (suc n) some = refl

pub admit_lines : (h : Header) (epochs : List Epoch) (changes : Bool) (n : ℕ) (bytes : List ℕ) → 0 < n
    → admit (more_lines h epochs changes n) bytes ≡ and_then (event_line_of Rinex2 changes bytes) (λ u. Ok (more_lines h epochs changes (n - 1)))
admit_lines h epochs changes zero bytes some = absurd (omega arith)
admit_lines h epochs changes (suc n) bytes some = refl

-- a line after which the header can't change
pub admit_skipped : (h : Header) (epochs : List Epoch) (n : ℕ) (bytes : List ℕ) → admit (Skip h epochs false n) bytes ≡ Ok (more_lines h epochs false (n - 1))
unfolding event_line_of
admit_skipped h epochs n bytes = refl

pub finish_slips : (h : Header) (epochs : List Epoch) (n rows : ℕ) → 0 < n → finish (more_slips h epochs n rows) ≡ flawed 1 Truncated
finish_slips h epochs zero rows some = absurd (omega arith)
finish_slips h epochs (suc n) rows some = refl

pub admit_slips : (h : Header) (epochs : List Epoch) (n rows : ℕ) (bytes : List ℕ) → 0 < n
    → admit (more_slips h epochs n rows) bytes ≡ and_then (further_mark_of bytes) (λ u. Ok (more_slips h epochs (n - 1) rows))
admit_slips h epochs zero rows bytes some = absurd (omega arith)
admit_slips h epochs (suc n) rows bytes some = refl

pub slips_all : (h : Header) (epochs : List Epoch) (n rows : ℕ) → n ≤ 0 → more_slips h epochs n rows ≡ more_slips h epochs 0 rows
slips_all h epochs zero rows none = refl
slips_all h epochs (suc n) rows none = absurd (omega arith)

-- ---- parts of a text

-- a part that takes memory, after one that takes none
pub reads_after : (s middle : Expected) (next : List SatObs → Expected) (old between new : Reading) (r : Result (List SatObs) TextFault)
    → rest_gives obs2_rules old s ≡ rest_gives obs2_rules between middle → Reads obs2_rules between new middle next r → Reads obs2_rules old new s next r
reads_after s middle next old between new (Ok sats) first second = first ∙ second
reads_after s middle next old between new (Err fault) first second = handed_on _ _ fault first second
