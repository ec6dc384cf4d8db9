-- What the lines give is what the grammar says.
use Rattle.std.proofs.Common.{◌≡◌, ◌+◌, ◌-◌, ℕ, suc, Bool, false, List, [], ◌∷◌, ◌++◌, length, Ok, Option, refl, sym, ap, ◌∙◌, arith, append_assoc, add-zero, length-append}
use Rattle.std.proofs.lemmas.List.{append-nil}
use Rattle.gps_time.specs.declared.Tick.{Tick}
use Rattle.obs_store.specs.declared.file.ObsFile.{ObsFile}
use Rattle.obs_store.specs.Epochs.{epoch_of}
use Rattle.obs_store.specs.declared.series.Epoch.{Epoch}
use Rattle.obs_store.specs.declared.values.Value.{Value}
use Rattle.obs_store.specs.declared.values.SatObs.{SatObs}
use Rattle.obs_store.specs.Missing.{missing_values}
use Rattle.rinex_head.specs.declared.system.System.{System}
use Rattle.rinex_head.specs.declared.system.System.TheVariants.{Gps}
use Rattle.rinex_head.specs.LineRules.{walk}
use Rattle.rinex_head.proofs.LineRuleLaws.{walk-takes, walk-end}
use Rattle.rinex2_obs.specs.Profile.{kept_of}
use Rattle.rinex2_obs.specs.Rows.{rows_of}
use Rattle.obs_fields.specs.declared.header.Header.{Header}
use Rattle.obs_fields.specs.HeaderRules.{First}
use Rattle.rinex2_obs.specs.Obs2Rules.{Head, Body, Skip, file_of, more_sats, more_names, more_rows, more_lines, more_slips, with_satellite, admit, obs2_rules}
use Rattle.obs_fields.specs.declared.layout.Layout.TheVariants.{Rinex2}
use Rattle.obs_fields.specs.Events.{AreEventLines}
use Rattle.rinex2_obs.specs.EpochLines.{epoch_line_of}
use Rattle.rinex2_obs.specs.declared.epoch_lines.EpochLine.TheVariants as line
use Rattle.obs_fields.proofs.HeaderLaws.{header_given}
use Rattle.rinex2_obs.specs.Obs2Form.{SatPart, Part, Blank, Event, Slips, Epoch_, AreFurtherNames, AreRows, AreSats, numbers_of, sat_lines, if_of_gps, satellites_of, AreMarked, AreShort, epoch_in_part, AreParts, epochs_of, body_lines, IsObs2File}
use Rattle.rinex2_obs.proofs.Headers.{header_reader}
use Rattle.rinex2_obs.proofs.Steps.{admit_names, rows_begin, rows_all, admit_rows, admit_slips, admit_skipped, one_satellite}

-- the lines of an event are taken
lines_taken : (lines more : List (List ℕ)) (h : Header) (epochs : List Epoch) (changes : Bool) (n : ℕ) → AreEventLines Rinex2 changes lines
    → walk obs2_rules (lines ++ more) n (more_lines h epochs changes (length lines)) ≡ walk obs2_rules more (n + length lines) (Body h epochs)
lines_taken [] more h epochs changes n are = rw add-zero refl
lines_taken (bytes ∷ lines) more h epochs changes n are =
    let one_less : suc (length lines) - 1 ≡ length lines = omega arith in
    let further : n + suc (length lines) ≡ n + 1 + length lines = omega arith in
    let admits : admit (Skip h epochs changes (suc (length lines))) bytes ≡ Ok (more_lines h epochs changes (length lines)) = rw (are.1, one_less) refl in
    walk-takes obs2_rules (Skip h epochs changes (suc (length lines))) (more_lines h epochs changes (length lines)) bytes (lines ++ more) n are.0 admits
    ∙ lines_taken lines more h epochs changes (n + 1) are.2 ∙ rw further refl

-- lines after which the header can't change are taken whatever they say
short_taken : (lines more : List (List ℕ)) (h : Header) (epochs : List Epoch) (n : ℕ) → AreShort lines
    → walk obs2_rules (lines ++ more) n (more_lines h epochs false (length lines)) ≡ walk obs2_rules more (n + length lines) (Body h epochs)
short_taken [] more h epochs n are = rw add-zero refl
short_taken (bytes ∷ lines) more h epochs n are =
    let one_less : suc (length lines) - 1 ≡ length lines = omega arith in
    let further : n + suc (length lines) ≡ n + 1 + length lines = omega arith in
    let admits : admit (Skip h epochs false (suc (length lines))) bytes ≡ Ok (more_lines h epochs false (length lines)) = admit_skipped h epochs (suc (length lines)) bytes ∙ rw one_less refl in
    walk-takes obs2_rules (Skip h epochs false (suc (length lines))) (more_lines h epochs false (length lines)) bytes (lines ++ more) n are.0 admits
    ∙ short_taken lines more h epochs (n + 1) are.1 ∙ rw further refl

-- lines of names that aren't read are taken
marked_taken : (lines more : List (List ℕ)) (h : Header) (epochs : List Epoch) (rows n : ℕ) → AreMarked lines
    → walk obs2_rules (lines ++ more) n (more_slips h epochs (length lines) rows) ≡ walk obs2_rules more (n + length lines) (more_lines h epochs false rows)
marked_taken [] more h epochs rows n are = rw add-zero refl
marked_taken (bytes ∷ lines) more h epochs rows n are =
    let some = suc (length lines) in
    let one_less : suc (length lines) - 1 ≡ length lines = omega arith in
    let further : n + suc (length lines) ≡ n + 1 + length lines = omega arith in
    let admits : admit (more_slips h epochs some rows) bytes ≡ Ok (more_slips h epochs (length lines) rows) = admit_slips h epochs some rows bytes (omega arith) ∙ rw (are.1, one_less) refl in
    walk-takes obs2_rules (more_slips h epochs some rows) (more_slips h epochs (length lines) rows) bytes (lines ++ more) n are.0 admits
    ∙ marked_taken lines more h epochs rows (n + 1) are.2 ∙ rw further refl

-- the lines of a satellite from that number on are taken
rows_taken : (rows more : List (List ℕ)) (h : Header) (epochs : List Epoch) (tag : Tick) (power : Bool) (sats : List SatObs) (name : Option ℕ)
    (names : List (Option ℕ)) (at : ℕ) (before after : List (Option Value)) (n : ℕ)
    → AreRows (kept_of h.types) name at rows before after → length rows + at ≡ rows_of h.types
    → walk obs2_rules (rows ++ more) n (more_rows h epochs tag power sats name names at before)
    ≡ walk obs2_rules more (n + length rows) (more_sats h epochs tag power (with_satellite sats name after) names)
rows_taken [] more h epochs tag power sats name names at before after n are count =
    let all = rows_all h epochs tag power sats name names at before (omega (arith, count)) in
    rw (all, are, add-zero) refl
rows_taken (bytes ∷ rows) more h epochs tag power sats name names at before after n are count =
    let set = are.1.0 in
    let further : n + suc (length rows) ≡ n + 1 + length rows = omega arith in
    let admits : admit (more_rows h epochs tag power sats name names at before) bytes ≡ Ok (more_rows h epochs tag power sats name names (at + 1) set) =
    admit_rows h epochs tag power sats name names at before bytes (omega (arith, count)) ∙ rw (are.1.1) refl in
    walk-takes obs2_rules (more_rows h epochs tag power sats name names at before) (more_rows h epochs tag power sats name names (at + 1) set) bytes (rows ++ more) n are.0 admits
    ∙ rows_taken rows more h epochs tag power sats name names (at + 1) set after (n + 1) are.1.2 (omega (arith, count)) ∙ rw further refl

-- and so are those of the satellites of an epoch
sats_taken : (parts : List SatPart) (more : List (List ℕ)) (h : Header) (epochs : List Epoch) (tag : Tick) (power : Bool) (sats : List SatObs) (n : ℕ) → AreSats h.types parts
    → walk obs2_rules (sat_lines parts ++ more) n (more_sats h epochs tag power sats (numbers_of parts))
    ≡ walk obs2_rules more (n + length (sat_lines parts)) (Body h (epochs ++ epoch_of tag power (sats ++ satellites_of parts) ∷ []))
sats_taken [] more h epochs tag power sats n are = rw (add-zero, append-nil sats) refl
sats_taken (p ∷ parts) more h epochs tag power sats n are =
    let behind = sat_lines parts ++ more in
    let after = with_satellite sats p.number p.values in
    let count : length p.rows + 0 ≡ rows_of h.types = omega (arith, are.0.count) in
    let further : n + length (p.rows ++ sat_lines parts) ≡ n + length p.rows + length (sat_lines parts) = omega (arith, length-append p.rows (sat_lines parts)) in
    let same : after ++ satellites_of parts ≡ sats ++ (if_of_gps p.number p.values ++ satellites_of parts) = one_satellite sats p.number p.values (satellites_of parts) in
    ap (λ (l : List (List ℕ)). walk obs2_rules l n (more_sats h epochs tag power sats (p.number ∷ numbers_of parts))) (append_assoc p.rows (sat_lines parts) more)
    ∙ rw (rows_begin h epochs tag power sats p.number (numbers_of parts)) (rows_taken p.rows behind h epochs tag power sats p.number (numbers_of parts) 0 missing_values p.values n are.0.rows count)
    ∙ sats_taken parts more h epochs tag power after (n + length p.rows) are.1
    ∙ rw (further, same) refl

-- the further lines of an epoch's names are taken
names_taken : (lines more : List (List ℕ)) (h : Header) (epochs : List Epoch) (tag : Tick) (power : Bool) (names : List (Option ℕ)) (left : ℕ)
    (all : List (Option ℕ)) (n : ℕ) → AreFurtherNames lines names left all
    → walk obs2_rules (lines ++ more) n (more_names h epochs tag power names left) ≡ walk obs2_rules more (n + length lines) (more_sats h epochs tag power [] all)
names_taken [] more h epochs tag power names left all n are = rw (are.0, are.1, add-zero) refl
names_taken (bytes ∷ lines) more h epochs tag power names left all n are =
    let list = are.2.0 in
    let further : n + suc (length lines) ≡ n + 1 + length lines = omega arith in
    let admits : admit (more_names h epochs tag power names left) bytes ≡ Ok (more_names h epochs tag power list.names list.left) =
    admit_names h epochs tag power names left bytes are.0 ∙ rw (are.2.1) refl in
    walk-takes obs2_rules (more_names h epochs tag power names left) (more_names h epochs tag power list.names list.left) bytes (lines ++ more) n are.1 admits
    ∙ names_taken lines more h epochs tag power list.names list.left all (n + 1) are.2.2 ∙ rw further refl

-- and so are the parts of a body
parts_taken : (parts : List Part) (h : Header) (epochs : List Epoch) (n : ℕ) → AreParts h.types epochs parts
    → walk obs2_rules (body_lines parts) n (Body h epochs) ≡ Ok (file_of h (epochs ++ epochs_of parts))
parts_taken [] h epochs n are = walk-end obs2_rules (Body h epochs) n ∙ rw (append-nil epochs) refl
parts_taken (Blank bytes ∷ parts) h epochs n are =
    let admits : admit (Body h epochs) bytes ≡ Ok (Body h epochs) = rw (are.1) refl in
    walk-takes obs2_rules (Body h epochs) (Body h epochs) bytes (body_lines parts) n are.0 admits ∙ parts_taken parts h epochs (n + 1) are.2
parts_taken (Event p ∷ parts) h epochs n are =
    let line_count = length p.event_lines in
    let is_read : epoch_line_of epochs p.bytes ≡ Ok (line.Event p.changes line_count) = are.0.is_read in
    let admits : admit (Body h epochs) p.bytes ≡ Ok (more_lines h epochs p.changes line_count) = rw is_read refl in
    walk-takes obs2_rules (Body h epochs) (more_lines h epochs p.changes line_count) p.bytes (p.event_lines ++ body_lines parts) n are.0.short admits
    ∙ lines_taken p.event_lines (body_lines parts) h epochs p.changes (n + 1) are.0.lines
    ∙ parts_taken parts h epochs (n + 1 + line_count) are.1
parts_taken (Slips p ∷ parts) h epochs n are =
    let further_count = length p.further in
    let row_count = length p.rows in
    let admits : admit (Body h epochs) p.bytes ≡ Ok (more_slips h epochs further_count row_count) = rw (are.0.is_read, are.0.further_count, are.0.rows_count) refl in
    walk-takes obs2_rules (Body h epochs) (more_slips h epochs further_count row_count) p.bytes ((p.further ++ p.rows) ++ body_lines parts) n are.0.short admits
    ∙ ap (λ (l : List (List ℕ)). walk obs2_rules l (n + 1) (more_slips h epochs further_count row_count)) (append_assoc p.further p.rows (body_lines parts))
    ∙ marked_taken p.further (p.rows ++ body_lines parts) h epochs row_count (n + 1) are.0.further
    ∙ short_taken p.rows (body_lines parts) h epochs (n + 1 + further_count) are.0.rows
    ∙ parts_taken parts h epochs (n + 1 + further_count + row_count) are.1
parts_taken (Epoch_ p ∷ parts) h epochs n are =
    let further_count = length p.further in
    let lines = sat_lines p.sats in
    let first = more_names h epochs p.tag p.power p.list.names p.list.left in
    let admits : admit (Body h epochs) p.bytes ≡ Ok first = rw (are.0.is_read) refl in
    walk-takes obs2_rules (Body h epochs) first p.bytes ((p.further ++ lines) ++ body_lines parts) n are.0.short admits
    ∙ ap (λ (l : List (List ℕ)). walk obs2_rules l (n + 1) first) (append_assoc p.further lines (body_lines parts))
    ∙ names_taken p.further (lines ++ body_lines parts) h epochs p.tag p.power p.list.names p.list.left (numbers_of p.sats) (n + 1) are.0.names
    ∙ sats_taken p.sats (body_lines parts) h epochs p.tag p.power [] (n + 1 + further_count) are.0.sats
    ∙ parts_taken parts h (epochs ++ epoch_in_part p ∷ []) (n + 1 + further_count + length lines) are.1
    ∙ rw (append_assoc epochs (epoch_in_part p ∷ []) (epochs_of parts)) refl

-- a file of the grammar is what its lines give
pub file_given : (lines : List (List ℕ)) (file : ObsFile) → IsObs2File lines file → walk obs2_rules lines 0 (Head (First Gps)) ≡ Ok file
file_given lines file is =
    let head = header_given header_reader is.header_lines (body_lines is.parts) is.header is.is_header in
    ap (λ (l : List (List ℕ)). walk obs2_rules l 0 (Head (First Gps))) is.lines_are
    ∙ ap (λ (s : System). walk obs2_rules (is.header_lines ++ body_lines is.parts) 0 (Head (First s))) (sym is.of_gps)
    ∙ head.1 ∙ parts_taken is.parts is.header [] head.0 is.are_parts ∙ ap (λ (f : ObsFile). Ok f) (sym is.file_is)
