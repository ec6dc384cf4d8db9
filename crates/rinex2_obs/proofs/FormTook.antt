-- Lines that give a file are one of the grammar.
use Rattle.std.proofs.Common.{◌≡◌, ◌≤◌, ◌<◌, ◌+◌, ◌-◌, ◌*◌, ℕ, zero, suc, nat_lt, Bool, true, false, List, [], ◌∷◌, ◌++◌, length, Result, Ok, Err, Option, refl, sym, ap, ◌∙◌, subst, arith, append_assoc}
use Rattle.std.proofs.lemmas.List.{append-nil}
use Rattle.std.proofs.lemmas.Bool.Decides.{nat_tests}
use Rattle.gps_time.specs.declared.Tick.{Tick}
use Rattle.obs_store.specs.declared.file.ObsFile.{ObsFile}
use Rattle.obs_store.specs.Epochs.{epoch_of}
use Rattle.obs_store.specs.declared.series.Epoch.{Epoch}
use Rattle.obs_store.specs.declared.values.Value.{Value}
use Rattle.obs_store.specs.declared.values.SatObs.{SatObs}
use Rattle.obs_store.specs.Missing.{missing_values}
use Rattle.rinex_head.specs.declared.place.What.{What}
use Rattle.rinex_head.specs.declared.place.What.TheVariants.{Truncated}
use Rattle.rinex_head.specs.declared.place.Flaw.{Flaw}
use Rattle.rinex_head.specs.Places.{and_then, flawed, at_line}
use Rattle.rinex_head.specs.declared.system.System.TheVariants.{Gps}
use Rattle.rinex_head.specs.LineRules.{walk}
use Rattle.rinex_head.proofs.LineRuleLaws.{walk-end, TookLine, walk-took}
use Rattle.obs_fields.specs.declared.layout.Layout.TheVariants.{Rinex2}
use Rattle.obs_fields.specs.Events.{EventPart, AreEventLines}
use Rattle.obs_fields.specs.Labels.{event_line_of}
use Rattle.rinex2_obs.specs.Profile.{kept_of}
use Rattle.rinex2_obs.specs.SatNames.{further_mark_of, further_names_of}
use Rattle.rinex2_obs.specs.EpochLines.{epoch_line_of}
use Rattle.rinex2_obs.specs.Rows.{rows_of, further_lines_of, row_of}
use Rattle.rinex2_obs.specs.declared.sat_names.NameList.{NameList}
use Rattle.obs_fields.specs.declared.header.Header.{Header}
use Rattle.rinex2_obs.specs.declared.epoch_lines.EpochLine.{EpochLine}
use Rattle.rinex2_obs.specs.declared.epoch_lines.EpochLine.TheVariants as line
use Rattle.obs_fields.specs.HeaderRules.{First}
use Rattle.rinex2_obs.specs.Obs2Rules.{Expected, Head, Body, Names, Row, Further, Skip, file_of, more_sats, more_names, more_rows, more_lines, more_slips, after_epoch, with_satellite, obs2_rules}
use Rattle.obs_fields.proofs.HeaderTook.{header_took}
use Rattle.rinex2_obs.specs.Obs2Form.{SatPart, EpochPart, SlipsPart, Part, Blank, Event, Slips, Epoch_, AreFurtherNames, AreRows, AreSats, numbers_of, sat_lines, satellites_of, AreMarked, AreShort, AreParts, epochs_of, body_lines, IsObs2File}
use Rattle.rinex2_obs.proofs.Steps.{rows_due, rows_all, one_satellite}
use Rattle.rinex2_obs.proofs.Headers.{header_reader}

-- ---- the body

record TookBody (lines : List (List ℕ)) (h : Header) (epochs : List Epoch) (whole : ObsFile) : Type 0 where
  parts : List Part
  lines_are : lines ≡ body_lines parts
  each : AreParts h.types epochs parts
  whole_is : whole ≡ file_of h (epochs ++ epochs_of parts)

-- the satellites of the names, after these ones of an epoch
record TookSats (lines : List (List ℕ)) (h : Header) (epochs : List Epoch) (tag : Tick) (power : Bool) (sats : List SatObs) (names : List (Option ℕ)) (whole : ObsFile) : Type 0 where
  others : List SatPart
  parts : List Part
  lines_are : lines ≡ sat_lines others ++ body_lines parts
  numbers : names ≡ numbers_of others
  are : AreSats h.types others
  each : AreParts h.types (epochs ++ epoch_of tag power (sats ++ satellites_of others) ∷ []) parts
  whole_is : whole ≡ file_of h (epochs ++ epoch_of tag power (sats ++ satellites_of others) ∷ epochs_of parts)

-- the lines of a satellite from that number on
record TookRows (lines : List (List ℕ)) (h : Header) (epochs : List Epoch) (tag : Tick) (power : Bool) (sats : List SatObs) (name : Option ℕ)
    (names : List (Option ℕ)) (at : ℕ) (values : List (Option Value)) (whole : ObsFile) : Type 0 where
  rows : List (List ℕ)
  after : List (Option Value)
  rest : List (List ℕ)
  lines_are : lines ≡ rows ++ rest
  count : length rows + at ≡ rows_of h.types
  are : AreRows (kept_of h.types) name at rows values after
  behind : TookSats rest h epochs tag power (with_satellite sats name after) names whole

record TookNames (lines : List (List ℕ)) (h : Header) (epochs : List Epoch) (tag : Tick) (power : Bool) (names : List (Option ℕ)) (left : ℕ) (whole : ObsFile) : Type 0 where
  further : List (List ℕ)
  all : List (Option ℕ)
  rest : List (List ℕ)
  lines_are : lines ≡ further ++ rest
  are : AreFurtherNames further names left all
  behind : TookSats rest h epochs tag power [] all whole

record TookLines (lines : List (List ℕ)) (h : Header) (epochs : List Epoch) (changes : Bool) (k : ℕ) (whole : ObsFile) : Type 0 where
  event_lines : List (List ℕ)
  parts : List Part
  lines_are : lines ≡ event_lines ++ body_lines parts
  count : k ≡ length event_lines
  are : AreEventLines Rinex2 changes event_lines
  each : AreParts h.types epochs parts
  whole_is : whole ≡ file_of h (epochs ++ epochs_of parts)

record TookSlips (lines : List (List ℕ)) (h : Header) (epochs : List Epoch) (k rows : ℕ) (whole : ObsFile) : Type 0 where
  further : List (List ℕ)
  rest : List (List ℕ)
  lines_are : lines ≡ further ++ rest
  count : k ≡ length further
  are : AreMarked further
  behind : TookLines rest h epochs false rows whole

-- what lines are, by what is expected before them
record Took (lines : List (List ℕ)) : Type 0 where
  body : (h : Header) (epochs : List Epoch) (n : ℕ) (whole : ObsFile) → walk obs2_rules lines n (Body h epochs) ≡ Ok whole → TookBody lines h epochs whole
  names : (h : Header) (epochs : List Epoch) (tag : Tick) (power : Bool) (names : List (Option ℕ)) (k n : ℕ) (whole : ObsFile)
      → walk obs2_rules lines n (Names h epochs tag power names (suc k)) ≡ Ok whole → TookNames lines h epochs tag power names (suc k) whole
  row : (h : Header) (epochs : List Epoch) (tag : Tick) (power : Bool) (sats : List SatObs) (name : Option ℕ) (names : List (Option ℕ)) (at : ℕ)
      (values : List (Option Value)) (n : ℕ) (whole : ObsFile) → at < rows_of h.types
      → walk obs2_rules lines n (Row h epochs tag power sats name names at values) ≡ Ok whole → TookRows lines h epochs tag power sats name names at values whole
  slips : (h : Header) (epochs : List Epoch) (k rows n : ℕ) (whole : ObsFile) → walk obs2_rules lines n (Further h epochs (suc k) rows) ≡ Ok whole → TookSlips lines h epochs (suc k) rows whole
  skip : (h : Header) (epochs : List Epoch) (changes : Bool) (k n : ℕ) (whole : ObsFile)
      → walk obs2_rules lines n (Skip h epochs changes (suc k)) ≡ Ok whole → TookLines lines h epochs changes (suc k) whole

-- the walk goes on from the same state
same_walk : (lines : List (List ℕ)) (n : ℕ) (s t : Expected) (whole : ObsFile) → s ≡ t → walk obs2_rules lines n t ≡ Ok whole → walk obs2_rules lines n s ≡ Ok whole
same_walk lines n s t whole same gives = subst (λ (s : Expected). walk obs2_rules lines n s ≡ Ok whole) (sym same) gives

of_more_sats : (lines : List (List ℕ)) → Took lines
    → (h : Header) (epochs : List Epoch) (tag : Tick) (power : Bool) (sats : List SatObs) (names : List (Option ℕ)) (n : ℕ) (whole : ObsFile)
    → walk obs2_rules lines n (more_sats h epochs tag power sats names) ≡ Ok whole → TookSats lines h epochs tag power sats names whole
of_more_sats lines took h epochs tag power sats [] n whole gives =
    let rest = took.body h (epochs ++ epoch_of tag power sats ∷ []) n whole gives in
    record {
      others = [];
      parts = rest.parts;
      lines_are = rest.lines_are;
      numbers = refl;
      are = tt;
      each = subst (λ (s : List SatObs). AreParts h.types (epochs ++ epoch_of tag power s ∷ []) rest.parts) (sym (append-nil sats)) rest.each;
      whole_is = rest.whole_is ∙ rw (append_assoc epochs (epoch_of tag power sats ∷ []) (epochs_of rest.parts), append-nil sats) refl;
    }
of_more_sats lines took h epochs tag power sats (name ∷ names) n whole gives =
    let mine = took.row h epochs tag power sats name names 0 missing_values n whole (omega arith) gives in
    let rest = mine.behind in
    let part : SatPart = record { number = name; rows = mine.rows; values = mine.after } in
    let same = one_satellite sats name mine.after (satellites_of rest.others) in
    record {
      others = part ∷ rest.others;
      parts = rest.parts;
      lines_are = mine.lines_are ∙ ap (λ (l : List (List ℕ)). mine.rows ++ l) rest.lines_are ∙ sym (append_assoc mine.rows (sat_lines rest.others) (body_lines rest.parts));
      numbers = ap (λ (l : List (Option ℕ)). name ∷ l) rest.numbers;
      are = (record { count = omega (arith, mine.count); rows = mine.are }, rest.are);
      each = subst (λ (l : List SatObs). AreParts h.types (epochs ++ epoch_of tag power l ∷ []) rest.parts) same rest.each;
      whole_is = rest.whole_is ∙ ap (λ (l : List SatObs). file_of h (epochs ++ epoch_of tag power l ∷ epochs_of rest.parts)) same;
    }

of_more_rows : (lines : List (List ℕ)) → Took lines → (h : Header) (epochs : List Epoch) (tag : Tick) (power : Bool) (sats : List SatObs)
    (name : Option ℕ) (names : List (Option ℕ)) (at : ℕ) (values : List (Option Value)) (n : ℕ) (whole : ObsFile) → at ≤ rows_of h.types
    → walk obs2_rules lines n (more_rows h epochs tag power sats name names at values) ≡ Ok whole → TookRows lines h epochs tag power sats name names at values whole
of_more_rows lines took h epochs tag power sats name names at values n whole few gives = by_test (nat_lt at (rows_of h.types)) refl
  where
    by_test : (t : Bool) → nat_lt at (rows_of h.types) ≡ t → TookRows lines h epochs tag power sats name names at values whole
    by_test true test =
        let less : at < rows_of h.types = grind (arith, nat_tests) in
        took.row h epochs tag power sats name names at values n whole less (same_walk lines n _ _ whole (sym (rows_due h epochs tag power sats name names at values less)) gives)
    by_test false test =
        let all : rows_of h.types ≤ at = grind (arith, nat_tests) in
        record {
          rows = [];
          after = values;
          rest = lines;
          lines_are = refl;
          count = omega (arith, all, few);
          are = refl;
          behind = of_more_sats lines took h epochs tag power (with_satellite sats name values) names n whole
              (same_walk lines n _ _ whole (sym (rows_all h epochs tag power sats name names at values all)) gives);
        }

of_more_names : (lines : List (List ℕ)) → Took lines
    → (h : Header) (epochs : List Epoch) (tag : Tick) (power : Bool) (names : List (Option ℕ)) (left n : ℕ) (whole : ObsFile)
    → walk obs2_rules lines n (more_names h epochs tag power names left) ≡ Ok whole → TookNames lines h epochs tag power names left whole
of_more_names lines took h epochs tag power names zero n whole gives =
    record { further = []; all = names; rest = lines; lines_are = refl; are = (refl, refl); behind = of_more_sats lines took h epochs tag power [] names n whole gives }
of_more_names lines took h epochs tag power names (suc k) n whole gives = took.names h epochs tag power names k n whole gives

of_more_lines : (lines : List (List ℕ)) → Took lines → (h : Header) (epochs : List Epoch) (changes : Bool) (k n : ℕ) (whole : ObsFile)
    → walk obs2_rules lines n (more_lines h epochs changes k) ≡ Ok whole → TookLines lines h epochs changes k whole
of_more_lines lines took h epochs changes zero n whole gives =
    let rest = took.body h epochs n whole gives in
    record { event_lines = []; parts = rest.parts; lines_are = rest.lines_are; count = refl; are = tt; each = rest.each; whole_is = rest.whole_is }
of_more_lines lines took h epochs changes (suc k) n whole gives = took.skip h epochs changes k n whole gives

of_more_slips : (lines : List (List ℕ)) → Took lines → (h : Header) (epochs : List Epoch) (k rows n : ℕ) (whole : ObsFile)
    → walk obs2_rules lines n (more_slips h epochs k rows) ≡ Ok whole → TookSlips lines h epochs k rows whole
of_more_slips lines took h epochs zero rows n whole gives =
    record { further = []; rest = lines; lines_are = refl; count = refl; are = tt; behind = of_more_lines lines took h epochs false rows n whole gives }
of_more_slips lines took h epochs (suc k) rows n whole gives = took.slips h epochs k rows n whole gives

-- lines of an event are short
are_short : (changes : Bool) (lines : List (List ℕ)) → AreEventLines Rinex2 changes lines → AreShort lines
are_short changes [] are = tt
are_short changes (bytes ∷ lines) are = (are.0, are_short changes lines are.2)

body_line : (bytes : List ℕ) (lines : List (List ℕ)) → Took lines → (h : Header) (epochs : List Epoch) (n : ℕ) (whole : ObsFile)
    → walk obs2_rules (bytes ∷ lines) n (Body h epochs) ≡ Ok whole → TookBody (bytes ∷ lines) h epochs whole
body_line bytes lines took h epochs n whole gives = by_part (epoch_line_of epochs bytes) refl first.admits
  where
    first : TookLine obs2_rules (Body h epochs) bytes lines n whole
    first = walk-took obs2_rules (Body h epochs) bytes lines n whole gives

    others : (next : Expected) → next ≡ first.next → walk obs2_rules lines (n + 1) next ≡ Ok whole
    others next same = same_walk lines (n + 1) next first.next whole same first.others

    by_part : (r : Result EpochLine Flaw) → epoch_line_of epochs bytes ≡ r → and_then r (λ l. Ok (after_epoch h epochs l)) ≡ Ok first.next → TookBody (bytes ∷ lines) h epochs whole
    by_part (Ok line.Blank) is_read gives =
        let next : Body h epochs ≡ first.next = cc (gives) in
        let rest = took.body h epochs (n + 1) whole (others (Body h epochs) next) in
        record { parts = Blank bytes ∷ rest.parts; lines_are = ap (λ (l : List (List ℕ)). bytes ∷ l) rest.lines_are; each = (first.short, is_read, rest.each); whole_is = rest.whole_is }
    by_part (Ok (line.Event changes k)) is_read gives =
        let next : more_lines h epochs changes k ≡ first.next = cc (gives) in
        let rest = of_more_lines lines took h epochs changes k (n + 1) whole (others (more_lines h epochs changes k) next) in
        let part : EventPart = record { bytes = bytes; changes = changes; event_lines = rest.event_lines } in
        let event : ℕ → Result EpochLine Flaw = λ k. Ok (line.Event changes k) in
        record {
          parts = Event part ∷ rest.parts;
          lines_are = ap (λ (l : List (List ℕ)). bytes ∷ l) rest.lines_are;
          each = (record { short = first.short; is_read = is_read ∙ ap event rest.count; lines = rest.are }, rest.each);
          whole_is = rest.whole_is;
        }
    by_part (Ok (line.Slips k)) is_read gives =
        let state = more_slips h epochs (further_lines_of k) (k * rows_of h.types) in
        let next : state ≡ first.next = cc (gives) in
        let marked = of_more_slips lines took h epochs (further_lines_of k) (k * rows_of h.types) (n + 1) whole (others state next) in
        let rest = marked.behind in
        let part : SlipsPart = record { bytes = bytes; count = k; further = marked.further; rows = rest.event_lines } in
        let lines_are = marked.lines_are ∙ ap (λ (l : List (List ℕ)). marked.further ++ l) rest.lines_are ∙ sym (append_assoc marked.further rest.event_lines (body_lines rest.parts)) in
        record {
          parts = Slips part ∷ rest.parts;
          lines_are = ap (λ (l : List (List ℕ)). bytes ∷ l) lines_are;
          each = (
            record {
              short = first.short;
              is_read = is_read;
              further_count = sym marked.count;
              further = marked.are;
              rows_count = sym rest.count;
              rows = are_short false rest.event_lines rest.are;
            },
            rest.each,
          );
          whole_is = rest.whole_is;
        }
    by_part (Ok (line.Epoch tag power list)) is_read gives =
        let state = more_names h epochs tag power list.names list.left in
        let next : state ≡ first.next = cc (gives) in
        let named = of_more_names lines took h epochs tag power list.names list.left (n + 1) whole (others state next) in
        let rest = named.behind in
        let part : EpochPart = record { bytes = bytes; tag = tag; power = power; list = list; further = named.further; sats = rest.others } in
        let lines_are = named.lines_are ∙ ap (λ (l : List (List ℕ)). named.further ++ l) rest.lines_are ∙ sym (append_assoc named.further (sat_lines rest.others) (body_lines rest.parts)) in
        record {
          parts = Epoch_ part ∷ rest.parts;
          lines_are = ap (λ (l : List (List ℕ)). bytes ∷ l) lines_are;
          each = (
            record {
              short = first.short;
              is_read = is_read;
              names = subst (λ (all : List (Option ℕ)). AreFurtherNames named.further list.names list.left all) rest.numbers named.are;
              sats = rest.are;
            },
            rest.each,
          );
          whole_is = rest.whole_is;
        }
    by_part (Err flaw) is_read gives = absurd cc

names_line : (bytes : List ℕ) (lines : List (List ℕ)) → Took lines
    → (h : Header) (epochs : List Epoch) (tag : Tick) (power : Bool) (names : List (Option ℕ)) (k n : ℕ) (whole : ObsFile)
    → walk obs2_rules (bytes ∷ lines) n (Names h epochs tag power names (suc k)) ≡ Ok whole → TookNames (bytes ∷ lines) h epochs tag power names (suc k) whole
names_line bytes lines took h epochs tag power names k n whole gives = by_part (further_names_of bytes names (suc k)) refl first.admits
  where
    first : TookLine obs2_rules (Names h epochs tag power names (suc k)) bytes lines n whole
    first = walk-took obs2_rules (Names h epochs tag power names (suc k)) bytes lines n whole gives

    by_part : (r : Result NameList Flaw) → further_names_of bytes names (suc k) ≡ r
        → and_then r (λ list. Ok (more_names h epochs tag power list.names list.left)) ≡ Ok first.next
        → TookNames (bytes ∷ lines) h epochs tag power names (suc k) whole
    by_part (Ok list) is_read gives =
        let next : more_names h epochs tag power list.names list.left ≡ first.next = cc (gives) in
        let rest = of_more_names lines took h epochs tag power list.names list.left (n + 1) whole (same_walk lines (n + 1) _ first.next whole next first.others) in
        record {
          further = bytes ∷ rest.further;
          all = rest.all;
          rest = rest.rest;
          lines_are = ap (λ (l : List (List ℕ)). bytes ∷ l) rest.lines_are;
          are = (omega arith, first.short, (list, is_read, rest.are));
          behind = rest.behind;
        }
    by_part (Err flaw) is_read gives = absurd cc

row_line : (bytes : List ℕ) (lines : List (List ℕ)) → Took lines → (h : Header) (epochs : List Epoch) (tag : Tick) (power : Bool) (sats : List SatObs)
    (name : Option ℕ) (names : List (Option ℕ)) (at : ℕ) (values : List (Option Value)) (n : ℕ) (whole : ObsFile) → at < rows_of h.types
    → walk obs2_rules (bytes ∷ lines) n (Row h epochs tag power sats name names at values) ≡ Ok whole → TookRows (bytes ∷ lines) h epochs tag power sats name names at values whole
row_line bytes lines took h epochs tag power sats name names at values n whole less gives = by_part (row_of (kept_of h.types) name at bytes values) refl first.admits
  where
    first : TookLine obs2_rules (Row h epochs tag power sats name names at values) bytes lines n whole
    first = walk-took obs2_rules (Row h epochs tag power sats name names at values) bytes lines n whole gives

    by_part : (r : Result (List (Option Value)) Flaw) → row_of (kept_of h.types) name at bytes values ≡ r
        → and_then r (λ set. Ok (more_rows h epochs tag power sats name names (at + 1) set)) ≡ Ok first.next
        → TookRows (bytes ∷ lines) h epochs tag power sats name names at values whole
    by_part (Ok set) is_read gives =
        let next : more_rows h epochs tag power sats name names (at + 1) set ≡ first.next = cc (gives) in
        let rest = of_more_rows lines took h epochs tag power sats name names (at + 1) set (n + 1) whole (omega (arith, less)) (same_walk lines (n + 1) _ first.next whole next first.others) in
        record {
          rows = bytes ∷ rest.rows;
          after = rest.after;
          rest = rest.rest;
          lines_are = ap (λ (l : List (List ℕ)). bytes ∷ l) rest.lines_are;
          count = omega (arith, rest.count);
          are = (first.short, (set, is_read, rest.are));
          behind = rest.behind;
        }
    by_part (Err flaw) is_read gives = absurd cc

slips_line : (bytes : List ℕ) (lines : List (List ℕ)) → Took lines → (h : Header) (epochs : List Epoch) (k rows n : ℕ) (whole : ObsFile)
    → walk obs2_rules (bytes ∷ lines) n (Further h epochs (suc k) rows) ≡ Ok whole → TookSlips (bytes ∷ lines) h epochs (suc k) rows whole
slips_line bytes lines took h epochs k rows n whole gives = by_part (further_mark_of bytes) refl first.admits
  where
    first : TookLine obs2_rules (Further h epochs (suc k) rows) bytes lines n whole
    first = walk-took obs2_rules (Further h epochs (suc k) rows) bytes lines n whole gives

    one_less : suc k - 1 ≡ k
    one_less = omega arith

    by_part : (r : Result (Unit {0}) Flaw) → further_mark_of bytes ≡ r → and_then r (λ u. Ok (more_slips h epochs (suc k - 1) rows)) ≡ Ok first.next
        → TookSlips (bytes ∷ lines) h epochs (suc k) rows whole
    by_part (Ok u) is_read gives =
        let next : more_slips h epochs (suc k - 1) rows ≡ first.next = cc (gives) in
        let again = ap (λ (j : ℕ). more_slips h epochs j rows) (sym one_less) ∙ next in
        let rest = of_more_slips lines took h epochs k rows (n + 1) whole (same_walk lines (n + 1) _ first.next whole again first.others) in
        record {
          further = bytes ∷ rest.further;
          rest = rest.rest;
          lines_are = ap (λ (l : List (List ℕ)). bytes ∷ l) rest.lines_are;
          count = ap suc rest.count;
          are = (first.short, is_read, rest.are);
          behind = rest.behind;
        }
    by_part (Err flaw) is_read gives = absurd cc

event_line : (bytes : List ℕ) (lines : List (List ℕ)) → Took lines → (h : Header) (epochs : List Epoch) (changes : Bool) (k n : ℕ) (whole : ObsFile)
    → walk obs2_rules (bytes ∷ lines) n (Skip h epochs changes (suc k)) ≡ Ok whole → TookLines (bytes ∷ lines) h epochs changes (suc k) whole
event_line bytes lines took h epochs changes k n whole gives = by_part (event_line_of Rinex2 changes bytes) refl first.admits
  where
    first : TookLine obs2_rules (Skip h epochs changes (suc k)) bytes lines n whole
    first = walk-took obs2_rules (Skip h epochs changes (suc k)) bytes lines n whole gives

    one_less : suc k - 1 ≡ k
    one_less = omega arith

    by_part : (r : Result (Unit {0}) Flaw) → event_line_of Rinex2 changes bytes ≡ r
        → and_then r (λ u. Ok (more_lines h epochs changes (suc k - 1))) ≡ Ok first.next → TookLines (bytes ∷ lines) h epochs changes (suc k) whole
    by_part (Ok u) is_read gives =
        let next : more_lines h epochs changes (suc k - 1) ≡ first.next = cc (gives) in
        let again = ap (λ (j : ℕ). more_lines h epochs changes j) (sym one_less) ∙ next in
        let rest = of_more_lines lines took h epochs changes k (n + 1) whole (same_walk lines (n + 1) _ first.next whole again first.others) in
        record {
          event_lines = bytes ∷ rest.event_lines;
          parts = rest.parts;
          lines_are = ap (λ (l : List (List ℕ)). bytes ∷ l) rest.lines_are;
          count = ap suc rest.count;
          are = (first.short, is_read, rest.are);
          each = rest.each;
          whole_is = rest.whole_is;
        }
    by_part (Err flaw) is_read gives = absurd cc

no_file : (n : ℕ) (what : What) (whole : ObsFile) → at_line (n + 1) (flawed {A = ObsFile} 1 what) ≡ Ok whole → ⊥
no_file n what whole e = cc

took : (lines : List (List ℕ)) → Took lines
took [] = record {
  body = λ h epochs n whole gives.
      let file_is_whole : Ok (file_of h epochs) ≡ Ok whole = sym (walk-end obs2_rules (Body h epochs) n) ∙ gives in
      let same : file_of h epochs ≡ whole = cc (file_is_whole) in
      record { parts = []; lines_are = refl; each = tt; whole_is = sym same ∙ rw (append-nil epochs) refl };
  names = λ h epochs tag power names k n whole gives. absurd (no_file n Truncated whole (sym (walk-end obs2_rules (Names h epochs tag power names (suc k)) n) ∙ gives));
  row = λ h epochs tag power sats name names at values n whole less gives. absurd (no_file n Truncated whole (sym (walk-end obs2_rules (Row h epochs tag power sats name names at values) n) ∙ gives));
  slips = λ h epochs k rows n whole gives. absurd (no_file n Truncated whole (sym (walk-end obs2_rules (Further h epochs (suc k) rows) n) ∙ gives));
  skip = λ h epochs changes k n whole gives. absurd (no_file n Truncated whole (sym (walk-end obs2_rules (Skip h epochs changes (suc k)) n) ∙ gives));
}
took (bytes ∷ lines) = record {
  body = body_line bytes lines (took lines);
  names = names_line bytes lines (took lines);
  row = row_line bytes lines (took lines);
  slips = slips_line bytes lines (took lines);
  skip = event_line bytes lines (took lines);
}

-- ---- the file

pub file_took : (lines : List (List ℕ)) (file : ObsFile) → walk obs2_rules lines 0 (Head (First Gps)) ≡ Ok file → IsObs2File lines file
file_took lines file gives =
    let head = header_took header_reader Gps lines file gives in
    let body = (took head.rest).body head.header [] head.number file head.gives in
    record {
      header_lines = head.header_lines;
      header = head.header;
      parts = body.parts;
      lines_are = head.lines_are ∙ ap (λ (l : List (List ℕ)). head.header_lines ++ l) body.lines_are;
      is_header = head.is_header;
      of_gps = head.of_system;
      are_parts = body.each;
      file_is = body.whole_is;
    }
