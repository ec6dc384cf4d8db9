-- Lines that give a file are one of the grammar.
use Rattle.std.proofs.Common.{◌≡◌, ◌+◌, ◌-◌, ℕ, zero, suc, Bool, List, [], ◌∷◌, ◌++◌, length, Result, Ok, Err, Option, Some, None, refl, sym, ap, ◌∙◌, subst, arith, append_assoc}
use Rattle.std.proofs.lemmas.List.{append-nil}
use Rattle.gps_time.specs.declared.Tick.{Tick}
use Rattle.obs_store.specs.declared.file.ObsFile.{ObsFile}
use Rattle.obs_store.specs.Epochs.{epoch_of}
use Rattle.obs_store.specs.declared.series.Epoch.{Epoch}
use Rattle.obs_store.specs.declared.values.SatObs.{SatObs}
use Rattle.rinex_head.specs.declared.place.What.{What}
use Rattle.rinex_head.specs.declared.place.What.TheVariants.{Truncated}
use Rattle.rinex_head.specs.declared.place.Flaw.{Flaw}
use Rattle.rinex_head.specs.Places.{and_then, flawed, at_line}
use Rattle.rinex_head.specs.declared.system.System.{System}
use Rattle.rinex_head.specs.LineRules.{walk}
use Rattle.rinex_head.proofs.LineRuleLaws.{walk-end, TookLine, walk-took}
use Rattle.obs_fields.specs.Types.{kept_from}
use Rattle.obs_fields.specs.Events.{EventPart, AreEventLines}
use Rattle.obs_fields.specs.declared.layout.Layout.TheVariants.{Rinex3}
use Rattle.obs_fields.specs.Labels.{event_line_of}
use Rattle.rinex_obs.specs.EpochLines.{epoch_line_of}
use Rattle.rinex_obs.specs.SatLines.{satellite_line_of}
use Rattle.obs_fields.specs.declared.header.Header.{Header}
use Rattle.rinex_obs.specs.declared.epoch_lines.EpochLine.{EpochLine}
use Rattle.rinex_obs.specs.declared.epoch_lines.EpochLine.TheVariants as line
use Rattle.obs_fields.specs.HeaderRules.{First}
use Rattle.rinex_obs.specs.ObsRules.{Expected, Head, Body, Sats, Skip, file_of, more_sats, more_lines, after_epoch, with_satellite, obs_rules}
use Rattle.obs_fields.proofs.HeaderTook.{header_took}
use Rattle.rinex_obs.specs.ObsForm.{EpochPart, Part, Blank, Event, Epoch_, satellites_of, AreSatLines, AreParts, epochs_of, body_lines, IsObsFile}
use Rattle.rinex_obs.proofs.Headers.{header_reader}

module _ (system : System) where
  -- ---- the body

  record TookBody (lines : List (List ℕ)) (h : Header) (epochs : List Epoch) (whole : ObsFile) : Type 0 where
    parts : List Part
    lines_are : lines ≡ body_lines parts
    each : AreParts h.system (kept_from h.system 0 h.types) epochs parts
    whole_is : whole ≡ file_of h (epochs ++ epochs_of parts)

  record TookSats (lines : List (List ℕ)) (h : Header) (epochs : List Epoch) (tag : Tick) (power : Bool) (sats : List SatObs) (k : ℕ) (whole : ObsFile) : Type 0 where
    sat_lines : List (List ℕ)
    found : List (Option SatObs)
    parts : List Part
    lines_are : lines ≡ sat_lines ++ body_lines parts
    count : k ≡ length sat_lines
    are : AreSatLines h.system (kept_from h.system 0 h.types) sats sat_lines found
    each : AreParts h.system (kept_from h.system 0 h.types) (epochs ++ epoch_of tag power (sats ++ satellites_of found) ∷ []) parts
    whole_is : whole ≡ file_of h (epochs ++ epoch_of tag power (sats ++ satellites_of found) ∷ epochs_of parts)

  record TookLines (lines : List (List ℕ)) (h : Header) (epochs : List Epoch) (changes : Bool) (k : ℕ) (whole : ObsFile) : Type 0 where
    event_lines : List (List ℕ)
    parts : List Part
    lines_are : lines ≡ event_lines ++ body_lines parts
    count : k ≡ length event_lines
    are : AreEventLines Rinex3 changes event_lines
    each : AreParts h.system (kept_from h.system 0 h.types) epochs parts
    whole_is : whole ≡ file_of h (epochs ++ epochs_of parts)

  -- what lines of a body are, lines of an epoch and lines of an event
  record Took (lines : List (List ℕ)) : Type 0 where
    body : (h : Header) (epochs : List Epoch) (n : ℕ) (whole : ObsFile) → walk (obs_rules system) lines n (Body h epochs) ≡ Ok whole → TookBody lines h epochs whole
    sats : (h : Header) (epochs : List Epoch) (tag : Tick) (power : Bool) (sats : List SatObs) (k n : ℕ) (whole : ObsFile)
        → walk (obs_rules system) lines n (Sats h epochs tag power sats (suc k)) ≡ Ok whole → TookSats lines h epochs tag power sats (suc k) whole
    skip : (h : Header) (epochs : List Epoch) (changes : Bool) (k n : ℕ) (whole : ObsFile)
        → walk (obs_rules system) lines n (Skip h epochs changes (suc k)) ≡ Ok whole → TookLines lines h epochs changes (suc k) whole

  of_more_sats : (lines : List (List ℕ)) → Took lines
      → (h : Header) (epochs : List Epoch) (tag : Tick) (power : Bool) (sats : List SatObs) (k n : ℕ) (whole : ObsFile)
      → walk (obs_rules system) lines n (more_sats h epochs tag power sats k) ≡ Ok whole → TookSats lines h epochs tag power sats k whole
  of_more_sats lines took h epochs tag power sats zero n whole gives =
      let rest = took.body h (epochs ++ epoch_of tag power sats ∷ []) n whole gives in
      let kept = kept_from h.system 0 h.types in
      record {
        sat_lines = [];
        found = [];
        parts = rest.parts;
        lines_are = rest.lines_are;
        count = refl;
        are = tt;
        each = subst (λ (s : List SatObs). AreParts h.system kept (epochs ++ epoch_of tag power s ∷ []) rest.parts) (sym (append-nil sats)) rest.each;
        whole_is = rest.whole_is ∙ rw (append_assoc epochs (epoch_of tag power sats ∷ []) (epochs_of rest.parts), append-nil sats) refl;
      }
  of_more_sats lines took h epochs tag power sats (suc k) n whole gives = took.sats h epochs tag power sats k n whole gives

  of_more_lines : (lines : List (List ℕ)) → Took lines → (h : Header) (epochs : List Epoch) (changes : Bool) (k n : ℕ) (whole : ObsFile)
      → walk (obs_rules system) lines n (more_lines h epochs changes k) ≡ Ok whole → TookLines lines h epochs changes k whole
  of_more_lines lines took h epochs changes zero n whole gives =
      let rest = took.body h epochs n whole gives in
      record { event_lines = []; parts = rest.parts; lines_are = rest.lines_are; count = refl; are = tt; each = rest.each; whole_is = rest.whole_is }
  of_more_lines lines took h epochs changes (suc k) n whole gives = took.skip h epochs changes k n whole gives

  body_line : (bytes : List ℕ) (lines : List (List ℕ)) → Took lines → (h : Header) (epochs : List Epoch) (n : ℕ) (whole : ObsFile)
      → walk (obs_rules system) (bytes ∷ lines) n (Body h epochs) ≡ Ok whole → TookBody (bytes ∷ lines) h epochs whole
  body_line bytes lines took h epochs n whole gives = by_part (epoch_line_of epochs bytes) refl first.admits
    where
      first : TookLine (obs_rules system) (Body h epochs) bytes lines n whole
      first = walk-took (obs_rules system) (Body h epochs) bytes lines n whole gives

      others : (next : Expected) → next ≡ first.next → walk (obs_rules system) lines (n + 1) next ≡ Ok whole
      others next same = subst (λ (s : Expected). walk (obs_rules system) lines (n + 1) s ≡ Ok whole) (sym same) first.others

      by_part : (r : Result EpochLine Flaw) → epoch_line_of epochs bytes ≡ r → and_then r (λ l. Ok (after_epoch h epochs l)) ≡ Ok first.next → TookBody (bytes ∷ lines) h epochs whole
      by_part (Ok line.Blank) is_read gives =
          let next : Body h epochs ≡ first.next = cc (gives) in
          let rest = took.body h epochs (n + 1) whole (others (Body h epochs) next) in
          record { parts = Blank bytes ∷ rest.parts; lines_are = ap (λ (l : List (List ℕ)). bytes ∷ l) rest.lines_are; each = (first.short, is_read, rest.each); whole_is = rest.whole_is }
      by_part (Ok (line.Event changes k)) is_read gives =
          let next : more_lines h epochs changes k ≡ first.next = cc (gives) in
          let rest = of_more_lines lines took h epochs changes k (n + 1) whole (others (more_lines h epochs changes k) next) in
          let part : EventPart = record { bytes = bytes; changes = changes; event_lines = rest.event_lines } in
          let event : ℕ → Result EpochLine Flaw = λ k. Ok (line.Event changes k) in
          record {
            parts = Event part ∷ rest.parts;
            lines_are = ap (λ (l : List (List ℕ)). bytes ∷ l) rest.lines_are;
            each = (record { short = first.short; is_read = is_read ∙ ap event rest.count; lines = rest.are }, rest.each);
            whole_is = rest.whole_is;
          }
      by_part (Ok (line.Epoch tag power k)) is_read gives =
          let next : more_sats h epochs tag power [] k ≡ first.next = cc (gives) in
          let rest = of_more_sats lines took h epochs tag power [] k (n + 1) whole (others (more_sats h epochs tag power [] k) next) in
          let part : EpochPart = record { bytes = bytes; tag = tag; power = power; sat_lines = rest.sat_lines; found = rest.found } in
          let epoch : ℕ → Result EpochLine Flaw = λ k. Ok (line.Epoch tag power k) in
          record {
            parts = Epoch_ part ∷ rest.parts;
            lines_are = ap (λ (l : List (List ℕ)). bytes ∷ l) rest.lines_are;
            each = (record { short = first.short; is_read = is_read ∙ ap epoch rest.count; sats = rest.are }, rest.each);
            whole_is = rest.whole_is;
          }
      by_part (Err flaw) is_read gives = absurd cc

  sat_line : (bytes : List ℕ) (lines : List (List ℕ)) → Took lines
      → (h : Header) (epochs : List Epoch) (tag : Tick) (power : Bool) (sats : List SatObs) (k n : ℕ) (whole : ObsFile)
      → walk (obs_rules system) (bytes ∷ lines) n (Sats h epochs tag power sats (suc k)) ≡ Ok whole
      → TookSats (bytes ∷ lines) h epochs tag power sats (suc k) whole
  sat_line bytes lines took h epochs tag power sats k n whole gives = by_part (satellite_line_of h.system (kept_from h.system 0 h.types) sats bytes) refl first.admits
    where
      first : TookLine (obs_rules system) (Sats h epochs tag power sats (suc k)) bytes lines n whole
      first = walk-took (obs_rules system) (Sats h epochs tag power sats (suc k)) bytes lines n whole gives

      one_less : suc k - 1 ≡ k
      one_less = omega arith

      further : (after : List SatObs) → more_sats h epochs tag power after (suc k - 1) ≡ first.next → TookSats lines h epochs tag power after k whole
      further after next = of_more_sats lines took h epochs tag power after k (n + 1) whole
          (subst (λ (s : Expected). walk (obs_rules system) lines (n + 1) s ≡ Ok whole)
          (sym next ∙ ap (λ (j : ℕ). more_sats h epochs tag power after j) one_less) first.others)

      by_part : (r : Result (Option SatObs) Flaw) → satellite_line_of h.system (kept_from h.system 0 h.types) sats bytes ≡ r
          → and_then r (λ s. Ok (more_sats h epochs tag power (with_satellite sats s) (suc k - 1))) ≡ Ok first.next
          → TookSats (bytes ∷ lines) h epochs tag power sats (suc k) whole
      by_part (Ok None) is_read gives =
          let next : more_sats h epochs tag power sats (suc k - 1) ≡ first.next = cc (gives) in
          let rest = further sats next in
          record {
            sat_lines = bytes ∷ rest.sat_lines;
            found = None ∷ rest.found;
            parts = rest.parts;
            lines_are = ap (λ (l : List (List ℕ)). bytes ∷ l) rest.lines_are;
            count = ap suc rest.count;
            are = (first.short, is_read, rest.are);
            each = rest.each;
            whole_is = rest.whole_is;
          }
      by_part (Ok (Some s)) is_read gives =
          let next : more_sats h epochs tag power (sats ++ s ∷ []) (suc k - 1) ≡ first.next = cc (gives) in
          let rest = further (sats ++ s ∷ []) next in
          let same = append_assoc sats (s ∷ []) (satellites_of rest.found) in
          let kept = kept_from h.system 0 h.types in
          record {
            sat_lines = bytes ∷ rest.sat_lines;
            found = Some s ∷ rest.found;
            parts = rest.parts;
            lines_are = ap (λ (l : List (List ℕ)). bytes ∷ l) rest.lines_are;
            count = ap suc rest.count;
            are = (first.short, is_read, rest.are);
            each = subst (λ (l : List SatObs). AreParts h.system kept (epochs ++ epoch_of tag power l ∷ []) rest.parts) same rest.each;
            whole_is = rest.whole_is ∙ ap (λ (l : List SatObs). file_of h (epochs ++ epoch_of tag power l ∷ epochs_of rest.parts)) same;
          }
      by_part (Err flaw) is_read gives = absurd cc

  event_line : (bytes : List ℕ) (lines : List (List ℕ)) → Took lines → (h : Header) (epochs : List Epoch) (changes : Bool) (k n : ℕ) (whole : ObsFile)
      → walk (obs_rules system) (bytes ∷ lines) n (Skip h epochs changes (suc k)) ≡ Ok whole → TookLines (bytes ∷ lines) h epochs changes (suc k) whole
  event_line bytes lines took h epochs changes k n whole gives = by_part (event_line_of Rinex3 changes bytes) refl first.admits
    where
      first : TookLine (obs_rules system) (Skip h epochs changes (suc k)) bytes lines n whole
      first = walk-took (obs_rules system) (Skip h epochs changes (suc k)) bytes lines n whole gives

      one_less : suc k - 1 ≡ k
      one_less = omega arith

      by_part : (r : Result (Unit {0}) Flaw) → event_line_of Rinex3 changes bytes ≡ r
          → and_then r (λ u. Ok (more_lines h epochs changes (suc k - 1))) ≡ Ok first.next → TookLines (bytes ∷ lines) h epochs changes (suc k) whole
      by_part (Ok u) is_read gives =
          let next : more_lines h epochs changes (suc k - 1) ≡ first.next = cc (gives) in
          let rest = of_more_lines lines took h epochs changes k (n + 1) whole (subst (λ (s : Expected). walk (obs_rules system) lines (n + 1) s ≡ Ok whole)
          (sym next ∙ ap (λ (j : ℕ). more_lines h epochs changes j) one_less) first.others) in
          record {
            event_lines = bytes ∷ rest.event_lines;
            parts = rest.parts;
            lines_are = ap (λ (l : List (List ℕ)). bytes ∷ l) rest.lines_are;
            count = ap suc rest.count;
            are = (first.short, is_read, rest.are);
            each = rest.each;
            whole_is = rest.whole_is;
          }
      by_part (Err flaw) is_read gives = absurd cc

  no_file : (n : ℕ) (what : What) (whole : ObsFile) → at_line (n + 1) (flawed {A = ObsFile} 1 what) ≡ Ok whole → ⊥
  no_file n what whole e = cc

  took : (lines : List (List ℕ)) → Took lines
  took [] = record {
    body = λ h epochs n whole gives.
        let e : Ok (file_of h epochs) ≡ Ok whole = sym (walk-end (obs_rules system) (Body h epochs) n) ∙ gives in
        let same : file_of h epochs ≡ whole = cc (e) in
        record { parts = []; lines_are = refl; each = tt; whole_is = sym same ∙ rw (append-nil epochs) refl };
    sats = λ h epochs tag power sats k n whole gives. absurd (no_file n Truncated whole (sym (walk-end (obs_rules system) (Sats h epochs tag power sats (suc k)) n) ∙ gives));
    skip = λ h epochs changes k n whole gives. absurd (no_file n Truncated whole (sym (walk-end (obs_rules system) (Skip h epochs changes (suc k)) n) ∙ gives));
  }
  took (bytes ∷ lines) = record { body = body_line bytes lines (took lines); sats = sat_line bytes lines (took lines); skip = event_line bytes lines (took lines) }

  -- ---- the file

  pub file_took : (lines : List (List ℕ)) (file : ObsFile) → walk (obs_rules system) lines 0 (Head (First system)) ≡ Ok file → IsObsFile system lines file
  file_took lines file gives =
      let head = header_took (header_reader system) system lines file gives in
      let body = (took head.rest).body head.header [] head.number file head.gives in
      record {
        header_lines = head.header_lines;
        header = head.header;
        parts = body.parts;
        lines_are = head.lines_are ∙ ap (λ (l : List (List ℕ)). head.header_lines ++ l) body.lines_are;
        is_header = head.is_header;
        of_system = head.of_system;
        are_parts = subst (λ (s : System). AreParts s (kept_from s 0 head.header.types) [] body.parts) head.of_system body.each;
        file_is = body.whole_is;
      }
