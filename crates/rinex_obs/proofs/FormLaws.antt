-- What the lines give is what the grammar says.
use Rattle.std.proofs.Common.{◌≡◌, ◌+◌, ◌-◌, ℕ, suc, Bool, List, [], ◌∷◌, ◌++◌, length, Ok, Option, Some, None, refl, sym, ap, ◌∙◌, arith, append_assoc, add-zero}
use Rattle.std.proofs.lemmas.List.{append-nil}
use Rattle.gps_time.specs.declared.Tick.{Tick}
use Rattle.obs_store.specs.declared.file.ObsFile.{ObsFile}
use Rattle.obs_store.specs.Epochs.{epoch_of}
use Rattle.obs_store.specs.declared.series.Epoch.{Epoch}
use Rattle.obs_store.specs.declared.values.SatObs.{SatObs}
use Rattle.rinex_head.specs.declared.system.System.{System}
use Rattle.rinex_head.specs.LineRules.{walk}
use Rattle.rinex_head.proofs.LineRuleLaws.{walk-takes, walk-end}
use Rattle.obs_fields.specs.Types.{kept_from}
use Rattle.obs_fields.specs.declared.layout.Layout.TheVariants.{Rinex3}
use Rattle.obs_fields.specs.Events.{AreEventLines}
use Rattle.rinex_obs.specs.EpochLines.{epoch_line_of}
use Rattle.rinex_obs.specs.declared.epoch_lines.EpochLine.TheVariants as line
use Rattle.obs_fields.specs.declared.header.Header.{Header}
use Rattle.obs_fields.specs.HeaderRules.{First}
use Rattle.rinex_obs.specs.ObsRules.{Head, Body, Sats, Skip, file_of, more_sats, more_lines, admit, obs_rules}
use Rattle.obs_fields.proofs.HeaderLaws.{header_given}
use Rattle.rinex_obs.specs.ObsForm.{Part, Blank, Event, Epoch_, satellites_of, AreSatLines, epoch_in_part, AreParts, epochs_of, body_lines, IsObsFile}
use Rattle.rinex_obs.proofs.Headers.{header_reader}

module _ (system : System) where
  -- the lines of an event are taken
  lines_taken : (lines more : List (List ℕ)) (h : Header) (epochs : List Epoch) (changes : Bool) (n : ℕ) → AreEventLines Rinex3 changes lines
      → walk (obs_rules system) (lines ++ more) n (more_lines h epochs changes (length lines)) ≡ walk (obs_rules system) more (n + length lines) (Body h epochs)
  lines_taken [] more h epochs changes n are = rw add-zero refl
  lines_taken (bytes ∷ lines) more h epochs changes n are =
      let one_less : suc (length lines) - 1 ≡ length lines = omega arith in
      let further : n + suc (length lines) ≡ n + 1 + length lines = omega arith in
      let admits : admit (Skip h epochs changes (suc (length lines))) bytes ≡ Ok (more_lines h epochs changes (length lines)) = rw (are.1, one_less) refl in
      walk-takes (obs_rules system) (Skip h epochs changes (suc (length lines))) (more_lines h epochs changes (length lines)) bytes (lines ++ more) n are.0 admits
      ∙ lines_taken lines more h epochs changes (n + 1) are.2 ∙ rw further refl

  -- the lines of an epoch's satellites are taken
  sats_taken : (lines : List (List ℕ)) (found : List (Option SatObs)) (more : List (List ℕ)) (h : Header) (epochs : List Epoch) (tag : Tick)
      (power : Bool) (sats : List SatObs) (n : ℕ) → AreSatLines h.system (kept_from h.system 0 h.types) sats lines found
      → walk (obs_rules system) (lines ++ more) n (more_sats h epochs tag power sats (length lines))
      ≡ walk (obs_rules system) more (n + length lines) (Body h (epochs ++ epoch_of tag power (sats ++ satellites_of found) ∷ []))
  sats_taken [] [] more h epochs tag power sats n are = rw (add-zero, append-nil sats) refl
  sats_taken [] (f ∷ found) more h epochs tag power sats n are = absurd are
  sats_taken (bytes ∷ lines) [] more h epochs tag power sats n are = absurd are
  sats_taken (bytes ∷ lines) (None ∷ found) more h epochs tag power sats n are =
      let one_less : suc (length lines) - 1 ≡ length lines = omega arith in
      let further : n + suc (length lines) ≡ n + 1 + length lines = omega arith in
      let admits : admit (Sats h epochs tag power sats (suc (length lines))) bytes ≡ Ok (more_sats h epochs tag power sats (length lines)) = rw (are.1, one_less) refl in
      walk-takes (obs_rules system) (Sats h epochs tag power sats (suc (length lines))) (more_sats h epochs tag power sats (length lines)) bytes (lines ++ more) n are.0 admits
      ∙ sats_taken lines found more h epochs tag power sats (n + 1) are.2 ∙ rw further refl
  sats_taken (bytes ∷ lines) (Some s ∷ found) more h epochs tag power sats n are =
      let one_less : suc (length lines) - 1 ≡ length lines = omega arith in
      let further : n + suc (length lines) ≡ n + 1 + length lines = omega arith in
      let admits : admit (Sats h epochs tag power sats (suc (length lines))) bytes ≡ Ok (more_sats h epochs tag power (sats ++ s ∷ []) (length lines)) = rw (are.1, one_less) refl in
      walk-takes (obs_rules system) (Sats h epochs tag power sats (suc (length lines))) (more_sats h epochs tag power (sats ++ s ∷ []) (length lines)) bytes (lines ++ more) n are.0 admits
      ∙ sats_taken lines found more h epochs tag power (sats ++ s ∷ []) (n + 1) are.2 ∙ rw (further, append_assoc sats (s ∷ []) (satellites_of found)) refl

  -- and so are the parts of a body
  parts_taken : (parts : List Part) (h : Header) (epochs : List Epoch) (n : ℕ) → AreParts h.system (kept_from h.system 0 h.types) epochs parts
      → walk (obs_rules system) (body_lines parts) n (Body h epochs) ≡ Ok (file_of h (epochs ++ epochs_of parts))
  parts_taken [] h epochs n are = walk-end (obs_rules system) (Body h epochs) n ∙ rw (append-nil epochs) refl
  parts_taken (Blank bytes ∷ parts) h epochs n are =
      let admits : admit (Body h epochs) bytes ≡ Ok (Body h epochs) = rw (are.1) refl in
      walk-takes (obs_rules system) (Body h epochs) (Body h epochs) bytes (body_lines parts) n are.0 admits ∙ parts_taken parts h epochs (n + 1) are.2
  parts_taken (Event p ∷ parts) h epochs n are =
      let k = length p.event_lines in
      let is_read : epoch_line_of epochs p.bytes ≡ Ok (line.Event p.changes k) = are.0.is_read in
      let admits : admit (Body h epochs) p.bytes ≡ Ok (more_lines h epochs p.changes k) = rw is_read refl in
      walk-takes (obs_rules system) (Body h epochs) (more_lines h epochs p.changes k) p.bytes (p.event_lines ++ body_lines parts) n are.0.short admits
      ∙ lines_taken p.event_lines (body_lines parts) h epochs p.changes (n + 1) are.0.lines
      ∙ parts_taken parts h epochs (n + 1 + k) are.1
  parts_taken (Epoch_ p ∷ parts) h epochs n are =
      let k = length p.sat_lines in
      let admits : admit (Body h epochs) p.bytes ≡ Ok (more_sats h epochs p.tag p.power [] k) = rw (are.0.is_read) refl in
      walk-takes (obs_rules system) (Body h epochs) (more_sats h epochs p.tag p.power [] k) p.bytes (p.sat_lines ++ body_lines parts) n are.0.short admits
      ∙ sats_taken p.sat_lines p.found (body_lines parts) h epochs p.tag p.power [] (n + 1) are.0.sats
      ∙ parts_taken parts h (epochs ++ epoch_in_part p ∷ []) (n + 1 + k) are.1
      ∙ rw (append_assoc epochs (epoch_in_part p ∷ []) (epochs_of parts)) refl

  -- a file of the grammar is what its lines give
  pub file_given : (lines : List (List ℕ)) (file : ObsFile) → IsObsFile system lines file → walk (obs_rules system) lines 0 (Head (First system)) ≡ Ok file
  file_given lines file is =
      let head = header_given (header_reader system) is.header_lines (body_lines is.parts) is.header is.is_header in
      let parts : AreParts is.header.system (kept_from is.header.system 0 is.header.types) [] is.parts = rw is.of_system is.are_parts in
      ap (λ (l : List (List ℕ)). walk (obs_rules system) l 0 (Head (First system))) is.lines_are
      ∙ ap (λ (s : System). walk (obs_rules system) (is.header_lines ++ body_lines is.parts) 0 (Head (First s))) (sym is.of_system)
      ∙ head.1 ∙ parts_taken is.parts is.header [] head.0 parts ∙ ap (λ (f : ObsFile). Ok f) (sym is.file_is)
