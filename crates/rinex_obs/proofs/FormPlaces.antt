-- The place of a refusal is the first failing line by the grammar: every state that can be reached can be completed to a file.
use Rattle.std.proofs.Common.{◌≡◌, ◌-◌, ℕ, zero, suc, Bool, true, false, List, [], codes, Result, Ok, Err, None, refl, sym, ap, ◌∙◌, arith, lit≤, IfOk}
use Rattle.gps_time.specs.declared.Tick.{Tick}
use Rattle.obs_store.specs.declared.file.ObsFile.{ObsFile}
use Rattle.obs_store.specs.declared.series.Epoch.{Epoch}
use Rattle.obs_store.specs.declared.values.SatObs.{SatObs}
use Rattle.rinex_head.specs.declared.place.TextFault.{TextFault}
use Rattle.rinex_head.specs.declared.place.Flaw.{Flaw}
use Rattle.rinex_head.specs.Head.{trimmed}
use Rattle.rinex_head.specs.declared.system.System.{System}
use Rattle.rinex_head.specs.declared.system.System.TheVariants.{Gps, Galileo}
use Rattle.rinex_head.specs.LineRules.{text_gives, Gives}
use Rattle.rinex_head.specs.FirstFailing.{IsFileOf}
use Rattle.rinex_head.proofs.Stops.{Completes, CanEnd, with_line, with_end}
use Rattle.obs_fields.specs.Labels.{label_in, event_line_of}
use Rattle.obs_fields.specs.SatFields.{satellite_at}
use Rattle.rinex_obs.specs.SatLines.{satellite_line_of}
use Rattle.obs_fields.specs.declared.header.Header.{Header}
use Rattle.rinex_obs.specs.ObsRules.{Expected, Head, Body, Sats, Skip, file_of, more_sats, more_lines, admit, obs_rules}
use Rattle.rinex_obs.specs.ObsForm.{IsObsFile, HasObsFile}
use Rattle.obs_fields.proofs.HeaderEnds.{header_done}
use Rattle.rinex_obs.proofs.Headers.{header_reader}
use Rattle.rinex_obs.proofs.ListedTypes.{Holds, kept}
use Rattle.rinex_obs.proofs.FormLaws.{file_given}
use Rattle.rinex_obs.proofs.FormTook.{file_took}

module _ (system : System) where
  body_done : (h : Header) (epochs : List Epoch) → Completes (obs_rules system) (Body h epochs)
  body_done h epochs = with_end (obs_rules system) (Body h epochs) (file_of h epochs) refl

  -- a satellite of another system
  other_satellite : (of : System) → satellite_at of false (codes "R01") 1 ≡ Ok None
  unfolding satellite_at
  other_satellite Gps = refl
  other_satellite Galileo = refl

  other_system : (h : Header) (epochs : List Epoch) (tag : Tick) (power : Bool) (sats : List SatObs) (n : ℕ)
      → admit (Sats h epochs tag power sats n) (codes "R01") ≡ Ok (more_sats h epochs tag power sats (n - 1))
  unfolding satellite_line_of
  other_system h epochs tag power sats n = rw (other_satellite h.system) refl

  sats_done : (h : Header) (epochs : List Epoch) (tag : Tick) (power : Bool) (sats : List SatObs) (n : ℕ) → Completes (obs_rules system) (more_sats h epochs tag power sats n)
  sats_done h epochs tag power sats zero = body_done h _
  sats_done h epochs tag power sats (suc k) =
      let one_less : suc k - 1 ≡ k = omega arith in
      let next : ℕ → Result Expected Flaw = λ j. Ok (more_sats h epochs tag power sats j) in
      with_line (obs_rules system) (Sats h epochs tag power sats (suc k)) (more_sats h epochs tag power sats k) (codes "R01") refl (lit≤ tt)
      (other_system h epochs tag power sats (suc k) ∙ ap next one_less) (sats_done h epochs tag power sats k)

  empty_line : (h : Header) (epochs : List Epoch) (changes : Bool) (n : ℕ) → admit (Skip h epochs changes n) [] ≡ Ok (more_lines h epochs changes (n - 1))
  unfolding event_line_of label_in trimmed
  empty_line h epochs true n = refl
  empty_line h epochs false n = refl

  lines_done : (h : Header) (epochs : List Epoch) (changes : Bool) (n : ℕ) → Completes (obs_rules system) (more_lines h epochs changes n)
  lines_done h epochs changes zero = body_done h epochs
  lines_done h epochs changes (suc k) =
      let one_less : suc k - 1 ≡ k = omega arith in
      let next : ℕ → Result Expected Flaw = λ j. Ok (more_lines h epochs changes j) in
      with_line (obs_rules system) (Skip h epochs changes (suc k)) (more_lines h epochs changes k) [] refl (lit≤ tt) (empty_line h epochs changes (suc k) ∙ ap next one_less) (lines_done h epochs changes k)

  completed : (s : Expected) → Holds s → Completes (obs_rules system) s
  completed (Head s) holds = header_done (header_reader system) (λ h. body_done h []) s holds
  completed (Body h epochs) holds = body_done h epochs
  completed (Sats h epochs tag power sats n) holds = with_line (obs_rules system) (Sats h epochs tag power sats n)
      (more_sats h epochs tag power sats (n - 1)) (codes "R01") refl (lit≤ tt) (other_system h epochs tag power sats n) (sats_done h epochs tag power sats (n - 1))
  completed (Skip h epochs changes n) holds = with_line (obs_rules system) (Skip h epochs changes n) (more_lines h epochs changes (n - 1)) [] refl (lit≤ tt)
      (empty_line h epochs changes n) (lines_done h epochs changes (n - 1))

  pub ends : CanEnd (obs_rules system)
  ends = record { Holds = Holds; kept = kept system; completed = completed }

  -- the grammar and the rules have the same files
  pub file_of_rules : (lines : List (List ℕ)) → HasObsFile system lines → IsFileOf (obs_rules system) lines
  file_of_rules lines is = (is.0, file_given system lines is.0 is.1)

  pub rules_of_file : (lines : List (List ℕ)) → IsFileOf (obs_rules system) lines → HasObsFile system lines
  rules_of_file lines is = (is.0, file_took system lines is.0 is.1)

  pub ok_exit : (lines : List (List ℕ)) (r : Result ObsFile TextFault) → Gives (text_gives (obs_rules system) lines) (λ file. file) r → IfOk r (λ file. IsObsFile system lines file)
  ok_exit lines (Ok file) given = file_took system lines file given
  ok_exit lines (Err fault) given = tt

  -- a text has at most one file
  pub only_exit : (lines : List (List ℕ)) (r : Result ObsFile TextFault) → Gives (text_gives (obs_rules system) lines) (λ file. file) r
      → IfOk r (λ file. (other : ObsFile) → IsObsFile system lines other → other ≡ file)
  only_exit lines (Ok file) given = λ other is. let same : Ok other ≡ Ok file = sym (file_given system lines other is) ∙ given in cc (same)
  only_exit lines (Err fault) given = tt
