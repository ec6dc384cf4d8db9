-- The whole observation file.
use Rattle.std.proofs.Common.{◌≡◌, ℕ, ◌+◌, ◌*◌, ◌≤◌, ◌<◌, List, [], ◌++◌, length, refl, sym, ap, subst, ◌∙◌, arith}
use Rattle.std.specs.List.{All}
use Rattle.line_source.specs.Lines.{lines_of}
use Rattle.obs_store.specs.declared.series.Epoch.{Epoch}
use Rattle.obs_fields.specs.Types.{listed_of, is_listed}
use Rattle.obs_fields.specs.declared.types.KeptType.{KeptType}
use Rattle.rinex_obs.specs.ObsRules.{file_of as file_with}
use Rattle.rinex_obs.specs.ObsForm.{AreParts, IsObsFile}
use Rattle.rinex_obs.specs.ObsForm.{epochs_of as epochs_in}
use Rattle.sim_session.specs.declared.signals.Signals.{Signals}
use Rattle.sim_session.specs.declared.signals.Tracking.{Tracking}
use Rattle.sim_session.specs.declared.signals.Tracking.TheVariants.{GpsL1L2, GpsL1L2L5, GalileoE1E5a}
use Rattle.sim_session.specs.ObservationText.{epochs_text, observation_text}
use Rattle.sim_jobs.specs.ObsFiles.{system_in, file_of, epochs_of, HaveRoom}
use Rattle.sim_jobs.proofs.ObsHeader.{lines, names, the_header, header_read, header_is, system_is, kept_are}
use Rattle.sim_jobs.proofs.ObsEpochs.{parts_of, epochs_read, epochs_are, parts_are}

gives : (t : Tracking) (step : ℕ) (epochs : List (List Signals)) (read : List Epoch) → read ≡ epochs_of t step 0 epochs → file_of t step epochs ≡ file_with (the_header t) read
unfolding the_header names listed_of is_listed
gives GpsL1L2 step epochs read is = rw is refl
gives GpsL1L2L5 step epochs read is = rw is refl
gives GalileoE1E5a step epochs read is = rw is refl

pub file_is : (t : Tracking) (step : ℕ) (epochs : List (List Signals)) → 0 < step → step * length epochs ≤ 86400 → length epochs ≤ 20000 → All HaveRoom epochs →
    IsObsFile (system_in t) (lines_of (observation_text t step epochs)) (file_of t step epochs)
file_is t step epochs some day few rooms = record {
  header_lines = lines t;
  header = the_header t;
  parts = parts_of t step 0 epochs;
  lines_are = header_read t (epochs_text t step 0 epochs) ∙ ap (λ (l : List (List ℕ)). lines t ++ l) (epochs_read t step 0 epochs rooms);
  is_header = header_is t;
  of_system = system_is t;
  are_parts = subst (λ (kept : List KeptType). AreParts (system_in t) kept [] (parts_of t step 0 epochs)) (sym (kept_are t))
      (parts_are t step 0 epochs [] some (from_none step (length epochs) day) (omega arith) rooms refl);
  file_is = gives t step epochs (epochs_in (parts_of t step 0 epochs)) (epochs_are t step 0 epochs);
}
  where
    from_none : (a b : ℕ) → a * b ≤ 86400 → a * (0 + b) ≤ 86400
    from_none a b h = let same : 0 + b ≡ b = omega arith in rw same h
