-- The texts of a simulated session, read again.
use Rattle.std.proofs.Common.{◌≡◌, ℕ, ℤ, ◌*◌, ◌≤◌, ◌<◌, Bool, true, false, ◌==◌, nat_le, List, length, All, refl, sym, subst, if◌then◌else◌, arith}
use Rattle.std.proofs.lemmas.Bool.Decides.{nat_tests}
use Rattle.eph_store.specs.declared.ephemeris.Eph.{Eph}
use Rattle.line_source.specs.Lines.{lines_of}
use Rattle.rinex_head.proofs.Letters.{letter_again}
use Rattle.rinex_head.specs.Systems.{system_of}
use Rattle.rinex_head.specs.declared.system.System.{System}
use Rattle.rinex_head.specs.declared.system.System.TheVariants.{Gps, Galileo}
use Rattle.obs_rows.specs.Ranges.{IsSystem}
use Rattle.obs_rows.specs.declared.limits.TheConstants.{MOST_PAIRS}
use Rattle.rinex_obs.specs.ObsForm.{IsObsFile}
use Rattle.rinex_nav.specs.NavForm.{IsNavFile}
use Rattle.orbit_model.specs.Elements.{world_of}
use Rattle.sim_session.specs.Navigation.{navigation_text}
use Rattle.sim_session.specs.Satellites.{AreSatellites}
use Rattle.sim_session.specs.declared.signals.Tracking.{Tracking}
use Rattle.sim_session.specs.declared.signals.Tracking.TheVariants.{GpsL1L2, GpsL1L2L5, GalileoE1E5a}
use Rattle.sim_session.specs.Values.{base_clock_of, rover_clock_of, base_cycles, rover_cycles, first_of}
use Rattle.sim_session.specs.Observations.{step_of, IsObservationText}
use Rattle.sim_session.specs.Texts.{base_point, rover_point, has_l5, tracking_of, IsBaseText, IsRoverText, IsNavigationText}
use Rattle.sim_jobs.specs.NavRecords.{raws_of}
use Rattle.sim_jobs.proofs.NavFile as navigation
use Rattle.sim_jobs.specs.ObsFiles.{system_in, file_of, HaveRoom}
use Rattle.sim_jobs.proofs.ObsFile as observations
use Rattle.sim_jobs.specs.Reads.{ReadsAsObserved, ReadsAsBase, ReadsAsRover, ReadsAsRecords}

-- a session lasts two hours at most
pub step_some : (epochs : ℕ) → 0 < step_of epochs
step_some epochs = by (nat_le epochs 240)
  where
    by : (t : Bool) → 0 < (if t then 30 else 2)
    by true = omega arith
    by false = omega arith

two_hours : (epochs : ℕ) → epochs ≤ MOST_PAIRS → step_of epochs * epochs ≤ 86400
two_hours epochs few = by (nat_le epochs 240) refl
  where
    by : (t : Bool) → nat_le epochs 240 ≡ t → (if t then 30 else 2) * epochs ≤ 86400
    by true short = let less : epochs ≤ 240 = grind (arith, nat_tests) in omega arith
    by false long = omega arith

-- ---- the system of a letter
-- what is tracked is of the system with that letter
tracked : (bands system : ℕ) → system_in (tracking_of bands system) ≡ system_of system
tracked bands system = by (has_l5 bands) (system == 69)
  where
    by : (l5 galileo : Bool) → system_in (if galileo then GalileoE1E5a else if l5 then GpsL1L2L5 else GpsL1L2) ≡ (if galileo then Galileo else Gps)
    by l5 true = refl
    by true false = refl
    by false false = refl

-- ---- the three texts
observed_reads : (epochs bands system : ℕ) (point : List ℤ) (clock : ℤ) (records : List Eph) (cycles : List (List ℤ)) (text : List ℕ) → epochs ≤ MOST_PAIRS → length records ≤ 15 →
    IsObservationText epochs (tracking_of bands system) (world_of system) point clock records cycles text → ReadsAsObserved epochs bands system point clock records cycles text
observed_reads epochs bands system point clock records cycles text few small is =
    let tracking : Tracking = tracking_of bands system in
    let rooms : All HaveRoom is.values = λ k d lt. record { few = omega (arith, (is.observed k d lt).as_many); columns = (is.observed k d lt).columns } in
    let day : step_of epochs * length is.values ≤ 86400 = subst (λ (n : ℕ). step_of epochs * n ≤ 86400) (sym is.count) (two_hours epochs few) in
    let reads : IsObsFile (system_in tracking) (lines_of text) (file_of tracking (step_of epochs) is.values) =
    subst (λ (l : List ℕ). IsObsFile (system_in tracking) (lines_of l) (file_of tracking (step_of epochs) is.values)) (sym is.text_is)
    (observations.file_is tracking (step_of epochs) is.values (step_some epochs) day (omega (arith, is.count)) rooms) in
    record {
      values = is.values;
      count = is.count;
      observed = is.observed;
      reads = subst (λ (s : System). IsObsFile s (lines_of text) (file_of tracking (step_of epochs) is.values)) (tracked bands system) reads;
    }

pub base_reads : (seed epochs sats bands system : ℕ) (text : List ℕ) → epochs ≤ MOST_PAIRS → sats ≤ 15 → IsBaseText seed epochs sats bands system text → ReadsAsBase seed epochs sats bands system text
base_reads seed epochs sats bands system text few small is = record {
  records = is.records;
  count = is.count;
  are = is.are;
  has = observed_reads epochs bands system base_point (base_clock_of seed) is.records (first_of (base_cycles seed sats (has_l5 bands)) sats) text few (omega (arith, is.count)) is.has;
}

pub rover_reads : (seed epochs sats bands system : ℕ) (text : List ℕ) → epochs ≤ MOST_PAIRS → sats ≤ 15 → IsRoverText seed epochs sats bands system text → ReadsAsRover seed epochs sats bands system text
rover_reads seed epochs sats bands system text few small is = record {
  records = is.records;
  count = is.count;
  are = is.are;
  has = observed_reads epochs bands system (rover_point seed) (rover_clock_of seed) is.records (first_of (rover_cycles seed sats (has_l5 bands)) sats) text few (omega (arith, is.count)) is.has;
}

records_read : (system : ℕ) (es : List Eph) → IsSystem system → AreSatellites system 0 es → length es ≤ 32 → IsNavFile (system_of system) (lines_of (navigation_text system es)) (raws_of es)
records_read system es is are few =
    subst (λ (letter : ℕ). IsNavFile (system_of system) (lines_of (navigation_text letter es)) (raws_of es)) (letter_again system is)
    (navigation.file_is (system_of system) es (subst (λ (letter : ℕ). AreSatellites letter 0 es) (sym (letter_again system is)) are) few)

pub navigation_reads : (sats system : ℕ) (text : List ℕ) → sats ≤ 15 → IsSystem system → IsNavigationText sats system text → ReadsAsRecords sats system text
navigation_reads sats system text small of_system is = record {
  records = is.records;
  count = is.count;
  are = is.are;
  has = subst (λ (l : List ℕ). IsNavFile (system_of system) (lines_of l) (raws_of is.records)) (sym is.has) (records_read system is.records of_system is.are (omega (arith, is.count)));
}
