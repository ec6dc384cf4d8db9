-- The simulated texts are there, are files, and aren't refused together.
use Rattle.std.proofs.Common.{◌≡◌, ◌∙◌, inl, ℕ, zero, suc, ◌+◌, ◌*◌, ◌^◌, ◌<◌, ◌≤◌, Bool, true, false, ◌==◌, if◌then◌else◌, pos, ◌≤ℤ◌, List, [], ◌∷◌, length, slice_index, Option, Some, codes, refl, sym, ap, subst, arith}
use Rattle.std.proofs.Math.Nat.{mul-add}
use Rattle.std.proofs.lemmas.Bool.{eqb-true}
use Rattle.std.proofs.lemmas.Int.{ints}
use Rattle.line_source.specs.Lines.{lines_of}
use Rattle.rinex_head.specs.Systems.{system_of}
use Rattle.rinex_head.specs.declared.system.System.{System}
use Rattle.rinex_head.specs.declared.system.System.TheVariants.{Gps, Galileo}
use Rattle.obs_store.specs.declared.file.ObsFile.{ObsFile}
use Rattle.obs_store.specs.Epochs.{tags_of}
use Rattle.epoch_pair.specs.Pairs.{AreApart}
use Rattle.rinex_obs.specs.ObsForm.{IsObsFile}
use Rattle.job_answers.specs.Formats.{IsObservation}
use Rattle.job_answers.proofs.FormatLaws.{file_given}
use Rattle.rinex_nav.specs.NavForm.{IsNavFile}
use Rattle.sim_session.specs.declared.signals.Signals as made
use Rattle.sim_session.specs.declared.signals.Tracking.{Tracking}
use Rattle.sim_session.specs.declared.signals.Tracking.TheVariants.{GpsL1L2, GpsL1L2L5, GalileoE1E5a}
use Rattle.sim_session.specs.Observations.{step_of}
use Rattle.sim_session.specs.Texts.{has_l5, tracking_of, IsBaseText, IsRoverText, IsNavigationText}
use Rattle.sim_jobs.specs.NavRecords.{raws_of}
use Rattle.sim_jobs.specs.ObsFiles.{epochs_of, file_of}
use Rattle.sim_jobs.proofs.TextReadings.{base_reads, rover_reads, navigation_reads, step_some}
use Rattle.obs_rows.specs.declared.options.Options.{Options}
use Rattle.obs_rows.specs.Defaults.{Numbers}
use Rattle.obs_rows.specs.declared.band_sets.TheConstants.{BANDS_L1_L5}
use Rattle.obs_rows.specs.BandSets.{IsBandsNumber, bands_of}
use Rattle.obs_rows.proofs.BandSetLaws.{each_number}
use Rattle.obs_rows.specs.Ranges.{IsSystem}
use Rattle.obs_rows.specs.declared.units.TheConstants.{BANDS_12, BANDS_15, BANDS_125}
use Rattle.obs_rows.specs.declared.bands.Signals.{Signals}
use Rattle.obs_rows.specs.declared.limits.TheConstants.{MOST_PAIRS}
use Rattle.obs_rows.specs.declared.defaults.TheConstants.{DEFAULT_GAP}
use Rattle.epoch_pair.specs.Signals.{letter_on, letter_of, is_among, IsLetterFor}
use Rattle.epoch_pair.specs.Beginnings.{HasPosition, HaveSignals, AreSparse}
use Rattle.job_answers.specs.SessionFiles.{IsObsOf}
use Rattle.job_answers.specs.SessionJobs.{AreAdmitted}
use Rattle.job_answers.proofs.ReadingLaws.{text_told}
use Rattle.sim_jobs.specs.SimRunJobs.{AreOptionsOn}

-- ---- what a text is

-- files of RINEX 3 are observation files
observation_of : (system : System) (lines : List (List ℕ)) (file : ObsFile) → IsObsFile system lines file → IsObservation system lines file
observation_of Gps lines file is = inl is
observation_of Galileo lines file is = is

-- also for a system that is the same
observation_as : (one other : System) (lines : List (List ℕ)) (file : ObsFile) → one ≡ other → IsObsFile one lines file → IsObservation other lines file
observation_as one other lines file same is = subst (λ (system : System). IsObservation system lines file) same (observation_of one lines file is)

one_file : (system : System) (lines : List (List ℕ)) (f g : ObsFile) → IsObservation system lines f → IsObservation system lines g → f ≡ g
one_file system lines f g is also = let same = sym (file_given system lines f is) ∙ file_given system lines g also in cc (same)

file_read : (system : System) (text_of : List ℕ → Option (List ℕ)) (name text : List ℕ) (f b : ObsFile) → text_of name ≡ Some text → IsObservation system (lines_of text) f
    → IsObsOf system text_of name b → b ≡ f
file_read system text_of name text f b is reads of =
    one_file system (lines_of text) b f (subst (λ (t : List ℕ). IsObservation system (lines_of t) b) (text_told text_of name text of.text is of.is) of.is_file) reads

-- what holds of two simulated files holds of those that are read
two_as : (t : Tracking) (step : ℕ) (base rover : List (List made.Signals)) (b r : ObsFile) (P : ObsFile → ObsFile → Type 0) → b ≡ file_of t step base → r ≡ file_of t step rover →
    P (file_of t step base) (file_of t step rover) → P b r
two_as t step base rover b r P is also holds = subst (λ (f : ObsFile). P f r) (sym is) (subst (λ (f : ObsFile). P (file_of t step base) f) (sym also) holds)

-- ---- two simulated files have a position and signals
has_position : (t : Tracking) (step : ℕ) (values : List (List made.Signals)) → HasPosition (file_of t step values)
has_position t step values = (pos 63781370000 ∷ pos 0 ∷ pos 0 ∷ [], record { there = refl; in_reach = (low, high) })
  where
    low : pos 3600000000000000000000 ≤ℤ pos 4068063159076900000000
    low = omega (arith, ints)

    high : pos 4068063159076900000000 ≤ℤ pos 4900000000000000000000
    high = omega (arith, ints)

-- two files of what is tracked share a letter on each of these bands
abbrev Share : List ℕ → Tracking → Type 0
Share bands t = (step : ℕ) (base rover : List (List made.Signals)) → HaveSignals bands (file_of t step base) (file_of t step rover)

-- C on L1 and W on L2
abbrev letters_12 : Signals
letters_12 = record { l1 = 67; l2 = 87; l5 = 0; on_l1 = refl; on_l2 = refl; on_l5 = refl; two_bands = refl }

share_12 : Share BANDS_12 GpsL1L2
share_12 step base rover = (letters_12, on)
  where
    on : (band : ℕ) → band < 3 → IsLetterFor (is_among BANDS_12 band) (letter_on (file_of GpsL1L2 step base).listed (file_of GpsL1L2 step rover).listed band) (letter_of letters_12 band)
    on zero inside = refl
    on (suc zero) inside = refl
    on (suc (suc zero)) inside = refl
    on (suc (suc (suc band))) inside = absurd (omega (arith, inside))

-- C on L1 and Q on L5
abbrev letters_15 : Signals
letters_15 = record { l1 = 67; l2 = 0; l5 = 81; on_l1 = refl; on_l2 = refl; on_l5 = refl; two_bands = refl }

share_15 : Share BANDS_15 GpsL1L2L5
share_15 step base rover = (letters_15, on)
  where
    on : (band : ℕ) → band < 3 → IsLetterFor (is_among BANDS_15 band) (letter_on (file_of GpsL1L2L5 step base).listed (file_of GpsL1L2L5 step rover).listed band) (letter_of letters_15 band)
    on zero inside = refl
    on (suc zero) inside = refl
    on (suc (suc zero)) inside = refl
    on (suc (suc (suc band))) inside = absurd (omega (arith, inside))

-- all three
abbrev letters_125 : Signals
letters_125 = record { l1 = 67; l2 = 87; l5 = 81; on_l1 = refl; on_l2 = refl; on_l5 = refl; two_bands = refl }

share_125 : Share BANDS_125 GpsL1L2L5
share_125 step base rover = (letters_125, on)
  where
    on : (band : ℕ) → band < 3 → IsLetterFor (is_among BANDS_125 band) (letter_on (file_of GpsL1L2L5 step base).listed (file_of GpsL1L2L5 step rover).listed band) (letter_of letters_125 band)
    on zero inside = refl
    on (suc zero) inside = refl
    on (suc (suc zero)) inside = refl
    on (suc (suc (suc band))) inside = absurd (omega (arith, inside))

share_galileo : Share BANDS_15 GalileoE1E5a
share_galileo step base rover = (letters_15, on)
  where
    on : (band : ℕ) → band < 3 → IsLetterFor (is_among BANDS_15 band) (letter_on (file_of GalileoE1E5a step base).listed (file_of GalileoE1E5a step rover).listed band) (letter_of letters_15 band)
    on zero inside = refl
    on (suc zero) inside = refl
    on (suc (suc zero)) inside = refl
    on (suc (suc (suc band))) inside = absurd (omega (arith, inside))

shared : (bands system : ℕ) → IsBandsNumber bands → (system ≡ 69 → bands ≡ BANDS_L1_L5) → Share (bands_of bands) (tracking_of bands system)
shared bands system number galileo = by (system == 69) refl
  where
    by : (t : Bool) → (system == 69) ≡ t → Share (bands_of bands) (if t then GalileoE1E5a else if has_l5 bands then GpsL1L2L5 else GpsL1L2)
    by true is = subst (λ (n : ℕ). Share (bands_of n) GalileoE1E5a) (sym (galileo (eqb-true system 69 is))) share_galileo
    by false is = each_number (λ (n : ℕ). Share (bands_of n) (if has_l5 n then GpsL1L2L5 else GpsL1L2)) share_12 share_15 share_125 bands number

-- ---- their epochs are sparse
one_later : (step i m : ℕ) → step * (i + 1 + m) ≡ step * (i + suc m)
one_later step i m = ap (λ (n : ℕ). step * n) (let later_index_is : i + 1 + m ≡ i + suc m = omega arith in later_index_is)

tag_at : (t : Tracking) (step i : ℕ) (values : List (List made.Signals)) (m : ℕ) → m < length (tags_of (epochs_of t step i values))
    → slice_index (tags_of (epochs_of t step i values)) m ≡ 13_881_024_000_000_000 + step * (i + m) * 10_000_000
tag_at t step i [] m inside = absurd (omega (arith, inside))
tag_at t step i (sats ∷ values) zero inside = ap (λ (n : ℕ). 13_881_024_000_000_000 + step * n * 10_000_000) (let same_index : i ≡ i + 0 = omega arith in same_index)
tag_at t step i (sats ∷ values) (suc m) inside =
    tag_at t step (i + 1) values m (omega (arith, inside)) ∙ ap (λ (n : ℕ). 13_881_024_000_000_000 + n * 10_000_000) (one_later step i m)

far_apart : (step m low high : ℕ) → 0 < step → low ≡ 13_881_024_000_000_000 + step * m * 10_000_000 → high ≡ 13_881_024_000_000_000 + step * (m + 1) * 10_000_000 → low + 2 * DEFAULT_GAP < high
far_apart step m low high some at next =
    let later : step * (m + 1) ≡ step * m + step = omega (arith, mul-add step m 1) in
    omega (arith, some, at, next, later)

first_at : (t : Tracking) (step : ℕ) (values : List (List made.Signals)) (m : ℕ) → m < length (tags_of (epochs_of t step 0 values))
    → slice_index (tags_of (epochs_of t step 0 values)) m ≡ 13_881_024_000_000_000 + step * m * 10_000_000
first_at t step values m inside = tag_at t step 0 values m inside ∙ ap (λ (n : ℕ). 13_881_024_000_000_000 + step * n * 10_000_000) (let zero_plus_is : 0 + m ≡ m = omega arith in zero_plus_is)

apart : (t : Tracking) (step : ℕ) (values : List (List made.Signals)) → 0 < step → AreApart DEFAULT_GAP (tags_of (epochs_of t step 0 values))
apart t step values some = λ m inside. far_apart step m _ _ some (first_at t step values m (omega (arith, inside))) (first_at t step values (m + 1) inside)

sparse : (t : Tracking) (epochs gap : ℕ) (base rover : List (List made.Signals)) → gap ≡ DEFAULT_GAP → AreSparse gap (file_of t (step_of epochs) base) (file_of t (step_of epochs) rover)
sparse t epochs gap base rover small = subst (λ (g : ℕ). AreSparse g (file_of t (step_of epochs) base) (file_of t (step_of epochs) rover)) (sym small)
    (apart t (step_of epochs) base (step_some epochs), apart t (step_of epochs) rover (step_some epochs))

pub still_fits : (m n : ℕ) → m ≡ n → m < 2 ^ 23 → n < 2 ^ 23
still_fits m n same small = subst (λ (k : ℕ). k < 2 ^ 23) same small

-- the three texts, where none has too many bytes
-- ---- the options
system_on : (bands system : ℕ) (o : Options) → AreOptionsOn bands system o → o.system ≡ system
system_on bands system o on = ap (λ (n : Numbers). n.system) on.numbers

bands_on : (bands system : ℕ) (o : Options) → AreOptionsOn bands system o → o.bands ≡ bands
bands_on bands system o on = ap (λ (n : Numbers). n.bands) on.numbers

gap_on : (bands system : ℕ) (o : Options) → AreOptionsOn bands system o → o.gap ≡ DEFAULT_GAP
gap_on bands system o on = ap (λ (n : Numbers). n.gap) on.numbers ∙ on.are_defaults.gap

-- the three texts, where none has too many bytes
pub made_admitted : (seed epochs sats bands system : ℕ) (text_of : List ℕ → Option (List ℕ)) (base rover nav : List ℕ) (o : Options) → epochs ≤ MOST_PAIRS → sats ≤ 15 → IsBandsNumber bands → IsSystem system
    → (system ≡ 69 → bands ≡ BANDS_L1_L5) → AreOptionsOn bands system o → text_of (codes "base") ≡ Some base → text_of (codes "rover") ≡ Some rover → text_of (codes "nav") ≡ Some nav
    → IsBaseText seed epochs sats bands system base → IsRoverText seed epochs sats bands system rover → IsNavigationText sats system nav → length base < 2 ^ 23
    → length rover < 2 ^ 23 → length nav < 2 ^ 23
    → AreAdmitted text_of (codes "base") (codes "rover") (codes "nav") o
made_admitted seed epochs sats bands system text_of base rover nav o few small number is_system galileo on base_told rover_told nav_told base_is rover_is nav_is base_fits rover_fits nav_fits =
    let base_file = (base_reads seed epochs sats bands system base few small base_is).has in
    let rover_file = (rover_reads seed epochs sats bands system rover few small rover_is).has in
    let records = navigation_reads sats system nav small is_system nav_is in
    let step : ℕ = step_of epochs in
    let tracking : Tracking = tracking_of bands system in
    let named_system : System = system_of o.system in
    let same : system_of system ≡ named_system = ap system_of (sym (system_on bands system o on)) in
    let base_values = base_file.values in
    let rover_values = rover_file.values in
    let base_obs : IsObservation named_system (lines_of base) (file_of tracking step base_values) = observation_as (system_of system) named_system (lines_of base) (file_of tracking step base_values) same base_file.reads in
    let rover_obs : IsObservation named_system (lines_of rover) (file_of tracking step rover_values) = observation_as (system_of system) named_system (lines_of rover) (file_of tracking step rover_values) same rover_file.reads in
    let nav_file : IsNavFile named_system (lines_of nav) (raws_of records.records) = subst (λ (named_system : System). IsNavFile named_system (lines_of nav) (raws_of records.records)) same records.has in
    let base_as = λ (b : ObsFile) (of : IsObsOf named_system text_of (codes "base") b). file_read named_system text_of (codes "base") base (file_of tracking step base_values) b base_told base_obs of in
    let rover_as = λ (r : ObsFile) (of : IsObsOf named_system text_of (codes "rover") r). file_read named_system text_of (codes "rover") rover (file_of tracking step rover_values) r rover_told rover_obs of in
    let share : HaveSignals (bands_of bands) (file_of tracking step base_values) (file_of tracking step rover_values) = shared bands system number galileo step base_values rover_values in
    let signals : HaveSignals (bands_of o.bands) (file_of tracking step base_values) (file_of tracking step rover_values) =
    subst (λ (n : ℕ). HaveSignals (bands_of n) (file_of tracking step base_values) (file_of tracking step rover_values)) (sym (bands_on bands system o on)) share in
    let gap : AreSparse o.gap (file_of tracking step base_values) (file_of tracking step rover_values) = sparse tracking epochs o.gap base_values rover_values (gap_on bands system o on) in
    record {
      base_is = record { text = base; told_is = base_told; fits = omega (arith, base_fits); file = (_, base_obs) };
      rover_is = record { text = rover; told_is = rover_told; fits = omega (arith, rover_fits); file = (_, rover_obs) };
      nav_is = record { text = nav; told_is = nav_told; fits = omega (arith, nav_fits); file = (_, nav_file) };
      position = λ b of. subst HasPosition (sym (base_as b of)) (has_position tracking step base_values);
      signals = λ b r of also. two_as tracking step base_values rover_values b r (HaveSignals (bands_of o.bands)) (base_as b of) (rover_as r also) signals;
      sparse = λ b r of also. two_as tracking step base_values rover_values b r (AreSparse o.gap) (base_as b of) (rover_as r also) gap;
    }
