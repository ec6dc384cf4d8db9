-- Words ask for one job at most.
use Rattle.std.proofs.Common.{◌≡◌, ℕ, ◌≤◌, ◌==◌, Bool, true, false, if◌then◌else◌, Option, None, Some, List, [], ◌∷◌, get_or, drop, refl, sym, ap, ◌∙◌, subst}
use Rattle.gps_time.specs.declared.Tick.{Tick}
use Rattle.command_words.specs.declared.settings.Given.{Given}
use Rattle.std.proofs.lemmas.Option.{same_Some}
use Rattle.command_words.specs.declared.sims.File.TheVariants.{Base, Rover, Nav}
use Rattle.command_words.specs.declared.sims.Part.{Part}
use Rattle.command_words.specs.declared.sims.Part.TheVariants as part
use Rattle.command_words.specs.declared.sims.Sim.{Sim}
use Rattle.command_words.specs.declared.command_name.CommandName.TheVariants as command_name
use Rattle.command_words.specs.declared.jobs.Job.{Job}
use Rattle.command_words.specs.declared.jobs.Job.TheVariants as job
use Rattle.command_words.specs.Numbers.{IsNumber, IsSatellite}
use Rattle.command_words.specs.Parts.{AreParted}
use Rattle.command_words.specs.Words.{name_of_command, name_of_part, sim_with, IsOrbitJob, IsSim, IsSimJob, IsJobOf, IsJob, IsInRange}
use Rattle.obs_rows.specs.declared.options.Options.{Options}
use Rattle.obs_rows.specs.Defaults.{numbers_of}
use Rattle.obs_rows.proofs.OneOptions.{one_options}
use Rattle.command_words.specs.declared.settings.Setting.{Setting}
use Rattle.command_words.specs.declared.settings.Setting.TheVariants.{Ratio, Budget, Mask, Gap, Jump, Arc, Step, First, Count, Bands, System}
use Rattle.obs_rows.specs.Ranges.{IsSystem}
use Rattle.obs_rows.specs.declared.limits.TheConstants.{MOST_PAIRS, MOST_RATIO, MOST_BUDGET}
use Rattle.obs_rows.specs.declared.defaults.TheConstants.{DEFAULT_SYSTEM, DEFAULT_RATIO, DEFAULT_BUDGET, DEFAULT_MASK, DEFAULT_GAP, DEFAULT_JUMP, DEFAULT_ARC, DEFAULT_STEP, DEFAULT_FIRST, DEFAULT_COUNT}
use Rattle.obs_rows.specs.Defaults.{default_bands}
use Rattle.command_words.specs.Settings.{numbers_for, AreBandsOf, IsChosenBy, IsSet, IsSignalChoice, AreOptions}
use Rattle.command_words.proofs.SettingLaws.{one_number, one_system, one_satellite, one_choice, choice_admitted}
use Rattle.command_words.proofs.PartLaws.{one_parting}
use Rattle.command_words.proofs.CommandLaws.{one_command, it_is}

-- ---- two jobs of one command, by the same words
one_orbit : (nav nav' : List ℕ) (system system' sat sat' : ℕ) (tick tick' : Tick) (c : List ℕ) (p : List (List ℕ)) (g : List Given)
    → IsOrbitJob nav system sat tick.0 c p g → IsOrbitJob nav' system' sat' tick'.0 c p g
    → job.Orbit nav system sat tick ≡ job.Orbit nav' system' sat' tick'
one_orbit nav nav' system system' sat sat' tick tick' c p g first second =
    let words = sym second.asked.plain_are ∙ first.asked.plain_are in
    let same_nav : nav' ≡ nav = ap (λ (ws : List (List ℕ)). get_or ws 0 []) words in
    let satellite : IsSatellite first.sat_word system' sat' = subst (λ (ws : List (List ℕ)). IsSatellite (get_or ws 1 []) system' sat') words second.satellite in
    let number : IsNumber first.tick_word tick'.0 = subst (λ (ws : List (List ℕ)). IsNumber (get_or ws 2 []) tick'.0) words second.number in
    let same_system : system ≡ system' = one_system first.sat_word system system' sat sat' first.satellite satellite in
    let same_sat : sat ≡ sat' = one_satellite first.sat_word system system' sat sat' first.satellite satellite in
    let same_tick : tick ≡ tick' = ap (λ (n : ℕ). let tick : Tick = record { 0 = n } in tick) (one_number first.tick_word tick.0 tick'.0 first.number number) in
    cc (same_nav, same_system, same_sat, same_tick)

-- the parts of a session have four names, of which two begin with one letter
abbrev part_with_letter : List ℕ → Option Part
part_with_letter [] = None
part_with_letter (b ∷ bs) = if b == 98 then Some (part.File Base) else (if b == 110 then Some (part.File Nav) else (if get_or bs 0 0 == 111 then Some (part.File Rover) else Some part.Run))

is_part_name : (p : Part) → part_with_letter (name_of_part p) ≡ Some p
is_part_name (part.File Base) = refl
is_part_name (part.File Rover) = refl
is_part_name (part.File Nav) = refl
is_part_name part.Run = refl

one_part : (p q : Part) → name_of_part p ≡ name_of_part q → p ≡ q
one_part p q same = same_Some p q (sym (is_part_name p) ∙ ap part_with_letter same ∙ is_part_name q)

-- one system and one set of bands are chosen
one_signals : (given : List Given) (k l b c : ℕ) → IsSignalChoice given k b → IsSignalChoice given l c → (k ≡ l) × (b ≡ c)
one_signals given k l b c first second =
    let system : k ≡ l = one_choice (numbers_for System given) IsSystem DEFAULT_SYSTEM k l first.system_is second.system_is in
    let also : IsChosenBy (numbers_for Bands given) (AreBandsOf k) (default_bands k) c =
    subst (λ (n : ℕ). IsChosenBy (numbers_for Bands given) (AreBandsOf n) (default_bands n) c) (sym system) second.bands_are in
    (system, one_choice (numbers_for Bands given) (AreBandsOf k) (default_bands k) b c first.bands_are also)

-- what four words ask for, the same four ask for
at_words : (part seed epochs sats part' seed' epochs' sats' : List ℕ) (s : Sim) → part ∷ seed ∷ epochs ∷ sats ∷ [] ≡ part' ∷ seed' ∷ epochs' ∷ sats' ∷ []
    → IsSim part seed epochs sats s → IsSim part' seed' epochs' sats' s
at_words part seed epochs sats part' seed' epochs' sats' s same is =
    subst (λ (ws : List (List ℕ)). IsSim (get_or ws 0 []) (get_or ws 1 []) (get_or ws 2 []) (get_or ws 3 []) s) same is

one_sim : (s r : Sim) (c : List ℕ) (p : List (List ℕ)) (g : List Given) → IsSimJob s c p g → IsSimJob r c p g
    → job.Sim s.part s.seed s.epochs s.sats s.bands s.system ≡ job.Sim r.part r.seed r.epochs r.sats r.bands r.system
one_sim s r c p g first second =
    let also = at_words second.part_word second.seed_word second.epochs_word second.sats_word first.part_word first.seed_word first.epochs_word first.sats_word r
    (sym second.plain_are ∙ first.plain_are) second.is in
    let same_part : s.part ≡ r.part = one_part s.part r.part (sym first.is.part ∙ also.part) in
    let seed : s.seed ≡ r.seed = one_number first.seed_word s.seed r.seed first.is.seed.number also.seed.number in
    let epochs : s.epochs ≡ r.epochs = one_number first.epochs_word s.epochs r.epochs first.is.epochs.number also.epochs.number in
    let sats : s.sats ≡ r.sats = one_number first.sats_word s.sats r.sats first.is.sats.number also.sats.number in
    let signals = one_signals g s.system r.system s.bands r.bands first.choice.choice second.choice.choice in
    cc (same_part, seed, epochs, sats, signals.0, signals.1)

one_setting : (given : List Given) (s : Setting) (least most plain m n : ℕ) → IsSet given s least most plain m → IsSet given s least most plain n → m ≡ n
one_setting given s least most plain m n first second = one_choice (numbers_for s given) (λ v. (least ≤ v) × (v ≤ most)) plain m n first second

one_of_options : (given : List Given) (o p : Options) → AreOptions given o → AreOptions given p → o ≡ p
one_of_options given o p first second =
    let ratio : o.ratio ≡ p.ratio = one_setting given Ratio 1000 MOST_RATIO DEFAULT_RATIO o.ratio p.ratio first.ratio second.ratio in
    let budget : o.budget ≡ p.budget = one_setting given Budget 1 MOST_BUDGET DEFAULT_BUDGET o.budget p.budget first.budget second.budget in
    let mask : o.mask ≡ p.mask = one_setting given Mask 0 900 DEFAULT_MASK o.mask p.mask first.mask second.mask in
    let gap : o.gap ≡ p.gap = one_setting given Gap 0 5000000 DEFAULT_GAP o.gap p.gap first.gap second.gap in
    let jump : o.jump ≡ p.jump = one_setting given Jump 1 1000 DEFAULT_JUMP o.jump p.jump first.jump second.jump in
    let arc : o.arc ≡ p.arc = one_setting given Arc 2 MOST_PAIRS DEFAULT_ARC o.arc p.arc first.arc second.arc in
    let step : o.step ≡ p.step = one_setting given Step 1 1000 DEFAULT_STEP o.step p.step first.step second.step in
    let first_pair : o.first ≡ p.first = one_setting given First 0 19999 DEFAULT_FIRST o.first p.first first.first second.first in
    let count : o.count ≡ p.count = one_setting given Count 1 MOST_PAIRS DEFAULT_COUNT o.count p.count first.count second.count in
    let signals = one_signals given o.system p.system o.bands p.bands first.choice second.choice in
    let same : numbers_of o ≡ numbers_of p = cc (ratio, budget, mask, gap, jump, arc, step, first_pair, count, signals.0, signals.1) in
    one_options o p same

-- jobs of a command with three files
one_session : (make : List ℕ → List ℕ → List ℕ → Options → Job) (base rover nav base' rover' nav' : List ℕ) (o p : Options) (w : List (List ℕ)) (g : List Given)
    → w ≡ base ∷ rover ∷ nav ∷ [] → w ≡ base' ∷ rover' ∷ nav' ∷ [] → AreOptions g o → AreOptions g p → make base rover nav o ≡ make base' rover' nav' p
one_session make base rover nav base' rover' nav' o p w g first second of_first of_second =
    let same : o ≡ p = one_of_options g o p of_first of_second in
    cc (first, second, same)

one_of : (c : List ℕ) (p : List (List ℕ)) (g : List Given) (a b : Job) → IsJobOf c p g a → IsJobOf c p g b → a ≡ b
one_of c p g (job.Zero rows) (job.Zero rows') first second = cc (first.plain_are, second.plain_are)
one_of c p g (job.List obs) (job.List obs') first second = cc (first.plain_are, second.plain_are)
one_of c p g (job.Check cert) (job.Check cert') first second = cc (first.plain_are, second.plain_are)
one_of c p g (job.Residuals cert) (job.Residuals cert') first second = cc (first.plain_are, second.plain_are)
one_of c p g (job.Migrate cert) (job.Migrate cert') first second = cc (first.plain_are, second.plain_are)
one_of c p g (job.CheckTrack cert) (job.CheckTrack cert') first second = cc (first.plain_are, second.plain_are)
one_of c p g (job.Fix base rover nav o) (job.Fix base' rover' nav' o') first second =
    one_session (λ b r n o. job.Fix b r n o) base rover nav base' rover' nav' o o' p g first.plain_are second.plain_are first.options second.options
one_of c p g (job.Track base rover nav o) (job.Track base' rover' nav' o') first second =
    one_session (λ b r n o. job.Track b r n o) base rover nav base' rover' nav' o o' p g first.plain_are second.plain_are first.options second.options
one_of c p g (job.Arcs base rover nav o) (job.Arcs base' rover' nav' o') first second =
    one_session (λ b r n o. job.Arcs b r n o) base rover nav base' rover' nav' o o' p g first.plain_are second.plain_are first.options.options second.options.options
one_of c p g (job.Orbit nav system sat tick) (job.Orbit nav' system' sat' tick') first second = one_orbit nav nav' system system' sat sat' tick tick' c p g first second
one_of c p g (job.Sim part seed epochs sats bands system) (job.Sim part' seed' epochs' sats' bands' system') first second =
    one_sim (sim_with part seed epochs sats bands system) (sim_with part' seed' epochs' sats' bands' system') c p g first second
one_of c p g a b first second = absurd (cc (one_command c p g a b first second))

-- the words have one command, and one list of words after it
pub same_behind : (words : List (List ℕ)) (a b : Job) (first : IsJob words a) (second : IsJob words b) → second.behind ≡ first.behind
same_behind words a b first second = ap (λ (ws : List (List ℕ)). drop 1 ws) (sym second.words_are ∙ first.words_are)

same_command : (words : List (List ℕ)) (a b : Job) (first : IsJob words a) (second : IsJob words b) → second.command ≡ first.command
same_command words a b first second = ap (λ (ws : List (List ℕ)). get_or ws 0 []) (sym second.words_are ∙ first.words_are)

pub one_job : (words : List (List ℕ)) (a b : Job) → IsJob words a → IsJob words b → a ≡ b
one_job words a b first second =
    let parts = one_parting first.behind first.plain second.plain first.given second.given first.parted
    (subst (λ (ws : List (List ℕ)). AreParted ws second.plain second.given) (same_behind words a b first second) second.parted) in
    one_of first.command first.plain first.given a b first.asked
    (subst (λ (c : List ℕ). IsJobOf c first.plain first.given b) (same_command words a b first second)
    (subst (λ (p : List (List ℕ)). IsJobOf second.command p first.given b) (sym parts.0)
    (subst (λ (g : List Given). IsJobOf second.command second.plain g b) (sym parts.1) second.asked)))

-- no job of `orbit` without a satellite
pub no_satellite : (plain : List (List ℕ)) (given : List Given) (sat : List ℕ) → sat ≡ get_or plain 1 sat → ((system n : ℕ) → IsSatellite sat system n → ⊥)
    → (job : Job) → IsJobOf (name_of_command command_name.Orbit) plain given job → ⊥
no_satellite plain given sat place none (job.Orbit nav system number tick) asked =
    let same : sat ≡ asked.sat_word = subst (λ (ws : List (List ℕ)). sat ≡ get_or ws 1 sat) asked.asked.plain_are place in
    none system number (subst (λ (w : List ℕ). IsSatellite w system number) (sym same) asked.satellite)
no_satellite plain given sat place none other asked = absurd (cc (it_is command_name.Orbit plain given other asked))

-- a job of `sim` is that of a simulated session
sim_asked : (plain : List (List ℕ)) (given : List Given) (job : Job) → IsJobOf (name_of_command command_name.Sim) plain given job → (s : Sim) × IsSimJob s (name_of_command command_name.Sim) plain given
sim_asked plain given (job.Sim part seed epochs sats bands system) asked = (sim_with part seed epochs sats bands system, asked)
sim_asked plain given other asked = absurd (cc (it_is command_name.Sim plain given other asked))

-- and there is none where its four words aren't those of such a session
pub no_sim : (part seed epochs sats : List ℕ) (given : List Given) → ((s : Sim) → IsSim part seed epochs sats s → ⊥) → (job : Job)
    → IsJobOf (name_of_command command_name.Sim) (part ∷ seed ∷ epochs ∷ sats ∷ []) given job → ⊥
no_sim part seed epochs sats given none job asked =
    let simulated = sim_asked (part ∷ seed ∷ epochs ∷ sats ∷ []) given job asked in
    let found = simulated.1 in
    none simulated.0 (at_words found.part_word found.seed_word found.epochs_word found.sats_word part seed epochs sats simulated.0 (sym found.plain_are) found.is)

-- ---- ranges

default_system : IsSystem DEFAULT_SYSTEM
default_system = refl

default_admitted : (system : ℕ) → AreBandsOf system (default_bands system)
default_admitted system = go (system == 69) refl
  where
    go : (b : Bool) → (system == 69) ≡ b → AreBandsOf system (default_bands system)
    go true e = record { number = rw e refl; galileo = λ same. rw e refl }
    go false e = record { number = rw e refl; galileo = λ same. absurd (cc (rw same at e)) }

pub signals_in_range : (given : List Given) (system bands : ℕ) → IsSignalChoice given system bands → IsSystem system × AreBandsOf system bands
signals_in_range given system bands is = (
  choice_admitted (numbers_for System given) IsSystem DEFAULT_SYSTEM system default_system is.system_is,
  choice_admitted (numbers_for Bands given) (AreBandsOf system) (default_bands system) bands (default_admitted system) is.bands_are,
)

pub in_range : (command : List ℕ) (plain : List (List ℕ)) (given : List Given) (j : Job) → IsJobOf command plain given j → IsInRange j
in_range command plain given (job.Sim part seed epochs sats bands system) asked =
    let signals = signals_in_range given system bands asked.choice.choice in
    record { epochs_to = asked.is.epochs.to; sats_to = asked.is.sats.to; of_system = signals.0; on_bands = signals.1 }
in_range command plain given (job.Orbit nav system sat tick) asked = asked.satellite.system
in_range command plain given other asked = tt
