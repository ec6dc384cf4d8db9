-- Which words are a job.
use Rattle.std.specs.Prelude.{◌≡◌, ◌≤◌, ℕ, List, [], ◌∷◌, map, codes, string_bytes, String}
use Rattle.obs_rows.specs.Ranges.{IsSystem}
use Rattle.obs_rows.specs.declared.limits.TheConstants.{MOST_PAIRS}
use Rattle.std.specs.declared.alloc.Global.{Global}
use Rattle.command_words.specs.declared.settings.Given.{Given}
use Rattle.command_words.specs.declared.sims.File.{File}
use Rattle.command_words.specs.declared.sims.File.TheVariants.{Base, Rover, Nav}
use Rattle.command_words.specs.declared.sims.Part.{Part}
use Rattle.command_words.specs.declared.sims.Part.TheVariants as part
use Rattle.command_words.specs.declared.sims.Sim.{Sim}
use Rattle.command_words.specs.declared.command_name.CommandName.{CommandName}
use Rattle.command_words.specs.declared.command_name.CommandName.TheVariants as command_name
use Rattle.command_words.specs.declared.jobs.Job.{Job}
use Rattle.command_words.specs.declared.jobs.Job.TheVariants as job
use Rattle.command_words.specs.Numbers.{IsNumber, IsNumberIn, IsSatellite}
use Rattle.command_words.specs.Parts.{AreParted}
use Rattle.obs_rows.specs.declared.options.Options.{Options}
use Rattle.command_words.specs.Settings.{AreBandsOf, AreOptions, ArePairOptions, IsSimChoice}

abbrev pub texts_of : List (String Global) → List (List ℕ)
texts_of words = map (λ w. string_bytes w) words

abbrev pub name_of_command : CommandName → List ℕ
name_of_command command_name.Fix = codes "fix"
name_of_command command_name.Arcs = codes "arcs"
name_of_command command_name.Check = codes "check"
name_of_command command_name.Residuals = codes "residuals"
name_of_command command_name.Zero = codes "zero"
name_of_command command_name.List = codes "list"
name_of_command command_name.Orbit = codes "orbit"
name_of_command command_name.Sim = codes "sim"
name_of_command command_name.Migrate = codes "migrate"
name_of_command command_name.Track = codes "track"
name_of_command command_name.CheckTrack = codes "check-track"

-- the command has that name, exactly these ordinary words and no option
pub record IsPlainJob (name : List ℕ) (words : List (List ℕ)) (command : List ℕ) (plain : List (List ℕ)) (given : List Given) : Type 0 where
  pub command_is : command ≡ name
  pub plain_are : plain ≡ words
  pub none_given : given ≡ []

-- `orbit`, a navigation file, a satellite and a tick
pub record IsOrbitJob (nav : List ℕ) (system sat tick : ℕ) (command : List ℕ) (plain : List (List ℕ)) (given : List Given) : Type 0 where
  pub sat_word : List ℕ
  pub tick_word : List ℕ
  pub asked : IsPlainJob (name_of_command command_name.Orbit) (nav ∷ sat_word ∷ tick_word ∷ []) command plain given
  pub satellite : IsSatellite sat_word system sat
  pub number : IsNumber tick_word tick

abbrev pub name_of_file : File → List ℕ
name_of_file Base = codes "base"
name_of_file Rover = codes "rover"
name_of_file Nav = codes "nav"

abbrev pub name_of_part : Part → List ℕ
name_of_part (part.File file) = name_of_file file
name_of_part part.Run = codes "run"

abbrev pub sim_with : Part → ℕ → ℕ → ℕ → ℕ → ℕ → Sim
sim_with part seed epochs sats bands system = record { part = part; seed = seed; epochs = epochs; sats = sats; bands = bands; system = system }

-- the part of a simulated session, its seed, and how many epochs and satellites it has
pub record IsSim (part_word seed_word epochs_word sats_word : List ℕ) (s : Sim) : Type 0 where
  pub part : part_word ≡ name_of_part s.part
  pub seed : IsNumberIn 0 4294967295 seed_word s.seed
  pub epochs : IsNumberIn 1 MOST_PAIRS epochs_word s.epochs
  pub sats : IsNumberIn 4 15 sats_word s.sats

-- `sim`, these four words, and no options but the bands and the system
pub record IsSimJob (s : Sim) (command : List ℕ) (plain : List (List ℕ)) (given : List Given) : Type 0 where
  pub command_is : command ≡ name_of_command command_name.Sim
  pub part_word : List ℕ
  pub seed_word : List ℕ
  pub epochs_word : List ℕ
  pub sats_word : List ℕ
  pub plain_are : plain ≡ part_word ∷ seed_word ∷ epochs_word ∷ sats_word ∷ []
  pub is : IsSim part_word seed_word epochs_word sats_word s
  pub choice : IsSimChoice given s.system s.bands

-- a command of that name, three files, and any options
pub record IsRunJob (name base rover nav : List ℕ) (chosen : Options) (command : List ℕ) (plain : List (List ℕ)) (given : List Given) : Type 0 where
  pub command_is : command ≡ name
  pub plain_are : plain ≡ base ∷ rover ∷ nav ∷ []
  pub options : AreOptions given chosen

-- `arcs`, three files, and options without a ratio and a budget
pub record IsArcsJob (base rover nav : List ℕ) (chosen : Options) (command : List ℕ) (plain : List (List ℕ)) (given : List Given) : Type 0 where
  pub command_is : command ≡ name_of_command command_name.Arcs
  pub plain_are : plain ≡ base ∷ rover ∷ nav ∷ []
  pub options : ArePairOptions given chosen

-- a command with these ordinary words and options asks for the job
abbrev pub IsJobOf : List ℕ → List (List ℕ) → List Given → Job → Type 0
IsJobOf command plain given (job.Zero rows) = IsPlainJob (name_of_command command_name.Zero) (rows ∷ []) command plain given
IsJobOf command plain given (job.List obs) = IsPlainJob (name_of_command command_name.List) (obs ∷ []) command plain given
IsJobOf command plain given (job.Orbit nav system sat tick) = IsOrbitJob nav system sat tick.0 command plain given
IsJobOf command plain given (job.Check cert) = IsPlainJob (name_of_command command_name.Check) (cert ∷ []) command plain given
IsJobOf command plain given (job.Residuals cert) = IsPlainJob (name_of_command command_name.Residuals) (cert ∷ []) command plain given
IsJobOf command plain given (job.Migrate cert) = IsPlainJob (name_of_command command_name.Migrate) (cert ∷ []) command plain given
IsJobOf command plain given (job.Fix base rover nav options) = IsRunJob (name_of_command command_name.Fix) base rover nav options command plain given
IsJobOf command plain given (job.Track base rover nav options) = IsRunJob (name_of_command command_name.Track) base rover nav options command plain given
IsJobOf command plain given (job.CheckTrack cert) = IsPlainJob (name_of_command command_name.CheckTrack) (cert ∷ []) command plain given
IsJobOf command plain given (job.Arcs base rover nav options) = IsArcsJob base rover nav options command plain given
IsJobOf command plain given (job.Sim part seed epochs sats bands system) = IsSimJob (sim_with part seed epochs sats bands system) command plain given

-- the first word is the command, and the words after it are parted into those
pub record IsJob (words : List (List ℕ)) (job : Job) : Type 0 where
  pub command : List ℕ
  pub behind : List (List ℕ)
  pub plain : List (List ℕ)
  pub given : List Given
  pub words_are : words ≡ command ∷ behind
  pub parted : AreParted behind plain given
  pub asked : IsJobOf command plain given job

-- the ranges of a simulated session
pub record IsSimInRange (epochs sats bands system : ℕ) : Type 0 where
  pub epochs_to : epochs ≤ MOST_PAIRS
  pub sats_to : sats ≤ 15
  pub of_system : IsSystem system
  pub on_bands : AreBandsOf system bands

-- what each job that words ask for keeps
abbrev pub IsInRange : Job → Type 0
IsInRange (job.Sim part seed epochs sats bands system) = IsSimInRange epochs sats bands system
IsInRange (job.Orbit nav system sat tick) = IsSystem system
IsInRange other = Unit {0}
