-- The commands with their options, and how words are split.
use Rattle.std.specs.Prelude.{◌≡◌, ℕ, false, List, [], ◌∷◌, ◌++◌, map, find, Option, Some}
use Rattle.std.specs.Str.{bytes_eq}
use Rattle.clap.specs.Walk.{Row, Text}
use Rattle.command_words.specs.declared.command_name.CommandName.{CommandName}
use Rattle.command_words.specs.declared.command_name.CommandName.TheVariants as command_name
use Rattle.command_words.specs.declared.settings.Setting.{Setting}
use Rattle.command_words.specs.declared.settings.Setting.TheVariants.{Ratio, Budget, Mask, Gap, Jump, Arc, Step, First, Count, Bands, System}
use Rattle.command_words.specs.declared.settings.Given.{Given}
use Rattle.command_words.specs.Settings.{name_of, numbers_for, IsValue}
use Rattle.command_words.specs.Words.{name_of_command}
use Rattle.command_words.specs.Commands.{Ends, built_shape, command_named, has_short, start, values_in}

-- what chooses the signals
abbrev pub signal_settings : List Setting
signal_settings = Bands ∷ System ∷ []

-- the same, and what chooses pairs and arcs
abbrev pub pair_settings : List Setting
pair_settings = Mask ∷ Gap ∷ Jump ∷ Arc ∷ Step ∷ First ∷ Count ∷ signal_settings

-- the same, and what the search and the decision are told
abbrev pub all_settings : List Setting
all_settings = Ratio ∷ Budget ∷ pair_settings

-- what a command can be asked to use
abbrev pub settings_of : CommandName → List Setting
settings_of command_name.Fix = all_settings
settings_of command_name.Arcs = pair_settings
settings_of command_name.Check = []
settings_of command_name.Residuals = []
settings_of command_name.Zero = []
settings_of command_name.List = []
settings_of command_name.Orbit = []
settings_of command_name.Sim = signal_settings
settings_of command_name.Migrate = []
settings_of command_name.Track = all_settings
settings_of command_name.CheckTrack = []

abbrev pub options_of : CommandName → List Text
options_of c = map name_of (settings_of c)

abbrev pub all_commands : List CommandName
all_commands =
    command_name.Fix ∷ command_name.Arcs ∷ command_name.Check ∷ command_name.Residuals ∷ command_name.Zero ∷ command_name.List
    ∷ command_name.Orbit ∷ command_name.Sim ∷ command_name.Migrate ∷ command_name.Track ∷ command_name.CheckTrack ∷ []

-- the command of that name
abbrev pub command_of_name : Text → Option CommandName
command_of_name name = find (λ c. bytes_eq (name_of_command c) name) all_commands

-- each command's name, and its options
abbrev pub commands : List (Text × List Text)
commands = map (λ c. (name_of_command c, options_of c)) all_commands

-- the words are a command's name, and words that clap's walk over this command's rules passes with these rows
pub record IsSplit (words : List Text) (command : Text) (rows : List Row) : Type 0 where
  pub options : List Text
  pub rest : List Text
  pub words_are : words ≡ command ∷ rest
  pub found : command_named command commands ≡ Some (command, options)
  pub no_short : has_short words ≡ false
  pub ends : Ends (built_shape (command, options)) start rest rows

-- the texts set the setting to these numbers
abbrev pub AreNumbers : Setting → List Text → List ℕ → Type 0
AreNumbers s [] [] = Unit {0}
AreNumbers s [] (n ∷ ns) = ⊥
AreNumbers s (t ∷ texts) [] = ⊥
AreNumbers s (t ∷ texts) (n ∷ ns) = IsValue s t n × AreNumbers s texts ns

-- each of the texts is a value of the setting
abbrev pub AreAll : Setting → List Text → Type 0
AreAll s [] = Unit {0}
AreAll s (t ∷ texts) = ((n : ℕ) × IsValue s t n) × AreAll s texts

abbrev pub given_with : Setting → ℕ → Given
given_with s n = record { setting = s; number = n }

-- the numbers of a setting's texts are added to a list
pub record TakesNumbers (s : Setting) (texts : List Text) (old new : List Given) : Type 0 where
  pub numbers : List ℕ
  pub are : AreNumbers s texts numbers
  pub new_are : new ≡ old ++ map (given_with s) numbers

-- the list has the numbers of each setting
abbrev pub HasNumbers : List Row → List Given → Type 0
HasNumbers rows given = (s : Setting) → AreNumbers s (values_in (name_of s) rows) (numbers_for s given)
