-- The options: how they are spelled, and what is set by those that are given.
use Rattle.std.specs.Prelude.{◌≡◌, ℕ, ◌==◌, ◌&&◌, ◌≤◌, Bool, true, false, List, [], ◌∷◌, codes, get_or, if◌then◌else◌, None, Some}
use Rattle.std.specs.declared.option.Option.{Option}
use Rattle.obs_rows.specs.declared.defaults.TheConstants.{DEFAULT_RATIO, DEFAULT_BUDGET, DEFAULT_MASK, DEFAULT_GAP, DEFAULT_JUMP, DEFAULT_ARC, DEFAULT_STEP, DEFAULT_FIRST, DEFAULT_COUNT, DEFAULT_SYSTEM}
use Rattle.obs_rows.specs.declared.options.TheConstants.{GALILEO}
use Rattle.obs_rows.specs.Defaults.{default_bands}
use Rattle.obs_rows.specs.declared.options.Options.{Options}
use Rattle.obs_rows.specs.declared.band_sets.TheConstants.{BANDS_L1_L5}
use Rattle.obs_rows.specs.BandSets.{IsBandsNumber}
use Rattle.obs_rows.specs.Ranges.{IsSystem}
use Rattle.obs_rows.specs.declared.limits.TheConstants.{MOST_PAIRS, MOST_RATIO, MOST_BUDGET}
use Rattle.command_words.specs.declared.settings.Setting.{Setting}
use Rattle.command_words.specs.declared.settings.Setting.TheVariants.{Ratio, Budget, Mask, Gap, Jump, Arc, Step, First, Count, Bands, System}
use Rattle.command_words.specs.declared.settings.Given.{Given}
use Rattle.command_words.specs.declared.settings.Found.{Found}
use Rattle.command_words.specs.declared.settings.Found.TheVariants.{Nothing, One, More}
use Rattle.command_words.specs.Numbers.{IsNumber, IsLetter}

abbrev pub name_of : Setting → List ℕ
name_of Ratio = codes "ratio"
name_of Budget = codes "budget"
name_of Mask = codes "mask"
name_of Gap = codes "gap"
name_of Jump = codes "jump"
name_of Arc = codes "arc"
name_of Step = codes "step"
name_of First = codes "first"
name_of Count = codes "count"
name_of Bands = codes "bands"
name_of System = codes "system"

-- what the word sets the setting to: a system by its letter, and each other by a number
abbrev pub IsValue : Setting → List ℕ → ℕ → Type 0
IsValue System word n = IsLetter word n
IsValue number word n = IsNumber word n

abbrev pub place_of : Setting → ℕ
place_of Ratio = 0
place_of Budget = 1
place_of Mask = 2
place_of Gap = 3
place_of Jump = 4
place_of Arc = 5
place_of Step = 6
place_of First = 7
place_of Count = 8
place_of Bands = 9
place_of System = 10

abbrev pub is_same : Setting → Setting → Bool
is_same a b = place_of a == place_of b

-- the numbers that are given for the setting, in order
abbrev pub numbers_for : Setting → List Given → List ℕ
numbers_for s [] = []
numbers_for s (g ∷ given) = if is_same g.setting s then g.number ∷ numbers_for s given else numbers_for s given

-- given once, and admitted; or not given, and then this
abbrev pub IsChosenBy : List ℕ → (ℕ → Type 0) → ℕ → ℕ → Type 0
IsChosenBy [] admits plain n = n ≡ plain
IsChosenBy (v ∷ []) admits plain n = (n ≡ v) × admits v
IsChosenBy (v ∷ w ∷ vs) admits plain n = ⊥

-- given once, in its range; or not given, and then this
abbrev pub IsSetBy : List ℕ → ℕ → ℕ → ℕ → ℕ → Type 0
IsSetBy given least most = IsChosenBy given (λ v. (least ≤ v) × (v ≤ most))

abbrev pub IsSet : List Given → Setting → ℕ → ℕ → ℕ → ℕ → Type 0
IsSet given s = IsSetBy (numbers_for s given)

-- the bands that a run of the system may use: each set of GPS, and of Galileo L1 and L5 alone
pub record AreBandsOf (system bands : ℕ) : Type 0 where
  pub number : IsBandsNumber bands
  pub galileo : system ≡ GALILEO → bands ≡ BANDS_L1_L5

-- the system that is given, or the default; and the bands that are given and go with it, or its default, in whichever order the two are given
pub record IsSignalChoice (given : List Given) (system bands : ℕ) : Type 0 where
  pub system_is : IsChosenBy (numbers_for System given) IsSystem DEFAULT_SYSTEM system
  pub bands_are : IsChosenBy (numbers_for Bands given) (AreBandsOf system) (default_bands system) bands

-- the options with their ranges and defaults
pub record AreOptions (given : List Given) (options : Options) : Type 0 where
  pub ratio : IsSet given Ratio 1000 MOST_RATIO DEFAULT_RATIO options.ratio
  pub budget : IsSet given Budget 1 MOST_BUDGET DEFAULT_BUDGET options.budget
  pub mask : IsSet given Mask 0 900 DEFAULT_MASK options.mask
  pub gap : IsSet given Gap 0 5000000 DEFAULT_GAP options.gap
  pub jump : IsSet given Jump 1 1000 DEFAULT_JUMP options.jump
  pub arc : IsSet given Arc 2 MOST_PAIRS DEFAULT_ARC options.arc
  pub step : IsSet given Step 1 1000 DEFAULT_STEP options.step
  pub first : IsSet given First 0 19999 DEFAULT_FIRST options.first
  pub count : IsSet given Count 1 MOST_PAIRS DEFAULT_COUNT options.count
  pub choice : IsSignalChoice given options.system options.bands

-- of a command that searches nothing: no ratio and no budget is given
pub record ArePairOptions (given : List Given) (chosen : Options) : Type 0 where
  pub options : AreOptions given chosen
  pub no_ratio : numbers_for Ratio given ≡ []
  pub no_budget : numbers_for Budget given ≡ []

-- the settings of a simulated session
abbrev pub is_of_sim : Setting → Bool
is_of_sim Bands = true
is_of_sim System = true
is_of_sim other = false

-- each setting that is given is one of them
abbrev pub are_of_sim : List Given → Bool
are_of_sim [] = true
are_of_sim (g ∷ given) = is_of_sim g.setting && are_of_sim given

-- no others are given
abbrev pub HasNoOthers : List Given → Type 0
HasNoOthers given = (s : Setting) → is_of_sim s ≡ false → numbers_for s given ≡ []

-- of a simulated session: the system and the bands alone
pub record IsSimChoice (given : List Given) (system bands : ℕ) : Type 0 where
  pub choice : IsSignalChoice given system bands
  pub no_others : HasNoOthers given

-- the setting whose name may begin so: no two names have one first letter and one second
abbrev pub setting_of : List ℕ → Option Setting
setting_of [] = None
setting_of (b ∷ bs) =
    if b == 114 then Some Ratio else (if b == 98 then (if get_or bs 0 0 == 117 then Some Budget else Some Bands)
    else (if b == 109 then Some Mask else (if b == 103 then Some Gap else (if b == 106 then Some Jump else (if b == 97 then Some Arc
    else (if b == 115 then (if get_or bs 0 0 == 116 then Some Step else Some System) else (if b == 102 then Some First else (if b == 99 then Some Count else None))))))))

-- what is found of the numbers for a setting
abbrev pub HasFound : List ℕ → Found → Type 0
HasFound [] f = f ≡ Nothing
HasFound (v ∷ []) f = f ≡ One v
HasFound (v ∷ w ∷ vs) f = f ≡ More

abbrev pub with_seen : Option ℕ → List ℕ → List ℕ
with_seen None vs = vs
with_seen (Some v) vs = v ∷ vs
