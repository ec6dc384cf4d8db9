-- An observation file of Galileo, and what its lines give.
use Rattle.std.specs.Prelude.{ℕ, List, Result}
use Rattle.obs_store.specs.declared.file.ObsFile.{ObsFile}
use Rattle.rinex_head.specs.declared.place.At.{At}
use Rattle.rinex_head.specs.declared.system.System.TheVariants.{Galileo}
use Rattle.rinex_obs.specs.ObsForm
use Rattle.rinex_obs.specs.ObsRules

-- the lines are a header and a body, and the file is what they say of Galileo
abbrev pub IsObsFile : List (List ℕ) → ObsFile → Type 0
IsObsFile lines file = ObsForm.IsObsFile Galileo lines file

-- the lines are those of some file
abbrev pub HasObsFile : List (List ℕ) → Type 0
HasObsFile lines = ObsForm.HasObsFile Galileo lines

-- the file that a text of these lines stands for, or its first failing place
abbrev pub obs_of : List (List ℕ) → Result ObsFile At
obs_of lines = ObsRules.obs_of Galileo lines
