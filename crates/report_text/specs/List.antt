-- What is listed of an observation file.
use Rattle.std.specs.Prelude.{ℕ, ◌/◌, ◌%◌, List, [], ◌∷◌, ◌++◌, length, codes, None, Some}
use Rattle.std.specs.declared.option.Option.{Option}
use Rattle.std.specs.Fmt.{decimal}
use Rattle.gps_time.specs.declared.Tick.{Tick}
use Rattle.obs_store.specs.declared.file.ObsFile.{ObsFile}
use Rattle.obs_store.specs.declared.series.Epoch.{Epoch}
use Rattle.obs_store.specs.Epochs.{last_tag_of}
use Rattle.obs_store.specs.Seen.{seen_in}

-- the version by its hundredths
abbrev pub version_line : ℕ → List ℕ
version_line n = codes "version " ++ (decimal (n / 100) ++ (codes "." ++ (decimal (n % 100 / 10) ++ (decimal (n % 10) ++ codes "\n"))))

abbrev pub epochs_line : ℕ → List ℕ
epochs_line n = codes "epochs " ++ (decimal n ++ codes "\n")

abbrev pub first_tag_of : List Epoch → Option Tick
first_tag_of [] = None
first_tag_of (e ∷ es) = Some e.tag

-- the first and the last tag, where there are epochs
abbrev pub tag_lines : Option Tick → Option Tick → List ℕ
tag_lines None last = []
tag_lines (Some first) None = []
tag_lines (Some first) (Some last) = codes "first " ++ (decimal first.0 ++ (codes "\nlast " ++ (decimal last.0 ++ codes "\n")))

-- a satellite, with two digits, and its number of epochs
abbrev pub satellite_line : ℕ → ℕ → List ℕ
satellite_line number count = codes "G" ++ (decimal (number / 10) ++ (decimal (number % 10) ++ (codes " " ++ (decimal count ++ codes "\n"))))

abbrev pub satellite_lines : List (ℕ × ℕ) → List ℕ
satellite_lines [] = []
satellite_lines (s ∷ seen) = satellite_line s.0 s.1 ++ satellite_lines seen

-- the text of `list`: the version, the number of epochs, the tags, and the satellites in first-seen order
unfoldable pub list_text : ObsFile → List ℕ
list_text file =
    version_line file.hundredths ++ (epochs_line (length file.epochs) ++ (tag_lines (first_tag_of file.epochs) (last_tag_of file.epochs) ++ satellite_lines (seen_in file.epochs)))
