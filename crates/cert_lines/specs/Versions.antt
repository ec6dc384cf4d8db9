-- What the forms of a certificate's text differ in, but for the lines of the system and of the signals.
use Rattle.std.specs.Prelude.{ℕ, ◌^◌, ◌-◌, List, codes}
use Rattle.quadratic_form.specs.declared.sizes.TheConstants.{MOST_FACTORS}
use Rattle.cert_words.specs.declared.ranges.Range.{Range}
use Rattle.cert_lines.specs.declared.ranges.TheConstants.{GROUPS, OLD_GROUPS}
use Rattle.cert_lines.specs.declared.version.Version.{Version}
use Rattle.cert_lines.specs.declared.version.Version.TheVariants.{One, Two}

abbrev pub form_line : Version → List ℕ
form_line One = codes "baseline-cert 1"
form_line Two = codes "baseline-cert 2"

abbrev pub most_sat : Version → ℕ
most_sat One = 32
most_sat Two = 36

-- groups are below this in size
abbrev pub group_limit : Version → ℕ
group_limit One = 2 ^ 50
group_limit Two = 2 ^ 55

abbrev pub groups : Version → Range
groups One = OLD_GROUPS
groups Two = GROUPS

-- the greatest number of a column
abbrev pub last_column : Version → ℕ
last_column One = 42
last_column Two = MOST_FACTORS - 1
