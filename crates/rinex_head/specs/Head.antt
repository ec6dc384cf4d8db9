-- A line of a header: its content in columns 1 to 60 and its label in columns 61 to 80. And the first line of a file.
use Rattle.std.specs.Prelude.{◌≡◌, ℕ, ℤ, pos, negsuc, ◌≤◌, ◌&&◌, ◌==◌, nat_le, List, [], ◌∷◌, take, drop, codes, Result, Ok, Err, if◌then◌else◌}
use Rattle.std.specs.Str.{bytes_eq}
use Rattle.decimal_text.specs.declared.fixed.NumberFault.{NumberFault}
use Rattle.decimal_text.specs.Fixed.{fixed_of}
use Rattle.decimal_text.specs.FixedForm.{IsReadAs}
use Rattle.rinex_head.specs.declared.head.Version.{Version}
use Rattle.rinex_head.specs.declared.place.Flaw.{Flaw}
use Rattle.rinex_head.specs.declared.place.What.TheVariants as what
use Rattle.rinex_head.specs.Columns.{column, columns}
use Rattle.rinex_head.specs.Places.{flawed}

-- a byte before a text without blanks at its end
abbrev pub front_of : ℕ → List ℕ → List ℕ
front_of b [] = if b == 32 then [] else b ∷ []
front_of b (c ∷ cs) = b ∷ c ∷ cs

-- the text without the blanks at its end
unfoldable pub trimmed : List ℕ → List ℕ
trimmed [] = []
trimmed (b ∷ bs) = front_of b (trimmed bs)

-- what stands in columns 1 to 60: less where the line ends before
abbrev pub content_of : List ℕ → List ℕ
content_of line = take 60 line

-- what stands in columns 61 to 80, without the blanks at its end
abbrev pub label_of : List ℕ → List ℕ
label_of line = trimmed (take 20 (drop 60 line))

-- The first line of a file of version 3.00 to 3.05: its label, the version in columns 1 to 9 in hundredths, the kind of
-- file in column 21 and the system in column 41.
pub record IsVersionOf (line : List ℕ) (v : Version) : Type 0 where
  pub label : label_of line ≡ codes "RINEX VERSION / TYPE"
  pub number : IsReadAs (columns line 1 9) 2 (Ok (pos v.hundredths))
  pub from_300 : 300 ≤ v.hundredths
  pub to_305 : v.hundredths ≤ 305
  pub kind : v.kind ≡ column line 21
  pub system : v.system ≡ column line 41

-- the same worked out
abbrev pub version_number : List ℕ → Result ℤ NumberFault → Result Version Flaw
version_number line (Ok (pos n)) =
    if nat_le 300 n && nat_le n 305 then Ok (record { hundredths = n; kind = column line 21; system = column line 41 }) else flawed 1 what.Version
version_number line (Ok (negsuc n)) = flawed 1 what.Version
version_number line (Err fault) = flawed 1 what.Version

abbrev pub version_in : List ℕ → Result Version Flaw
version_in line =
    if bytes_eq (label_of line) (codes "RINEX VERSION / TYPE") then version_number line (fixed_of (columns line 1 9) 2) else flawed 1 what.Version
