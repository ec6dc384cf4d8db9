-- The first line says the format. A file of either format is what its lines give, and a text has at most one.
use Rattle.std.proofs.Common.{◌≡◌, inl, inr, ℕ, ℤ, pos, negsuc, ◌&&◌, nat_le, Bool, true, false, List, [], ◌∷◌, ◌++◌, codes, Result, Ok, Err, refl, sym, ap, ◌∙◌, arith, append_assoc, if◌then◌else◌}
use Rattle.std.proofs.lemmas.Bool.Decides.{nat_tests}
use Rattle.std.proofs.lemmas.List.{append-nil}
use Rattle.std.specs.Str.{bytes_eq}
use Rattle.decimal_text.specs.declared.fixed.NumberFault.{NumberFault}
use Rattle.decimal_text.specs.Fixed.{fixed_of}
use Rattle.obs_store.specs.declared.file.ObsFile.{ObsFile}
use Rattle.rinex_head.specs.declared.head.Version.{Version}
use Rattle.rinex_head.specs.declared.place.At.{At}
use Rattle.rinex_head.specs.declared.place.Flaw.{Flaw}
use Rattle.rinex_head.specs.declared.place.What.TheVariants as what
use Rattle.rinex_head.specs.declared.system.System.{System}
use Rattle.rinex_head.specs.declared.system.System.TheVariants.{Gps, Galileo}
use Rattle.rinex_head.specs.Columns.{columns}
use Rattle.rinex_head.specs.Head.{label_of, version_number, version_in}
use Rattle.rinex_head.specs.Places.{flawed}
use Rattle.rinex_head.specs.FirstFailing.{IsStuck, IsFirstFailing}
use Rattle.rinex_head.proofs.Stops
use Rattle.obs_fields.specs.declared.layout.Layout.{Layout}
use Rattle.obs_fields.specs.declared.layout.Layout.TheVariants.{Rinex2, Rinex3}
use Rattle.obs_fields.specs.FirstLine.{version_2_number, version_2_in, of_version, first_line_of}
use Rattle.rinex_obs.specs.ObsForm.{IsObsFile, HasObsFile}
use Rattle.rinex_obs.specs.ObsRules.{obs_rules, obs_of}
use Rattle.rinex_obs.proofs.FormLaws as laws3
use Rattle.rinex_obs.proofs.FormTook as took3
use Rattle.rinex_obs.proofs.FormPlaces as places3
use Rattle.rinex2_obs.specs.Obs2Form.{IsObs2File, HasObs2File}
use Rattle.rinex2_obs.specs.Obs2Rules.{obs2_rules, obs2_of}
use Rattle.rinex2_obs.proofs.FormLaws as laws2
use Rattle.rinex2_obs.proofs.FormTook as took2
use Rattle.rinex2_obs.proofs.FormPlaces as places2
use Rattle.job_answers.specs.Formats.{is_version_2, begins_2, is_two, any_of, IsObservation, HasObservation}

-- ---- the first line

test_held : {A E : Type 0} (t : Bool) (x v : A) (e : E) → (if t then Ok x else Err e) ≡ Ok v → t ≡ true
test_held true x v e gives = refl
test_held false x v e gives = absurd cc

above_299 : (n : ℕ) → (nat_le 300 n && nat_le n 305) ≡ true → (nat_le 200 n && nat_le n 299) ≡ false
above_299 n is = grind (arith, nat_tests)

within_2 : (n : ℕ) → (nat_le 210 n && nat_le n 211) ≡ true → (nat_le 200 n && nat_le n 299) ≡ true
within_2 n is = grind (arith, nat_tests)

version_3 : (line : List ℕ) (r : Result ℤ NumberFault) (v : Version) → version_number line r ≡ Ok v → is_version_2 r ≡ false
version_3 line (Ok (pos n)) v gives = above_299 n (test_held (nat_le 300 n && nat_le n 305) _ v _ gives)
version_3 line (Ok (negsuc n)) v gives = refl
version_3 line (Err fault) v gives = refl

version_2 : (line : List ℕ) (r : Result ℤ NumberFault) (v : Version) → version_2_number line r ≡ Ok v → is_version_2 r ≡ true
version_2 line (Ok (pos n)) v gives = within_2 n (test_held (nat_le 210 n && nat_le n 211) _ v _ gives)
version_2 line (Ok (negsuc n)) v gives = absurd cc
version_2 line (Err fault) v gives = absurd cc

has_version : (layout : Layout) (system : System) (r : Result Version Flaw) (n : ℕ) → of_version layout system r ≡ Ok n → (v : Version) × (r ≡ Ok v)
has_version layout system (Ok v) n gives = (v, refl)
has_version layout system (Err flaw) n gives = absurd cc

-- the first line of a file of RINEX 3
first_3 : (system : System) (line : List ℕ) (n : ℕ) → first_line_of Rinex3 system line ≡ Ok n → begins_2 line ≡ false
unfolding first_line_of begins_2
first_3 system line n gives = let has = has_version Rinex3 system (version_in line) n gives in by_label (bytes_eq (label_of line) (codes "RINEX VERSION / TYPE")) has.1
  where
    number : Result ℤ NumberFault
    number = fixed_of (columns line 1 9) 2

    by_label : {v : Version} (t : Bool) → (if t then version_number line number else flawed 1 what.Version) ≡ Ok v → (t && is_version_2 number) ≡ false
    by_label {v} true gives = version_3 line number v gives
    by_label {v} false gives = refl

-- and that of one of RINEX 2
first_2 : (system : System) (line : List ℕ) (n : ℕ) → first_line_of Rinex2 system line ≡ Ok n → begins_2 line ≡ true
unfolding first_line_of begins_2
first_2 system line n gives = let has = has_version Rinex2 system (version_2_in line) n gives in by_label (bytes_eq (label_of line) (codes "RINEX VERSION / TYPE")) has.1
  where
    number : Result ℤ NumberFault
    number = fixed_of (columns line 1 9) 2

    by_label : {v : Version} (t : Bool) → (if t then version_2_number line number else flawed 1 what.ObsVersion) ≡ Ok v → (t && is_version_2 number) ≡ true
    by_label {v} true gives = version_2 line number v gives
    by_label {v} false gives = absurd cc

pub is_3 : (system : System) (lines : List (List ℕ)) (file : ObsFile) → IsObsFile system lines file → is_two lines ≡ false
is_3 system lines file is = rw (is.lines_are, is.is_header.lines_are) (first_3 is.header.system is.is_header.first is.header.hundredths is.is_header.version)

pub is_2 : (lines : List (List ℕ)) (file : ObsFile) → IsObs2File lines file → is_two lines ≡ true
is_2 lines file is = rw (is.lines_are, is.is_header.lines_are) (first_2 is.header.system is.is_header.first is.header.hundredths is.is_header.version)

-- ---- files and what their lines give

pub file_given : (system : System) (lines : List (List ℕ)) (file : ObsFile) → IsObservation system lines file → any_of system lines ≡ Ok file
file_given Gps lines file (inl is) = rw (is_3 Gps lines file is) (laws3.file_given Gps lines file is)
file_given Gps lines file (inr is) = rw (is_2 lines file is) (laws2.file_given lines file is)
file_given Galileo lines file is = laws3.file_given Galileo lines file is

pub file_took : (system : System) (lines : List (List ℕ)) (file : ObsFile) → any_of system lines ≡ Ok file → IsObservation system lines file
file_took Gps lines file gives = by_format (is_two lines) gives
  where
    by_format : (t : Bool) → (if t then obs2_of lines else obs_of Gps lines) ≡ Ok file → IsObservation Gps lines file
    by_format true gives = inr (took2.file_took lines file gives)
    by_format false gives = inl (took3.file_took Gps lines file gives)
file_took Galileo lines file gives = took3.file_took Galileo lines file gives

-- ---- the first failing line

-- the format is that of the first line, whatever follows it
first_same : (front : List (List ℕ)) (line : List ℕ) (rest more : List (List ℕ)) → is_two (front ++ line ∷ rest) ≡ is_two (front ++ line ∷ more)
first_same [] line rest more = refl
first_same (first ∷ front) line rest more = refl

-- A text of one format fails where it does among the files of both.
module _ (t : Bool) (P Q : List (List ℕ) → Type 0) (wide : (lines : List (List ℕ)) → P lines → Q lines) (narrow : (lines : List (List ℕ)) → is_two lines ≡ t → Q lines → P lines) where
  stuck_wide : (front rest : List (List ℕ)) → is_two (front ++ rest) ≡ t → IsStuck P front rest → IsStuck Q front rest
  stuck_wide front [] is stuck = λ file. stuck (narrow front (ap is_two (sym (append-nil front)) ∙ is) file)
  stuck_wide front (line ∷ rest) is stuck = λ begins.
      let same : is_two ((front ++ line ∷ []) ++ begins.more) ≡ is_two (front ++ line ∷ rest) = ap is_two (append_assoc front (line ∷ []) begins.more) ∙ first_same front line begins.more rest in
      stuck (record { more = begins.more; file = narrow ((front ++ line ∷ []) ++ begins.more) (same ∙ is) begins.file })

  first_wide : (lines : List (List ℕ)) (number : ℕ) → is_two lines ≡ t → IsFirstFailing P lines number → IsFirstFailing Q lines number
  first_wide lines number is first = record {
    front = first.front;
    rest = first.rest;
    split = first.split;
    numbered = first.numbered;
    begun = record { more = first.begun.more; are_lines = first.begun.are_lines; file = wide (first.front ++ first.begun.more) first.begun.file };
    stuck = stuck_wide first.front first.rest (ap is_two (sym first.split) ∙ is) first.stuck;
  }

only_3 : (lines : List (List ℕ)) → is_two lines ≡ false → HasObservation Gps lines → HasObsFile Gps lines
only_3 lines is (file, inl three) = (file, three)
only_3 lines is (file, inr two) = let other = is_2 lines file two in absurd (cc (is, other))

only_2 : (lines : List (List ℕ)) → is_two lines ≡ true → HasObservation Gps lines → HasObs2File lines
only_2 lines is (file, inl three) = let other = is_3 Gps lines file three in absurd (cc (is, other))
only_2 lines is (file, inr two) = (file, two)

fails_3 : (system : System) (lines : List (List ℕ)) (at : At) → obs_of system lines ≡ Err at → IsFirstFailing (HasObsFile system) lines at.line
fails_3 system lines at gives = Stops.first_failing (obs_rules system) (HasObsFile system) (places3.file_of_rules system) (places3.rules_of_file system) (places3.ends system) lines at gives

fails_2 : (lines : List (List ℕ)) (at : At) → obs2_of lines ≡ Err at → IsFirstFailing HasObs2File lines at.line
fails_2 lines at gives = Stops.first_failing obs2_rules HasObs2File places2.file_of_rules places2.rules_of_file places2.ends lines at gives

pub first_failing : (system : System) (lines : List (List ℕ)) (at : At) → any_of system lines ≡ Err at → IsFirstFailing (HasObservation system) lines at.line
first_failing Gps lines at gives = by_format (is_two lines) refl gives
  where
    by_format : (t : Bool) → is_two lines ≡ t → (if t then obs2_of lines else obs_of Gps lines) ≡ Err at → IsFirstFailing (HasObservation Gps) lines at.line
    by_format true is gives = first_wide true HasObs2File (HasObservation Gps) (λ l two. (two.0, inr two.1)) only_2 lines at.line is (fails_2 lines at gives)
    by_format false is gives = first_wide false (HasObsFile Gps) (HasObservation Gps) (λ l three. (three.0, inl three.1)) only_3 lines at.line is (fails_3 Gps lines at gives)
first_failing Galileo lines at gives = fails_3 Galileo lines at gives
