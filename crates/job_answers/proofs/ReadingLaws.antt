-- A file whose text is known is read as one thing.
use Rattle.std.proofs.Common.{◌≡◌, ℕ, List, Option, Some, IfSome, sym, ◌∙◌, subst}
use Rattle.line_source.specs.Lines.{lines_of}
use Rattle.obs_store.specs.declared.file.ObsFile.{ObsFile}
use Rattle.eph_store.specs.File.{Records}
use Rattle.rinex_head.specs.declared.system.System.{System}
use Rattle.job_answers.specs.Formats.{IsObservation}
use Rattle.job_answers.proofs.FormatLaws as formats
use Rattle.rinex_nav.specs.NavForm.{IsNavFile}
use Rattle.rinex_nav.proofs.FormLaws as navs
use Rattle.job_answers.specs.Endings.{IsTextOf}
use Rattle.job_answers.specs.SessionFiles.{IsObsOf, IsNavOf}

-- the text of the file is the known one
pub text_told : (text_of : List ℕ → Option (List ℕ)) (name text other : List ℕ) → text_of name ≡ Some text → IsTextOf text_of name other → other ≡ text
text_told text_of name text other is of = subst (λ (t : Option (List ℕ)). IfSome t (λ bytes. other ≡ bytes)) is of.told_is

pub obs_once : (system : System) (text_of : List ℕ → Option (List ℕ)) (name text : List ℕ) (file other : ObsFile) → text_of name ≡ Some text
    → IsObsOf system text_of name file → IsObsOf system text_of name other → file ≡ other
obs_once system text_of name text file other is a b =
    let a_is = subst (λ (t : List ℕ). IsObservation system (lines_of t) file) (text_told text_of name text a.text is a.is) a.is_file in
    let b_is = subst (λ (t : List ℕ). IsObservation system (lines_of t) other) (text_told text_of name text b.text is b.is) b.is_file in
    let both = sym (formats.file_given system (lines_of text) file a_is) ∙ formats.file_given system (lines_of text) other b_is in
    cc (both)

pub nav_once : (system : System) (text_of : List ℕ → Option (List ℕ)) (name text : List ℕ) (records others : Records) → text_of name ≡ Some text
    → IsNavOf system text_of name records → IsNavOf system text_of name others → records.all ≡ others.all
nav_once system text_of name text records others is a b =
    let a_is = subst (λ (t : List ℕ). IsNavFile system (lines_of t) records.all) (text_told text_of name text a.text is a.is) a.is_file in
    let b_is = subst (λ (t : List ℕ). IsNavFile system (lines_of t) others.all) (text_told text_of name text b.text is b.is) b.is_file in
    let both = sym (navs.file_given system (lines_of text) records.all a_is) ∙ navs.file_given system (lines_of text) others.all b_is in
    cc (both)
