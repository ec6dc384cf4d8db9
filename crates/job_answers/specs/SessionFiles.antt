-- The three files of a session of one system: those of the base and of the rover, and that of the satellites.
use Rattle.std.specs.Prelude.{◌⊎◌, ℕ, List}
use Rattle.std.specs.declared.option.Option.{Option}
use Rattle.line_source.specs.Lines.{lines_of}
use Rattle.line_source.specs.Givens.{Given, GivesWhole}
use Rattle.obs_store.specs.declared.file.ObsFile.{ObsFile}
use Rattle.rinex_head.specs.declared.system.System.{System}
use Rattle.job_answers.specs.Formats.{any_of, IsObservation, HasObservation}
use Rattle.eph_store.specs.File.{Records}
use Rattle.eph_store.specs.Records.{AreFit}
use Rattle.rinex_nav.specs.NavForm.{IsNavFile, HasNavFile}
use Rattle.rinex_nav.specs.NavRules.{nav_of}
use Rattle.job_answers.specs.Endings.{Ending, IsTextOf, IsRefusal, EndsByFile}

-- the file's text stands for this observation file of the system, in either format
pub record IsObsOf (system : System) (text_of : List ℕ → Option (List ℕ)) (name : List ℕ) (file : ObsFile) : Type 0 where
  pub text : List ℕ
  pub is : IsTextOf text_of name text
  pub is_file : IsObservation system (lines_of text) file

-- the file's text stands for these records of the system, of which these are usable
pub record IsNavOf (system : System) (text_of : List ℕ → Option (List ℕ)) (name : List ℕ) (records : Records) : Type 0 where
  pub text : List ℕ
  pub is : IsTextOf text_of name text
  pub is_file : IsNavFile system (lines_of text) records.all
  pub are_fit : AreFit records.all records.fit

-- the same of the text that the file's reads gave, to its end, which is what is told of it where something is
pub record IsObsGiven (system : System) (told : List ℕ → Option (List ℕ)) (name : List ℕ) (before now : List Given) (file : ObsFile) : Type 0 where
  pub text : List ℕ
  pub is : IsTextOf told name text
  pub given : GivesWhole name text before now
  pub is_file : IsObservation system (lines_of text) file

pub record IsNavGiven (system : System) (told : List ℕ → Option (List ℕ)) (name : List ℕ) (before now : List Given) (records : Records) : Type 0 where
  pub text : List ℕ
  pub is : IsTextOf told name text
  pub given : GivesWhole name text before now
  pub is_file : IsNavFile system (lines_of text) records.all
  pub are_fit : AreFit records.all records.fit

-- the file can't be had, or its text is none of this form
abbrev pub StopsAtObs : System → (List ℕ → Option (List ℕ)) → List ℕ → Ending → Type 0
StopsAtObs system text_of name end = EndsByFile text_of name (IsRefusal (any_of system) (HasObservation system) name) end

abbrev pub StopsAtNav : System → (List ℕ → Option (List ℕ)) → List ℕ → Ending → Type 0
StopsAtNav system text_of name end = EndsByFile text_of name (IsRefusal (nav_of system) (HasNavFile system) name) end

-- the rover's file is the first at which it stops
pub record StopsAtRover (system : System) (text_of : List ℕ → Option (List ℕ)) (base rover : List ℕ) (end : Ending) : Type 0 where
  pub base_file : ObsFile
  pub base_is : IsObsOf system text_of base base_file
  pub stops : StopsAtObs system text_of rover end

-- the satellites' file is
pub record StopsAtThird (system : System) (text_of : List ℕ → Option (List ℕ)) (base rover nav : List ℕ) (end : Ending) : Type 0 where
  pub base_file : ObsFile
  pub base_is : IsObsOf system text_of base base_file
  pub rover_file : ObsFile
  pub rover_is : IsObsOf system text_of rover rover_file
  pub stops : StopsAtNav system text_of nav end

-- one of the files, each whole before the next
abbrev pub StopsAtFiles : System → (List ℕ → Option (List ℕ)) → List ℕ → List ℕ → List ℕ → Ending → Type 0
StopsAtFiles system text_of base rover nav end = StopsAtObs system text_of base end ⊎ (StopsAtRover system text_of base rover end ⊎ StopsAtThird system text_of base rover nav end)

-- the three files stand for these
pub record AreFilesOf (system : System) (text_of : List ℕ → Option (List ℕ)) (base rover nav : List ℕ) (base_file rover_file : ObsFile) (records : Records) : Type 0 where
  pub base_is : IsObsOf system text_of base base_file
  pub rover_is : IsObsOf system text_of rover rover_file
  pub nav_is : IsNavOf system text_of nav records

-- what they end with
pub record EndsAtSession (system : System) (text_of : List ℕ → Option (List ℕ)) (base rover nav : List ℕ) (ends : ObsFile → ObsFile → Records → Ending → Type 0) (end : Ending) : Type 0 where
  pub base_file : ObsFile
  pub rover_file : ObsFile
  pub records : Records
  pub are : AreFilesOf system text_of base rover nav base_file rover_file records
  pub ends_so : ends base_file rover_file records end

abbrev pub EndsBySession : System → (List ℕ → Option (List ℕ)) → List ℕ → List ℕ → List ℕ → (ObsFile → ObsFile → Records → Ending → Type 0) → Ending → Type 0
EndsBySession system text_of base rover nav ends end = EndsAtSession system text_of base rover nav ends end ⊎ StopsAtFiles system text_of base rover nav end
