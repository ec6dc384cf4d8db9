-- What the command `orbit` ends with.
use Rattle.std.specs.Prelude.{◌≡◌, ◌⊎◌, ℕ, pos, List, []}
use Rattle.line_source.specs.Lines.{lines_of}
use Rattle.orbit_model.specs.Elements.{sent_at, elements_of, world_of}
use Rattle.orbit_model.specs.Solution.{Quantities, IsNearSolution, HasNearSolution}
use Rattle.eph_store.specs.declared.record.Raw.{Raw}
use Rattle.eph_store.specs.declared.ephemeris.Eph.{Eph}
use Rattle.eph_store.specs.Records.{AreFit}
use Rattle.eph_store.specs.Chosen.{IsChosenRecord, HasNoCandidate}
use Rattle.sv_orbit.specs.declared.place.SvBox.{SvBox}
use Rattle.sv_orbit.specs.Solutions.{HoldsSolution}
use Rattle.rinex_head.specs.Systems.{system_of}
use Rattle.rinex_nav.specs.NavForm.{IsNavFile, HasNavFile}
use Rattle.rinex_nav.specs.NavRules.{nav_of}
use Rattle.report_text.specs.Orbit.{OrbitNumbers, HoldsQuantities, AreNarrow, AreNumbersOf, orbit_lines, no_record_line}
use Rattle.job_answers.specs.declared.status.Status.TheVariants.{Done, Declined}
use Rattle.job_answers.specs.Endings.{Ending, ending}
use Rattle.job_answers.specs.TextJobs.{TextJob, form_job}

-- The numbers hold the satellite of the record, of the system with that letter, at that tag by the satellite's clock, as received with a code of 0: every
-- solution of the equations has its place and its clock between them, and there is one.
pub record HoldsSatellite (system : ℕ) (eph : Eph) (tag : ℕ) (n : OrbitNumbers) : Type 0 where
  pub exists : HasNearSolution (world_of system) (elements_of eph) (sent_at tag (pos 0))
  pub every : (q : Quantities) → IsNearSolution (world_of system) (elements_of eph) (sent_at tag (pos 0)) q → HoldsQuantities n q

-- The box holds the satellite of the record at that tag: every solution of the equations. By its type it is narrow, and as
-- far from the Earth's centre as the satellites are.
abbrev pub IsBoxOf : ℕ → Eph → ℕ → SvBox → Type 0
IsBoxOf system eph tag box = (q : Quantities) → IsNearSolution (world_of system) (elements_of eph) (sent_at tag (pos 0)) q → HoldsSolution box q

-- The numbers of such a box of the record are printed, each end rounded outward by less than a unit. They hold each
-- solution, there is one, and they lie near each other.
pub record IsPlacedBy (system : ℕ) (eph : Eph) (tag : ℕ) (end : Ending) : Type 0 where
  pub box : SvBox
  pub of_record : IsBoxOf system eph tag box
  pub numbers : OrbitNumbers
  pub are : AreNumbersOf box numbers
  pub holds : HoldsSatellite system eph tag numbers
  pub narrow : AreNarrow numbers
  pub end_is : end ≡ ending Done (orbit_lines numbers) []

-- those of the chosen record at that tag
pub record IsPlaced (fit : List Eph) (system sat tag : ℕ) (end : Ending) : Type 0 where
  pub eph : Eph
  pub chosen : IsChosenRecord fit sat tag eph
  pub placed : IsPlacedBy system eph tag end

-- no record is chosen at that tag
pub record IsWithoutRecord (fit : List Eph) (sat tag : ℕ) (end : Ending) : Type 0 where
  pub none : HasNoCandidate fit sat tag
  pub end_is : end ≡ ending Declined no_record_line []

abbrev pub IsFound : List Eph → ℕ → ℕ → ℕ → Ending → Type 0
IsFound fit system sat tag end = IsPlaced fit system sat tag end ⊎ IsWithoutRecord fit sat tag end

-- the text stands for a navigation file with these records of the system, of which these are usable
pub record EndsByRecords (system sat tag : ℕ) (text : List ℕ) (end : Ending) : Type 0 where
  pub records : List Raw
  pub is : IsNavFile (system_of system) (lines_of text) records
  pub fit : List Eph
  pub are_fit : AreFit records fit
  pub found : IsFound fit system sat tag end

abbrev pub orbit_job : ℕ → ℕ → ℕ → TextJob
orbit_job system sat tag = form_job (nav_of (system_of system)) (HasNavFile (system_of system)) (EndsByRecords system sat tag)
