-- The base's pseudoranges, the part of the computed term that doesn't depend on the rover's point: what the base would observe if its clock
-- were right.
use Rattle.std.specs.Prelude.{◌≡◌, ℕ, Some, List, slice_get, ℤ}
use Rattle.screening.specs.declared.sv_pair.SvPair.{SvPair}
use Rattle.row_boxes.specs.declared.pseudoranges.Pseudorange.{Pseudorange}
use Rattle.row_boxes.specs.BoxSightings.{HasSighting}
use Rattle.row_boxes.specs.YBoxes.{HoldsPseudoranges}

-- the pseudorange of every way in which the base there may have seen the entry's satellite; there is such a way
pub record IsBasePseudorange (v : SvPair) (base : List ℤ) (base_pseudorange : Pseudorange) : Type 0 where
  pub holds : HoldsPseudoranges v.base base base_pseudorange
  pub exists : HasSighting v.base base

-- each is that of the entry in its place; there may be fewer than entries
abbrev pub AreBasePseudoranges : List SvPair → List ℤ → List Pseudorange → Type 0
AreBasePseudoranges boxes base base_pseudoranges = (place : ℕ) (v : SvPair) (base_pseudorange : Pseudorange) → slice_get boxes place ≡ Some v → slice_get base_pseudoranges place ≡ Some base_pseudorange → IsBasePseudorange v base base_pseudorange
