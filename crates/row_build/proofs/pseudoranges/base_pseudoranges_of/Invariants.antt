use Rattle.std.proofs.Common.{◌≡◌, length}
use Rattle.row_build.specs.BasePseudoranges.{AreBasePseudoranges}
use Rattle.row_build.proofs.pseudoranges.base_pseudoranges_of.Given as goal

-- those of the earlier entries
abbrev pub invariant-loop-place : goal.invariant-loop-place
invariant-loop-place l = record {
  base_pseudoranges : AreBasePseudoranges l.boxes l.base l.base_pseudoranges.items;
  count : length l.base_pseudoranges.items ≡ l.place;
}
