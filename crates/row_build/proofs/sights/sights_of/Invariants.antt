use Rattle.std.proofs.Common.{◌≡◌, length}
use Rattle.row_build.specs.Sights.{AreRoverSights}
use Rattle.row_build.proofs.sights.sights_of.Given as goal

-- those of the earlier entries
abbrev pub invariant-loop-place : goal.invariant-loop-place
invariant-loop-place l = record {
  sights : AreRoverSights l.boxes l.point l.sights.items;
  count : length l.sights.items ≡ l.place;
}
