use Rattle.std.proofs.Common.{◌≡◌, ℕ, ℤ, List, length, map, take, All}
use Rattle.obs_rows.specs.declared.arcs.Arc.{Arc}
use Rattle.fix_decide.specs.Reaches.{IsNarrow}
use Rattle.fix_decide.specs.RowReaches.{AreSeen}
use Rattle.fix_decide.specs.UpperSums.{reach_of}
use Rattle.fix_decide.proofs.pairs.put_reaches.Given as goal

abbrev pub invariant-loop-k : goal.invariant-loop-k
invariant-loop-k l = record {
  value : (arcs : List Arc) (ss : List ℕ) (m : List ℤ) → AreSeen arcs ss m l.fn.signal l.rows l.places l.moves → l.reaches.items ≡ map (reach_of arcs ss l.z m l.fn.signal) (take l.k l.rows);
  full : length l.reaches.items ≡ l.k;
  narrow : All IsNarrow l.reaches.items;
}
