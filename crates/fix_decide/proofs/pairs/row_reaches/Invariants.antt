use Rattle.std.proofs.Common.{◌≡◌, map, take, All}
use Rattle.fix_decide.specs.RowReaches.{IsModest, row_reach}
use Rattle.fix_decide.proofs.pairs.row_reaches.Given as goal

abbrev pub invariant-loop-row : goal.invariant-loop-row
invariant-loop-row l = record {
  value : l.moves.items ≡ map (row_reach l.moved) (take l.row-index l.rows);
  modest : All IsModest l.moves.items;
}
