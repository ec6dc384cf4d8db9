use Rattle.std.proofs.Common.{◌≡◌, [], ◌∷◌, ◌++◌, ◌≤◌, ◌-◌}
use Rattle.line_source.specs.Reports.{Unchanged, StillHolds}
use Rattle.line_source.proofs.Rests.{IsTakenSoFar}
use Rattle.line_source.proofs.pieces.load_into.Given as goal
use Rattle.line_source.specs.declared.transfer.TheConstants.{MAX_FILE}

abbrev pub invariant-pieces : goal.invariant-pieces
invariant-pieces g l = record {
  within : l.done ≤ MAX_FILE;
  so_far : IsTakenSoFar (g.F.Files.text_of l.fn.files l.name) (g.F.Files.unread l.files l.id.0) l.name l.id.0 (g.F.Files.given l.fn.files) (g.F.Files.given l.files) (g.T.Taker.taken l.taker) l.done (g.T.Taker.stands_for l.taker);
  opened : g.F.Files.openings l.files ≡ g.F.Files.openings l.fn.files ++ (l.name, l.id.0) ∷ [];
  later : g.F.Files.faults l.fn.files ≤ g.F.Files.faults l.files;
  sure : g.F.Files.is_sure_name l.fn.files l.name → g.F.Files.is_sure_id l.files l.id.0;
  texts : Unchanged (g.F.Files.text_of l.fn.files) (g.F.Files.text_of l.files);
  sure_names : StillHolds (g.F.Files.is_sure_name l.fn.files) (g.F.Files.is_sure_name l.files);
}

abbrev pub decreases-pieces : goal.decreases-pieces
decreases-pieces g l = MAX_FILE - l.done
