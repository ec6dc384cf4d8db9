use Rattle.std.proofs.Common.{take}
use Rattle.std.specs.List.{AllZip}
use Rattle.cert_migrate.specs.Carriers.{IsPairOf}
use Rattle.cert_migrate.proofs.moved_rows.old_pairs.Given as goal

abbrev pub invariant-loop-pair : goal.invariant-loop-pair
invariant-loop-pair l = AllZip IsPairOf (take l.pair-index l.pairs) l.old.items
