use Rattle.std.proofs.Common.{take}
use Rattle.std.specs.List.{AllZip}
use Rattle.cert_migrate.specs.Lifted.{IsLiftedPair}
use Rattle.cert_migrate.proofs.lifted_rows.lifted_pairs.Given as goal

abbrev pub invariant-loop-pair : goal.invariant-loop-pair
invariant-loop-pair l = AllZip IsLiftedPair (take l.pair-index l.pairs) l.lifted.items
