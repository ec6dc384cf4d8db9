use Rattle.std.proofs.Common.{◌≡◌, true, false, rules, of_calls}
use Rattle.std.proofs.Math.Dec.{ltb}
use Rattle.std.proofs.lemmas.Bool.{ltb-true, ltb-false}
use Rattle.std.proofs.lemmas.List.Sorted.{IsPartitionPoint-from_clause, IsPartitionedBy-ltb}
use Rattle.std.specs.List.Sorted.{IsPartitionPoint}
use Rattle.screening.specs.declared.sv_pair.SvPair.{SvPair}
use Rattle.row_build.proofs.entries.before.Goals as goal

parts : (c : goal.After-partition_point) → IsPartitionPoint (λ (v : SvPair). ltb v.pair c.args.pair ≡ true) (λ (v : SvPair). ltb v.pair c.args.pair ≡ false) c.args.boxes.now c.partition_point.result
parts c = IsPartitionPoint-from_clause (λ (v : SvPair). ltb v.pair c.args.pair) c.args.boxes.now c.partition_point.result c.partition_point.ensures.partitioned
    (IsPartitionedBy-ltb (λ (v : SvPair). v.pair) c.args.boxes.now c.args.pair c.requires) (λ a r f k. search (rules, of_calls))

pub returns-clause-earlier : goal.returns-clause-earlier
returns-clause-earlier c = λ k d low high. ltb-true _ _ ((parts c).0 k d low high)

pub returns-clause-later : goal.returns-clause-later
returns-clause-later c = λ k d low high. ltb-false _ _ ((parts c).1 k d low high)
