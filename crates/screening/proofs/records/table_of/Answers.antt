use Rattle.std.proofs.Common.{arith}
use Rattle.screening.proofs.TableLaws.{tables_more}
use Rattle.screening.proofs.records.table_of.Goals as goal

pub numbers-preserved : goal.numbers-preserved
numbers-preserved c =
    let inside = c.numbers-test.true in
    record {
      to_end = omega (arith, inside);
      own = rw c.in_ok-push.ensures.items (tables_more c.args.fit.now c.args.world.now c.numbers.sat c.numbers.by_sat.items c.in_ok-records_of.field-0 c.numbers.invariant.own
          c.in_ok-records_of.ensures.own c.in_ok-records_of.ensures.world);
    }
