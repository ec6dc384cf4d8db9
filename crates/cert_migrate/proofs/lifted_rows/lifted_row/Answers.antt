use Rattle.cert_migrate.proofs.LiftedNumbers.{six_within, radius_kept}
use Rattle.cert_migrate.proofs.lifted_rows.lifted_row.Goals as goal

pub invariant_of-result : goal.invariant_of-result
invariant_of-result c = record {
  y_in = six_within c.lifted_y.result c.lifted_y-2.result c.lifted_y-3.result c.lifted_y-4.result c.lifted_y.ensures.in_range c.lifted_y-2.ensures.in_range c.lifted_y-3.ensures.in_range
      c.lifted_y-4.ensures.in_range;
  ry_in = radius_kept c.lifted_radius.result c.lifted_radius.ensures.in_range;
  u_in = c.args.row.now.u_in;
  ru_in = c.args.row.now.ru_in;
}
