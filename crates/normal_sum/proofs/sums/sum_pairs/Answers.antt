use Rattle.std.proofs.Common.{◌+◌, List, ℤ, ap, ◌∙◌}
use Rattle.quadratic_form.specs.declared.sizes.TheConstants.{MOST_COLUMNS}
use Rattle.quadratic_form.specs.Tables.{entry}
use Rattle.quadratic_form.proofs.TableLaws.{zero_entry}
use Rattle.obs_rows.specs.Integers.{integer_count}
use Rattle.normal_sum.proofs.NormalInvariants.{Shaped, shaped, columns_of_sum}
use Rattle.normal_sum.proofs.sums.sum_pairs.Goals as goal

pub fill_table-r-requires-clause-zeros : goal.fill_table-r-requires-clause-zeros
fill_table-r-requires-clause-zeros c = λ i j w. ap (λ (t : List (List ℤ)). entry t i j) c.zeros-table.ensures.zeros ∙ zero_entry MOST_COLUMNS MOST_COLUMNS i j

pub invariant_of-result : goal.invariant_of-result
invariant_of-result c =
    let is_shaped : Shaped ((3 + c.integer_count-integers.result) + 1) c.fill_table-r.new.table =
    shaped c.args.arcs.now c.args.signals.now c.args.pairs.now c.integer_count-integers.result c.fill_table-r.new.table c.requires.counted c.requires.free c.integer_count-integers.ensures
    c.fill_table-r.ensures.entries in
    record {
      columns_from = is_shaped.from;
      columns_to = is_shaped.to;
      symmetric = is_shaped.symmetric;
      entries_in = c.fill_table-r.ensures.entries_in;
      nothing_outside = is_shaped.outside;
      radii_in = c.fill_table-r.ensures.radii_in;
    }

pub returns : goal.returns
returns c = record {
  columns = columns_of_sum c.integer_count-integers.result (integer_count c.args.arcs.now c.args.signals.now) c.integer_count-integers.ensures;
  entries = c.fill_table-r.ensures.entries;
  radii = c.fill_table-r.ensures.radii;
}
