use Rattle.std.proofs.Common.{◌≡◌, ℕ, ◌<◌, ℤ, pos, ◌+ℤ◌, ◌*ℤ◌, slice_index_or, get_or, to_z, of_z, arith, ap, ◌∙◌}
use Rattle.std.proofs.lemmas.Int.{to_z-of_z}
use Rattle.std.specs.Int.{w64, w128}
use Rattle.quadratic_form.specs.declared.sizes.TheConstants.{MOST_COLUMNS}
use Rattle.quadratic_form.specs.Tables.{entry}
use Rattle.whole_math.proofs.Words.{as_w64}
use Rattle.normal_sum.proofs.RowLaws.{row_start, next_fits, row_next, row_end}
use Rattle.normal_sum.proofs.products.add_to_row.Goals as goal

pub loop-column-init : goal.loop-column-init
loop-column-init c = row_start c.args.row c.args.columns.now c.args.table.now (λ j. to_z w128 (of_z w128 c.args.factor) *ℤ slice_index_or c.args.values.now j (pos 0))

pub add_to_entry-requires-clause-column_in : goal.add_to_entry-requires-clause-column_in
add_to_entry-requires-clause-column_in c = c.requires.columns.inside c.loop-column.column-index 0 c.loop-column-test.true

pub add_to_entry-requires-clause-entry_size : goal.add_to_entry-requires-clause-entry_size
add_to_entry-requires-clause-entry_size c = next_fits c.args.row c.args.values.now c.args.columns.now c.loop-column.column-index c.args.table.now c.loop-column.table
    (λ j. to_z w128 (of_z w128 c.args.factor) *ℤ slice_index_or c.args.values.now j (pos 0)) c.requires.columns c.loop-column-test.true c.loop-column.invariant c.requires.entry_size

pub loop-column-preserved : goal.loop-column-preserved
loop-column-preserved c =
    let column : ℕ = get_or c.args.columns.now c.loop-column.column-index 0 in
    let within : get_or c.args.columns.now c.loop-column.column-index 0 < MOST_COLUMNS = c.requires.columns.inside c.loop-column.column-index 0 c.loop-column-test.true in
    let value_kept : to_z w64 (of_z w64 (slice_index_or c.args.values.now column (pos 0))) ≡ slice_index_or c.args.values.now column (pos 0) = as_w64 (slice_index_or c.args.values.now column (pos 0))
    (omega (arith, c.requires.value_size column within)) in
    row_next c.args.row c.args.values.now c.args.columns.now c.loop-column.column-index c.args.table.now c.loop-column.table c.add_to_entry.new.table
    (λ column. to_z w128 (of_z w128 c.args.factor) *ℤ slice_index_or c.args.values.now column (pos 0)) c.requires.columns c.loop-column-test.true c.loop-column.invariant
    (c.add_to_entry.ensures.there ∙ ap (λ z. entry c.loop-column.table c.args.row column +ℤ (to_z w128 (of_z w128 c.args.factor) *ℤ z)) value_kept) c.add_to_entry.ensures.others

pub returns-clause-added : goal.returns-clause-added
returns-clause-added c =
    let factor_kept : to_z w128 (of_z w128 c.args.factor) ≡ c.args.factor = to_z-of_z w128 c.args.factor c.ranges.factor in
    λ j m b h. row_end c.args.row c.args.values.now c.args.columns.now c.loop-column.column-index c.args.table.now c.loop-column.table (to_z w128 (of_z w128 c.args.factor)) c.requires.columns
    (omega (arith, c.loop-column-test.false, c.loop-column.auto.column-index-end)) c.loop-column.invariant j m b
    ∙ ap (λ z. entry c.args.table.now c.args.row j +ℤ (z *ℤ slice_index_or c.args.values.now j (pos 0))) factor_kept

pub returns-clause-before : goal.returns-clause-before
returns-clause-before c = c.loop-column.invariant.before

pub returns-clause-others : goal.returns-clause-others
returns-clause-others c = c.loop-column.invariant.others
