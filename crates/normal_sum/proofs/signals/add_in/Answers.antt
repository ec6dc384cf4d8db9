use Rattle.std.proofs.Common.{◌≡◌, ◌≤◌, ◌^◌, ℤ, pos, unsigned_abs, slice_index_or, to_z, of_z, sym, subst}
use Rattle.std.proofs.lemmas.Int.{to_z-of_z}
use Rattle.std.specs.Int.{w64}
use Rattle.quadratic_form.specs.Tables.{entry}
use Rattle.normal_sum.proofs.RowSums.{product_size, sum_size}
use Rattle.normal_sum.proofs.signals.add_in.Goals as goal

pub returns-clause-table_size : goal.returns-clause-table_size
returns-clause-table_size c =
    let weight_kept : to_z w64 (of_z w64 c.args.weight) ≡ c.args.weight = to_z-of_z w64 c.args.weight c.ranges.weight in
    λ i j h b g. product_size (entry c.args.table.now i j) (entry c.add_product.new.table i j) (to_z w64 (of_z w64 c.args.weight)) (slice_index_or c.args.values.now i (pos 0))
    (slice_index_or c.args.values.now j (pos 0))
    (c.add_product.ensures.added i j h b g) (subst (λ (z : ℤ). unsigned_abs z ≤ 2 ^ 32) (sym weight_kept) c.requires.weight_size) (c.requires.value_size i) (c.requires.value_size j)

pub returns-clause-sum_size : goal.returns-clause-sum_size
returns-clause-sum_size c = λ j h. sum_size (slice_index_or c.args.total.now j (pos 0)) (slice_index_or c.add_values.new.total j (pos 0)) (slice_index_or c.args.values.now j (pos 0))
    (c.add_values.ensures j h) (c.requires.value_size j)
