use Rattle.std.proofs.Common.{◌≡◌, ◌≤◌, ◌^◌, ℤ, pos, arith, unsigned_abs, slice_index_or, to_z, of_z}
use Rattle.std.proofs.lemmas.Int.{to_z-of_z}
use Rattle.std.specs.Int.{w64, w128}
use Rattle.whole_math.proofs.Words.{as_w64, as_w128}
use Rattle.normal_sum.proofs.products.add_product_row.Goals as goal

pub returns-then-is_short-clause-added : goal.returns-then-is_short-clause-added
returns-then-is_short-clause-added c =
    let value : ℤ = slice_index_or c.args.values.now c.args.row (pos 0) in
    let small : unsigned_abs value ≤ 2 ^ 38 = c.requires.value_size c.args.row c.requires.row_in in
    let as_read : to_z w64 (of_z w64 value) ≡ value = as_w64 value (omega arith) in
    let product = (rw (to_z-of_z w64 c.args.weight c.ranges.weight, as_read) at c.short_times.ensures.value) in
    let as_word : to_z w64 (of_z w64 c.short_times.result) ≡ c.short_times.result = as_w64 c.short_times.result (omega (arith, c.short_times.ensures.size)) in
    λ j from behind inside. rw (as_word, product) at (c.add_short_to_row.ensures.added j from behind inside)

pub returns-else-is_short-clause-added : goal.returns-else-is_short-clause-added
returns-else-is_short-clause-added c =
    let value : ℤ = slice_index_or c.args.values.now c.args.row (pos 0) in
    let small : unsigned_abs value ≤ 2 ^ 38 = c.requires.value_size c.args.row c.requires.row_in in
    let as_read : to_z w64 (of_z w64 value) ≡ value = as_w64 value (omega arith) in
    let product = (rw (to_z-of_z w64 c.args.weight c.ranges.weight, as_read) at c.product.ensures.value) in
    let as_word : to_z w128 (of_z w128 c.product.result) ≡ c.product.result = as_w128 c.product.result (omega (arith, c.product.ensures.size)) in
    λ j from behind inside. rw (as_word, product) at (c.add_to_row.ensures.added j from behind inside)
