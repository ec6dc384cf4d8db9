use Rattle.std.proofs.Common.{◌≡◌, ℕ, ◌+◌, ◌*◌, ◌/◌, ◌^◌, ◌<◌, ◌≤◌, ◌+ℤ◌, ◌*ℤ◌, List, pos, length, map, unsigned_abs, slice_index_or, ℤ, to_z, of_z, arith, sym, ap, ◌∙◌, subst}
use Rattle.std.proofs.lemmas.List.{length-map}
use Rattle.std.specs.Int.{w64}
use Rattle.whole_math.specs.Vectors.{len}
use Rattle.quadratic_form.specs.Rows.{SignalRow}
use Rattle.quadratic_form.specs.MatrixEntries.{coefficient_sum, product_sum}
use Rattle.quadratic_form.proofs.NormalForm.{share_is}
use Rattle.obs_rows.specs.declared.rows.Row.{Row}
use Rattle.quadratic_form.specs.declared.sizes.TheConstants.{MOST_COLUMNS}
use Rattle.quadratic_form.specs.Tables.{entry}
use Rattle.obs_rows.specs.Signals.{weight}
use Rattle.obs_rows.specs.SignalGroups.{signal_row, signal_group}
use Rattle.normal_sum.specs.Places.{ArePlaces}
use Rattle.whole_math.proofs.Words.{as_w64}
use Rattle.normal_sum.proofs.RowSums.{group_is, group_size}
use Rattle.normal_sum.proofs.WeightLaws.{share_size, share_within}
use Rattle.normal_sum.proofs.signals.add_phase.Goals as goal

same_length : (f : Row → SignalRow) (rows : List Row) → length (map f rows) ≡ length rows
same_length f rows = length-map rows f

before : (i j : ℕ) → i ≤ j → j < MOST_COLUMNS → i < MOST_COLUMNS
before i j h g = omega arith

-- the share of the pair's rows, from that of the rows as they are read
share_of : (rows read : List Row) (s : ℕ) (x : ℤ) → read ≡ rows → pos 0 ≡ x +ℤ (pos (360360 / length read) *ℤ weight s) → pos 0 ≡ x +ℤ (pos (360360 / length rows) *ℤ weight s)
share_of rows read s x e h = subst (λ (l : List Row). pos 0 ≡ x +ℤ (pos (360360 / length l) *ℤ weight s)) e h

pub add_product-requires-clause-weight_size : goal.add_product-requires-clause-weight_size
add_product-requires-clause-weight_size c =
    let rows : List Row = c.args.pair.now.rows in
    let turned_share_is : pos 0 ≡ c.turned_share-share.result +ℤ (pos (360360 / length rows) *ℤ weight c.args.signal) =
    share_of rows c.as_slice-rows.result.now c.args.signal c.turned_share-share.result c.as_slice-rows.ensures c.turned_share-share.ensures in
    let share_small : unsigned_abs c.turned_share-share.result ≤ 2 ^ 32 = share_within (length rows) c.args.signal c.turned_share-share.result c.args.pair.now.some_rows turned_share_is in
    subst (λ (z : ℤ). unsigned_abs z ≤ 2 ^ 32) (sym (as_w64 c.turned_share-share.result (omega arith))) share_small

pub returns-clause-added : goal.returns-clause-added
returns-clause-added c =
    let rows : List Row = c.args.pair.now.rows in
    let same_rows : c.as_slice-rows.result.now ≡ rows = c.as_slice-rows.ensures in
    let turned_share : ℤ = c.turned_share-share.result in
    let turned_share_is : pos 0 ≡ c.turned_share-share.result +ℤ (pos (360360 / length rows) *ℤ weight c.args.signal) =
    share_of rows c.as_slice-rows.result.now c.args.signal c.turned_share-share.result same_rows c.turned_share-share.ensures in
    let share_small : unsigned_abs c.turned_share-share.result ≤ 2 ^ 32 = share_within (length rows) c.args.signal c.turned_share-share.result c.args.pair.now.some_rows turned_share_is in
    let share_kept : to_z w64 (of_z w64 c.turned_share-share.result) ≡ c.turned_share-share.result = as_w64 c.turned_share-share.result (omega arith) in
    λ arcs ss places integers i j hi b hj.
    let to_signal_row : Row → SignalRow = signal_row arcs ss c.args.signal in
    let same_count : length (map to_signal_row rows) ≡ length rows = same_length to_signal_row rows in
    let read : ArePlaces arcs ss c.args.signal c.as_slice-rows.result.now c.args.places.now = subst (λ (l : List Row). ArePlaces arcs ss c.args.signal l c.args.places.now) (sym same_rows) places in
    group_is (entry c.add_rows-total.new.table i j) (entry c.add_product.new.table i j) (entry c.args.table.now i j) (pos 360360 *ℤ weight c.args.signal)
    (pos (360360 / length (map to_signal_row rows)) *ℤ weight c.args.signal) (len (map to_signal_row rows)) (product_sum (map to_signal_row rows) i j) (coefficient_sum (map to_signal_row rows) i) (coefficient_sum (map to_signal_row rows) j) turned_share
    (c.add_rows-total.ensures.products arcs ss read integers i j hi b hj ∙ ap (λ (l : List Row). entry c.args.table.now i j +ℤ ((pos 360360 *ℤ weight c.args.signal) *ℤ product_sum (map to_signal_row l) i j)) same_rows)
    (c.add_product.ensures.added i j hi b hj
    ∙ ap (λ z. entry c.add_rows-total.new.table i j +ℤ ((z *ℤ slice_index_or c.add_rows-total.result i (pos 0)) *ℤ slice_index_or c.add_rows-total.result j (pos 0))) share_kept
    ∙ ap (λ z. entry c.add_rows-total.new.table i j +ℤ ((turned_share *ℤ z) *ℤ slice_index_or c.add_rows-total.result j (pos 0))) (c.add_rows-total.ensures.sums arcs ss read integers i (before i j hi hj)
    ∙ ap (λ (l : List Row). coefficient_sum (map to_signal_row l) i) same_rows)
    ∙ ap (λ z. entry c.add_rows-total.new.table i j +ℤ ((turned_share *ℤ coefficient_sum (map to_signal_row rows) i) *ℤ z)) (c.add_rows-total.ensures.sums arcs ss read integers j hj
    ∙ ap (λ (l : List Row). coefficient_sum (map to_signal_row l) j) same_rows))
    (share_is (signal_group arcs ss c.args.pair.now c.args.signal) (subst (λ (m : ℕ). 0 < m) (sym same_count) (omega (arith, c.args.pair.now.some_rows)))
    (subst (λ (m : ℕ). m ≤ 15) (sym same_count) c.args.pair.now.few_rows))
    (turned_share_is ∙ ap (λ (m : ℕ). turned_share +ℤ (pos (360360 / m) *ℤ weight c.args.signal)) (sym same_count))

pub returns-clause-size : goal.returns-clause-size
returns-clause-size c =
    let rows : List Row = c.args.pair.now.rows in
    let same_rows : c.as_slice-rows.result.now ≡ rows = c.as_slice-rows.ensures in
    let turned_share_is : pos 0 ≡ c.turned_share-share.result +ℤ (pos (360360 / length rows) *ℤ weight c.args.signal) =
    share_of rows c.as_slice-rows.result.now c.args.signal c.turned_share-share.result same_rows c.turned_share-share.ensures in
    let share_small : unsigned_abs c.turned_share-share.result ≤ 2 ^ 32 = share_within (length rows) c.args.signal c.turned_share-share.result c.args.pair.now.some_rows turned_share_is in
    let share_kept : to_z w64 (of_z w64 c.turned_share-share.result) ≡ c.turned_share-share.result = as_w64 c.turned_share-share.result (omega arith) in
    λ i j hi b hj. group_size (entry c.add_rows-total.new.table i j) (entry c.add_product.new.table i j) (entry c.args.table.now i j) (to_z w64 (of_z w64 c.turned_share-share.result))
    (slice_index_or c.add_rows-total.result i (pos 0)) (slice_index_or c.add_rows-total.result j (pos 0)) (length rows) c.args.pair.now.few_rows (c.add_product.ensures.added i j hi b hj)
    (subst (λ (l : List Row). unsigned_abs (entry c.add_rows-total.new.table i j) ≤ unsigned_abs (entry c.args.table.now i j) + (length l * 2 ^ 100)) same_rows
    (c.add_rows-total.ensures.table_size i j hi b hj))
    (subst (λ (z : ℤ). unsigned_abs z * length rows ≤ 2 ^ 32) (sym share_kept) (share_size (length rows) c.args.signal c.turned_share-share.result turned_share_is))
    (subst (λ (l : List Row). unsigned_abs (slice_index_or c.add_rows-total.result i (pos 0)) ≤ length l * 2 ^ 34) same_rows (c.add_rows-total.ensures.sum_size i (before i j hi hj)))
    (subst (λ (l : List Row). unsigned_abs (slice_index_or c.add_rows-total.result j (pos 0)) ≤ length l * 2 ^ 34) same_rows (c.add_rows-total.ensures.sum_size j hj))
