use Rattle.std.proofs.Common.{◌≡◌, ℕ, ◌+◌, ◌*◌, ◌^◌, ◌<◌, ◌≤◌, ◌+ℤ◌, ◌*ℤ◌, ◌∷◌, List, pos, length, map, drop, unsigned_abs, slice_index_or, None, ℤ, arith, sym, ap, ◌∙◌, refl, rules}
use Rattle.std.proofs.lemmas.List.{drop_more}
use Rattle.std.proofs.lemmas.Int.{ints}
use Rattle.quadratic_form.specs.Rows.{SignalRow}
use Rattle.quadratic_form.specs.MatrixEntries.{coefficient, coefficient_sum, product_sum}
use Rattle.quadratic_form.specs.declared.sizes.TheConstants.{MOST_COLUMNS}
use Rattle.quadratic_form.specs.Tables.{entry}
use Rattle.quadratic_form.proofs.TableLaws.{zero_item}
use Rattle.obs_rows.specs.declared.rows.Row.{Row}
use Rattle.obs_rows.specs.Signals.{weight}
use Rattle.obs_rows.specs.Integers.{integer_place}
use Rattle.obs_rows.specs.SignalGroups.{signal_row}
use Rattle.obs_rows.specs.declared.limits.TheConstants.{MOST_PAIRS}
use Rattle.normal_sum.specs.declared.places.TheConstants.{MOST_ROWS}
use Rattle.normal_sum.proofs.RowSums.{next_product, next_sum}
use Rattle.normal_sum.proofs.NormalLaws.{zero_first}
use Rattle.normal_sum.proofs.signals.add_rows.Goals as goal

larger : (a b d i : ℕ) → a ≤ b + 2 ^ 100 → b ≤ d + (i * 2 ^ 100) → a ≤ d + ((i + 1) * 2 ^ 100)
larger a b d i h g = omega arith

larger_sum : (a b i : ℕ) → a ≤ b + 2 ^ 34 → b ≤ i * 2 ^ 34 → a ≤ (i + 1) * 2 ^ 34
larger_sum a b i h g = omega arith

size_zero : (x : ℤ) → x ≡ pos 0 → unsigned_abs x ≤ 0 * 2 ^ 34
size_zero x e = omega (arith, ints)

pub loop-k-init : goal.loop-k-init
loop-k-init c = record {
  full = refl;
  zeros = refl;
  products = λ arcs ss p n i j h b g. refl;
  sums = λ arcs ss p n j h. zero_first _ _ (zero_item MOST_COLUMNS j);
  table_size = λ i j h b g. omega arith;
  beyond = λ j h g. zero_item MOST_COLUMNS j;
  before = λ i j h. refl;
  sum_size = λ j h. size_zero _ (zero_item MOST_COLUMNS j);
}

entry_fits : (a b k : ℕ) → a ≤ b + (k * 2 ^ 100) → b ≤ MOST_PAIRS * 2 ^ 108 → k ≤ MOST_ROWS → a ≤ 2 ^ 120
entry_fits a b k h g l = omega arith

total_fits : (a k : ℕ) → a ≤ k * 2 ^ 34 → k ≤ MOST_ROWS → a ≤ 2 ^ 40
total_fits a k h l = omega arith

pub add_row-requires-clause-entry_size : goal.add_row-requires-clause-entry_size
add_row-requires-clause-entry_size c =
    let few : c.loop-k.k ≤ MOST_ROWS = omega (arith, c.loop-k-test.true, c.requires.few_rows) in
    λ i j h b g. entry_fits _ _ c.loop-k.k (c.loop-k.invariant.table_size i j h b g) (c.requires.entry_size i j h b g) few

pub add_row-requires-clause-total_size : goal.add_row-requires-clause-total_size
add_row-requires-clause-total_size c =
    let few : c.loop-k.k ≤ MOST_ROWS = omega (arith, c.loop-k-test.true, c.requires.few_rows) in
    λ j h. total_fits _ c.loop-k.k (c.loop-k.invariant.sum_size j h) few

pub loop-k-preserved : goal.loop-k-preserved
loop-k-preserved c =
    let row : Row = c.index-rows-k.result in
    let later : List Row = drop (c.loop-k.k + 1) c.args.rows.now in
    let share : ℤ = pos 360360 *ℤ weight c.args.signal in
    let inside : c.loop-k.k < length c.args.rows.now = c.loop-k-test.true in
    let rest_is : drop c.loop-k.k c.args.rows.now ≡ c.index-rows-k.result ∷ later = drop_more c.args.rows.now c.loop-k.k row inside ∙ ap (λ (y : Row). y ∷ later) (sym c.index-rows-k.is) in
    record {
      full = search rules;
      zeros = c.add_row.ensures.zeros;
      products = λ arcs ss p n i j h b g.
          let row_to_signal : Row → SignalRow = signal_row arcs ss c.args.signal in
          let place : slice_index_or c.args.places.now c.loop-k.k None ≡ integer_place arcs ss c.index-rows-k.result.arc c.args.signal = p c.loop-k.k row inside
          ∙ ap (λ (r : Row). integer_place arcs ss r.arc c.args.signal) (sym c.index-rows-k.is) in
          next_product (entry c.loop-k.table i j) (entry c.add_row.new.table i j) (entry c.args.table.now i j) share (coefficient (row_to_signal row) i) (coefficient (row_to_signal row) j) (product_sum (map row_to_signal later) i j)
          (product_sum (map row_to_signal c.args.rows.now) i j)
          (ap (λ (l : List Row). entry c.loop-k.table i j +ℤ (share *ℤ product_sum (map row_to_signal l) i j)) (sym rest_is) ∙ c.loop-k.invariant.products arcs ss p n i j h b g)
          (c.add_row.ensures.products arcs ss place n i j h b g);
      sums = λ arcs ss p n j h.
          let to_signal_row : Row → SignalRow = signal_row arcs ss c.args.signal in
          let place : slice_index_or c.args.places.now c.loop-k.k None ≡ integer_place arcs ss c.index-rows-k.result.arc c.args.signal = p c.loop-k.k row inside
          ∙ ap (λ (r : Row). integer_place arcs ss r.arc c.args.signal) (sym c.index-rows-k.is) in
          next_sum (slice_index_or c.loop-k.total j (pos 0)) (slice_index_or c.add_row.new.total j (pos 0)) (coefficient (to_signal_row row) j) (coefficient_sum (map to_signal_row later) j)
          (coefficient_sum (map to_signal_row c.args.rows.now) j)
          (ap (λ (l : List Row). slice_index_or c.loop-k.total j (pos 0) +ℤ coefficient_sum (map to_signal_row l) j) (sym rest_is) ∙ c.loop-k.invariant.sums arcs ss p n j h)
          (c.add_row.ensures.sums arcs ss place n j h);
      table_size = λ i j h b g. larger _ _ _ _ (c.add_row.ensures.table_size i j h b g) (c.loop-k.invariant.table_size i j h b g);
      beyond = λ j h g. c.add_row.ensures.beyond j h g ∙ c.loop-k.invariant.beyond j h g;
      before = λ i j h. c.add_row.ensures.before i j h ∙ c.loop-k.invariant.before i j h;
      sum_size = λ j h. larger_sum _ _ _ (c.add_row.ensures.sum_size j h) (c.loop-k.invariant.sum_size j h);
    }
