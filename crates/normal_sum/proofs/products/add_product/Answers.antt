use Rattle.std.proofs.Common.{◌≡◌, ◌⊎◌, ⊎_elim, ℕ, List, ◌<◌, ◌≤◌, ◌^◌, ℤ, pos, ◌+ℤ◌, ◌*ℤ◌, unsigned_abs, slice_index_or, get_or, to_z, of_z, arith, sym, ap, ◌∙◌, subst, refl}
use Rattle.std.proofs.lemmas.Bool.{cases_eq}
use Rattle.std.proofs.lemmas.Int.{to_z-of_z}
use Rattle.std.proofs.lemmas.List.{take_rest}
use Rattle.std.specs.Int.{w64}
use Rattle.quadratic_form.specs.declared.sizes.TheConstants.{BASELINE_COLUMNS}
use Rattle.quadratic_form.specs.Tables.{entry}
use Rattle.normal_sum.specs.Columns.{AreColumnsFrom}
use Rattle.normal_sum.proofs.RowSums.{product_nothing}
use Rattle.normal_sum.proofs.ColumnLaws.{none_added, one_more, untouched, all_added, columns_from}
use Rattle.normal_sum.proofs.products.add_product.Goals as goal

pub loop-k-init : goal.loop-k-init
loop-k-init c = record { added = λ j b h. none_added (λ i. i ≤ j) c.args.columns.now _ _; before = λ i j h. refl }

pub add_product_row-requires-clause-columns : goal.add_product_row-requires-clause-columns
add_product_row-requires-clause-columns c =
    subst (λ (l : List ℕ). AreColumnsFrom (get_or c.args.columns.now c.loop-k.k 0) c.args.values.now l) (sym (take_rest c.args.columns.now c.max-later.result))
    (columns_from c.args.values.now c.args.columns.now c.loop-k.k c.max-later.result c.requires.columns c.loop-k-test.true (omega (arith, c.max-later.ensures)) (omega (arith, c.max-later.ensures))
    (λ few. omega (arith, c.max-later.ensures, few)) (λ many. omega (arith, c.max-later.ensures, many)))

pub add_product_row-requires-clause-entry_size : goal.add_product_row-requires-clause-entry_size
add_product_row-requires-clause-entry_size c =
    let column : ℕ = get_or c.args.columns.now c.loop-k.k 0 in
    λ j m b h. subst (λ (z : ℤ). unsigned_abs z ≤ 2 ^ 120)
    (sym (untouched (λ column. column ≤ j) c.args.columns.now c.loop-k.k (λ column. entry c.args.table.now column j) (λ column. entry c.loop-k.table column j)
    (λ column. (to_z w64 (of_z w64 c.args.weight) *ℤ slice_index_or c.args.values.now column (pos 0)) *ℤ slice_index_or c.args.values.now j (pos 0))
    c.requires.columns.rising c.loop-k-test.true (c.loop-k.invariant.added j b h) m)) (c.requires.entry_size column j m b h)

pub loop-k-preserved : goal.loop-k-preserved
loop-k-preserved c = record {
  added = λ j b h.
      one_more (λ i. i ≤ j) c.args.columns.now c.loop-k.k (λ i. entry c.args.table.now i j) (λ i. entry c.loop-k.table i j) (λ i. entry c.add_product_row.new.table i j)
      (λ i. (to_z w64 (of_z w64 c.args.weight) *ℤ slice_index_or c.args.values.now i (pos 0)) *ℤ slice_index_or c.args.values.now j (pos 0)) c.requires.columns.rising c.loop-k-test.true
      (c.loop-k.invariant.added j b h)
      (λ i m d. c.add_product_row.ensures.others i j d) (λ m. c.add_product_row.ensures.added j m b h);
  before = λ i j h. ⊎_elim
      (λ (e : i ≡ get_or c.args.columns.now c.loop-k.k 0).
      subst (λ (r : ℕ). entry c.add_product_row.new.table r j ≡ entry c.loop-k.table r j) (sym e)
      (c.add_product_row.ensures.before j (subst (λ (r : ℕ). (j < r) ⊎ (j < BASELINE_COLUMNS)) e h)) ∙ c.loop-k.invariant.before i j h)
      (λ (d : i ≡ get_or c.args.columns.now c.loop-k.k 0 → ⊥). c.add_product_row.ensures.others i j d ∙ c.loop-k.invariant.before i j h)
      (cases_eq i (get_or c.args.columns.now c.loop-k.k 0));
}

pub returns-clause-added : goal.returns-clause-added
returns-clause-added c =
    let weight_kept : to_z w64 (of_z w64 c.args.weight) ≡ c.args.weight = to_z-of_z w64 c.args.weight c.ranges.weight in
    λ i j m b h. all_added (λ i. i ≤ j) c.args.values.now c.args.columns.now c.loop-k.k (λ i. entry c.args.table.now i j) (λ i. entry c.loop-k.table i j)
    (λ i. (to_z w64 (of_z w64 c.args.weight) *ℤ slice_index_or c.args.values.now i (pos 0)) *ℤ slice_index_or c.args.values.now j (pos 0))
    (λ i p f. c.requires.columns.others i f) (omega (arith, c.loop-k-test.false, c.loop-k.auto.k-end)) (c.loop-k.invariant.added j b h)
    (λ i z. product_nothing (to_z w64 (of_z w64 c.args.weight)) (slice_index_or c.args.values.now i (pos 0)) (slice_index_or c.args.values.now j (pos 0)) z) i m
    ∙ ap (λ z. entry c.args.table.now i j +ℤ ((z *ℤ slice_index_or c.args.values.now i (pos 0)) *ℤ slice_index_or c.args.values.now j (pos 0))) weight_kept
