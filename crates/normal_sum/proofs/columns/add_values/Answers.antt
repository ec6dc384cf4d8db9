use Rattle.std.proofs.Common.{rules, ◌≡◌, ℕ, ◌<◌, ◌≤◌, ◌^◌, length, ℤ, pos, ◌+ℤ◌, unsigned_abs, slice_index_or, get_or, to_z, of_z, arith, sym, ◌∙◌, subst, length-set, get_or-set_same, get_or-set_other}
use Rattle.std.proofs.lemmas.Int.{ints}
use Rattle.std.specs.Int.{w64}
use Rattle.quadratic_form.specs.declared.sizes.TheConstants.{MOST_COLUMNS}
use Rattle.whole_math.proofs.Words.{as_w64}
use Rattle.normal_sum.proofs.ColumnLaws.{none_added, one_more, untouched, all_added}
use Rattle.normal_sum.proofs.columns.add_values.Goals as goal

-- the sum as it is written
as_words : (x a b : ℤ) → x ≡ to_z w64 (of_z w64 a) +ℤ to_z w64 (of_z w64 b) → unsigned_abs a ≤ 2 ^ 40 → unsigned_abs b ≤ 2 ^ 40 → to_z w64 (of_z w64 x) ≡ a +ℤ b
as_words x a b e h g = omega (arith, ints)

pub loop-column-init : goal.loop-column-init
loop-column-init c = record { full = search rules; added = none_added (λ j. j < MOST_COLUMNS) c.args.columns.now _ _ }

pub plus-requires-clause-a_size : goal.plus-requires-clause-a_size
plus-requires-clause-a_size c =
    let column : ℕ = get_or c.args.columns.now c.loop-column.column-index 0 in
    let within : get_or c.args.columns.now c.loop-column.column-index 0 < MOST_COLUMNS = c.requires.columns.inside c.loop-column.column-index 0 c.loop-column-test.true in
    let same : slice_index_or c.loop-column.total column (pos 0) ≡ slice_index_or c.args.total.now column (pos 0) =
    untouched (λ column. column < MOST_COLUMNS) c.args.columns.now c.loop-column.column-index (λ column. slice_index_or c.args.total.now column (pos 0)) (λ column. slice_index_or c.loop-column.total column (pos 0))
    (λ column. slice_index_or c.args.values.now column (pos 0)) c.requires.columns.rising c.loop-column-test.true c.loop-column.invariant.added within in
    let size : unsigned_abs (slice_index_or c.loop-column.total column (pos 0)) ≤ 2 ^ 40 = subst (λ (z : ℤ). unsigned_abs z ≤ 2 ^ 40) (sym same) (c.requires.total_size column within) in
    subst (λ (z : ℤ). unsigned_abs z ≤ 2 ^ 40) (sym (as_w64 (slice_index_or c.loop-column.total column (pos 0)) (omega arith))) size

pub loop-column-preserved : goal.loop-column-preserved
loop-column-preserved c =
    let column : ℕ = get_or c.args.columns.now c.loop-column.column-index 0 in
    let within : get_or c.args.columns.now c.loop-column.column-index 0 < MOST_COLUMNS = c.requires.columns.inside c.loop-column.column-index 0 c.loop-column-test.true in
    let same : slice_index_or c.loop-column.total column (pos 0) ≡ slice_index_or c.args.total.now column (pos 0) =
    untouched (λ column. column < MOST_COLUMNS) c.args.columns.now c.loop-column.column-index (λ column. slice_index_or c.args.total.now column (pos 0)) (λ column. slice_index_or c.loop-column.total column (pos 0))
    (λ column. slice_index_or c.args.values.now column (pos 0)) c.requires.columns.rising c.loop-column-test.true c.loop-column.invariant.added within in
    let size : unsigned_abs (slice_index_or c.loop-column.total column (pos 0)) ≤ 2 ^ 40 = subst (λ (z : ℤ). unsigned_abs z ≤ 2 ^ 40) (sym same) (c.requires.total_size column within) in
    let full : length c.loop-column.total ≡ MOST_COLUMNS = c.loop-column.invariant.full in
    record {
      full = length-set c.loop-column.total column _ ∙ full;
      added = one_more (λ column. column < MOST_COLUMNS) c.args.columns.now c.loop-column.column-index (λ column. slice_index_or c.args.total.now column (pos 0)) (λ column. slice_index_or c.loop-column.total column (pos 0)) _
          (λ column. slice_index_or c.args.values.now column (pos 0))
          c.requires.columns.rising c.loop-column-test.true c.loop-column.invariant.added
          (λ i p d. get_or-set_other c.loop-column.total column i _ (pos 0) d)
          (λ p. get_or-set_same c.loop-column.total column _ (pos 0) (omega arith) ∙ as_words c.plus.result (slice_index_or c.loop-column.total column (pos 0))
          (slice_index_or c.args.values.now column (pos 0)) c.plus.ensures size (c.requires.value_size column within));
    }

pub returns : goal.returns
returns c = all_added (λ j. j < MOST_COLUMNS) c.args.values.now c.args.columns.now c.loop-column.column-index (λ j. slice_index_or c.args.total.now j (pos 0))
    (λ j. slice_index_or c.loop-column.total j (pos 0)) (λ j. slice_index_or c.args.values.now j (pos 0))
    (λ j p f. c.requires.columns.others j f) (omega (arith, c.loop-column-test.false, c.loop-column.auto.column-index-end)) c.loop-column.invariant.added (λ j z. z)
