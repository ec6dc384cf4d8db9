use Rattle.std.proofs.Common.{ℕ, ◌+◌, ◌^◌, ◌≤◌, ◌+ℤ◌, ◌*ℤ◌, pos, length, unsigned_abs, ℤ, arith, sym, ap, ◌∙◌, subst, to_z, of_z}
use Rattle.std.specs.Int.{w64, w128}
use Rattle.whole_math.proofs.Words.{as_w64, as_w128}
use Rattle.quadratic_form.specs.declared.sizes.TheConstants.{BASELINE_COLUMNS}
use Rattle.quadratic_form.specs.Tables.{entry}
use Rattle.obs_rows.specs.SumOfSquares.{share}
use Rattle.normal_sum.specs.Observations.{axis_spread}
use Rattle.normal_sum.proofs.RowSums.{spread_fits, spread_size, turned_product}
use Rattle.normal_sum.proofs.WeightLaws.{share_size, share_within}
use Rattle.normal_sum.proofs.observations.add_axis.Goals as goal

pub add_to_entry-requires-clause-factor_size : goal.add_to_entry-requires-clause-factor_size
add_to_entry-requires-clause-factor_size c =
    let small : unsigned_abs c.axis_spread-spread.result ≤ 2 ^ 77 = spread_fits (unsigned_abs c.axis_spread-spread.result) (length c.args.rows.now) c.requires.few_rows c.axis_spread-spread.ensures.size in
    subst (λ (z : ℤ). unsigned_abs z ≤ 2 ^ 77) (sym (as_w128 c.axis_spread-spread.result (omega arith))) small

pub add_to_entry-requires-clause-value_size : goal.add_to_entry-requires-clause-value_size
add_to_entry-requires-clause-value_size c =
    let small : unsigned_abs c.turned_share-share.result ≤ 2 ^ 32 = share_within (length c.args.rows.now) c.args.signal c.turned_share-share.result c.requires.some c.turned_share-share.ensures in
    subst (λ (z : ℤ). unsigned_abs z ≤ 2 ^ 38) (sym (as_w64 c.turned_share-share.result (omega (arith, small)))) (omega (arith, small))

pub returns-clause-there : goal.returns-clause-there
returns-clause-there c =
    let n : ℕ = length c.args.rows.now in
    let entry_before : ℤ = entry c.args.table.now c.args.axis (BASELINE_COLUMNS + c.args.integers) in
    let spread_small : unsigned_abs c.axis_spread-spread.result ≤ 2 ^ 77 = spread_fits (unsigned_abs c.axis_spread-spread.result) n c.requires.few_rows c.axis_spread-spread.ensures.size in
    let share_small : unsigned_abs c.turned_share-share.result ≤ 2 ^ 32 = share_within n c.args.signal c.turned_share-share.result c.requires.some c.turned_share-share.ensures in
    c.add_to_entry.ensures.there
    ∙ ap (λ z. entry_before +ℤ (z *ℤ to_z w64 (of_z w64 c.turned_share-share.result))) (as_w128 c.axis_spread-spread.result (omega (arith, spread_small)) ∙ c.axis_spread-spread.ensures.value)
    ∙ ap (λ z. entry_before +ℤ (axis_spread c.args.rows.now c.args.axis c.args.signal *ℤ z)) (as_w64 c.turned_share-share.result (omega (arith, share_small)))
    ∙ turned_product entry_before (axis_spread c.args.rows.now c.args.axis c.args.signal) c.turned_share-share.result (share n c.args.signal) c.turned_share-share.ensures

pub returns-clause-size : goal.returns-clause-size
returns-clause-size c =
    let n : ℕ = length c.args.rows.now in
    let entry_before : ℤ = entry c.args.table.now c.args.axis (BASELINE_COLUMNS + c.args.integers) in
    let spread_small : unsigned_abs c.axis_spread-spread.result ≤ 2 ^ 77 = spread_fits (unsigned_abs c.axis_spread-spread.result) n c.requires.few_rows c.axis_spread-spread.ensures.size in
    let share_small : unsigned_abs c.turned_share-share.result ≤ 2 ^ 32 = share_within n c.args.signal c.turned_share-share.result c.requires.some c.turned_share-share.ensures in
    spread_size _ entry_before c.axis_spread-spread.result c.turned_share-share.result n c.requires.few_rows
    (c.add_to_entry.ensures.there
    ∙ ap (λ z. entry_before +ℤ (z *ℤ to_z w64 (of_z w64 c.turned_share-share.result))) (as_w128 c.axis_spread-spread.result (omega (arith, spread_small)))
    ∙ ap (λ z. entry_before +ℤ (c.axis_spread-spread.result *ℤ z)) (as_w64 c.turned_share-share.result (omega (arith, share_small))))
    c.axis_spread-spread.ensures.size (share_size n c.args.signal c.turned_share-share.result c.turned_share-share.ensures)
