use Rattle.std.proofs.Common.{◌≡◌, ℕ, ◌*◌, ◌^◌, ◌≤◌, List, length, map, ℤ, pos, ◌*ℤ◌, ◌≤ℤ◌, All, sym, ap, ap₂, ◌∙◌, subst}
use Rattle.obs_rows.specs.declared.rows.Row.{Row}
use Rattle.obs_rows.specs.SumOfSquares.{share}
use Rattle.fix_decide.specs.declared.reaches.ResidualBox.{ResidualBox}
use Rattle.fix_decide.specs.Reaches.{IsNarrow, gaps}
use Rattle.fix_decide.specs.RowReaches.{AreSeen}
use Rattle.fix_decide.specs.UpperSums.{reach_of}
use Rattle.fix_decide.specs.Widths.{IsWideFor}
use Rattle.fix_decide.proofs.Wide.{on_err, narrow_not_wide}
use Rattle.fix_decide.proofs.Products.{Weighted, weighted, fits_product, product_word}
use Rattle.fix_decide.proofs.pairs.signal_upper.Goals as goal

-- the share k of all rows and the gaps g of their reaches
weighted_rows : (all rows : List Row) (reaches : List ResidualBox) (k g : ℤ) → all ≡ rows → length reaches ≡ length all → 1 ≤ length rows →
    length rows ≤ 15 → pos 0 ≤ℤ k → (k *ℤ pos (length all)) ≤ℤ pos (2 ^ 32) →
    pos 0 ≤ℤ g → g ≤ℤ pos (length reaches * 2 ^ 72) → Weighted k g
weighted_rows all rows reaches k g same_rows same some few from to g_from g_to = weighted k g (length all)
    (subst (λ (n : ℕ). 1 ≤ n) (sym (ap length same_rows)) some) (subst (λ (n : ℕ). n ≤ 15) (sym (ap length same_rows)) few) from to g_from
    (subst (λ (n : ℕ). g ≤ℤ pos (n * 2 ^ 72)) same g_to)

pub returns-in_err-put_reaches-clause-wide : goal.returns-in_err-put_reaches-clause-wide
returns-in_err-put_reaches-clause-wide c = λ arcs ss m seen.
    let are_seen : AreSeen arcs ss m c.args.signal c.as_slice-rows.result.now c.args.places.now c.args.moves.now =
    subst (λ (l : List Row). AreSeen arcs ss m c.args.signal l c.args.places.now c.args.moves.now) (sym c.as_slice-rows.ensures) seen in
    on_err c.from_residual.result
    (subst (λ (l : List Row). IsWideFor arcs ss c.args.z.now m l c.args.signal) c.as_slice-rows.ensures (c.in_err-put_reaches.ensures.wide arcs ss m are_seen))

pub overflow_mul-result : goal.overflow_mul-result
overflow_mul-result c = fits_product c.share.result c.gaps.result
    (weighted_rows c.as_slice-rows.result.now c.args.pair.now.rows c.as_slice.result.now c.share.result c.gaps.result c.as_slice-rows.ensures
    (ap length c.as_slice.ensures.value ∙ c.in_ok-put_reaches.ensures.length)
    c.args.pair.now.some_rows c.args.pair.now.few_rows c.share.ensures.from c.share.ensures.to c.gaps.ensures.from c.gaps.ensures.to)

pub returns-clause-value : goal.returns-clause-value
returns-clause-value c = λ arcs ss m seen.
    let f : Row → ResidualBox = reach_of arcs ss c.args.z.now m c.args.signal in
    let are_seen : AreSeen arcs ss m c.args.signal c.as_slice-rows.result.now c.args.places.now c.args.moves.now =
    subst (λ (l : List Row). AreSeen arcs ss m c.args.signal l c.args.places.now c.args.moves.now) (sym c.as_slice-rows.ensures) seen in
    let same : c.as_slice.result.now ≡ map f c.as_slice-rows.result.now = c.as_slice.ensures.value ∙ c.in_ok-put_reaches.ensures.value arcs ss m are_seen in
    product_word c.share.result c.gaps.result
    (weighted_rows c.as_slice-rows.result.now c.args.pair.now.rows c.as_slice.result.now c.share.result c.gaps.result c.as_slice-rows.ensures
    (ap length c.as_slice.ensures.value ∙ c.in_ok-put_reaches.ensures.length)
    c.args.pair.now.some_rows c.args.pair.now.few_rows c.share.ensures.from c.share.ensures.to c.gaps.ensures.from c.gaps.ensures.to)
    ∙ ap₂ (λ (a b : ℤ). a *ℤ b) (c.share.ensures.value ∙ ap (λ (l : List Row). share (length l) c.args.signal) c.as_slice-rows.ensures)
    (c.gaps.ensures.value ∙ ap gaps (same ∙ ap (map f) c.as_slice-rows.ensures))

pub returns-clause-from : goal.returns-clause-from
returns-clause-from c =
    let is_weighted : Weighted c.share.result c.gaps.result =
    weighted_rows c.as_slice-rows.result.now c.args.pair.now.rows c.as_slice.result.now c.share.result c.gaps.result c.as_slice-rows.ensures
    (ap length c.as_slice.ensures.value ∙ c.in_ok-put_reaches.ensures.length)
    c.args.pair.now.some_rows c.args.pair.now.few_rows c.share.ensures.from c.share.ensures.to c.gaps.ensures.from c.gaps.ensures.to in
    subst (λ (x : ℤ). pos 0 ≤ℤ x) (sym (product_word c.share.result c.gaps.result is_weighted)) is_weighted.from

pub returns-clause-to : goal.returns-clause-to
returns-clause-to c =
    let is_weighted : Weighted c.share.result c.gaps.result =
    weighted_rows c.as_slice-rows.result.now c.args.pair.now.rows c.as_slice.result.now c.share.result c.gaps.result c.as_slice-rows.ensures
    (ap length c.as_slice.ensures.value ∙ c.in_ok-put_reaches.ensures.length)
    c.args.pair.now.some_rows c.args.pair.now.few_rows c.share.ensures.from c.share.ensures.to c.gaps.ensures.from c.gaps.ensures.to in
    subst (λ (x : ℤ). x ≤ℤ pos (2 ^ 104)) (sym (product_word c.share.result c.gaps.result is_weighted)) is_weighted.to

pub returns-clause-narrow : goal.returns-clause-narrow
returns-clause-narrow c = λ arcs ss m seen.
    let f : Row → ResidualBox = reach_of arcs ss c.args.z.now m c.args.signal in
    let are_seen : AreSeen arcs ss m c.args.signal c.as_slice-rows.result.now c.args.places.now c.args.moves.now =
    subst (λ (l : List Row). AreSeen arcs ss m c.args.signal l c.args.places.now c.args.moves.now) (sym c.as_slice-rows.ensures) seen in
    narrow_not_wide f c.args.pair.now.rows (subst (All IsNarrow) (c.in_ok-put_reaches.ensures.value arcs ss m are_seen ∙ ap (map f) c.as_slice-rows.ensures) c.in_ok-put_reaches.ensures.narrow)
