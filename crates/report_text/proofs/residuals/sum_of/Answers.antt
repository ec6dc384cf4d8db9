use Rattle.std.proofs.Common.{◌≡◌, ◌+◌, ◌^◌, ◌≤◌, ◌∷◌, List, ℤ, ◌+ℤ◌, drop, map, unsigned_abs, to_z, of_z, sym, ap, ◌∙◌, arith}
use Rattle.std.specs.Int.{w128}
use Rattle.std.proofs.lemmas.List.{drop_more}
use Rattle.std.proofs.Math.IntN.{+ℤ_assoc}
use Rattle.whole_math.specs.Vectors.{sum}
use Rattle.whole_math.proofs.Words.{as_w64, as_w128}
use Rattle.obs_rows.specs.declared.rows.Row.{Row}
use Rattle.fix_decide.specs.UpperSums.{centre}
use Rattle.report_text.proofs.residuals.sum_of.Goals as goal

pub loop-row-preserved : goal.loop-row-preserved
loop-row-preserved c =
    let sum_before : ℤ = to_z w128 c.loop-row.sum-bits in
    let rows = c.args.rows.now in
    let i = c.loop-row.row-index in
    let row = c.row-item.result in
    let centre_at : Row → ℤ = centre c.args.arcs.now c.args.signals.now c.args.z.now c.args.moved.now c.args.signal in
    let split : drop i rows ≡ row ∷ drop (i + 1) rows = drop_more rows i row c.loop-row-test.true ∙ ap (λ (q : Row). q ∷ drop (i + 1) rows) (sym c.row-item.is) in
    let word = as_w64 c.centre_of.result (omega (arith, c.centre_of.ensures.size)) in
    let plus : c.with_centre-sum.result ≡ sum_before +ℤ centre_at row = c.with_centre-sum.ensures.value ∙ ap (λ (x : ℤ). sum_before +ℤ x) (word ∙ c.centre_of.ensures.value) in
    let size : unsigned_abs c.with_centre-sum.result ≤ 2 ^ 62 = omega (arith, c.with_centre-sum.ensures.size, c.loop-row.invariant.size, c.loop-row-test.true, c.requires.few) in
    let fits : to_z w128 (of_z w128 c.with_centre-sum.result) ≡ c.with_centre-sum.result = as_w128 c.with_centre-sum.result (omega (arith, size)) in
    record {
      value = ap (λ (x : ℤ). x +ℤ sum (map centre_at (drop (i + 1) rows))) (fits ∙ plus) ∙ +ℤ_assoc sum_before (centre_at row) (sum (map centre_at (drop (i + 1) rows)))
          ∙ ap (λ (l : List Row). sum_before +ℤ sum (map centre_at l)) (sym split) ∙ c.loop-row.invariant.value;
      size = rw fits (omega (arith, c.with_centre-sum.ensures.size, c.loop-row.invariant.size));
    }
