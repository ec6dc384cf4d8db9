use Rattle.std.proofs.Common.{◌≡◌, ◌+◌, ◌^◌, ◌<◌, ◌∷◌, List, ℤ, pos, ◌+ℤ◌, ◌*ℤ◌, ◌≤ℤ◌, length, drop, get_or, to_z, of_z, arith, sym, ap, ◌∙◌, rules}
use Rattle.std.proofs.lemmas.List.{drop_more}
use Rattle.std.proofs.lemmas.Int.{ints}
use Rattle.std.specs.Int.{w64, w128}
use Rattle.fix_decide.specs.declared.reaches.ResidualBox.{ResidualBox}
use Rattle.fix_decide.specs.Reaches.{gap, gaps_from}
use Rattle.fix_decide.proofs.Words.{small_w64}
use Rattle.fix_decide.proofs.GapSums.{next, Step, step, times_below}
use Rattle.fix_decide.proofs.gaps.gaps_from.Goals as goal

weaker : (x : ℤ) → x ≤ℤ pos (2 ^ 34) → x ≤ℤ pos (2 ^ 62)
weaker x h = omega (arith, ints)

pub loop-q-preserved : goal.loop-q-preserved
loop-q-preserved c =
    let none : ResidualBox = record { centre = pos 0; rad = pos 0 } in
    let q : ResidualBox = get_or c.args.others.now c.loop-q.q-index none in
    let later : List ResidualBox = drop (c.loop-q.q-index + 1) c.args.others.now in
    let inside : c.loop-q.q-index < length c.args.others.now = search rules in
    let rest_is : drop c.loop-q.q-index c.args.others.now ≡ q ∷ later = drop_more c.args.others.now c.loop-q.q-index none inside in
    let sum : ℤ = to_z w128 c.loop-q.sum-bits in
    let gap_is : to_z w64 (of_z w64 c.gap.result) ≡ gap c.args.p q = small_w64 c.gap.result c.gap.ensures.from (weaker c.gap.result c.gap.ensures.to) ∙ c.gap.ensures.value in
    let square_is : c.square-sum.result ≡ gap c.args.p q *ℤ gap c.args.p q = c.square-sum.ensures.value ∙ ap (λ x. x *ℤ x) gap_is in
    let step_fits : Step (to_z w128 (of_z w128 (sum +ℤ to_z w128 (of_z w128 c.square-sum.result)))) sum c.square-sum.result c.loop-q.q-index (2 ^ 68) =
    step sum c.square-sum.result c.loop-q.q-index (2 ^ 68) c.loop-q.invariant.from c.loop-q.invariant.to c.square-sum.ensures.from c.square-sum.ensures.to
    (times_below (c.loop-q.q-index + 1) (length c.args.others.now) (2 ^ 68) (omega arith) c.requires.few (omega arith)) in
    record {
      value = next sum _ c.square-sum.result (gap c.args.p q *ℤ gap c.args.p q) (gaps_from c.args.p later) (gaps_from c.args.p c.args.others.now)
          (ap (λ (l : List ResidualBox). sum +ℤ gaps_from c.args.p l) (sym rest_is) ∙ c.loop-q.invariant.value) square_is step_fits.is;
      from = step_fits.from;
      to = step_fits.to;
    }
