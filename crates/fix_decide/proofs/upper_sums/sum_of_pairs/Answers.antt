use Rattle.std.proofs.Common.{◌≡◌, ℕ, ◌+◌, ◌^◌, ◌<◌, ◌∷◌, List, length, map, drop, get_or, ℤ, ◌+ℤ◌, to_z, of_z, arith, sym, ap, ◌∙◌, refl, subst, rules, below_more}
use Rattle.std.proofs.lemmas.Bool.{false≢true}
use Rattle.std.proofs.lemmas.List.{drop_more, get_or_default}
use Rattle.std.specs.Int.{w128}
use Rattle.whole_math.specs.Vectors.{sum}
use Rattle.obs_rows.specs.declared.pair_rows.PairRows.{PairRows}
use Rattle.fix_decide.specs.UpperSums.{pair_upper}
use Rattle.fix_decide.specs.Widths.{IsWide}
use Rattle.fix_decide.proofs.GapSums.{next, Step, step}
use Rattle.fix_decide.proofs.upper_sums.sum_of_pairs.Goals as goal
use Rattle.fix_decide.proofs.UpperLaws.{few_pairs}

pub returns-in_err-sum-clause-refused : goal.returns-in_err-sum-clause-refused
returns-in_err-sum-clause-refused c =
    let inside : c.loop-pair.pair-index < length c.args.pairs.now = search rules in
    (λ e. (c.loop-pair.pair-index, c.pair-item.result, inside, sym c.pair-item.is, c.in_err-sum.ensures.refused.0 refl), λ w. c.from_residual.ensures.0)

pub loop-pair-preserved : goal.loop-pair-preserved
loop-pair-preserved c =
    let pairs : List PairRows = c.args.pairs.now in
    let k : ℕ = c.loop-pair.pair-index in
    let pair : PairRows = c.pair-item.result in
    let f : PairRows → ℤ = pair_upper c.args.arcs.now c.args.signals.now c.args.z.now c.args.moved.now in
    let inside : k < length pairs = search rules in
    let later : List PairRows = drop (k + 1) pairs in
    let rest_is : drop k pairs ≡ pair ∷ later = drop_more pairs k pair inside ∙ ap (λ (y : PairRows). y ∷ later) (sym c.pair-item.is) in
    let sum_so_far : ℤ = to_z w128 c.loop-pair.sum-bits in
    let q : ℤ = c.in_ok-sum.field-0 in
    let step_fits : Step (to_z w128 (of_z w128 (sum_so_far +ℤ to_z w128 (of_z w128 q)))) sum_so_far q k (2 ^ 107) =
    step sum_so_far q k (2 ^ 107) c.loop-pair.invariant.from c.loop-pair.invariant.to c.in_ok-sum.ensures.from c.in_ok-sum.ensures.to (few_pairs k (length pairs) inside c.requires.few) in
    let is_wide : PairRows → Type 0 = IsWide c.args.arcs.now c.args.signals.now c.args.z.now c.args.moved.now in
    record {
      value = next sum_so_far _ q (f pair) (sum (map f later)) (sum (map f pairs)) (ap (λ (l : List PairRows). sum_so_far +ℤ sum (map f l)) (sym rest_is) ∙ c.loop-pair.invariant.value) c.in_ok-sum.ensures.value step_fits.is;
      from = step_fits.from;
      to = step_fits.to;
      narrow = below_more (λ j. (d : PairRows) → is_wide (get_or pairs j d) → ⊥) k c.loop-pair.invariant.narrow
          (λ d w. false≢true (c.in_ok-sum.ensures.refused.1 (subst is_wide (get_or_default pairs k d pair inside ∙ sym c.pair-item.is) w)));
    }

pub returns-clause-refused : goal.returns-clause-refused
returns-clause-refused c = (
  λ e. absurd (false≢true e),
  λ (k, x, inside, is, w).
      absurd (c.loop-pair.invariant.narrow k (omega arith) x (subst (IsWide c.args.arcs.now c.args.signals.now c.args.z.now c.args.moved.now) (sym is) w)),
)
