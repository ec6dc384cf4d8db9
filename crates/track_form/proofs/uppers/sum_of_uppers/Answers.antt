use Rattle.std.proofs.Common.{◌≡◌, ℕ, ◌+◌, ◌^◌, ◌<◌, ◌≤◌, [], ◌∷◌, List, length, drop, get_or, ℤ, ◌+ℤ◌, to_z, of_z, arith, refl, sym, ap, ap₂, ◌∙◌, subst, below_more}
use Rattle.std.proofs.lemmas.Bool.{false≢true}
use Rattle.std.proofs.lemmas.List.{drop_more, drop_all, get_or_default}
use Rattle.std.specs.Int.{w128}
use Rattle.whole_math.specs.Vectors.{sum}
use Rattle.obs_rows.specs.declared.pair_rows.PairRows.{PairRows}
use Rattle.obs_rows.specs.Signals.{fine_signals}
use Rattle.normal_sum.proofs.NormalLaws.{zero_last}
use Rattle.fix_decide.specs.UpperSums.{pair_upper}
use Rattle.fix_decide.specs.Widths.{IsWide}
use Rattle.fix_decide.proofs.GapSums.{next, Step, step}
use Rattle.fix_decide.proofs.Wide.{on_err}
use Rattle.fix_decide.proofs.UpperLaws.{few_pairs}
use Rattle.track_form.specs.SumDecided.{pair_uppers}
use Rattle.track_form.proofs.Lists.{all_zip_from}
use Rattle.track_form.proofs.uppers.sum_of_uppers.Goals as goal

same_place : (k n m : ℕ) → k < n → m ≡ n → k < m
same_place k n m l e = omega (arith, l, e)

pub loop-k-preserved : goal.loop-k-preserved
loop-k-preserved c =
    let pairs : List PairRows = c.args.pairs.now in
    let moves : List (List ℤ) = c.args.moves.now in
    let k : ℕ = c.loop-k.k in
    let inside : k < length pairs = c.loop-k-test.true in
    let within : k < length moves = same_place k (length pairs) (length moves) inside c.requires.move_each in
    let pair : PairRows = c.index-pairs-k.result in
    let move : List ℤ = get_or moves k [] in
    let upper : List ℤ → PairRows → ℤ = pair_upper c.args.arcs.now (fine_signals c.args.signals) c.args.z.now in
    let uppers : List PairRows → List (List ℤ) → List ℤ = pair_uppers c.args.arcs.now (fine_signals c.args.signals) c.args.z.now in
    let rest : ℤ = sum (uppers (drop (k + 1) pairs) (drop (k + 1) moves)) in
    let pairs_left : drop k pairs ≡ pair ∷ drop (k + 1) pairs = drop_more pairs k pair inside ∙ ap (λ (x : PairRows). x ∷ drop (k + 1) pairs) (sym c.index-pairs-k.is) in
    let moves_left : drop k moves ≡ move ∷ drop (k + 1) moves = drop_more moves k [] within in
    let sum_so_far : ℤ = to_z w128 c.loop-k.sum-bits in
    let upper_of_pair : ℤ = c.in_ok-sum.field-0 in
    let is_step : Step (to_z w128 (of_z w128 (sum_so_far +ℤ to_z w128 (of_z w128 upper_of_pair)))) sum_so_far upper_of_pair k (2 ^ 107) =
    step sum_so_far upper_of_pair k (2 ^ 107) c.loop-k.invariant.from c.loop-k.invariant.to c.in_ok-sum.ensures.from c.in_ok-sum.ensures.to (few_pairs k (length pairs) inside c.requires.few) in
    let is_wide : List ℤ → PairRows → Type 0 = IsWide c.args.arcs.now (fine_signals c.args.signals) c.args.z.now in
    record {
      value = next sum_so_far _ upper_of_pair (upper move pair) rest (sum (uppers pairs moves)) (ap₂ (λ (xs : List PairRows) (ys : List (List ℤ)). sum_so_far +ℤ sum (uppers xs ys)) (sym pairs_left) (sym moves_left) ∙ c.loop-k.invariant.value)
          c.in_ok-sum.ensures.value is_step.is;
      from = is_step.from;
      to = is_step.to;
      narrow = below_more (λ j. (x : PairRows) (y : List ℤ) → is_wide (get_or moves j y) (get_or pairs j x) → ⊥) k c.loop-k.invariant.narrow
          (λ x y w. false≢true (c.in_ok-sum.ensures.refused.1
          (subst (λ (n : List ℤ). is_wide n pair) (get_or_default moves k y [] within) (subst (λ (r : PairRows). is_wide (get_or moves k y) r) (get_or_default pairs k x pair inside ∙ sym c.index-pairs-k.is) w))));
    }

pub returns-in_err-sum-clause-wide : goal.returns-in_err-sum-clause-wide
returns-in_err-sum-clause-wide c =
    let pairs : List PairRows = c.args.pairs.now in
    let moves : List (List ℤ) = c.args.moves.now in
    let k : ℕ = c.loop-k.k in
    let inside : k < length pairs = c.loop-k-test.true in
    let within : k < length moves = same_place k (length pairs) (length moves) inside c.requires.move_each in
    let pair : PairRows = c.index-pairs-k.result in
    let is_wide : List ℤ → PairRows → Type 0 = IsWide c.args.arcs.now (fine_signals c.args.signals) c.args.z.now in
    on_err c.from_residual.result (record {
      place = k;
      inside = inside;
      wide = λ x y. subst (λ (n : List ℤ). is_wide n (get_or pairs k x)) (get_or_default moves k [] y within)
          (subst (λ (r : PairRows). is_wide (get_or moves k []) r) (c.index-pairs-k.is ∙ get_or_default pairs k pair x inside) (c.in_err-sum.ensures.refused.0 refl));
    })

ended : (k n m : ℕ) → n ≤ k → m ≡ n → m ≤ k
ended k n m l e = omega (arith, l, e)

pub returns-clause-value : goal.returns-clause-value
returns-clause-value c =
    let pairs : List PairRows = c.args.pairs.now in
    let moves : List (List ℤ) = c.args.moves.now in
    let k : ℕ = c.loop-k.k in
    let uppers : List PairRows → List (List ℤ) → List ℤ = pair_uppers c.args.arcs.now (fine_signals c.args.signals) c.args.z.now in
    let sum_so_far : ℤ = to_z w128 c.loop-k.sum-bits in
    let past : drop k pairs ≡ [] = drop_all k pairs c.loop-k-test.false in
    zero_last sum_so_far (sum (uppers pairs moves)) (ap (λ (xs : List PairRows). sum_so_far +ℤ sum (uppers xs (drop k moves))) (sym past) ∙ c.loop-k.invariant.value)

pub returns-clause-bounded : goal.returns-clause-bounded
returns-clause-bounded c = all_zip_from (λ (p : PairRows) (m : List ℤ). IsWide c.args.arcs.now (fine_signals c.args.signals) c.args.z.now m p → ⊥) c.args.pairs.now c.args.moves.now c.requires.move_each
    (λ k inside p m. c.loop-k.invariant.narrow k (omega (arith, inside, c.loop-k-test.false)) p m)
