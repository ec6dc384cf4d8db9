use Rattle.std.proofs.Common.{◌≡◌, ◌≢◌, ℕ, ◌+◌, ◌*◌, ◌^◌, ◌≤◌, List, length, ℤ, arith, sym, ap, ◌∙◌, subst}
use Rattle.std.proofs.lemmas.Result.{IfOk-at_ok, IfErr-at_err}
use Rattle.quadratic_form.specs.LowerSums.{SmallForm}
use Rattle.quadratic_form.specs.Places.{form_from}
use Rattle.obs_rows.specs.declared.arcs.Arc.{Arc}
use Rattle.obs_rows.specs.declared.pair_rows.PairRows.{PairRows}
use Rattle.obs_rows.specs.declared.units.TheConstants.{MOST_FREE_ARCS}
use Rattle.obs_rows.specs.Arcs.{free_count}
use Rattle.obs_rows.specs.Signals.{fine_signals}
use Rattle.obs_rows.specs.CountedSignals.{AreCounted}
use Rattle.obs_rows.specs.Integers.{integer_count}
use Rattle.quadratic_form.specs.Tables.{entry}
use Rattle.normal_sum.proofs.PlaceLaws.{count_within}
use Rattle.track_form.specs.declared.factors.PairFactors.{PairFactors}
use Rattle.track_form.specs.Factors.{AreFactors}
use Rattle.track_form.specs.Sums.{HoldsSums, AreAtMost, IsStopped}
use Rattle.track_form.specs.declared.sums.NoSum.{NoSum}
use Rattle.track_form.specs.declared.sums.NoSum.TheVariants.{Refused, Over}
use Rattle.track_form.proofs.SumTables.{IsGreatest, IsSummed, summed, sum_is}
use Rattle.obs_rows.specs.declared.limits.TheConstants.{MOST_PAIRS}
use Rattle.track_form.proofs.sums.sum_by.Goals as goal

-- one column for each integer, and the constant
order_is : (arcs : List Arc) (ss given : List ℕ) (n : ℕ) → given ≡ ss → n ≡ integer_count arcs given → n + 1 ≡ 1 + integer_count arcs ss
order_is arcs ss given n e is = more n (integer_count arcs ss) (is ∙ ap (λ (l : List ℕ). integer_count arcs l) e)
  where
    more : (n i : ℕ) → n ≡ i → n + 1 ≡ 1 + i
    more n i e = omega arith

-- the table of all pairs, from what the calls say
all_summed : (arcs : List Arc) (given ss : List ℕ) (pairs : List PairRows) (kept : List PairFactors) (greatest e : ℕ) (t : List (List ℤ)) → given ≡ ss → AreCounted given →
    free_count arcs ≤ MOST_FREE_ARCS → AreFactors arcs ss pairs kept → IsGreatest arcs ss pairs greatest → 1 ≤ length pairs → length pairs ≤ MOST_PAIRS → 2 * length pairs ≤ 2 ^ e →
    ((k : ℕ) → 2 * length pairs ≤ 2 ^ k → e ≤ k) → HoldsSums arcs ss pairs (greatest + e) t → IsSummed arcs ss pairs e (greatest + e) t
all_summed arcs given ss pairs kept greatest e t same counted free factors is some few enough least sums =
    summed arcs ss pairs kept greatest e t factors is some few (count_within arcs ss (subst AreCounted same counted) free) enough least sums

pub form_table-p-requires-clause-small : goal.form_table-p-requires-clause-small
form_table-p-requires-clause-small c =
    let arcs : List Arc = c.args.arcs.now in
    let fine : List ℕ = fine_signals c.args.signals in
    let h : ℕ = c.greatest_exponent-most.result + c.least_power.result in
    let factors : AreFactors arcs fine c.args.pairs.now c.in-Ok.factors.items = IfOk-at_ok (λ k. AreFactors arcs fine c.args.pairs.now k.items) c.in-Ok.is c.in_ok-factors.ensures.factors in
    let sums : HoldsSums arcs fine c.args.pairs.now h c.add_fronts.new.table = IfOk-at_ok (λ k. HoldsSums arcs fine c.args.pairs.now h c.add_fronts.new.table) c.in-Ok.is c.in_ok-factors.ensures.sums in
    let above : AreAtMost arcs fine c.args.pairs.now c.greatest_exponent-most.result = IfOk-at_ok (λ k. AreAtMost arcs fine c.args.pairs.now c.greatest_exponent-most.result) c.in-Ok.is c.in_ok-factors.ensures.above in
    let is_summed = all_summed arcs c.fine_signals.result.now fine c.args.pairs.now c.in-Ok.factors.items c.greatest_exponent-most.result c.least_power.result c.add_fronts.new.table c.fine_signals.ensures.value
    c.fine_signals.ensures.are c.requires.free factors (record { above = above; attained = c.greatest_exponent-most.ensures.attained c.requires.some }) c.requires.some
    c.requires.few c.least_power.ensures.enough c.least_power.ensures.least sums in
    subst (λ (n : ℕ). SmallForm (form_from (entry c.add_fronts.new.table) 3 n))
    (sym (order_is arcs fine c.fine_signals.result.now c.integer_count-integers.result c.fine_signals.ensures.value c.integer_count-integers.ensures)) is_summed.small

pub returns-in-Ok-clause-sum : goal.returns-in-Ok-clause-sum
returns-in-Ok-clause-sum c =
    let arcs : List Arc = c.args.arcs.now in
    let fine : List ℕ = fine_signals c.args.signals in
    let h : ℕ = c.greatest_exponent-most.result + c.least_power.result in
    let factors : AreFactors arcs fine c.args.pairs.now c.in-Ok.factors.items = IfOk-at_ok (λ k. AreFactors arcs fine c.args.pairs.now k.items) c.in-Ok.is c.in_ok-factors.ensures.factors in
    let sums : HoldsSums arcs fine c.args.pairs.now h c.add_fronts.new.table = IfOk-at_ok (λ k. HoldsSums arcs fine c.args.pairs.now h c.add_fronts.new.table) c.in-Ok.is c.in_ok-factors.ensures.sums in
    let above : AreAtMost arcs fine c.args.pairs.now c.greatest_exponent-most.result = IfOk-at_ok (λ k. AreAtMost arcs fine c.args.pairs.now c.greatest_exponent-most.result) c.in-Ok.is c.in_ok-factors.ensures.above in
    let is_summed = all_summed arcs c.fine_signals.result.now fine c.args.pairs.now c.in-Ok.factors.items c.greatest_exponent-most.result c.least_power.result c.add_fronts.new.table c.fine_signals.ensures.value
    c.fine_signals.ensures.are c.requires.free factors (record { above = above; attained = c.greatest_exponent-most.ensures.attained c.requires.some }) c.requires.some
    c.requires.few c.least_power.ensures.enough c.least_power.ensures.least sums in
    sum_is arcs fine c.args.pairs.now c.least_power.result (c.greatest_exponent-most.result + c.least_power.result)
    (c.integer_count-integers.result + 1) c.add_fronts.new.table c.form_table-p.result c.of-sum.result is_summed
    (order_is arcs fine c.fine_signals.result.now c.integer_count-integers.result c.fine_signals.ensures.value c.integer_count-integers.ensures) c.form_table-p.ensures.form
    (c.of-sum.ensures.columns ∙ more c.integer_count-integers.result) c.of-sum.ensures.h c.of-sum.ensures.d c.of-sum.ensures.l c.of-sum.ensures.p
  where
    more : (n : ℕ) → (3 + n) + 1 ≡ 3 + (n + 1)
    more n = omega arith

stopped_by : (arcs : List Arc) (ss : List ℕ) (pairs : List PairRows) (P Q : Type 0) (n : NoSum) → (P → Q) → IsStopped arcs ss pairs P n → IsStopped arcs ss pairs Q n
stopped_by arcs ss pairs P Q (Refused fault) f is = is
stopped_by arcs ss pairs P Q Over f is = f is

-- where all pairs are asked, none is over
pub returns-in-Err-clause-stopped : goal.returns-in-Err-clause-stopped
returns-in-Err-clause-stopped c =
    let arcs : List Arc = c.args.arcs.now in
    let fine : List ℕ = fine_signals c.args.signals in
    let pairs : List PairRows = c.args.pairs.now in
    let over : Type 0 = AreAtMost arcs fine pairs c.greatest_exponent-most.result → ⊥ in
    stopped_by arcs fine pairs over (c.args.every ≢ 1) c.in-Err.stopped (λ not e. not (c.greatest_exponent-most.ensures.above e))
    (IfErr-at_err (IsStopped arcs fine pairs over) c.in-Err.is c.in_ok-factors.ensures.stopped)
