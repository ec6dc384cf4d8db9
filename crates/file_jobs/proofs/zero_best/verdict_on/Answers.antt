use Rattle.std.proofs.Common.{◌≡◌, ◌≢◌, ap, refl, sym, ◌∙◌, subst, arith, of_z, to_z, w64, FitsSigned, ℤ, pos, ◌+ℤ◌, ◌-ℤ◌, ◌<ℤ◌, ◌≤ℤ◌}
use Rattle.std.specs.Int.{w128}
use Rattle.std.proofs.lemmas.Int.{ints, to_z-of_z}
use Rattle.file_jobs.specs.ZeroSums.{sum_at, IsLowest, IsRival}
use Rattle.file_jobs.proofs.Sums.{best_where, rival_next, rival_lowest, reaches_by}
use Rattle.file_jobs.proofs.zero_best.verdict_on.Goals as goal

pub returns-then-best-z : goal.returns-then-best-z
returns-then-best-z c =
    let ds = c.args.diffs.now in
    let z = c.args.z in
    let best = c.lowest-best.result in
    let same_z : to_z w64 (of_z w64 z) ≡ z = to_z-of_z w64 z c.ranges.z in
    let same_b : to_z w64 (of_z w64 best) ≡ best = omega (arith, ints, c.lowest-best.ensures.low, c.lowest-best.ensures.high) in
    let sum_fits : FitsSigned w128 c.sum_of-sum.result = record { sfits = c.sum_of-sum.type_inv } in
    let least_fits : FitsSigned w128 c.sum_of-least.result = record { sfits = c.sum_of-least.type_inv } in
    let not_best : best ≢ z = λ e. c.if-best-z.true (ap (of_z w64) e) in
    record {
      claimed = to_z-of_z w128 c.sum_of-sum.result sum_fits ∙ c.sum_of-sum.ensures ∙ ap (sum_at ds) same_z;
      rival = subst (λ (v : ℤ). IsRival ds z v) (sym same_b) (rival_lowest ds z best c.lowest-best.ensures.lowest not_best);
      better = to_z-of_z w128 c.sum_of-least.result least_fits ∙ c.sum_of-least.ensures;
      no_more = subst (λ (v : ℤ). sum_at ds v ≤ℤ sum_at ds z) (sym same_b) (reaches_by ds best z (z -ℤ best) c.lowest-best.ensures.lowest refl);
    }

pub returns-then-sum-least : goal.returns-then-sum-least
returns-then-sum-least c =
    let ds = c.args.diffs.now in
    let z = c.args.z in
    let best = c.lowest-best.result in
    let same_z : to_z w64 (of_z w64 z) ≡ z = to_z-of_z w64 z c.ranges.z in
    let same_b : to_z w64 (of_z w64 best) ≡ best = omega (arith, ints, c.lowest-best.ensures.low, c.lowest-best.ensures.high) in
    let same_next : to_z w64 (of_z w64 (to_z w64 (of_z w64 z) +ℤ pos 1)) ≡ z +ℤ pos 1 = omega (arith, ints) in
    let sum_fits : FitsSigned w128 c.sum_of-sum.result = record { sfits = c.sum_of-sum.type_inv } in
    let least_fits : FitsSigned w128 c.sum_of-least-2.result = record { sfits = c.sum_of-least-2.type_inv } in
    let same_best : best ≡ z = sym same_b ∙ ap (to_z w64) c.if-best-z.false ∙ same_z in
    let low : IsLowest ds z = subst (λ (v : ℤ). IsLowest ds v) same_best c.lowest-best.ensures.lowest in
    let claimed = to_z-of_z w128 c.sum_of-sum.result sum_fits ∙ c.sum_of-sum.ensures ∙ ap (sum_at ds) same_z in
    let next = to_z-of_z w128 c.sum_of-least-2.result least_fits ∙ c.sum_of-least-2.ensures ∙ ap (sum_at ds) same_next in
    let sum_rises : sum_at ds z <ℤ sum_at ds (z +ℤ pos 1) = omega (arith, ints, claimed, next, c.if-sum-least.true) in
    (best_where ds z low sum_rises, claimed)

pub returns-else-sum-least : goal.returns-else-sum-least
returns-else-sum-least c =
    let ds = c.args.diffs.now in
    let z = c.args.z in
    let best = c.lowest-best.result in
    let same_z : to_z w64 (of_z w64 z) ≡ z = to_z-of_z w64 z c.ranges.z in
    let same_b : to_z w64 (of_z w64 best) ≡ best = omega (arith, ints, c.lowest-best.ensures.low, c.lowest-best.ensures.high) in
    let same_next : to_z w64 (of_z w64 (to_z w64 (of_z w64 z) +ℤ pos 1)) ≡ z +ℤ pos 1 = omega (arith, ints) in
    let sum_fits : FitsSigned w128 c.sum_of-sum.result = record { sfits = c.sum_of-sum.type_inv } in
    let least_fits : FitsSigned w128 c.sum_of-least-2.result = record { sfits = c.sum_of-least-2.type_inv } in
    let same_best : best ≡ z = sym same_b ∙ ap (to_z w64) c.if-best-z.false ∙ same_z in
    let low : IsLowest ds z = subst (λ (v : ℤ). IsLowest ds v) same_best c.lowest-best.ensures.lowest in
    let claimed = to_z-of_z w128 c.sum_of-sum.result sum_fits ∙ c.sum_of-sum.ensures ∙ ap (sum_at ds) same_z in
    let next = to_z-of_z w128 c.sum_of-least-2.result least_fits ∙ c.sum_of-least-2.ensures ∙ ap (sum_at ds) same_next in
    let next_at_most : sum_at ds (z +ℤ pos 1) ≤ℤ sum_at ds z = omega (arith, ints, claimed, next, c.if-sum-least.false) in
    record {
      claimed = claimed;
      rival = subst (λ (v : ℤ). IsRival ds z v) (sym same_next) (rival_next ds z low next_at_most);
      better = to_z-of_z w128 c.sum_of-least-2.result least_fits ∙ c.sum_of-least-2.ensures;
      no_more = subst (λ (v : ℤ). sum_at ds v ≤ℤ sum_at ds z) (sym same_next) next_at_most;
    }
