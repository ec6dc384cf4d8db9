use Rattle.std.proofs.Common.{◌≡◌, ℕ, ◌+◌, List, arith, ap, ◌∙◌}
use Rattle.obs_rows.specs.Integers.{integer_count}
use Rattle.normal_sum.proofs.PlaceLaws.{count_within}
use Rattle.lower_form.proofs.ZeroForms.{zero_symmetric, zero_small, zero_outside}
use Rattle.track_form.proofs.fronts.PairRoom.new.Goals as goal

-- one column for each integer, the baseline's and the constant
columns_are : (n i : ℕ) → n ≡ i → (3 + n) + 1 ≡ 4 + i
columns_are n i e = omega (arith, e)

pub of-front-requires-clause-columns_to : goal.of-front-requires-clause-columns_to
of-front-requires-clause-columns_to c =
    let few = count_within c.args.arcs.now c.fine_signals.result.now c.fine_signals.ensures.are c.requires.free in
    omega (arith, few, c.integer_count.ensures)

pub of-front-requires-clause-symmetric : goal.of-front-requires-clause-symmetric
of-front-requires-clause-symmetric c = zero_symmetric c.zeros.result c.zeros.ensures.zeros

pub of-front-requires-clause-entries_in : goal.of-front-requires-clause-entries_in
of-front-requires-clause-entries_in c = zero_small c.zeros.result c.zeros.ensures.zeros

pub of-front-requires-clause-nothing_outside : goal.of-front-requires-clause-nothing_outside
of-front-requires-clause-nothing_outside c = zero_outside c.zeros.result _ c.zeros.ensures.zeros

pub invariant_of-result : goal.invariant_of-result
invariant_of-result c = record { clean = c.empty-room.ensures c.of-front.result.columns }

pub returns : goal.returns
returns c = c.of-front.ensures.columns ∙ columns_are c.integer_count.result (integer_count c.args.arcs.now c.fine_signals.result.now) c.integer_count.ensures
    ∙ ap (λ (l : List ℕ). 4 + integer_count c.args.arcs.now l) c.fine_signals.ensures.value
