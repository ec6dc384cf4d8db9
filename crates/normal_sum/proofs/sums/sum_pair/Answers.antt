use Rattle.std.proofs.Common.{[], ◌∷◌}
use Rattle.obs_rows.specs.Signals.{counted}
use Rattle.normal_sum.proofs.NormalInvariants.{of_pair}
use Rattle.normal_sum.proofs.NormalValues.{is_sum_at_centres, stays_below}
use Rattle.normal_sum.proofs.sums.sum_pair.Goals as goal

pub returns-clause-normal : goal.returns-clause-normal
returns-clause-normal c =
    of_pair c.args.arcs.now
    (counted c.args.signals c.args.scale) c.counted_signals.result.now c.args.pair.now c.from_ref.result.now c.sum_pairs.result c.counted_signals.ensures.value c.from_ref.ensures.value
    c.sum_pairs.ensures

pub returns-clause-centres : goal.returns-clause-centres
returns-clause-centres c = is_sum_at_centres c.args.arcs.now (counted c.args.signals c.args.scale) (c.args.pair.now ∷ []) c.sum_pairs.result
    (of_pair c.args.arcs.now
    (counted c.args.signals c.args.scale) c.counted_signals.result.now c.args.pair.now c.from_ref.result.now c.sum_pairs.result c.counted_signals.ensures.value c.from_ref.ensures.value
    c.sum_pairs.ensures)

pub returns-clause-below : goal.returns-clause-below
returns-clause-below c = stays_below c.args.arcs.now (counted c.args.signals c.args.scale) (c.args.pair.now ∷ []) c.sum_pairs.result
    (of_pair c.args.arcs.now
    (counted c.args.signals c.args.scale) c.counted_signals.result.now c.args.pair.now c.from_ref.result.now c.sum_pairs.result c.counted_signals.ensures.value c.from_ref.ensures.value
    c.sum_pairs.ensures)
