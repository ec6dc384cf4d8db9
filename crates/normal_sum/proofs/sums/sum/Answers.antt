use Rattle.obs_rows.specs.Signals.{counted}
use Rattle.normal_sum.proofs.NormalInvariants.{of_session}
use Rattle.normal_sum.proofs.NormalValues.{is_sum_at_centres, stays_below}
use Rattle.normal_sum.proofs.sums.sum.Goals as goal

pub returns-clause-normal : goal.returns-clause-normal
returns-clause-normal c =
    of_session c.args.session.now c.as_slice.result.now c.counted_signals.result.now c.as_slice-2.result.now c.sum_pairs.result c.as_slice.ensures c.counted_signals.ensures.value
    c.as_slice-2.ensures c.sum_pairs.ensures

pub returns-clause-centres : goal.returns-clause-centres
returns-clause-centres c = is_sum_at_centres c.args.session.now.arcs (counted c.args.session.now.signals c.args.session.now.scale) c.args.session.now.pairs c.sum_pairs.result
    (of_session c.args.session.now c.as_slice.result.now c.counted_signals.result.now c.as_slice-2.result.now c.sum_pairs.result c.as_slice.ensures c.counted_signals.ensures.value
    c.as_slice-2.ensures c.sum_pairs.ensures)

pub returns-clause-below : goal.returns-clause-below
returns-clause-below c = stays_below c.args.session.now.arcs (counted c.args.session.now.signals c.args.session.now.scale) c.args.session.now.pairs c.sum_pairs.result
    (of_session c.args.session.now c.as_slice.result.now c.counted_signals.result.now c.as_slice-2.result.now c.sum_pairs.result c.as_slice.ensures c.counted_signals.ensures.value
    c.as_slice-2.ensures c.sum_pairs.ensures)
