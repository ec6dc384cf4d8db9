use Rattle.obs_rows.specs.Signals.{counted}
use Rattle.normal_sum.proofs.NormalInvariants.{of_pair}
use Rattle.normal_sum.proofs.sums.refill_pair.Goals as goal

pub returns : goal.returns
returns c =
    of_pair c.args.arcs.now
    (counted c.args.signals c.args.scale) c.counted_signals.result.now c.args.pair.now c.from_ref.result.now c.refill.new.normal c.counted_signals.ensures.value c.from_ref.ensures.value
    c.refill.ensures
