use Rattle.normal_sum.proofs.NormalInvariants.{of_session}
use Rattle.normal_sum.proofs.sums.refill_sum.Goals as goal

pub returns : goal.returns
returns c =
    of_session c.args.session.now c.as_slice.result.now c.counted_signals.result.now c.as_slice-2.result.now c.refill.new.normal c.as_slice.ensures c.counted_signals.ensures.value
    c.as_slice-2.ensures c.refill.ensures
