use Rattle.epoch_pair.proofs.Letters.{l1_used, letter_or_zero, one_more, on_each_band}
use Rattle.epoch_pair.proofs.shared.signals.Goals as goal

pub invariant_of-result : goal.invariant_of-result
invariant_of-result c =
    let base = c.args.base.now.listed in
    let rover = c.args.rover.now.listed in
    record {
      on_l1 = l1_used base rover c.args.bands c.in_ok-l1.l1 c.requires c.in_ok-l1.ensures;
      on_l2 = letter_or_zero base rover 1 c.in_ok-l2.l2 _ c.in_ok-l2.ensures;
      on_l5 = letter_or_zero base rover 2 c.in_ok-l5.l5 _ c.in_ok-l5.ensures;
      two_bands = one_more base rover c.args.bands c.in_ok-l2.l2 c.in_ok-l5.l5 c.requires c.in_ok-l2.ensures c.in_ok-l5.ensures;
    }

pub returns : goal.returns
returns c = on_each_band _ c.in_ok-l1.ensures c.in_ok-l2.ensures c.in_ok-l5.ensures
