use Rattle.std.proofs.Common.{rules, ◌≡◌, to_z, of_z, arith}
use Rattle.std.specs.Int.{w64}
use Rattle.screening.specs.Amounts.{amount_in}
use Rattle.screening.proofs.AmountLaws.{one_more, all_signals}
use Rattle.screening.proofs.amounts.amounts_in.Goals as goal

pub loop-signal-preserved : goal.loop-signal-preserved
loop-signal-preserved c =
    let same : to_z w64 (of_z w64 c.amount_in.result) ≡ amount_in c.args.types.now c.args.sat.now c.loop-signal.signal = search rules in
    record {
      all = search rules;
      done = one_more (λ s z. z ≡ amount_in c.args.types.now c.args.sat.now s) c.loop-signal.amounts c.loop-signal.signal _ (search rules) c.loop-signal.invariant.done same;
    }

pub returns : goal.returns
returns c = all_signals (amount_in c.args.types.now c.args.sat.now) c.loop-signal.amounts c.loop-signal.invariant.all (λ s inside. c.loop-signal.invariant.done s (omega (arith, inside)))
