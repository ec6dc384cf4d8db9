use Rattle.std.proofs.Common.{◌≡◌, ◌++◌, drop}
use Rattle.sim_session.specs.ObservationText.{further_fields}
use Rattle.sim_session.proofs.texts.write_further.Given as goal

abbrev pub invariant-loop-amount : goal.invariant-loop-amount
invariant-loop-amount l = l.out.items ++ further_fields (drop l.amount-index l.amounts) ≡ l.fn.out.items ++ further_fields l.amounts
