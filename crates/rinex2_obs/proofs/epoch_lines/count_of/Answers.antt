use Rattle.std.proofs.Common.{◌≤◌, ℕ, Result, IfOk, sym, subst}
use Rattle.rinex_head.specs.declared.place.Flaw.{Flaw}
use Rattle.rinex2_obs.proofs.CountLaws.{count_few}
use Rattle.rinex2_obs.proofs.epoch_lines.count_of.Goals as goal

pub returns-clause-few : goal.returns-clause-few
returns-clause-few c = subst (λ (r : Result ℕ Flaw). IfOk r (λ n. n ≤ 999)) (sym c.count.ensures.value) (count_few c.args.line.now)
