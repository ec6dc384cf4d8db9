use Rattle.std.proofs.Common.{◌^◌, ◌≤◌, ℤ, pos, ◌*ℤ◌, ◌≤ℤ◌, unsigned_abs, rules, sym, subst}
use Rattle.normal_sum.proofs.WeightLaws.{share_to, share_small}
use Rattle.normal_sum.proofs.signals.share.Goals as goal

pub returns-clause-value : goal.returns-clause-value
returns-clause-value c = search rules

pub returns-clause-to : goal.returns-clause-to
returns-clause-to c = subst (λ (x : ℤ). (x *ℤ pos c.args.rows) ≤ℤ pos (2 ^ 32)) (sym (returns-clause-value c)) (share_to c.args.rows c.args.signal)

pub returns-clause-size : goal.returns-clause-size
returns-clause-size c = subst (λ (x : ℤ). unsigned_abs x ≤ 2 ^ 32) (sym (returns-clause-value c)) (share_small c.args.rows c.args.signal c.requires.some)
