use Rattle.std.proofs.Common.{◌≡◌, ◌++◌, drop}
use Rattle.rinex2_obs.specs.Profile.{kept_from}
use Rattle.rinex2_obs.proofs.profile.kept_types.Given as goal

abbrev pub invariant-loop-number : goal.invariant-loop-number
invariant-loop-number l = kept_from 0 l.fn.names ≡ l.kept.items ++ kept_from l.number (drop l.number l.fn.names)
