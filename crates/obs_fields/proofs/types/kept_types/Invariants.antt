use Rattle.std.proofs.Common.{◌≡◌, ◌++◌, drop}
use Rattle.obs_fields.specs.Types.{kept_from}
use Rattle.obs_fields.proofs.types.kept_types.Given as goal

abbrev pub invariant-loop-number : goal.invariant-loop-number
invariant-loop-number l = kept_from l.system 0 l.fn.names ≡ l.kept.items ++ kept_from l.system l.number (drop l.number l.fn.names)
