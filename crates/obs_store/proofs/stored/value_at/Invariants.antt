-- The value in the slot among those that were passed.
use Rattle.std.proofs.Common.{◌≡◌, None, take, get_or}
use Rattle.obs_store.specs.Missing.{missing_values}
use Rattle.std.specs.Option.{option_map, option_copied}
use Rattle.obs_store.specs.Stored.{value_in, values_with}
use Rattle.obs_store.proofs.stored.value_at.Given as goal

abbrev pub invariant-loop-one : goal.invariant-loop-one
invariant-loop-one l = option_map value_in (option_copied l.found) ≡ get_or (values_with missing_values (take l.one-index l.stored)) l.slot None
