-- The values of a satellite of which none is there.
use Rattle.std.specs.Prelude.{List, replicate, None}
use Rattle.std.specs.declared.option.Option.{Option}
use Rattle.obs_store.specs.declared.values.Value.{Value}
use Rattle.obs_store.specs.Kinds.{slot_count}

abbrev pub missing_values : List (Option Value)
missing_values = replicate slot_count None
