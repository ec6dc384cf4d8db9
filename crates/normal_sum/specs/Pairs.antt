-- What is asked of the rows of a pair.
use Rattle.std.specs.Prelude.{ℕ, ◌<◌, List, length, map, All}
use Rattle.quadratic_form.specs.Rows.{SignalGroup}
use Rattle.obs_rows.specs.declared.pair_rows.PairRows.{PairRows}
use Rattle.obs_rows.specs.SignalGroups.{signal_group}
use Rattle.obs_rows.specs.declared.arcs.Arc.{Arc}
use Rattle.obs_rows.specs.declared.rows.Row.{Row}

-- each row names an arc of the list
abbrev pub HaveArcs : List Arc → List Row → Type 0
HaveArcs arcs rows = All (λ r. r.arc < length arcs) rows

-- the rows of a pair as each signal that counts sees them
abbrev pub pair_groups : List Arc → List ℕ → PairRows → List SignalGroup
pair_groups arcs ss p = map (signal_group arcs ss p) ss
