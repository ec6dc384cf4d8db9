use Rattle.std.proofs.Common.{◌≡◌, ◌+◌, ◌*◌, ◌≤◌, length}
use Rattle.obs_fields.specs.Layouts.{first_name_of}
use Rattle.obs_fields.specs.Types.{names_from}
use Rattle.obs_fields.proofs.types.add_names.Given as goal

abbrev pub invariant-names : goal.invariant-names
invariant-names l = record {
  value : names_from l.layout l.line (first_name_of l.layout) l.count l.fn.names ≡ names_from l.layout l.line l.first l.left l.names;
  room : length l.names + l.left ≡ length l.fn.names + l.count;
  near : l.first + 6 * l.left ≤ 11 + 6 * l.count;
  from : 1 ≤ l.first;
}

abbrev pub decreases-names : goal.decreases-names
decreases-names l = l.left
