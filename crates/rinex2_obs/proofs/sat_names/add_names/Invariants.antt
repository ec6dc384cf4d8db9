use Rattle.std.proofs.Common.{◌≡◌, ◌+◌, ◌*◌, ◌≤◌, length}
use Rattle.rinex2_obs.specs.SatNames.{names_from}
use Rattle.rinex2_obs.proofs.sat_names.add_names.Given as goal

abbrev pub invariant-names : goal.invariant-names
invariant-names l = record {
  value : names_from l.line 33 l.count l.fn.names ≡ names_from l.line l.first l.left l.names;
  room : length l.names + l.left ≡ length l.fn.names + l.count;
  near : l.first + 3 * l.left ≤ 33 + 3 * l.count;
  from : 1 ≤ l.first;
}

abbrev pub decreases-names : goal.decreases-names
decreases-names l = l.left
