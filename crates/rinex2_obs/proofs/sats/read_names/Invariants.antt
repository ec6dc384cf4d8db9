use Rattle.std.proofs.Common.{◌≡◌, ◌+◌, ◌≤◌, Bool, List, length}
use Rattle.gps_time.specs.declared.Tick.{Tick}
use Rattle.obs_store.specs.declared.series.Epoch.{Epoch}
use Rattle.rinex_head.specs.LineRules.{rest_gives}
use Rattle.obs_fields.specs.declared.header.Header.{Header}
use Rattle.rinex2_obs.specs.Obs2Rules.{more_names, obs2_rules}
use Rattle.rinex2_obs.proofs.sats.read_names.Given as goal

abbrev pub invariant-names : goal.invariant-names
invariant-names l = record {
  reads : (h : Header) (epochs : List Epoch) (tag : Tick) (power : Bool)
      → rest_gives obs2_rules l.fn.lines (more_names h epochs tag power l.fn.list.names l.fn.list.left)
      ≡ rest_gives obs2_rules l.lines (more_names h epochs tag power l.list.names l.list.left);
  less : length l.lines.left ≤ length l.fn.lines.left;
  room : length l.list.names + l.list.left ≤ 999;
}

abbrev pub decreases-names : goal.decreases-names
decreases-names l = length l.lines.left
