use Rattle.std.proofs.Common.{◌≡◌, ◌≤◌, List, length}
use Rattle.obs_store.specs.declared.series.Epoch.{Epoch}
use Rattle.rinex_head.specs.LineRules.{rest_gives}
use Rattle.obs_fields.specs.declared.header.Header.{Header}
use Rattle.rinex2_obs.specs.Obs2Rules.{more_lines, obs2_rules}
use Rattle.rinex2_obs.proofs.events.skip_lines.Given as goal

abbrev pub invariant-skipped : goal.invariant-skipped
invariant-skipped l = record {
  reads : (h : Header) (epochs : List Epoch) → rest_gives obs2_rules l.fn.lines (more_lines h epochs l.changes l.count) ≡ rest_gives obs2_rules l.lines (more_lines h epochs l.changes l.left);
  less : length l.lines.left ≤ length l.fn.lines.left;
}

abbrev pub decreases-skipped : goal.decreases-skipped
decreases-skipped l = length l.lines.left
