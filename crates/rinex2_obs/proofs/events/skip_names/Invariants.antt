use Rattle.std.proofs.Common.{◌≡◌, ◌≤◌, ℕ, List, length}
use Rattle.obs_store.specs.declared.series.Epoch.{Epoch}
use Rattle.rinex_head.specs.LineRules.{rest_gives}
use Rattle.obs_fields.specs.declared.header.Header.{Header}
use Rattle.rinex2_obs.specs.Obs2Rules.{more_slips, obs2_rules}
use Rattle.rinex2_obs.proofs.events.skip_names.Given as goal

abbrev pub invariant-further : goal.invariant-further
invariant-further l = record {
  reads : (h : Header) (epochs : List Epoch) (rows : ℕ) → rest_gives obs2_rules l.fn.lines (more_slips h epochs l.count rows) ≡ rest_gives obs2_rules l.lines (more_slips h epochs l.left rows);
  less : length l.lines.left ≤ length l.fn.lines.left;
}

abbrev pub decreases-further : goal.decreases-further
decreases-further l = length l.lines.left
