use Rattle.std.proofs.Common.{◌≡◌, ◌≤◌, ℕ, Bool, List, ◌∷◌, Option, Some, length}
use Rattle.gps_time.specs.declared.Tick.{Tick}
use Rattle.obs_store.specs.declared.series.Epoch.{Epoch}
use Rattle.obs_store.specs.declared.values.SatObs.{SatObs}
use Rattle.rinex_head.specs.LineRules.{rest_gives}
use Rattle.rinex2_obs.specs.Rows.{rows_of}
use Rattle.rinex2_obs.specs.Obs2Rules.{more_sats, more_rows, obs2_rules}
use Rattle.rinex2_obs.proofs.sats.read_rows.Given as goal

abbrev pub invariant-loop-at : goal.invariant-loop-at
invariant-loop-at l = record {
  reads : (number : ℕ) (epochs : List Epoch) (tag : Tick) (power : Bool) (sats : List SatObs) (names : List (Option ℕ))
      → rest_gives obs2_rules l.fn.lines (more_sats l.header epochs tag power sats (Some number ∷ names))
      ≡ rest_gives obs2_rules l.lines (more_rows l.header epochs tag power sats (Some number) names l.at l.values);
  less : length l.lines.left ≤ length l.fn.lines.left;
  end : l.at-end ≡ rows_of l.header.types;
}
