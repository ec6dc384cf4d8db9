use Rattle.std.proofs.Common.{◌≡◌, ◌≤◌, Bool, List, [], length, drop}
use Rattle.gps_time.specs.declared.Tick.{Tick}
use Rattle.obs_store.specs.declared.series.Epoch.{Epoch}
use Rattle.rinex_head.specs.LineRules.{rest_gives}
use Rattle.rinex2_obs.specs.SatNumbers.{AreNames, AreNew}
use Rattle.rinex2_obs.specs.Obs2Rules.{more_sats, obs2_rules}
use Rattle.rinex2_obs.proofs.sats.read_satellites.Given as goal

abbrev pub invariant-loop-name : goal.invariant-loop-name
invariant-loop-name l = record {
  reads : (epochs : List Epoch) (tag : Tick) (power : Bool) → rest_gives obs2_rules l.fn.lines (more_sats l.header epochs tag power [] l.names)
      ≡ rest_gives obs2_rules l.lines (more_sats l.header epochs tag power l.sats (drop l.name-index l.names));
  named : AreNames (drop l.name-index l.names);
  new : AreNew l.sats (drop l.name-index l.names);
  less : length l.lines.left ≤ length l.fn.lines.left;
}
