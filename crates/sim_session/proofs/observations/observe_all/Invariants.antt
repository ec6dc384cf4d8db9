use Rattle.std.proofs.Common.{◌≡◌, ℕ, ◌<◌, List, length, ℤ, All, get_or}
use Rattle.sv_orbit.specs.Records.{constants_of}
use Rattle.eph_store.specs.declared.ephemeris.Eph.{Eph}
use Rattle.sim_session.specs.declared.signals.Signals.{Signals}
use Rattle.sim_session.specs.ObservationText.{AreInColumns}
use Rattle.sim_session.specs.Observed.{IsObserved}
use Rattle.sim_session.proofs.observations.observe_all.Given as goal

abbrev pub invariant-loop-k : goal.invariant-loop-k
invariant-loop-k l = record {
  count : length l.sats.items ≡ l.k;
  each : (j : ℕ) (s : Signals) → j < l.k → (e : Eph) (c : List ℤ)
      → IsObserved (constants_of l.world) l.tag.0 l.receiver.point l.receiver.clock (get_or l.records j e) (get_or l.cycles j c) (get_or l.sats.items j s);
  columns : All AreInColumns l.sats.items;
}
