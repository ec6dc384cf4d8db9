-- What a receiver observes over a session, and the file that says it.
use Rattle.std.specs.Prelude.{◌≡◌, ℕ, ◌+◌, ◌*◌, ◌<◌, List, length, All, ℤ, slice_index_or, nat_le, if◌then◌else◌}
use Rattle.eph_store.specs.declared.ephemeris.Eph.{Eph}
use Rattle.orbit_model.specs.Elements.{Constants}
use Rattle.sim_session.specs.declared.signals.Signals.{Signals}
use Rattle.sim_session.specs.declared.signals.Tracking.{Tracking}
use Rattle.sim_session.specs.ObservationText.{observation_text, AreInColumns}
use Rattle.sim_session.specs.Observed.{IsObserved}

-- the seconds from one epoch to the next: 30 in sessions of up to 240 epochs
abbrev pub step_of : ℕ → ℕ
step_of epochs = if nat_le epochs 240 then 30 else 2

-- the tag of epoch i: 2024-01-01 00:00:00 and i steps
abbrev pub tag_of : ℕ → ℕ → ℕ
tag_of step i = 13881024000000000 + step * i * 10000000

-- the observations of all satellites at an epoch, by a receiver at a point with a clock term, each with room in its columns
pub record AreObserved (world : Constants) (tag : ℕ) (point : List ℤ) (clock : ℤ) (records : List Eph) (cycles : List (List ℤ)) (sats : List Signals) : Type 0 where
  pub as_many : length sats ≡ length records
  pub each : (k : ℕ) (e : Eph) (c : List ℤ) (s : Signals) → k < length sats →
      IsObserved world tag point clock (slice_index_or records k e) (slice_index_or cycles k c) (slice_index_or sats k s)
  pub columns : All AreInColumns sats

-- the text of a receiver's observations of what it tracks, at `epochs` epochs
pub record IsObservationText (epochs : ℕ) (t : Tracking) (world : Constants) (point : List ℤ) (clock : ℤ) (records : List Eph) (cycles : List (List ℤ)) (text : List ℕ) : Type 0 where
  pub values : List (List Signals)
  pub count : length values ≡ epochs
  pub text_is : text ≡ observation_text t (step_of epochs) values
  pub observed : (i : ℕ) (d : List Signals) → i < length values → AreObserved world (tag_of (step_of epochs) i) point clock records cycles (slice_index_or values i d)
