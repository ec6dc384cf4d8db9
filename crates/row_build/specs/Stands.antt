-- What it means that a session stands for its files: in the terms of the files, and of the solutions of the user algorithm.
use Rattle.std.specs.Prelude.{◌≡◌, ℕ, Some, List, length, map, All, slice_get, ℤ, pos, ◌≤ℤ◌}
use Rattle.whole_math.specs.Rational.{Near}
use Rattle.orbit_model.specs.Solution.{Quantities}
use Rattle.orbit_model.specs.SeenPlaces.{Position, IsSeenPlace, IsDisplacement, IsMeanDirection, sent_place, place_at}
use Rattle.eph_store.specs.declared.ephemeris.Eph.{Eph}
use Rattle.obs_store.specs.declared.series.Epoch.{Epoch}
use Rattle.epoch_pair.specs.declared.pairs.PairOf.{PairOf}
use Rattle.obs_rows.specs.declared.bands.Signals.{Signals}
use Rattle.obs_rows.specs.declared.arcs.Arc.{Arc}
use Rattle.obs_rows.specs.declared.rows.Row.{Row}
use Rattle.obs_rows.specs.declared.pair_rows.PairRows.{PairRows}
use Rattle.obs_rows.specs.declared.sessions.Session.{Session}
use Rattle.obs_rows.specs.Data.{number_at}
use Rattle.obs_rows.specs.declared.signal_names.TheConstants.{L1_CODE}
use Rattle.obs_rows.specs.Signals.{counted, band}
use Rattle.obs_rows.specs.Rounds.{Round, round_of}
use Rattle.obs_rows.specs.Unused.{IsZeroOff}
use Rattle.obs_rows.specs.declared.used.UsedPair.{UsedPair}
use Rattle.slip_arcs.specs.Runs.{AreKept}
use Rattle.slip_arcs.specs.Linked.{HaveDatums}
use Rattle.screening.specs.Amounts.{differences}
use Rattle.screening.specs.Sightings.{Setting, Sent, code_of}
use Rattle.screening.specs.Sightings.{ObservedSat, IsObservedSat}
use Rattle.screening.specs.Screening.{AreEpochsOf, AreUsedPairs}
use Rattle.row_boxes.specs.Sightings.{Sighting, y_in_rows}
use Rattle.row_boxes.specs.YBoxes.{most_radius, MeetsOne}
use Rattle.row_build.specs.HeldArcs.{arcs_at}
use Rattle.row_build.specs.Rows.{IsInU}
use Rattle.row_build.specs.SessionRows.{pairs_held}

-- where a session comes from: the rules by which satellites are used; the epochs of both receivers, and which pairs of them are taken;
-- the bands, the jump and the least number of pairs by which arcs are cut and kept; the system, the base's position and the signals
pub record Origin : Type 0 where
  pub setting : Setting
  pub base : List Epoch
  pub rover : List Epoch
  pub taken : List PairOf
  pub bands : List ℕ
  pub jump : ℕ
  pub least : ℕ
  pub system : ℕ
  pub position : List ℤ
  pub signals : Signals

-- the epochs of a pair
pub record PairEpochs : Type 0 where
  pub base : Epoch
  pub rover : Epoch

-- what a receiver at the point may have seen: a solution for its own tag and L1 code, and where the satellite is seen then
pub record IsSolved (setting : Setting) (eph : Eph) (tag : ℕ) (code : ℤ) (point : List ℤ) (s : Sighting) : Type 0 where
  pub solution : Quantities
  pub sent : Sent setting eph tag code solution
  pub place : s.sent ≡ sent_place solution
  pub clock : s.clock ≡ solution.clock
  pub seen : IsSeenPlace s.sent (place_at point) s.travel s.seen

-- there is such a sighting
pub record HasSolved (setting : Setting) (eph : Eph) (tag : ℕ) (code : ℤ) (point : List ℤ) : Type 0 where
  pub sighting : Sighting
  pub is : IsSolved setting eph tag code point sighting

-- A row of an arc's satellite in the pair of these epochs: both receivers see it in some solution, each counted y box holds
-- observed - computed - group - λ shift for every solution of either receiver, and each u box the mean direction for every one of the
-- rover and every displacement.
pub record StandsForRow (from : Origin) (round : Round) (epochs : PairEpochs) (group : ℤ) (arc : Arc) (r : Row) : Type 0 where
  pub observed : ObservedSat
  pub are : IsObservedSat from.setting epochs.base epochs.rover arc.sat observed
  pub base_sees : HasSolved from.setting observed.eph epochs.base.tag.0 (code_of observed.base) from.position
  pub rover_sees : HasSolved from.setting observed.eph epochs.rover.tag.0 (code_of observed.rover) round.point
  pub y : (b q : Sighting) → IsSolved from.setting observed.eph epochs.base.tag.0 (code_of observed.base) from.position b →
      IsSolved from.setting observed.eph epochs.rover.tag.0 (code_of observed.rover) round.point q →
      All (λ s. Near (number_at r.y s) r.ry
      (y_in_rows round.scale s (number_at (differences observed.base observed.rover) s) group (number_at arc.shift (band s)) b q))
      (counted from.signals round.scale)
  pub u : (q : Sighting) (move direction : Position) →
      IsSolved from.setting observed.eph epochs.rover.tag.0 (code_of observed.rover) round.point q → IsDisplacement move →
      IsMeanDirection q.seen (place_at round.point) move direction →
      IsInU 0 r.u r.ru direction.x × IsInU 1 r.u r.ru direction.y × IsInU 2 r.u r.ru direction.z
  pub radius : r.ry ≤ℤ most_radius round.scale
  pub others : IsZeroOff (counted from.signals round.scale) r.y
  pub narrow : All (λ n. n ≤ℤ pos 32) r.ru

-- the rows of one taken pair in this round: exactly one for each arc that holds it
pub record StandsForPair (from : Origin) (round : Round) (p : PairRows) : Type 0 where
  pub pair : PairOf
  pub epochs : PairEpochs
  pub pair_is : slice_get from.taken p.number ≡ Some pair
  pub epochs_are : AreEpochsOf from.base from.rover pair epochs.base epochs.rover
  pub tag : p.tag ≡ epochs.base.tag
  pub held : map (λ r. r.arc) p.rows ≡ arcs_at round.arcs p.number
  pub rows : All (λ r. (a : Arc) → slice_get round.arcs r.arc ≡ Some a → StandsForRow from round epochs p.group a r) p.rows
  pub group : (r : Row) → slice_get p.rows 0 ≡ Some r → MeetsOne round.scale (number_at r.y L1_CODE) r.ry

-- the session of this origin at this point, with these shifts and at this scale
pub record StandsForFiles (from : Origin) (point : List ℤ) (shifts : List (List ℤ)) (scale : ℕ) (s : Session) : Type 0 where
  pub system_is : s.system ≡ from.system
  pub base_is : s.base ≡ from.position
  pub point_is : s.point ≡ point
  pub scale_is : s.scale ≡ scale
  pub signals_are : s.signals ≡ from.signals
  pub used : List UsedPair
  pub used_are : AreUsedPairs from.setting from.base from.rover from.taken used
  pub short : ℕ
  pub kept : AreKept from.bands from.jump from.least used s.arcs short
  pub datums : HaveDatums s.arcs
  pub shifts_are : map (λ a. a.shift) s.arcs ≡ shifts
  -- exactly the pairs that some arc holds
  pub numbers : map (λ p. p.number) s.pairs ≡ pairs_held s.arcs (length from.taken)
  pub pairs : All (StandsForPair from (round_of s)) s.pairs
