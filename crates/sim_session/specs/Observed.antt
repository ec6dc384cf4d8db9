-- What a receiver observes of a satellite, as relations to every solution of the satellite's place and clock and of the seen place: there is
-- one at each step.
use Rattle.std.specs.Prelude.{◌≡◌, ℕ, zero, suc, ◌/◌, ◌^◌, List, [], ◌∷◌, ℤ, pos, ◌+ℤ◌, ◌-ℤ◌, ◌*ℤ◌, unsigned_abs, slice_index_or}
use Rattle.std.proofs.Common.{lit<}
use Rattle.whole_math.specs.Rational.{Rational, of_whole, ◌+ʳ◌, ◌-ʳ◌, ◌*ʳ◌, divided, AreWithin, InBox}
use Rattle.obs_rows.specs.declared.units.TheConstants.{UNIT_FREQUENCY, LIGHT_SPEED}
use Rattle.obs_rows.specs.Signals.{wavelength}
use Rattle.eph_store.specs.declared.ephemeris.Eph.{Eph}
use Rattle.orbit_model.specs.Elements.{Constants, sent_at, elements_of}
use Rattle.orbit_model.specs.Solution.{Quantities, IsNearSolution}
use Rattle.sim_session.specs.declared.signals.Signals.{Signals}
use Rattle.orbit_model.specs.SeenPlaces.{Position, point_of, IsSeenPlace, range_of, sent_place}

-- the range less c times what the satellite's clock is ahead, in metres
abbrev pub distance : Rational → Rational → Rational
distance travel clock = range_of travel -ʳ of_whole LIGHT_SPEED *ʳ clock

-- v is that distance in a solution by a system's constants at the tag with this code in mm, where the satellite is seen from the point
pub record IsSolvedDistance (world : Constants) (eph : Eph) (tag : ℕ) (code : ℤ) (point : List ℤ) (v : Rational) : Type 0 where
  pub solution : Quantities
  pub is_solution : IsNearSolution world (elements_of eph) (sent_at tag code) solution
  pub x : ℤ
  pub y : ℤ
  pub z : ℤ
  pub point_is : point ≡ x ∷ y ∷ z ∷ []
  pub travel : Rational
  pub seen : Position
  pub is_seen : IsSeenPlace (sent_place solution) (point_of x y z) travel seen
  pub distance_is : v ≡ distance travel solution.clock

-- there is such a distance, and P holds of every one
pub record ForSolutions (world : Constants) (eph : Eph) (tag : ℕ) (code : ℤ) (point : List ℤ) (P : Rational → Type 0) : Type 0 where
  pub some : Rational
  pub exists : IsSolvedDistance world eph tag code point some
  pub every : (v : Rational) → IsSolvedDistance world eph tag code point v → P v

-- what the receiver measures of a distance, with its own clock term, in mm
abbrev pub measured : ℤ → Rational → Rational
measured clock v = of_whole (pos 1000) *ʳ v +ʳ of_whole clock

-- there is a solution with the code `before`, and `after` is within 2 mm of what is measured in every one
abbrev pub IsCodeAfter : Constants → Eph → ℕ → List ℤ → ℤ → ℤ → ℤ → Type 0
IsCodeAfter world eph tag point clock before after = ForSolutions world eph tag before point (λ v. AreWithin (of_whole (pos 2)) (of_whole after) (measured clock v))

-- the code is reached from 25,000 km in n such steps
abbrev pub IsReachedIn : ℕ → Constants → Eph → ℕ → List ℤ → ℤ → ℤ → Type 0
IsReachedIn zero world eph tag point clock code = code ≡ pos 25000000000
IsReachedIn (suc n) world eph tag point clock code = (before : ℤ) × (IsReachedIn n world eph tag point clock before × IsCodeAfter world eph tag point clock before code)

-- a length in mm over the wavelength of a carrier of `frequency` Hz, in thousandths of a cycle: the wavelength is c / frequency
abbrev pub thousandths : ℕ → Rational → Rational
thousandths frequency mm = divided (of_whole (pos frequency) *ʳ mm) (unsigned_abs LIGHT_SPEED) (lit< tt)

-- there is a solution with that code, and the phase is within 2 thousandths of a cycle of what is measured in every one, and these
-- whole cycles
abbrev pub IsPhase : ℕ → Constants → Eph → ℕ → List ℤ → ℤ → ℤ → ℤ → ℤ → Type 0
IsPhase frequency world eph tag point clock code cycles phase = ForSolutions world eph tag code point
    (λ v. AreWithin (of_whole (pos 2)) (of_whole phase) (thousandths frequency (measured clock v) +ʳ of_whole (pos 1000 *ℤ cycles)))

-- the carrier of a phase in Hz: in a period of it light travels the wavelength, in one of the unit's frequency the unit
abbrev pub carrier : ℕ → ℕ
carrier signal = unsigned_abs UNIT_FREQUENCY / unsigned_abs (wavelength signal)

-- a satellite's observations by a receiver at a point with a clock term, with those whole cycles on L1, L2 and L5
pub record IsObserved (world : Constants) (tag : ℕ) (point : List ℤ) (clock : ℤ) (eph : Eph) (cycles : List ℤ) (s : Signals) : Type 0 where
  -- P_6, from P_0 of 25,000 km
  pub code : IsReachedIn 6 world eph tag point clock s.code
  -- signals 0, 1 and 4 are these phases, with carriers of 154, 120 and 115 times 10.23 MHz (`signals_law` of obs_rows)
  pub l1 : IsPhase (carrier 0) world eph tag point clock s.code (slice_index_or cycles 0 (pos 0)) s.l1
  pub l2 : IsPhase (carrier 1) world eph tag point clock s.code (slice_index_or cycles 1 (pos 0)) s.l2
  pub l5 : IsPhase (carrier 4) world eph tag point clock s.code (slice_index_or cycles 2 (pos 0)) s.l5

-- the distance is less than a unit of 2^-36 m below `units` of them, and at most 2^20 above: within 2^-16 m
abbrev pub IsDistance : ℤ → Rational → Type 0
IsDistance units v = InBox 36 (units -ℤ pos 1) (units +ℤ pos (2 ^ 20)) v
