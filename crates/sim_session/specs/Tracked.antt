-- What an observation file has of what is observed.
use Rattle.std.specs.Prelude.{ℕ, ℤ, List, [], ◌∷◌}
use Rattle.sim_session.specs.declared.signals.Signals.{Signals}
use Rattle.sim_session.specs.declared.signals.Tracking.{Tracking}
use Rattle.sim_session.specs.declared.signals.Tracking.TheVariants.{GpsL1L2, GpsL1L2L5, GalileoE1E5a}

-- `G` and `E`
abbrev pub system_letter : Tracking → ℕ
system_letter GpsL1L2 = 71
system_letter GpsL1L2L5 = 71
system_letter GalileoE1E5a = 69

-- a satellite's amounts in the order of the types: on each band the code in mm and then the phase in thousandths of a cycle
abbrev pub amounts_of : Tracking → Signals → List ℤ
amounts_of GpsL1L2 s = s.code ∷ s.l1 ∷ s.code ∷ s.l2 ∷ []
amounts_of GpsL1L2L5 s = s.code ∷ s.l1 ∷ s.code ∷ s.l2 ∷ s.code ∷ s.l5 ∷ []
amounts_of GalileoE1E5a s = s.code ∷ s.l1 ∷ s.code ∷ s.l5 ∷ []
