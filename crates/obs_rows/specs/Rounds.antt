-- A round of a run.
use Rattle.std.specs.Prelude.{ℕ, List, ℤ}
use Rattle.obs_rows.specs.declared.arcs.Arc.{Arc}
use Rattle.obs_rows.specs.declared.sessions.Session.{Session}
use Rattle.obs_rows.specs.declared.units.TheConstants.{COARSE_SCALE}

-- a round: its scale, the rover's point, and the arcs with their shifts
pub record Round : Type 0 where
  pub scale : ℕ
  pub point : List ℤ
  pub arcs : List Arc

-- the round of a session
abbrev pub round_of : Session → Round
round_of s = record { scale = s.scale; point = s.point; arcs = s.arcs }

-- coarse rounds use the code on L1 alone, fine ones all signals
abbrev pub coarse : List ℤ → List Arc → Round
coarse point arcs = record { scale = COARSE_SCALE; point = point; arcs = arcs }

abbrev pub fine : List ℤ → List Arc → Round
fine point arcs = record { scale = 0; point = point; arcs = arcs }
