-- What stands before the pairs of a session: its scale, its system, its points, its signals and its arcs.
use Rattle.std.specs.Prelude.{◌≡◌}
use Rattle.obs_rows.specs.declared.session_builder.SessionBuilder.{SessionBuilder}
use Rattle.obs_rows.specs.declared.sessions.Session.{Session}

-- of a session that is being made, all but the pairs is as it was
pub record KeepsHead (old new : SessionBuilder) : Type 0 where
  pub scale : new.scale ≡ old.scale
  pub system : new.system ≡ old.system
  pub base : new.base ≡ old.base
  pub point : new.point ≡ old.point
  pub signals : new.signals ≡ old.signals
  pub arcs : new.arcs ≡ old.arcs

-- the session is that which was begun so, but for its pairs
pub record HasHeadOf (begun : SessionBuilder) (s : Session) : Type 0 where
  pub scale : s.scale ≡ begun.scale
  pub system : s.system ≡ begun.system
  pub base : s.base ≡ begun.base
  pub point : s.point ≡ begun.point
  pub signals : s.signals ≡ begun.signals
  pub arcs : s.arcs ≡ begun.arcs
