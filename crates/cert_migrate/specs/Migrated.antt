-- All that holds of a lifted certificate.
use Rattle.std.specs.Prelude.{◌≡◌}
use Rattle.cert_data.specs.declared.certs.Cert.{Cert}
use Rattle.cert_data.specs.declared.tails.Tail.{Tail}
use Rattle.cert_migrate.specs.declared.old_certs.OldCert.{OldCert}
use Rattle.cert_migrate.specs.Lifted.{IsLiftedSession, HasScaledData, HasScaledSums, IsOldBestWhereFixed, IsOldBestByRatioWhereFixed}
use Rattle.cert_check.specs.Settled.{IsBestWhereFixed, IsBestByRatioWhereFixed}
use Rattle.cert_check.specs.RowDecisions.{IsRowDecision, IsSameTail}

-- The session is lifted and the rows are decided again, to their one decision. The old boxes' data are data
-- of the new ones, the sums of squares are those of the old session in the new unit, and what is fixed is strictly best, and best
-- by the ratio, in the old boxes and in the new ones, which are those that are printed.
pub record IsMigrated (old : OldCert) (new : Cert) : Type 0 where
  pub ratio : new.ratio ≡ old.ratio
  pub budget : new.budget ≡ old.budget
  pub session : IsLiftedSession old.session new.session
  pub tail : IsRowDecision new.session new.ratio new.budget new.tail
  pub only : (t : Tail) → IsRowDecision new.session new.ratio new.budget t → IsSameTail t new.tail
  pub new_best : IsBestWhereFixed new.session new.tail
  pub new_by_ratio : IsBestByRatioWhereFixed new.ratio new.session new.tail
  pub boxes : HasScaledData old.session new.session
  pub sums : HasScaledSums old.session new.session
  pub best : IsOldBestWhereFixed old.session new.tail
  pub by_ratio : IsOldBestByRatioWhereFixed new.ratio old.session new.tail
