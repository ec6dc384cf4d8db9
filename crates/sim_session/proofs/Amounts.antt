-- Amounts that have room in their columns.
use Rattle.std.proofs.Common.{◌≡◌, ℤ, w64, to_z, of_z, arith}
use Rattle.std.proofs.lemmas.Int.{ints}
use Rattle.sim_session.specs.ObservationText.{IsInColumns}

pub plain : (z : ℤ) → IsInColumns z → to_z w64 (of_z w64 z) ≡ z
plain z h = omega (arith, ints, h.0, h.1)
