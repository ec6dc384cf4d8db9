-- the best of the records so far, and how near another must be
use Rattle.std.proofs.Common.{◌≡◌, take, IfSome}
use Rattle.std.specs.Option.{option_map}
use Rattle.eph_store.proofs.ChosenLaws.{BestSoFar}
use Rattle.sv_orbit.specs.declared.world.World.{World}
use Rattle.screening.specs.Tables.{ephs_of, AreIn}
use Rattle.screening.proofs.TableLaws.{eph_in}
use Rattle.screening.proofs.records.nearest.Given as goal

abbrev pub invariant-loop-record : goal.invariant-loop-record
invariant-loop-record l = record {
  best : BestSoFar (option_map eph_in l.best) l.limit (take l.record-index (ephs_of l.own)) l.sat l.tag.0;
  constants : (world : World) → AreIn world l.own → IfSome l.best (λ r. r.now.clock.world ≡ world);
}
