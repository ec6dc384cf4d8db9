use Rattle.std.proofs.Common.{◌≡◌, get_or, ap, arith}
use Rattle.std.proofs.lemmas.List.Elements.{All-push}
use Rattle.eph_store.specs.declared.ephemeris.Eph.{Eph}
use Rattle.sv_orbit.specs.declared.record.SvRecord.{SvRecord}
use Rattle.screening.proofs.TableLaws.{own_more}
use Rattle.screening.proofs.records.records_of.Goals as goal

pub records-preserved : goal.records-preserved
records-preserved c =
    let same : c.index-fit-at.result.sat ≡ (get_or c.args.fit.now c.records.at c.index-fit-at.result).sat = ap (λ (e : Eph). e.sat) c.index-fit-at.is in
    let named = c.if-fit-at.false in
    let inside = c.records-test.true in
    record {
      to_end = omega (arith, inside);
      own = rw c.in_ok-push.ensures.items (own_more c.args.fit.now c.records.at c.args.sat c.index-fit-at.result c.index-fit-at-in-records.result c.records.items.items c.of.result inside
          c.index-fit-at.is c.index-fit-at-in-records.is (omega (arith, named, same)) c.of.ensures.eph c.records.invariant.own);
      constants = rw c.in_ok-push.ensures.items (All-push (λ (r : SvRecord). r.clock.world ≡ c.args.world.now) c.records.items.items c.of.result c.records.invariant.constants c.of.ensures.world);
    }
