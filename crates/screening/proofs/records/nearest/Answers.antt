-- One record more, and all of them.
use Rattle.std.proofs.Common.{◌≡◌, ◌∙◌, Option, Bor, IfSome, arith, sym, subst}
use Rattle.std.specs.Option.{option_map}
use Rattle.eph_store.proofs.ChosenLaws.{best_of_all}
use Rattle.sv_orbit.specs.declared.record.SvRecord.{SvRecord}
use Rattle.screening.specs.Tables.{ephs_of}
use Rattle.screening.proofs.TableLaws.{eph_in, own_stays, own_new, in_world, all_ephs, chosen_eph}
use Rattle.screening.proofs.records.nearest.Goals.{then-eph-sat+then-abs_diff-limit, else-eph-sat, else-eph-sat-via-then-eph-sat+else-abs_diff-limit, else-eph-sat-via-else-eph-sat}
use Rattle.screening.proofs.records.nearest.Goals as goal

pub loop-record-preserved : goal.loop-record-preserved
loop-record-preserved c = elim c.if-eph-sat.branch [
  | then-eph-sat+then-abs_diff-limit w ↦ record {
    best = own_new c.loop-record.best _ _ c.loop-record.limit _ c.loop-record.record-index c.args.own.now c.args.sat c.args.tag.0 w.best-is
        (w.limit-is ∙ w.abs_diff-limit.ensures) c.loop-record-test.true c.record-item.is c.loop-record.invariant.best w.if-eph-sat.true
        (omega (arith, w.abs_diff.ensures, w.if-abs_diff-limit.true));
    constants = λ world all. in_world _ _ c.loop-record.record-index c.args.own.now world w.best-is c.loop-record-test.true c.record-item.is all;
  }
  | else-eph-sat w ↦ record {
    best = own_stays c.loop-record.best _ c.loop-record.limit _ c.loop-record.record-index c.args.own.now c.args.sat c.args.tag.0 c.record-item.result w.best-is
        w.limit-is c.loop-record-test.true c.record-item.is c.loop-record.invariant.best
        (elim w.else-eph-sat.branch [
          | else-eph-sat-via-then-eph-sat+else-abs_diff-limit v ↦ λ named near. omega (arith, near, v.abs_diff.ensures, v.if-abs_diff-limit.false)
          | else-eph-sat-via-else-eph-sat v ↦ λ named near. v.if-eph-sat.false named
        ]);
    constants = λ world all. subst (λ (o : Option (Bor SvRecord)). IfSome o (λ r. r.now.clock.world ≡ world)) (sym w.best-is) (c.loop-record.invariant.constants world all);
  }
]

pub returns-clause-chosen : goal.returns-clause-chosen
returns-clause-chosen c = chosen_eph c.loop-record.best (ephs_of c.args.own.now) c.args.sat c.args.tag.0
    (best_of_all (option_map eph_in c.loop-record.best) c.loop-record.limit c.loop-record.record-index (ephs_of c.args.own.now) _ c.args.sat c.args.tag.0
    (all_ephs c.loop-record.record-index c.args.own.now c.loop-record-test.false) c.loop-record.invariant.best)
