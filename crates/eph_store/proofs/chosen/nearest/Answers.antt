-- One record more, and all of them.
use Rattle.std.proofs.Common.{◌∙◌, arith}
use Rattle.std.proofs.lemmas.List.{take_all}
use Rattle.eph_store.proofs.ChosenLaws.{step_stays, step_new, best_of_all}
use Rattle.eph_store.proofs.chosen.nearest.Goals.{then-eph-sat+then-abs_diff-limit, else-eph-sat, else-eph-sat-via-then-eph-sat+else-abs_diff-limit, else-eph-sat-via-else-eph-sat}
use Rattle.eph_store.proofs.chosen.nearest.Goals as goal

pub loop-eph-preserved : goal.loop-eph-preserved
loop-eph-preserved c = elim c.if-eph-sat.branch [
  | then-eph-sat+then-abs_diff-limit w ↦
      step_new c.loop-eph.best _ _ c.loop-eph.limit _ c.loop-eph.eph-index c.args.fit.now c.args.sat c.args.tag.0 w.best-is
      (w.limit-is ∙ w.abs_diff-limit.ensures) c.loop-eph-test.true c.eph-item.is c.loop-eph.invariant w.if-eph-sat.true
      (omega (arith, w.abs_diff.ensures, w.if-abs_diff-limit.true))
  | else-eph-sat w ↦
      step_stays c.loop-eph.best _ c.loop-eph.limit _ c.loop-eph.eph-index c.args.fit.now c.args.sat c.args.tag.0 c.eph-item.result w.best-is
      w.limit-is c.loop-eph-test.true c.eph-item.is c.loop-eph.invariant
      (elim w.else-eph-sat.branch [
        | else-eph-sat-via-then-eph-sat+else-abs_diff-limit v ↦ λ named near. omega (arith, near, v.abs_diff.ensures, v.if-abs_diff-limit.false)
        | else-eph-sat-via-else-eph-sat v ↦ λ named near. v.if-eph-sat.false named
      ])
]

pub returns : goal.returns
returns c = best_of_all c.loop-eph.best c.loop-eph.limit c.loop-eph.eph-index c.args.fit.now _ c.args.sat c.args.tag.0
    (take_all c.loop-eph.eph-index c.args.fit.now c.loop-eph-test.false) c.loop-eph.invariant
