use Rattle.std.proofs.Common.{sym, subst}
use Rattle.whole_math.specs.Rational.{◌-ʳ◌, ◌*ʳ◌}
use Rattle.iv_core.specs.declared.Iv.{Iv}
use Rattle.iv_core.specs.Intervals.{Holds}
use Rattle.orbit_model.specs.Solution.{one}
use Rattle.orbit_place.proofs.Ellipses.{one_held}
use Rattle.orbit_place.proofs.ellipse.radius_of.Goals as goal

pub returns-clause-holds : goal.returns-clause-holds
returns-clause-holds c = λ e p h k.
    let anomaly = c.args.anomaly.now in
    let cos : Holds c.cosine.result.held p.cos = subst (λ (b : Iv 60). Holds b p.cos) (sym c.cosine.ensures) k.0 in
    subst (λ (b : Iv 60). Holds b (one -ʳ e *ʳ p.cos)) (sym c.new.ensures)
    (c.difference_of.ensures.holds one (e *ʳ p.cos) (one_held c.one.result c.one.ensures.lo c.one.ensures.hi) (c.mul-pull.ensures.holds e p.cos h cos))
