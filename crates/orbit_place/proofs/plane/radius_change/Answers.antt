use Rattle.std.proofs.Common.{sym, subst}
use Rattle.iv_core.specs.declared.Iv.{Iv}
use Rattle.iv_core.specs.Intervals.{Holds}
use Rattle.whole_math.specs.Rational.{◌*ʳ◌}
use Rattle.orbit_place.proofs.plane.radius_change.Goals as goal

pub returns : goal.returns
returns c = record {
  holds = λ x y p h k b.
      let sine_held : Holds c.sine.result.held p.sin = subst (λ (a : Iv 60). Holds a p.sin) (sym c.sine.ensures) b.1 in
      let cosine_held : Holds c.cosine.result.held p.cos = subst (λ (a : Iv 60). Holds a p.cos) (sym c.cosine.ensures) b.0 in
      c.add.ensures.holds (x *ʳ p.sin) (y *ʳ p.cos) (c.mul-sine.ensures.holds x p.sin h sine_held) (c.mul-cosine.ensures.holds y p.cos k cosine_held);
}
