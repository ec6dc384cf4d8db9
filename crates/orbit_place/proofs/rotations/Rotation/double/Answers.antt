use Rattle.std.proofs.Common.{arith}
use Rattle.trig_box.specs.AnglePairs.{Pair, double}
use Rattle.orbit_place.specs.Rotations.{HoldsBoth}
use Rattle.orbit_place.proofs.Turns.{double_held, both_along, has_double}
use Rattle.orbit_place.proofs.rotations.Rotation.double.Goals as goal

pub new-requires : goal.new-requires
new-requires g c =
    let rotation = c.args.self.now in
    let cos = c.sub-difference.result.held in
    let sin = c.add-whole.result.held in
    let held : (p : Pair) → HoldsBoth rotation.cos rotation.sin p → HoldsBoth cos sin (double p) =
    λ p h. double_held c.cosine-cos.result.held c.sine-sin.result.held c.square-both.result.held c.square-neither.result.held c.mul-half.result.held cos sin
    c.square-both.ensures.holds c.square-neither.ensures.holds c.mul-half.ensures.holds c.sub-difference.ensures.holds c.add-whole.ensures.holds
    p (both_along c.cosine-cos.result.held c.sine-sin.result.held rotation.cos rotation.sin p c.cosine-cos.ensures c.sine-sin.ensures h) in (
      omega arith,
      (
        has_double g.row.OFF g.row.TO_OFF rotation.cos rotation.sin cos sin c.requires.off rotation.close held rotation.near_circle,
        (c.sub-difference.result.narrow, (c.add-whole.result.narrow, (c.requires.close, c.requires.fine))),
      ),
    )

pub returns : goal.returns
returns g c = record {
  holds = λ p h.
      let rotation = c.args.self.now in
      both_along c.new.result.cos c.new.result.sin c.sub-difference.result.held c.add-whole.result.held (double p) c.new.ensures.cos c.new.ensures.sin
      (double_held c.cosine-cos.result.held c.sine-sin.result.held c.square-both.result.held c.square-neither.result.held c.mul-half.result.held c.sub-difference.result.held c.add-whole.result.held
      c.square-both.ensures.holds c.square-neither.ensures.holds c.mul-half.ensures.holds c.sub-difference.ensures.holds c.add-whole.ensures.holds
      p (both_along c.cosine-cos.result.held c.sine-sin.result.held rotation.cos rotation.sin p c.cosine-cos.ensures c.sine-sin.ensures h));
}
