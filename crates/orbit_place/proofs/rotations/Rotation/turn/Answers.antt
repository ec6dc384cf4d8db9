use Rattle.std.proofs.Common.{arith}
use Rattle.trig_box.specs.AnglePairs.{Pair}
use Rattle.orbit_model.specs.Solution.{turned}
use Rattle.orbit_place.specs.Rotations.{HoldsBoth}
use Rattle.orbit_place.proofs.Turns.{turned_held, both_along, has_turned}
use Rattle.orbit_place.proofs.rotations.Rotation.turn.Goals as goal

pub new-requires : goal.new-requires
new-requires g c =
    let rotation = c.args.self.now in
    let other = c.args.other.now in
    let cosine = c.cosine-cos.result.held in
    let sine = c.sine-sin.result.held in
    let other_cosine = c.cosine-other_cos.result.held in
    let other_sine = c.sine-other_sin.result.held in
    let cos = c.sub-difference.result.held in
    let sin = c.add-sum.result.held in
    let held : (p q : Pair) → HoldsBoth rotation.cos rotation.sin p → HoldsBoth other.cos other.sin q → HoldsBoth cos sin (turned p q) =
    λ p q h k. turned_held cosine sine other_cosine other_sine c.mul-both.result.held c.mul-neither.result.held c.mul-first.result.held c.mul-second.result.held cos sin
    c.mul-both.ensures.holds c.mul-neither.ensures.holds c.mul-first.ensures.holds c.mul-second.ensures.holds c.sub-difference.ensures.holds c.add-sum.ensures.holds
    p q (both_along cosine sine rotation.cos rotation.sin p c.cosine-cos.ensures c.sine-sin.ensures h) (both_along other_cosine other_sine other.cos other.sin q c.cosine-other_cos.ensures c.sine-other_sin.ensures k) in (
      omega arith,
      (
        has_turned g.row.OFF g.row.OTHER_OFF g.row.TO_OFF rotation.cos rotation.sin other.cos other.sin cos sin c.requires.off rotation.close other.close held rotation.near_circle other.near_circle,
        (c.sub-difference.result.narrow, (c.add-sum.result.narrow, (c.requires.close, c.requires.fine))),
      ),
    )

pub returns : goal.returns
returns g c = record {
  holds = λ p q h k.
      let rotation = c.args.self.now in
      let other = c.args.other.now in
      let cosine = c.cosine-cos.result.held in
      let sine = c.sine-sin.result.held in
      let other_cosine = c.cosine-other_cos.result.held in
      let other_sine = c.sine-other_sin.result.held in
      both_along c.new.result.cos c.new.result.sin c.sub-difference.result.held c.add-sum.result.held (turned p q) c.new.ensures.cos c.new.ensures.sin
      (turned_held cosine sine other_cosine other_sine c.mul-both.result.held c.mul-neither.result.held c.mul-first.result.held c.mul-second.result.held c.sub-difference.result.held c.add-sum.result.held
      c.mul-both.ensures.holds c.mul-neither.ensures.holds c.mul-first.ensures.holds c.mul-second.ensures.holds c.sub-difference.ensures.holds c.add-sum.ensures.holds
      p q (both_along cosine sine rotation.cos rotation.sin p c.cosine-cos.ensures c.sine-sin.ensures h) (both_along other_cosine other_sine other.cos other.sin q c.cosine-other_cos.ensures c.sine-other_sin.ensures k));
}
