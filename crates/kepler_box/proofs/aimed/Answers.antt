use Rattle.std.proofs.Common.{ℤ, subst, ◌^◌, pos}
use Rattle.std.proofs.lemmas.Int.{to_z-of_z}
use Rattle.std.specs.Int.{w64}
use Rattle.kepler_box.specs.Steps.{AreNear}
use Rattle.kepler_box.proofs.Parts.{reached_low, reached_high}
use Rattle.kepler_box.proofs.aimed.Goals as goal

pub returns : goal.returns
returns c =
    let same_mean = to_z-of_z w64 c.args.m c.ranges.m in
    let near : AreNear (pos (2 ^ 52)) c.in_reach.result c.args.m = subst (λ (m : ℤ). AreNear (pos (2 ^ 52)) c.in_reach.result m) same_mean c.in_reach.ensures in
    rw (to_z-of_z w64 c.in_reach.result (record { sfits = c.in_reach.type_inv })) (reached_low c.args.m c.in_reach.result c.requires.mean.0 near, reached_high c.args.m c.in_reach.result c.requires.mean.1 near)
