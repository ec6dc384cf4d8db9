use Rattle.std.proofs.lemmas.Int.{to_z-of_z}
use Rattle.std.specs.Int.{w64}
use Rattle.kepler_box.proofs.Steps.{product_within}
use Rattle.kepler_box.proofs.pull_of.Goals as goal

pub returns-clause-size : goal.returns-clause-size
returns-clause-size c =
    let same_result = to_z-of_z w64 c.signed_upper_half.result (record { sfits = c.signed_upper_half.type_inv }) in
    rw (same_result, c.signed_upper_half.ensures, to_z-of_z w64 c.args.e c.ranges.e, to_z-of_z w64 c.args.sine c.ranges.sine)
    (product_within c.args.e c.args.sine c.requires.e_size c.requires.size)
