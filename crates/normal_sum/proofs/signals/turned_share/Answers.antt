use Rattle.std.proofs.Common.{◌≡◌, ◌^◌, ◌≤◌, ◌+ℤ◌, ◌-ℤ◌, ℤ, pos, to_z, of_z, unsigned_abs, arith}
use Rattle.std.proofs.lemmas.Int.{ints}
use Rattle.std.specs.Int.{w64}
use Rattle.normal_sum.proofs.WeightLaws.{share_small}
use Rattle.normal_sum.proofs.signals.turned_share.Goals as goal

turned : (x s : ℤ) → x ≡ s → unsigned_abs s ≤ 2 ^ 32 → pos 0 ≡ to_z w64 (of_z w64 (pos 0 -ℤ to_z w64 (of_z w64 x))) +ℤ s
turned x s e h = omega (arith, ints)

pub returns : goal.returns
returns c = turned c.share.result _ c.share.ensures.value (share_small c.args.rows c.args.signal c.requires.some)
