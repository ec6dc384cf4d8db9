use Rattle.std.proofs.Common.{◌^◌, ℤ, pos, ◌+ℤ◌, FitsSigned, arith, to_z, of_z}
use Rattle.std.proofs.lemmas.Int.{ints}
use Rattle.std.specs.Int.{w64}
use Rattle.whole_math.specs.Bounds.{Within}
use Rattle.kepler_box.proofs.drawn_out.Goals as goal

fits : (a b : ℤ) → Within (pos (2 ^ 54)) a → Within (pos (2 ^ 52)) b → FitsSigned w64 (to_z w64 (of_z w64 a) +ℤ to_z w64 (of_z w64 b))
fits a b h k = let a_above_low = h.0 in let a_below_high = h.1 in let b_above_low = k.0 in let b_below_high = k.1 in omega (arith, ints)

within : (a b : ℤ) → Within (pos (2 ^ 54)) a → Within (pos (2 ^ 52)) b → Within (pos (2 ^ 55)) (to_z w64 (of_z w64 (to_z w64 (of_z w64 a) +ℤ to_z w64 (of_z w64 b))))
within a b h k = let a_above_low = h.0 in let a_below_high = h.1 in let b_above_low = k.0 in let b_below_high = k.1 in (omega (arith, ints), omega (arith, ints))

pub overflow_add-result : goal.overflow_add-result
overflow_add-result c = fits c.args.change c.pull_of.result c.requires.change c.pull_of.ensures.size

pub returns : goal.returns
returns c = within c.args.change c.pull_of.result c.requires.change c.pull_of.ensures.size
