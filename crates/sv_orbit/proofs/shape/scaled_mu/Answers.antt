-- 2^12 μ fits.
use Rattle.std.proofs.Common.{arith}
use Rattle.std.proofs.lemmas.Int.{ints}
use Rattle.sv_orbit.proofs.RootOfMu.{bounded, product_is}
use Rattle.sv_orbit.proofs.shape.scaled_mu.Goals as goal

pub overflow_mul-result : goal.overflow_mul-result
overflow_mul-result c = let constants_bounded = bounded c.args.world.now.mu c.args.world.now.rel c.args.world.now.known in omega (arith, ints, constants_bounded.mu_low, constants_bounded.mu_high)

pub returns-clause-value : goal.returns-clause-value
returns-clause-value c = let constants_bounded = bounded c.args.world.now.mu c.args.world.now.rel c.args.world.now.known in (product_is c.args.world.now.mu constants_bounded.mu_low constants_bounded.mu_high).value

pub returns-clause-low : goal.returns-clause-low
returns-clause-low c = let constants_bounded = bounded c.args.world.now.mu c.args.world.now.rel c.args.world.now.known in (product_is c.args.world.now.mu constants_bounded.mu_low constants_bounded.mu_high).low

pub returns-clause-high : goal.returns-clause-high
returns-clause-high c = let constants_bounded = bounded c.args.world.now.mu c.args.world.now.rel c.args.world.now.known in (product_is c.args.world.now.mu constants_bounded.mu_low constants_bounded.mu_high).high
