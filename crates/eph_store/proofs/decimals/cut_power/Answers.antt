-- Powers of ten rise from 1, and 10^20 fits.
use Rattle.std.proofs.Common.{◌^◌, ◌≤◌, arith, lit<}
use Rattle.std.proofs.Math.Nat.{pow-le-pow_right}
use Rattle.eph_store.specs.Decimals.{ten_to_pos}
use Rattle.eph_store.proofs.decimals.cut_power.Goals as goal

pub pow-requires : goal.pow-requires
pow-requires c =
    let below : c.args.exponent ≤ 20 = omega (arith, c.if-exponent-most.true, c.requires) in
    let small : 10 ^ c.args.exponent ≤ 10 ^ 20 = pow-le-pow_right (lit< tt) below in
    omega (arith, small)

pub pow-requires-else-exponent-most : goal.pow-requires-else-exponent-most
pow-requires-else-exponent-most c =
    let small : 10 ^ c.args.most ≤ 10 ^ 20 = pow-le-pow_right (lit< tt) c.requires in
    omega (arith, small)

pub returns-then-exponent-most-clause-positive : goal.returns-then-exponent-most-clause-positive
returns-then-exponent-most-clause-positive c = rw c.pow.ensures (ten_to_pos c.args.exponent)

pub returns-then-exponent-most-clause-bound : goal.returns-then-exponent-most-clause-bound
returns-then-exponent-most-clause-bound c = rw c.pow.ensures (pow-le-pow_right (lit< tt) c.if-exponent-most.true)

pub returns-else-exponent-most-clause-positive : goal.returns-else-exponent-most-clause-positive
returns-else-exponent-most-clause-positive c = rw c.pow-else-exponent-most.ensures (ten_to_pos c.args.most)
