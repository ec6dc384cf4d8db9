-- 10^38 fits, and powers of ten rise from 1.
use Rattle.std.proofs.Common.{◌^◌, ℕ, pos, arith, ap, ◌∙◌}
use Rattle.std.proofs.lemmas.Int.{ints}
use Rattle.eph_store.specs.Decimals.{ten_to_pos}
use Rattle.sv_orbit.proofs.Least.{power_high, own_word}
use Rattle.sv_orbit.proofs.decimals.cut_power.Goals as goal

pub pow-requires : goal.pow-requires
pow-requires c =
    let power_bounded = power_high c.args.exponent c.args.most c.min.result c.requires c.min.ensures in
    omega (arith, ints, power_bounded.1)

pub returns-clause-value : goal.returns-clause-value
returns-clause-value c =
    let power_bounded = power_high c.args.exponent c.args.most c.min.result c.requires c.min.ensures in
    own_word c.pow.result (10 ^ c.min.result) c.pow.ensures power_bounded.1 ∙ ap (λ (n : ℕ). pos (10 ^ n)) c.min.ensures

pub returns-clause-positive : goal.returns-clause-positive
returns-clause-positive c =
    let power_bounded = power_high c.args.exponent c.args.most c.min.result c.requires c.min.ensures in
    let own = own_word c.pow.result (10 ^ c.min.result) c.pow.ensures power_bounded.1 in
    let low = ten_to_pos c.min.result in
    omega (arith, ints, own, low)

pub returns-clause-bound : goal.returns-clause-bound
returns-clause-bound c =
    let power_bounded = power_high c.args.exponent c.args.most c.min.result c.requires c.min.ensures in
    let own = own_word c.pow.result (10 ^ c.min.result) c.pow.ensures power_bounded.1 in
    omega (arith, ints, own, power_bounded.0)
