-- One more digit: 10^19 fits, and is the greatest power that is asked for.
use Rattle.std.proofs.Common.{◌-◌, ◌^◌, ◌≤◌, arith, lit<}
use Rattle.std.proofs.Math.Nat.{pow-le-pow_right}
use Rattle.decimal_text.proofs.DigitsLaws.{ten_to_pos, digits_step}
use Rattle.decimal_text.proofs.digits.push_digits.Goals as goal

pub loop-left-preserved : goal.loop-left-preserved
loop-left-preserved c = record {
  so_far = digits_step c.loop-left.left c.args.number c.pow.result c.loop-left.text.items c.push.new.self.items _ c.loop-left-test.true c.pow.ensures
      c.loop-left.invariant.so_far c.in_ok-push.ensures.items;
  few = omega (arith, c.loop-left.invariant.few);
}

pub pow-requires : goal.pow-requires
pow-requires c =
    let before : c.loop-left.left - 1 ≤ 19 = omega (arith, c.loop-left.invariant.few) in
    let small : 10 ^ (c.loop-left.left - 1) ≤ 10 ^ 19 = pow-le-pow_right (lit< tt) before in
    omega (arith, small)

pub nonzero_div-digit : goal.nonzero_div-digit
nonzero_div-digit c = ten_to_pos c.pow.result _ c.pow.ensures
