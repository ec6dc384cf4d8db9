use Rattle.std.proofs.Common.{◌≡◌, ◌≤◌, ◌+◌, ◌^◌, ℕ, ℤ, pos, ◌≤ℤ◌, w64, to_z, sym, subst, add-one, arith}
use Rattle.sv_orbit.specs.Records.{constants_of}
use Rattle.sim_session.specs.Observed.{IsReachedIn}
use Rattle.sim_session.proofs.Solutions.{code_cast}
use Rattle.sim_session.proofs.passes.code_at.Goals as goal

pub loop-pass-preserved : goal.loop-pass-preserved
loop-pass-preserved c =
    let before : ℤ = to_z w64 c.loop-pass.code-bits in
    let after = c.code_after-code.result in
    let receiver = c.args.receiver.now in
    let low : pos 0 ≤ℤ after = c.code_after-code.ensures.low in
    let high : after ≤ℤ pos (10 ^ 11) = c.code_after-code.ensures.high in
    let kept = sym (code_cast after low high) in
    record {
      reached = subst (λ (z : ℤ). IsReachedIn (c.loop-pass._pass + 1) (constants_of c.args.world.now) c.args.eph.now c.args.tag.0 receiver.point receiver.clock z) kept
          (subst (λ (n : ℕ). IsReachedIn n (constants_of c.args.world.now) c.args.eph.now c.args.tag.0 receiver.point receiver.clock after)
          (sym (add-one c.loop-pass._pass)) (before, (c.loop-pass.invariant.reached, c.code_after-code.ensures.near)));
      low = subst (λ (z : ℤ). pos 0 ≤ℤ z) kept low;
      high = subst (λ (z : ℤ). z ≤ℤ pos (10 ^ 11)) kept high;
    }

six : (n : ℕ) → n ≤ 6 → 6 ≤ n → n ≡ 6
six n h k = omega arith

pub returns-clause-reached : goal.returns-clause-reached
returns-clause-reached c =
    let receiver = c.args.receiver.now in
    subst (λ (n : ℕ). IsReachedIn n (constants_of c.args.world.now) c.args.eph.now c.args.tag.0 receiver.point receiver.clock (to_z w64 c.loop-pass.code-bits))
    (six c.loop-pass._pass c.loop-pass.auto._pass-end c.loop-pass-test.false) c.loop-pass.invariant.reached
