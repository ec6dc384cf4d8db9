use Rattle.std.proofs.Common.{refl, IsTrue, arith}
use Rattle.sim_jobs.proofs.Truths.{one_has, all_have}
use Rattle.sim_jobs.proofs.matches.have_truth.Goals as goal

pub returns-then-not-has_truth : goal.returns-then-not-has_truth
returns-then-not-has_truth c = (
  λ on. absurd (cc on),
  λ all.
      let has_its_truth : IsTrue c.has_truth.result =
      one_has c.args.truth.now c.args.arcs.now c.args.signals.now c.args.z.now c.loop-k.k c.has_truth.result (omega arith)
      c.has_truth.ensures.datum c.has_truth.ensures.free all in
      let off = c.if-not-has_truth.true in
      absurd (cc (has_its_truth, off)),
)

pub returns : goal.returns
returns c = (
  λ on. all_have c.args.truth.now c.args.arcs.now c.args.signals.now c.args.z.now c.loop-k.k (omega arith) c.loop-k.invariant,
  λ all. refl,
)
