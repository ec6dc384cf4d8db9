use Rattle.std.proofs.Common.{ℕ, ◌+◌, ◌<◌, ℤ, to_z, of_z, w64, below_more}
use Rattle.quadratic_form.specs.Tables.{entry}
use Rattle.decorrelate.specs.Turning.{AreColumnsSmall}
use Rattle.decorrelate.proofs.permutation.are_rows_narrow.Goals as goal

pub loop-i-preserved : goal.loop-i-preserved
loop-i-preserved c =
    let j : ℕ = c.args.j in
    let r : ℤ = to_z w64 (of_z w64 c.args.r) in
    let q : ℤ = to_z w64 (of_z w64 c.args.q) in
    record {
      narrow = below_more (λ (k : ℕ). j + 1 < k → AreColumnsSmall r q j (entry c.args.l.now k)) c.loop-i.i c.loop-i.invariant.narrow
          (λ after. c.in-Some.ensures.small);
    }
