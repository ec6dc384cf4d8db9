use Rattle.std.proofs.Common.{◌≡◌, ℕ, ◌^◌, ◌<◌, ◌≤◌, ℤ, ◌+ℤ◌, ◌*ℤ◌, unsigned_abs, arith, to_z, of_z, refl, subst, below_more}
use Rattle.std.proofs.lemmas.Int.{to_z-of_z}
use Rattle.std.specs.Int.{w64, w128}
use Rattle.quadratic_form.specs.Tables.{entry}
use Rattle.whole_math.proofs.Words.{as_w128}
use Rattle.decorrelate.proofs.rows.is_raised_small.Goals as goal

pub loop-c-preserved : goal.loop-c-preserved
loop-c-preserved c =
    let k : ℤ = to_z w64 (of_z w64 c.args.k) in
    let word : to_z w128 (of_z w128 c.raised-x.result) ≡ c.raised-x.result = as_w128 c.raised-x.result (omega (arith, c.raised-x.ensures.size)) in
    let small : unsigned_abs c.raised-x.result < 2 ^ 30 = rw word at (c.if-not-is_small.ensures.small refl) in
    record {
      small = below_more (λ (d : ℕ). unsigned_abs (entry c.args.back.now c.args.row d +ℤ (k *ℤ entry c.args.back.now c.args.from d)) < 2 ^ 30) c.loop-c.c c.loop-c.invariant.small
          (subst (λ (z : ℤ). unsigned_abs z < 2 ^ 30) c.raised-x.ensures.value small);
    }

pub returns-then-not-is_small-clause-wide : goal.returns-then-not-is_small-clause-wide
returns-then-not-is_small-clause-wide c =
    let j : ℕ = c.loop-c.c in
    let k_word : to_z w64 (of_z w64 c.args.k) ≡ c.args.k = to_z-of_z w64 c.args.k c.ranges.k in
    let word : to_z w128 (of_z w128 c.raised-x.result) ≡ c.raised-x.result = as_w128 c.raised-x.result (omega (arith, c.raised-x.ensures.size)) in
    let wide : 2 ^ 30 ≤ unsigned_abs c.raised-x.result = rw word at (c.if-not-is_small.ensures.wide refl) in
    let raised_is : c.raised-x.result ≡ entry c.args.back.now c.args.row j +ℤ (c.args.k *ℤ entry c.args.back.now c.args.from j) = rw k_word at c.raised-x.ensures.value in
    λ e small. let below : unsigned_abs (entry c.args.back.now c.args.row j +ℤ (c.args.k *ℤ entry c.args.back.now c.args.from j)) < 2 ^ 30 = small j (omega arith) in
    let above : 2 ^ 30 ≤ unsigned_abs (entry c.args.back.now c.args.row j +ℤ (c.args.k *ℤ entry c.args.back.now c.args.from j)) = subst (λ (z : ℤ). 2 ^ 30 ≤ unsigned_abs z) raised_is wide in
    omega arith
