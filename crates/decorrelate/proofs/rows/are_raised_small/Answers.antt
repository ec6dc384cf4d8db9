use Rattle.std.proofs.Common.{◌≡◌, ℕ, ◌+◌, ◌^◌, ◌<◌, ℤ, ◌+ℤ◌, ◌*ℤ◌, unsigned_abs, arith, to_z, of_z, refl, sym, subst, below_more}
use Rattle.std.specs.Int.{w64}
use Rattle.quadratic_form.specs.Tables.{entry, item}
use Rattle.decorrelate.specs.Moving.{raised}
use Rattle.decorrelate.proofs.Words.{multiple_w64}
use Rattle.decorrelate.proofs.rows.are_raised_small.Goals as goal

pub returns-then-not-is_raised_small-clause-wide : goal.returns-then-not-is_raised_small-clause-wide
returns-then-not-is_raised_small-clause-wide c =
    let row : ℕ = c.loop-row.row in
    let word : to_z w64 (of_z w64 (item c.args.ks.now row)) ≡ item c.args.ks.now row = multiple_w64 (item c.args.ks.now row) (c.requires.ks_size row (omega arith)) in
    λ e small. c.if-not-is_raised_small.ensures.wide refl
    (λ d inside. subst (λ (k : ℤ). unsigned_abs (entry c.args.back.now row d +ℤ (k *ℤ entry c.args.back.now (c.args.j + 1) d)) < 2 ^ 30) (sym word) (small row d (omega arith) inside))

pub loop-row-preserved : goal.loop-row-preserved
loop-row-preserved c =
    let row : ℕ = c.loop-row.row in
    let word : to_z w64 (of_z w64 (item c.args.ks.now row)) ≡ item c.args.ks.now row = multiple_w64 (item c.args.ks.now row) (c.requires.ks_size row (omega arith)) in
    let there : (d : ℕ) → d < c.args.size → unsigned_abs (raised (item c.args.ks.now) (entry c.args.back.now) c.args.j row d) < 2 ^ 30 =
    λ d inside. subst (λ (k : ℤ). unsigned_abs (entry c.args.back.now row d +ℤ (k *ℤ entry c.args.back.now (c.args.j + 1) d)) < 2 ^ 30) word (c.if-not-is_raised_small.ensures.small refl d inside) in
    record {
      small = λ i d before inside. below_more (λ (i : ℕ). unsigned_abs (raised (item c.args.ks.now) (entry c.args.back.now) c.args.j i d) < 2 ^ 30) row
          (λ i earlier. c.loop-row.invariant.small i d earlier inside) (there d inside) i before;
    }
