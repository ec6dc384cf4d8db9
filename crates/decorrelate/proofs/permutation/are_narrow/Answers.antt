use Rattle.std.proofs.Common.{ℕ, ◌^◌, ◌<◌, unsigned_abs, arith, rules, SFits, w64, refl, below_more}
use Rattle.std.proofs.lemmas.Int.{ints}
use Rattle.quadratic_form.specs.Tables.{item}
use Rattle.decorrelate.proofs.permutation.are_narrow.Goals as goal

pub loop-m-preserved : goal.loop-m-preserved
loop-m-preserved c =
    let m : ℕ = c.loop-m.m in
    let fits : SFits w64 (item c.args.left.now m) = search rules in
    let narrow : unsigned_abs (item c.args.left.now m) < 2 ^ 52 = (let tested = c.if-not-is_narrow.ensures.narrow refl in omega (arith, ints)) in
    record { narrow = below_more (λ (k : ℕ). unsigned_abs (item c.args.left.now k) < 2 ^ 52) m c.loop-m.invariant.narrow narrow }
