use Rattle.std.proofs.Common.{◌≡◌, ℕ, suc, ◌+◌, ◌^◌, ◌≤◌, ℤ, true, unsigned_abs, arith, to_z, sym, refl, subst}
use Rattle.std.proofs.lemmas.Int.{to_z-of_z}
use Rattle.std.specs.Int.{w64}
use Rattle.whole_math.proofs.Words.{as_w64}
use Rattle.elimination.specs.StepEntries.{is_small}
use Rattle.elimination.specs.RowSteps.{IsLeft}
use Rattle.elimination.proofs.SmallEntries.{small_entry, small_size}
use Rattle.elimination.proofs.RowWords.{word}
use Rattle.elimination.proofs.QuotientSteps.{own_step, no_step, one_more}
use Rattle.elimination.proofs.row_steps.own_through.Goals as goal

pub loop-j-init : goal.loop-j-init
loop-j-init c = record {
  left = λ q r s. no_step q c.args.columns r r (word c.args.own) _ refl;
  size = subst (λ (z : ℤ). unsigned_abs z ≤ 2 ^ 52) (sym (to_z-of_z w64 c.args.own c.ranges.own)) c.requires.size;
}

pub loop-j-preserved : goal.loop-j-preserved
loop-j-preserved c =
    let j : ℕ = c.loop-j.j in
    let n : ℕ = c.args.columns in
    let own : ℤ = word c.args.own in
    let x : ℤ = c.in-Some.less in
    let y : ℤ = to_z w64 c.loop-j.left-bits in
    let small : is_small x ≡ true = c.in-Some.ensures.small in
    let kept : word x ≡ x = as_w64 x (small_size x small) in
    let next : suc j ≡ j + 1 = omega arith in
    record {
      left = λ q r s. subst (λ (z : ℤ). IsLeft q n r r (j + 1) own z) (sym kept)
          (one_more q n r r j (j + 1) own x y (c.loop-j.invariant.left q r s)
          (own_step q n r c.args.count c.args.quotients.now j c.column.result x y own s c.loop-j-test.true (omega (arith, c.requires.count)) c.column.ensures c.in-Some.ensures.value)
          small next);
      size = subst (λ (z : ℤ). unsigned_abs z ≤ 2 ^ 52) (sym kept) (small_entry x small);
    }

pub returns-clause-left : goal.returns-clause-left
returns-clause-left c =
    let n : ℕ = c.args.columns in
    let x : ℤ = to_z w64 c.loop-j.left-bits in
    let last : c.loop-j.j ≡ c.args.count = omega arith in
    let own : word c.args.own ≡ c.args.own = to_z-of_z w64 c.args.own c.ranges.own in
    λ q r s. subst (λ (z : ℤ). IsLeft q n r r c.args.count z x) own (subst (λ (m : ℕ). IsLeft q n r r m (word c.args.own) x) last (c.loop-j.invariant.left q r s))
