use Rattle.std.proofs.Common.{◌≡◌, ℕ, ℤ, true, arith, sym, ◌∙◌, refl, subst, below_more, lt_of_lt_of_le}
use Rattle.whole_math.proofs.Words.{as_w64}
use Rattle.quadratic_form.specs.Tables.{entry}
use Rattle.elimination.specs.StepEntries.{is_small}
use Rattle.elimination.specs.RowSteps.{HasFactors}
use Rattle.elimination.proofs.SmallEntries.{small_size}
use Rattle.elimination.proofs.RowStepLaws.{has_same}
use Rattle.elimination.proofs.FrontStepLaws.{differ_again}
use Rattle.elimination.proofs.QuotientSteps.{factor_written}
use Rattle.elimination.proofs.row_steps.put_factors.Goals as goal

pub loop-j-init : goal.loop-j-init
loop-j-init c = record {
  factors = λ q s k h. absurd (omega arith);
  others = record { columns = refl; exponent = refl; kept = refl; form = refl; others = λ i m d. refl };
}

pub put_factor-requires-clause-row_in : goal.put_factor-requires-clause-row_in
put_factor-requires-clause-row_in c = omega (arith, c.requires.row_in, c.loop-j.invariant.others.columns)

pub put_factor-requires-clause-small : goal.put_factor-requires-clause-small
put_factor-requires-clause-small c =
    let f : ℤ = c.in-Some.factor in
    subst (λ (z : ℤ). is_small z ≡ true) (sym (as_w64 f (small_size f c.in-Some.ensures.small))) c.in-Some.ensures.small

pub loop-j-preserved : goal.loop-j-preserved
loop-j-preserved c =
    let j : ℕ = c.loop-j.j in
    let r : ℕ = c.args.r in
    let f : ℤ = c.in-Some.factor in
    let small : is_small f ≡ true = c.in-Some.ensures.small in
    let there : entry c.put_factor.new.front.l r j ≡ f = c.put_factor.ensures.value ∙ as_w64 f (small_size f small) in
    record {
      factors = λ q s k h. below_more (λ (k : ℕ). HasFactors q c.put_factor.new.front.l k r) j
          (λ k g. has_same q q c.loop-j.front.l c.put_factor.new.front.l k r refl refl (c.put_factor.ensures.row k (omega arith)) (c.loop-j.invariant.factors q s k g))
          (factor_written q c.put_factor.new.front.l r c.args.count c.args.quotients.now j c.column.result f s c.loop-j-test.true (omega (arith, c.requires.count)) c.column.ensures there c.in-Some.ensures.value small) k h;
      others = differ_again c.args.front.now c.loop-j.front c.put_factor.new.front r c.loop-j.invariant.others c.put_factor.ensures.others;
    }

pub returns-clause-factors : goal.returns-clause-factors
returns-clause-factors c = λ e q s j h. c.loop-j.invariant.factors q s j (lt_of_lt_of_le h c.loop-j-test.false)
