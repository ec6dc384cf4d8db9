use Rattle.std.proofs.Common.{◌≡◌, ⊎_elim, ℕ, ◌<◌, ◌≤◌, arith, sym, ◌∙◌, below_more}
use Rattle.std.proofs.lemmas.Bool.{cases_lt}
use Rattle.quadratic_form.specs.Tables.{entry}
use Rattle.normal_sum.proofs.mirror.mirror.Goals as goal

pub loop-row-preserved : goal.loop-row-preserved
loop-row-preserved c =
    let row : ℕ = c.loop-row.row in
    record {
      above = λ i j h. ⊎_elim (λ (a : j < row). c.mirror_row.ensures.others i j (omega arith) ∙ c.loop-row.invariant.above i j h)
          (λ (a : row ≤ j). c.mirror_row.ensures.later i j a ∙ c.loop-row.invariant.above i j h) (cases_lt j row);
      below = λ i j h g. below_more (λ (j : ℕ). i < j → entry c.mirror_row.new.table j i ≡ entry c.args.table.now i j) row
          (λ j l h. c.mirror_row.ensures.others j i (omega arith) ∙ c.loop-row.invariant.below i j h l)
          (λ h. c.mirror_row.ensures.before i h ∙ c.loop-row.invariant.above i row (omega arith)) j g h;
      rest = λ i j h. c.mirror_row.ensures.others i j (omega arith) ∙ c.loop-row.invariant.rest i j (omega arith);
    }

pub returns : goal.returns
returns c =
    let row : ℕ = c.loop-row.row in
    record {
      above = c.loop-row.invariant.above;
      below = λ i j h g. ⊎_elim (λ (a : j < row). c.loop-row.invariant.below i j h a)
          (λ (a : row ≤ j). c.loop-row.invariant.rest j i a ∙ c.requires.below j i h (omega (arith, a, c.loop-row-test.false)) ∙ sym (c.requires.outside i j h (omega (arith, a, c.loop-row-test.false)) g))
          (cases_lt j row);
    }
