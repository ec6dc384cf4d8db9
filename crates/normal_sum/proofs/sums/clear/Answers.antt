use Rattle.std.proofs.Common.{◌≡◌, ◌⊎◌, inl, inr, ⊎_elim, ℕ, ◌<◌, ◌≤◌, pos, arith, ◌∙◌, below_more}
use Rattle.std.proofs.lemmas.Bool.{cases_lt}
use Rattle.quadratic_form.specs.Tables.{entry}
use Rattle.normal_sum.proofs.sums.clear.Goals as goal

pub loop-row-preserved : goal.loop-row-preserved
loop-row-preserved c =
    let row : ℕ = c.loop-row.row in
    record {
      cleared = λ i j h w. below_more (λ (i : ℕ). (i ≤ j) ⊎ (c.args.mirrored ≤ i) → entry c.clear_row.new.table i j ≡ pos 0) row
          (λ i h w. c.clear_row.ensures.others i j (omega arith) ∙ c.loop-row.invariant.cleared i j h w)
          (λ w. ⊎_elim (λ (a : j < c.args.columns). c.clear_row.ensures.cleared j (c.first_to_clear.ensures j w) a)
          (λ (a : c.args.columns ≤ j). c.clear_row.ensures.later j a ∙ c.loop-row.invariant.rest row j (omega arith) ∙ c.requires.outside row j (inr a))
          (cases_lt j c.args.columns)) i h w;
      rest = λ i j h. c.clear_row.ensures.others i j (omega arith) ∙ c.loop-row.invariant.rest i j (omega arith);
    }

pub returns : goal.returns
returns c = λ i j w. ⊎_elim (λ (a : i < c.loop-row.row). c.loop-row.invariant.cleared i j a w)
    (λ (a : c.loop-row.row ≤ i). c.loop-row.invariant.rest i j a ∙ c.requires.outside i j (inl (omega (arith, c.loop-row-test.false))))
    (cases_lt i c.loop-row.row)
